use Rattle.std.proofs.Common.{◌≡◌}
use Rattle.std.specs.Prelude.{replicate, vec_capacity}
use Rattle.pg_edge_store.proofs.own_words.spread.Given as goal

-- so many words are kept, and the room is as it was
abbrev pub invariant-loop-place : goal.invariant-loop-place
invariant-loop-place l = record {
  items : l.each.items ≡ replicate l._place l.all;
  room : vec_capacity l.each ≡ vec_capacity l.initial.each;
}
