use Rattle.std.proofs.Common.{◌≡◌, map, take}
use Rattle.std.specs.Prelude.{slice_index}
use Rattle.pg_edge_store.proofs.own_words.words_at.Given as goal

abbrev pub invariant-loop-e : goal.invariant-loop-e
invariant-loop-e l = l.own.items ≡ map (slice_index l.words) (take l.e-index l.numbers)
