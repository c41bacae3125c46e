use Rattle.std.proofs.Common.{◌≡◌, take}
use Rattle.std.specs.Prelude.{map}
use Rattle.std.specs.Vec.{vec_capacity}
use Rattle.pg_meals.proofs.closing.put_words.Given as goal

-- the words so far, and room
abbrev pub invariant-loop-fork : goal.invariant-loop-fork
invariant-loop-fork g l = record {
  done : l.words.items ≡ map (λ x. x.content.word) (take l.fork-index l.forks);
  room : vec_capacity l.words ≡ vec_capacity l.fn.words;
}
