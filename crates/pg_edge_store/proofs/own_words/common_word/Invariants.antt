use Rattle.std.proofs.Common.{◌≡◌, take, All}
use Rattle.std.specs.Prelude.{slice_index}
use Rattle.pg_edge_store.proofs.own_words.common_word.Given as goal

-- the edges so far have the word of the first
abbrev pub invariant-loop-e : goal.invariant-loop-e
invariant-loop-e l = All (λ e. slice_index l.words e ≡ l.word) (take l.e-index l.numbers)
