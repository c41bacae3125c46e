use Rattle.std.proofs.Common.{◌≡◌, None}
use Rattle.std.specs.Prelude.{map}
use Rattle.std.specs.List.{range_with_len}
use Rattle.pg_rounds.proofs.draft.nothings.Given as goal

-- nothing stands at the places so far
abbrev pub invariant-loop-at : goal.invariant-loop-at
invariant-loop-at g l = l.list.items ≡ map (λ v. None) (range_with_len 0 l.at)
