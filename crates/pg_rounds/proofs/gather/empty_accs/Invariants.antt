use Rattle.std.proofs.Common.{◌≡◌}
use Rattle.std.specs.Prelude.{map}
use Rattle.std.specs.List.{range_with_len}
use Rattle.pg_rounds.proofs.gather.empty_accs.Given as goal

-- those so far
abbrev pub invariant-loop-v : goal.invariant-loop-v
invariant-loop-v g l = l.accs.items ≡ map (λ _. (g.P.VertexProgram.meaning l.program).empty) (range_with_len 0 l.v)
