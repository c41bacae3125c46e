use Rattle.pg_law.specs.Configuration.{IsFit}
use Rattle.pg_paths.specs.Components.{components}
use Rattle.pg_tests.proofs.serial.check_executions.Given as goal

-- the state fits
abbrev pub invariant-loop-vertex : goal.invariant-loop-vertex
invariant-loop-vertex g l = IsFit components l.graph l.state
