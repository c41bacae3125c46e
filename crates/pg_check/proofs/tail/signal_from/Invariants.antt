use Rattle.std.proofs.Common.{◌≡◌}
use Rattle.pg_report.specs.declared.line.LastLine.{LastLine}
use Rattle.pg_check.specs.Course.{signals_from}
use Rattle.pg_check.proofs.tail.signal_from.Given as goal

-- no vertex so far has a signal
abbrev pub invariant-loop-v : goal.invariant-loop-v
invariant-loop-v l =
    (last : LastLine) → signals_from l.graph l.state last l.vertex ≡ signals_from l.graph l.state last l.v
