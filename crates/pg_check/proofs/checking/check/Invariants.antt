use Rattle.std.proofs.Common.{◌≡◌, ◌+◌, ◌-◌, ◌≤◌}
use Rattle.std.specs.Prelude.{None}
use Rattle.pg_base.specs.Cutting.{ahead}
use Rattle.pg_base.specs.Shown.{shown}
use Rattle.pg_input.proofs.TextLemmas.{BothTold}
use Rattle.pg_check.specs.Course.{gathers_made, IsCourse}
use Rattle.pg_check.specs.Verdicts.{counts_once}
use Rattle.pg_check.proofs.Reading.{IsRest}
use Rattle.pg_check.proofs.checking.check.Given as goal

-- what was read of the report, and what the course makes of the rest
abbrev pub invariant-loop-line : goal.invariant-loop-line
invariant-loop-line g l = record {
  rest : BothTold (IsRest (g.P.VertexProgram.meaning l.program) l.job.program l.graph l.job.engine (counts_once l.job) l.limits.bytes l.fn.cutter.given (shown l.first) l.course l.number l.cutter.given)
      (ahead l.fn.cutter (g.S.Source.left l.fn.source)) (ahead l.cutter (g.S.Source.left l.source));
  course : IsCourse (g.P.VertexProgram.meaning l.program) l.job.program l.graph (counts_once l.job) l.course;
  lines : l.number + l.fn.cutter.given ≤ l.cutter.given + 1;
  limit : l.limits.bytes ≤ 1073741824;
  few : l.number ≤ l.limits.bytes + 1;
  refusal : l.cutter.refusal ≡ None;
  counted : g.S.Source.faults l.fn.source ≤ g.S.Source.faults l.source;
  steps : l.steps ≡ l.fn.steps + gathers_made (g.P.VertexProgram.meaning l.program) l.job.program l.graph l.job.engine l.course l.course.place;
}

abbrev pub decreases-loop-line : goal.decreases-loop-line
decreases-loop-line g l = l.limits.bytes + 1 - l.cutter.given
