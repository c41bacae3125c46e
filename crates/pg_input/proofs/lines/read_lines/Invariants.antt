use Rattle.std.proofs.Common.{◌≡◌, ◌+◌, ◌-◌, ◌≤◌, []}
use Rattle.std.specs.Prelude.{None}
use Rattle.pg_base.specs.Cutting.{ahead}
use Rattle.pg_graph.specs.Building.{building}
use Rattle.pg_input.specs.Reading.{stop_bytes}
use Rattle.pg_input.proofs.TextLemmas.{BothTold, IsRest, standing}
use Rattle.pg_input.proofs.lines.read_lines.Given as goal

-- what comes completes what was built and read of the text
abbrev pub invariant-loop-line : goal.invariant-loop-line
invariant-loop-line g l = record {
  rest : BothTold (IsRest l.format (stop_bytes l.stop) l.limits.bytes (standing (building l.limits [] [] 0) 1 l.fn.cutter.given) (standing l.builder (l.number + 1) l.cutter.given))
      (ahead l.fn.cutter (g.S.Source.left l.fn.source)) (ahead l.cutter (g.S.Source.left l.source));
  lines : l.number + l.fn.cutter.given ≤ l.cutter.given;
  loops : l.builder.loops + l.fn.cutter.given ≤ l.cutter.given;
  limit : l.limits.bytes ≤ 1073741824;
  refusal : l.cutter.refusal ≡ None;
  counted : g.S.Source.faults l.fn.source ≤ g.S.Source.faults l.source;
}

abbrev pub decreases-loop-line : goal.decreases-loop-line
decreases-loop-line g l = l.limits.bytes + 1 - l.cutter.given
