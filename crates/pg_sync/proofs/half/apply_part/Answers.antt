use Rattle.std.proofs.Common.{List, sym, subst, ◌∙◌}
use Rattle.std.specs.Prelude.{OnOk, sum_by}
use Rattle.std.proofs.lemmas.Bool.{eqb-true}
use Rattle.pg_law.specs.Configuration.{Configuration}
use Rattle.pg_delta.specs.declared.cell.CacheCell.{CacheCell}
use Rattle.pg_sync.specs.Kept.{unkept, gather_degree_on}
use Rattle.pg_sync.specs.Cells.{keeps}
use Rattle.pg_sync.specs.Held.{IsKept}
use Rattle.pg_sync.specs.Counting.{counters_of, AreRaised}
use Rattle.pg_sync.proofs.Keeping.{no_cells}
use Rattle.pg_sync.proofs.half.apply_part.Goals as goal

pub returns-then-is_empty-clause-counted : goal.returns-then-is_empty-clause-counted
returns-then-is_empty-clause-counted g c =
    let none = no_cells c.args.cells.now (eqb-true _ 0 (sym c.is_empty.ensures ∙ c.if-is_empty.true)) in
    let Counted : List (CacheCell g.row.P-Acc.Denot) → Type 0 = λ cells. OnOk c.apply_fresh.result ((s : Configuration) → IsKept (g.P.VertexProgram.meaning c.args.program.now) c.args.graph.now c.args.cut.now s c.args.workers.now c.args.mirrors.now c.args.values.now c.args.messages.now cells
    → AreRaised (λ w. sum_by (gather_degree_on (g.P.VertexProgram.meaning c.args.program.now) c.args.graph.now c.args.cut.now w) (unkept c.args.graph.now (keeps (g.P.VertexProgram.meaning c.args.program.now) cells) s)) c.args.cut.now.workers (counters_of c.args.seats.now) (counters_of c.apply_fresh.new.seats)) in
    subst Counted (sym none) c.apply_fresh.ensures.counted
