use Rattle.std.proofs.Common.{refl, arith}
use Rattle.pg_base.specs.Shown.{shown}
use Rattle.pg_check.proofs.Entries.{no_line, no_fuel}
use Rattle.pg_check.proofs.entry.find_entry.Goals as goal

pub returns-in_default-clause-found : goal.returns-in_default-clause-found
returns-in_default-clause-found g c =
    let p = g.P.VertexProgram.meaning c.args.program.now in
    (no_fuel p c.args.name c.args.graph.now c.args.state.now c.args.left (shown c.args.line) (omega (arith, c.if-left-gt0.false)), refl, refl)

pub returns-in_default-2-clause-found : goal.returns-in_default-2-clause-found
returns-in_default-2-clause-found g c =
    let p = g.P.VertexProgram.meaning c.args.program.now in
    rw c.in_default.is (no_line p c.args.name c.args.graph.now c.args.state.now c.args.left, refl, refl)
