use Rattle.std.proofs.Common.{arith}
use Rattle.std.proofs.lemmas.List.{with_items_is}
use Rattle.pg_rounds.proofs.Gathering.{empties_at, empties_own}
use Rattle.pg_rounds.proofs.gather.gather_all.Goals as goal

pub gather_edges-requires-clause-accs : goal.gather_edges-requires-clause-accs
gather_edges-requires-clause-accs g c κs within = rw (c.as_mut_slice.ensures.value, c.in_ok-accs.ensures) (empties_own (g.P.VertexProgram.meaning c.args.program.now) c.args.graph.now c.laws_of.ensures)

pub gather_edges-requires-clause-empty : goal.gather_edges-requires-clause-empty
gather_edges-requires-clause-empty g c κs within = λ v h. rw (c.as_mut_slice.ensures.value, c.in_ok-accs.ensures) (empties_at (g.P.VertexProgram.meaning c.args.program.now) c.args.graph.now v h)

pub returns-clause-accs : goal.returns-clause-accs
returns-clause-accs g c = let whole = with_items_is c.in_ok-accs.accs c.gather_edges.new.accs (omega (arith, c.gather_edges.auto.accs, c.as_mut_slice.ensures.len)) in
    rw whole c.in_ok-edges.ensures.accs

pub returns-clause-own : goal.returns-clause-own
returns-clause-own g c = let whole = with_items_is c.in_ok-accs.accs c.gather_edges.new.accs (omega (arith, c.gather_edges.auto.accs, c.as_mut_slice.ensures.len)) in
    rw whole c.in_ok-edges.ensures.own
