use Rattle.std.proofs.Common.{length, ◌∙◌, sym, ap, arith}
use Rattle.pg_mirrors.proofs.Pushing.{vertices_rise, vertices_inside, vertices_fewer}
use Rattle.pg_mirrors.proofs.table.MirrorTable.of.Goals as goal

pub values_at-requires : goal.values_at-requires
values_at-requires c =
    let inside = vertices_inside c.args.cut.now c.args.worker in
    rw (c.vertices_on-vertices.ensures, c.requires.values, sym c.requires.cut.count) inside

pub of-requires-clause-ascending : goal.of-requires-clause-ascending
of-requires-clause-ascending c = rw (c.in_ok-from_slice.ensures.items ∙ c.vertices_on-vertices.ensures) (vertices_rise c.args.cut.now c.args.worker)

pub of-requires-clause-few : goal.of-requires-clause-few
of-requires-clause-few c = omega (arith, ap length (c.in_ok-from_slice.ensures.items ∙ c.vertices_on-vertices.ensures), vertices_fewer c.args.cut.now c.args.worker, c.requires.cut.count, c.vertices.ensures.graph.vertex_count)
