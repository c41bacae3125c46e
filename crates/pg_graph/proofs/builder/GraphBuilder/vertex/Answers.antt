use Rattle.std.proofs.Common.{◌≡◌, ◌∙◌, ap, arith}
use Rattle.pg_graph.specs.Building.{with_id}
use Rattle.pg_graph.proofs.Placed.{built_with, with_within}
use Rattle.pg_graph.proofs.builder.GraphBuilder.vertex.Goals as goal

keys_are : (c : goal.After-add) → c.add.new.self.keys ≡ with_id c.self.inside.ids.keys c.args.id
keys_are c = c.add.ensures.keys ∙ ap (λ ids. with_id ids c.args.id) c.reserve.ensures.keys

pub invariant_of-self-2 : goal.invariant_of-self-2
invariant_of-self-2 c = rw (keys_are c)
    (built_with c.self.inside.limits c.self.inside.ids.keys c.args.id c.self.inside.edges.items c.self.inside.loops c.self.invariant c.ranges.id.fits (with_within c.self.inside.ids.keys c.args.id c.self.inside.limits.vertices (omega arith)))
