use Rattle.std.proofs.Common.{◌≡◌, ◌≤◌, ◌<◌, ◌∙◌, length, ap, arith}
use Rattle.std.proofs.lemmas.Grind.{common_steps}
use Rattle.std.specs.Prelude.{map}
use Rattle.std.proofs.lemmas.List.{length-map}
use Rattle.pg_graph.specs.Building.{with_id, ids_with, spelled}
use Rattle.pg_graph.proofs.Built.{built_more}
use Rattle.pg_graph.proofs.Placed.{spelled_more, room_for}
use Rattle.pg_graph.proofs.builder.GraphBuilder.join_new.Goals as goal

keys_are : (c : goal.After-push_reserved) → c.add-2.new.self.keys ≡ ids_with c.self.inside.ids.keys c.args.src_id c.args.dst_id
keys_are c = c.add-2.ensures.keys ∙ ap (λ ids. with_id ids c.args.dst_id) (c.add.ensures.keys ∙ ap (λ ids. with_id ids c.args.src_id) c.reserve-2.ensures.keys)

pub invariant_of-self-2 : goal.invariant_of-self-2
invariant_of-self-2 c =
    let fits : length (ids_with c.self.inside.ids.keys c.args.src_id c.args.dst_id) ≤ c.self.inside.limits.vertices = grind (arith, common_steps) in
    let room = room_for c.args.self.now c.self.inside.limits c.self.inside.ids.keys c.self.inside.edges.items c.self.inside.loops c.self.view_is (c.is_full.ensures.room c.if-is_full.false) in
    let below : length (map spelled c.self.inside.edges.items) < c.self.inside.limits.edges = omega (arith, room, length-map c.self.inside.edges.items spelled) in
    let edges_are = spelled_more c.self.inside.edges.items c.reserve.new.self.items c.push_reserved.new.self.items (record { src = c.args.src_id; dst = c.args.dst_id; weight = c.args.weight }) c.in_ok-reserve.ensures.items c.push_reserved.ensures.items in
    rw (keys_are c, edges_are) (built_more c.self.inside.limits c.self.inside.ids.keys (map spelled c.self.inside.edges.items) c.self.inside.loops c.args.src_id c.args.dst_id c.args.weight c.self.invariant
    c.ranges.src_id.fits c.ranges.dst_id.fits c.ranges.weight.fits c.requires.apart fits below)
