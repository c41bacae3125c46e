use Rattle.std.proofs.Common.{◌≡◌, ◌==◌, Bool, true, cond, get_or, None, ap, sym, subst, refl, ◌∙◌, rules}
use Rattle.std.specs.Prelude.{is_some}
use Rattle.std.specs.Option.{option_map}
use Rattle.std.proofs.lemmas.List.{get_or_default}
use Rattle.pg_graph.specs.declared.edge.Dir.{Dir}
use Rattle.pg_graph.specs.Multigraph.{end_of, takes}
use Rattle.pg_law.specs.Values.{one}
use Rattle.pg_edge_store.specs.Store.{local_at}
use Rattle.pg_gather.specs.declared.desk.Desk.{Desk}
use Rattle.pg_gather.specs.Partials.{near_at}
use Rattle.pg_gather.specs.Desks.{desk, desk_at}
use Rattle.pg_gather.proofs.Deskwork.{end_inside, end_desk, sum_added, own_added, AreDesks-set}
use Rattle.pg_gather.proofs.sweep.add_end.Goals as goal

pub add_part-requires-clause-replica : goal.add_part-requires-clause-replica
add_part-requires-clause-replica g c κs within =
    let p = g.P.VertexProgram.meaning c.args.program.now in
    let store = c.args.store.now in
    let is : c.end-replica.result ≡ end_of c.args.side (local_at store c.args.place) = c.end-replica.ensures ∙ ap (end_of c.args.side) c.local-local.ensures in
    end_desk p c.args.graph.now store c.args.mirrors.now c.args.desks.now c.requires.readable c.requires.desks c.args.place c.requires.place c.args.side c.end-replica.result is

pub add_part-requires-clause-own : goal.add_part-requires-clause-own
add_part-requires-clause-own g c κs within =
    let p = g.P.VertexProgram.meaning c.args.program.now in
    let store = c.args.store.now in
    let is : c.end-replica.result ≡ end_of c.args.side (local_at store c.args.place) = c.end-replica.ensures ∙ ap (end_of c.args.side) c.local-local.ensures in
    c.requires.desks.own c.end-replica.result (end_inside p c.args.graph.now store c.args.mirrors.now c.args.desks.now c.requires.readable c.requires.desks c.args.place c.requires.place c.args.side c.end-replica.result is)

pub returns-clause-desks : goal.returns-clause-desks
returns-clause-desks g c =
    let p = g.P.VertexProgram.meaning c.args.program.now in
    let law = c.laws_of.ensures in
    let store = c.args.store.now in
    let desks = c.args.desks.now in
    let r = c.end-replica.result in
    let is : r ≡ end_of c.args.side (local_at store c.args.place) = c.end-replica.ensures ∙ ap (end_of c.args.side) c.local-local.ensures in
    let inside = end_inside p c.args.graph.now store c.args.mirrors.now desks c.requires.readable c.requires.desks c.args.place c.requires.place c.args.side r is in
    let here = end_desk p c.args.graph.now store c.args.mirrors.now desks c.requires.readable c.requires.desks c.args.place c.requires.place c.args.side r is in
    let part_own = subst p.IsAcc (sym c.in_ok-part.ensures.gathered) (law.closed.gather _ c.near_at_desks-near.ensures.near) in
    let f = λ (acc : g.row.P-Acc.Denot). p.sum acc c.in_ok-part.part in
    rw c.in_ok-add_part.ensures (AreDesks-set p c.args.mirrors.now desks c.requires.desks r (desk (desk_at desks r).datum (option_map f (desk_at desks r).sum)) here refl
    (own_added p.IsAcc f (desk_at desks r).sum (λ acc own. law.closed.sum acc c.in_ok-part.part own part_own) (c.requires.desks.own r inside)))

pub returns-clause-sums : goal.returns-clause-sums
returns-clause-sums g c =
    let p = g.P.VertexProgram.meaning c.args.program.now in
    let graph = c.args.graph.now in
    let store = c.args.store.now in
    let mirrors = c.args.mirrors.now in
    let desks = c.args.desks.now in
    let side = c.args.side in
    let place = c.args.place in
    let k = c.end-replica.result in
    let is : k ≡ end_of side (local_at store place) = c.end-replica.ensures ∙ ap (end_of side) c.local-local.ensures in
    let here = end_desk p graph store mirrors desks c.requires.readable c.requires.desks place c.requires.place side k is in
    let yes : c.takes.result ≡ true = search rules in
    let takes_it : takes p.gather_edges side ≡ true = ap (λ (dir : Dir). takes dir side) (sym c.gather_edges.ensures) ∙ sym c.takes.ensures ∙ yes in
    let part = c.in_ok-part.ensures.gathered ∙ ap p.gather c.near_at_desks-near.ensures.value in
    λ r hr. let sum = (desk_at desks r).sum in
    ap (λ ds. (desk_at ds r).sum) c.in_ok-add_part.ensures ∙ sum_added desks k r (λ acc. p.sum acc c.in_ok-part.part) here
    ∙ ap (λ n. cond (n == r) (option_map (λ acc. p.sum acc c.in_ok-part.part) sum) sum) is
    ∙ ap (λ x. cond (end_of side (local_at store place) == r) (option_map (λ acc. p.sum acc x) sum) sum) part
    ∙ ap (λ (b : Bool). cond (end_of side (local_at store place) == r) (cond b (option_map (λ acc. p.sum acc (p.gather (near_at graph store mirrors side place))) sum) sum) sum) (sym takes_it)

pub returns-clause-counted : goal.returns-clause-counted
returns-clause-counted g c =
    let p = g.P.VertexProgram.meaning c.args.program.now in
    let store = c.args.store.now in
    let desks = c.args.desks.now in
    let side = c.args.side in
    let k = c.end-replica.result in
    let is : k ≡ end_of side (local_at store c.args.place) = c.end-replica.ensures ∙ ap (end_of side) c.local-local.ensures in
    let here = end_desk p c.args.graph.now store c.args.mirrors.now desks c.requires.readable c.requires.desks c.args.place c.requires.place side k is in
    let yes : c.takes.result ≡ true = search rules in
    let takes_it : takes p.gather_edges side ≡ true = ap (λ (dir : Dir). takes dir side) (sym c.gather_edges.ensures) ∙ sym c.takes.ensures ∙ yes in
    let read : is_some (get_or desks k c.index-desks-replica.result).sum ≡ true = search rules in
    let some : is_some (desk_at desks (end_of side (local_at store c.args.place))).sum ≡ true = ap (λ n. is_some (desk_at desks n).sum) (sym is)
    ∙ ap (λ (d : Desk _). is_some d.sum) (sym (get_or_default desks k c.index-desks-replica.result (desk (one 0) None) here)) ∙ read in
    rw (some, takes_it) c.in_ok-part.ensures.counted
