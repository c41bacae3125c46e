use Rattle.std.proofs.Common.{sym, subst, ◌∙◌, ap, arith}
use Rattle.std.specs.Prelude.{Contains}
use Rattle.std.proofs.lemmas.Bool.{false≢true}
use Rattle.pg_edge_store.specs.Store.{Store, store, IsOver, places_around, places_taken}
use Rattle.pg_edge_store.proofs.Replicas.{rows_count, row_within, taken_is, none_around}
use Rattle.pg_edge_store.proofs.store.EdgeStore.around.Goals as goal

pub row-requires : goal.row-requires
row-requires c = omega (arith, rows_count _ c.self.invariant, c.in-Some.ensures.within)

pub invariant_of-t-9 : goal.invariant_of-t-9
invariant_of-t-9 c = rw (c.row.ensures, c.as_slice-edges.ensures.value) (row_within _ c.self.invariant c.in-Some.replica c.in-Some.ensures.within)

pub returns-in-Some : goal.returns-in-Some
returns-in-Some c = λ g over.
    let inside = c.self.inside in
    let s = store inside.numbers.items inside.words inside.vertices inside.edges.items inside.rows in
    let r = c.in-Some.replica in
    let dir = c.args.dir in
    ap (λ edges. places_taken edges r dir c.row.result.now) c.as_slice-edges.ensures.value
    ∙ ap (places_taken s.edges r dir) c.row.ensures
    ∙ taken_is g s (subst (IsOver g) (sym c.self.view_is) over) r c.in-Some.ensures.within dir
    ∙ ap (λ v. places_around g s.numbers v dir) c.in-Some.ensures.key
    ∙ ap (λ (now : Store). places_around g now.numbers c.args.v dir) c.self.view_is

pub returns-in-None : goal.returns-in-None
returns-in-None c = λ g over. sym (none_around g c.args.self.now over c.args.v
    (λ has. false≢true (c.in-None.ensures.found.1 (subst (λ (now : Store). Contains now.vertices c.args.v) (sym c.self.view_is) has)))
    c.args.dir)
