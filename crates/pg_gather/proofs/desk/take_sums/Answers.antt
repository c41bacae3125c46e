use Rattle.std.proofs.Common.{◌≡◌, ◌<◌, ◌∙◌, Bool, Some, None, false, true, [], ◌∷◌, ◌++◌, take, cond, length, get_or, ap, sym, refl, arith}
use Rattle.std.proofs.lemmas.Bool.{ne_eqb, false≢true, false_from_ne_true}
use Rattle.std.proofs.lemmas.List.{append-nil, length-set, get_or_default}
use Rattle.pg_law.specs.Values.{one}
use Rattle.pg_gather.specs.declared.desk.Desk.{Desk}
use Rattle.pg_gather.specs.Desks.{desk, desk_at}
use Rattle.pg_gather.specs.Partials.{has_replica, partial_sum, partial_sums}
use Rattle.pg_gather.proofs.Reading.{listed_is_in, in_is_listed, parts_more}
use Rattle.pg_gather.proofs.Deskwork.{none_some, some_same, desk_at-set}
use Rattle.pg_gather.proofs.desk.take_sums.Goals as goal

pub loop-u-init : goal.loop-u-init
loop-u-init g c = record {
  sums = c.in_ok-sums.ensures.items;
  count = c.requires.desks.count;
  left = λ r j hr le hj same. c.requires.sums r hr ∙ rw (same, listed_is_in c.args.wanted.now (get_or c.args.wanted.now j 0) (j, hj, get_or_default c.args.wanted.now j _ 0 hj)) refl;
}

pub loop-u-preserved-in_default : goal.loop-u-preserved-in_default
loop-u-preserved-in_default g c = let p = g.P.VertexProgram.meaning c.args._program.now in
    let mirrors = c.args.mirrors.now in
    let wanted = c.args.wanted.now in
    let k = c.loop-u.u-index in
    let away : has_replica mirrors (get_or wanted k 0) ≡ false = false_from_ne_true _ (λ is. false≢true (c.in_default.ensures.found.1 (in_is_listed mirrors.vertices (get_or wanted k 0) is))) in
    record {
      sums = c.loop-u.invariant.sums ∙ sym (parts_more (λ u. (u, partial_sum p c.args._graph.now c.args._store.now mirrors u)) (has_replica mirrors) wanted k c.loop-u-test.true ∙ rw away (append-nil _));
      count = c.loop-u.invariant.count;
      left = λ r j hr le hj same. c.loop-u.invariant.left r j hr (omega (arith, le)) hj same;
    }

pub loop-u-preserved-in_default-take : goal.loop-u-preserved-in_default-take
loop-u-preserved-in_default-take g c =
    let i = c.in-Some.replica in
    let desks = c.loop-u.desks in
    let here : i < length desks = omega (arith, c.in-Some.ensures.within, c.loop-u.invariant.count) in
    absurd (none_some _ (c.in_default-take.ensures.value ∙ ap (λ (d : Desk _). d.sum) (get_or_default desks i c.index-desks-replica.result (desk (one 0) None) here)
    ∙ c.loop-u.invariant.left i c.loop-u.u-index c.in-Some.ensures.within (omega arith) c.loop-u-test.true c.in-Some.ensures.vertex))

pub loop-u-preserved : goal.loop-u-preserved
loop-u-preserved g c = let p = g.P.VertexProgram.meaning c.args._program.now in
    let mirrors = c.args.mirrors.now in
    let wanted = c.args.wanted.now in
    let invariant = c.loop-u.invariant in
    let k = c.loop-u.u-index in
    let u = get_or wanted k 0 in
    let i = c.in-Some.replica in
    let desks = c.loop-u.desks in
    let vertex = c.in-Some.ensures.vertex in
    let here : i < length desks = omega (arith, c.in-Some.ensures.within, invariant.count) in
    let part = partial_sum p c.args._graph.now c.args._store.now mirrors in
    let held : Some c.in-Some-take.sum ≡ Some (part u) = c.in-Some-take.ensures.value ∙ ap (λ (d : Desk _). d.sum) (get_or_default desks i c.index-desks-replica.result (desk (one 0) None) here)
    ∙ invariant.left i k c.in-Some.ensures.within (omega arith) c.loop-u-test.true vertex in
    let has : has_replica mirrors u ≡ true = listed_is_in mirrors.vertices u (i, c.in-Some.ensures.within, get_or_default mirrors.vertices i _ 0 c.in-Some.ensures.within ∙ vertex) in
    let taken = desk (get_or desks i c.index-desks-replica.result).datum c.take.new.self in
    record {
      sums = c.in_ok-push.ensures.items ∙ ap (λ xs. xs ++ (u, c.in-Some-take.sum) ∷ []) invariant.sums
          ∙ ap (λ sum. partial_sums p c.args._graph.now c.args._store.now mirrors (take k wanted) ++ (u, sum) ∷ []) (some_same c.in-Some-take.sum (part u) held)
          ∙ sym (parts_more (λ u. (u, part u)) (has_replica mirrors) wanted k c.loop-u-test.true ∙ rw has refl);
      count = length-set desks i taken ∙ invariant.count;
      left = λ r j hr le hj same. ap (λ (d : Desk _). d.sum) (desk_at-set desks i r taken here)
          ∙ ap (λ (b : Bool). (cond b taken (desk_at desks r)).sum) (ne_eqb i r (λ e. c.requires.apart k j 0 (omega (arith, le)) hj (sym vertex ∙ ap (λ n. get_or mirrors.vertices n 0) e ∙ same)))
          ∙ invariant.left r j hr (omega (arith, le)) hj same;
    }
