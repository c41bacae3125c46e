use Rattle.std.proofs.Common.{◌<◌, ◌∙◌, Bool, Some, None, cond, List, length, get_or, ap, sym, refl, arith}
use Rattle.std.proofs.lemmas.Bool.{false≢true}
use Rattle.std.proofs.lemmas.List.{get_or_default}
use Rattle.pg_gather.specs.declared.desk.Desk.{Desk}
use Rattle.pg_gather.specs.Desks.{desk, desk_at}
use Rattle.pg_gather.proofs.Deskwork.{blank_at, blank_are, AreDesks-set, opened, wanted_before}
use Rattle.pg_gather.proofs.desk.open_desks.Goals as goal

pub loop-u-init : goal.loop-u-init
loop-u-init g c = let p = g.P.VertexProgram.meaning c.args.program.now in
    record {
      desks = rw c.requires.blank (blank_are p c.args.mirrors.now);
      sums = λ r hr. ap (λ (ds : List (Desk _)). (desk_at ds r).sum) c.requires.blank ∙ ap (λ (d : Desk _). d.sum) (blank_at p c.args.mirrors.now r hr);
    }

pub loop-u-preserved-in_default : goal.loop-u-preserved-in_default
loop-u-preserved-in_default g c = let p = g.P.VertexProgram.meaning c.args.program.now in
    record {
      desks = c.loop-u.invariant.desks;
      sums = λ r hr. c.loop-u.invariant.sums r hr ∙ ap (λ (b : Bool). cond b (Some p.empty) None)
          (sym (wanted_before c.args.wanted.now c.loop-u.u-index (get_or c.args.mirrors.now.vertices r 0) c.loop-u-test.true (λ same. false≢true (c.in_default.ensures.found.1 (r, hr, get_or_default c.args.mirrors.now.vertices r _ 0 hr ∙ sym same)))));
    }

pub loop-u-preserved : goal.loop-u-preserved
loop-u-preserved g c = let p = g.P.VertexProgram.meaning c.args.program.now in
    let mirrors = c.args.mirrors.now in
    let invariant = c.loop-u.invariant in
    let desks = c.loop-u.desks in
    let i = c.in-Some.replica in
    let here : i < length desks = omega (arith, c.in-Some.ensures.within, invariant.desks.count) in
    record {
      desks = rw c.in_ok-open_desk.ensures (AreDesks-set p mirrors desks invariant.desks i (desk (desk_at desks i).datum (Some p.empty)) here refl c.laws_of.ensures.closed.empty);
      sums = λ r hr. ap (λ ds. (desk_at ds r).sum) c.in_ok-open_desk.ensures
          ∙ opened mirrors.vertices c.args.wanted.now c.requires.ascending c.loop-u.u-index i r p.empty desks (desk_at desks i).datum here c.in-Some.ensures.within hr c.loop-u-test.true c.in-Some.ensures.vertex (invariant.sums r hr);
    }
