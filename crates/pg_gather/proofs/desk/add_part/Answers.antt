use Rattle.std.proofs.Common.{◌≡◌, Some, None, ap, sym, ◌∙◌}
use Rattle.std.proofs.lemmas.List.{get_or_default}
use Rattle.pg_law.specs.Values.{one}
use Rattle.pg_gather.specs.declared.desk.Desk.{Desk}
use Rattle.pg_gather.specs.Desks.{desk, desk_at}
use Rattle.pg_gather.proofs.Deskwork.{put_back}
use Rattle.pg_gather.proofs.desk.add_part.Goals as goal

pub returns-in_ok-sum : goal.returns-in_ok-sum
returns-in_ok-sum g c =
    let p = g.P.VertexProgram.meaning c.args.program.now in
    let desks = c.args.desks.now in
    let r = c.args.replica in
    let held : (desk_at desks r).sum ≡ Some c.in-Some.sum = ap (λ (d : Desk _). d.sum) (sym (get_or_default desks r c.index-desks-replica.result (desk (one 0) None) c.requires.replica)) ∙ sym c.take.ensures.value ∙ c.in-Some.is in
    put_back desks r c.index-desks-replica.result c.index-desks-replica-in-Some.result c.take.new.self (λ (acc : g.row.P-Acc.Denot). p.sum acc c.args.part.now) c.in-Some.sum c.in_ok-sum.field-0 c.requires.replica held c.in_ok-sum.ensures
