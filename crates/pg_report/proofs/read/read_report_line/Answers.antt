use Rattle.std.proofs.Common.{◌≡◌, Option, Some, None, sym, ◌∙◌, ap}
use Rattle.std.specs.Option.{IfSome}
use Rattle.pg_report.specs.Lines.{IsLine, line_text}
use Rattle.pg_report.specs.Reading.{line_of}
use Rattle.pg_report.specs.declared.line.ReportLine.{ReportLine}
use Rattle.pg_report.proofs.Again.{line_again}
use Rattle.pg_report.proofs.Takes.{line_takes}
use Rattle.pg_report.proofs.read.read_report_line.Goals as goal

pub returns-clause-found : goal.returns-clause-found
returns-clause-found c =
    let each : (o : Option ReportLine) → line_of c.args.line.now ≡ o → IfSome o (λ said. IsLine said × (c.args.line.now ≡ line_text said)) =
    λ o. elim o as (λ v. line_of c.args.line.now ≡ v → IfSome v (λ said. IsLine said × (c.args.line.now ≡ line_text said))) [
      | None ↦ λ _. tt
      | Some said ↦ λ e. (let says = line_takes c.args.line.now said e in (says.is, says.text))
    ] in
    each c.read_line.result (sym c.read_line.ensures)

pub returns-clause-only : goal.returns-clause-only
returns-clause-only c = λ said is text. c.read_line.ensures ∙ (ap line_of text ∙ line_again said is)
