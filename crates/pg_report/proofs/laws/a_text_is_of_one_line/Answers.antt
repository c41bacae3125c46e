use Rattle.pg_report.proofs.Again.{one_line}
use Rattle.pg_report.proofs.laws.a_text_is_of_one_line.Goals as goal

pub returns : goal.returns
returns c = one_line
