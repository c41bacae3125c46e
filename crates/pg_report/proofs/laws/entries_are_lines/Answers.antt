use Rattle.pg_report.proofs.Entries.{entry_is_line}
use Rattle.pg_report.proofs.laws.entries_are_lines.Goals as goal

pub returns : goal.returns
returns c = entry_is_line
