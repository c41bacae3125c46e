use Rattle.pg_report.proofs.Feeds.{line_has_no_feed}
use Rattle.pg_report.proofs.laws.a_line_has_no_line_feed.Goals as goal

pub returns : goal.returns
returns c = line_has_no_feed
