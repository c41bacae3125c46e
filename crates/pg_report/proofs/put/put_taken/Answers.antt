use Rattle.std.proofs.Common.{◌++◌, take, codes, decimal}
use Rattle.pg_report.proofs.Putting.{behind_two}
use Rattle.pg_report.proofs.put.put_taken.Goals as goal

pub returns-clause-text : goal.returns-clause-text
returns-clause-text c =
    rw (c.put_behind.ensures.text, c.put_behind-end.ensures.text)
    (behind_two (take c.args.at c.args.buf.now) (codes " executions ") (decimal c.args.executions) (codes " gathers " ++ decimal c.args.gathers))
