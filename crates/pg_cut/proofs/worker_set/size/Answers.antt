use Rattle.std.proofs.Common.{sym}
use Rattle.pg_cut.proofs.Sets.{length-workers_in}
use Rattle.pg_cut.proofs.worker_set.size.Goals as goal

pub returns-clause-value : goal.returns-clause-value
returns-clause-value c = sym (length-workers_in c.args.set c.ranges.set.fits)
