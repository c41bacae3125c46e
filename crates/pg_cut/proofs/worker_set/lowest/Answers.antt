use Rattle.pg_cut.proofs.Sets.{lowest_member}
use Rattle.pg_cut.proofs.worker_set.lowest.Goals as goal

pub returns-clause-within : goal.returns-clause-within
returns-clause-within c = (lowest_member c.args.set c.requires c.ranges.set.fits).0

pub returns-clause-member : goal.returns-clause-member
returns-clause-member c = (lowest_member c.args.set c.requires c.ranges.set.fits).1

pub returns-clause-least : goal.returns-clause-least
returns-clause-least c = λ w h. (lowest_member c.args.set c.requires c.ranges.set.fits).2 w h
