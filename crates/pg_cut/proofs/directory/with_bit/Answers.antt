use Rattle.pg_cut.proofs.Sets.{has-with}
use Rattle.pg_cut.proofs.directory.with_bit.Goals as goal

pub returns : goal.returns
returns c = λ j. has-with c.args.mask c.args.bit j c.requires
