use Rattle.pg_serial.proofs.Words.{has_within, has_less}
use Rattle.pg_serial.proofs.bits.take_out.Goals as goal

pub bounds-words-at : goal.bounds-words-at
bounds-words-at c = has_within c.args.words.now c.args.k c.requires

pub bounds-words-at-2 : goal.bounds-words-at-2
bounds-words-at-2 c = has_within c.args.words.now c.args.k c.requires

pub returns-clause-has : goal.returns-clause-has
returns-clause-has c = has_less c.args.words.now c.args.k (has_within c.args.words.now c.args.k c.requires)
