use Rattle.pg_words.proofs.Placing.{IsPlace-only}
use Rattle.pg_words.proofs.laws.words_go_wrong_at_one_place.Goals as goal

pub returns : goal.returns
returns c = IsPlace-only
