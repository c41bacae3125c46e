use Rattle.pg_words.proofs.Ordering.{IsJobOf-swap}
use Rattle.pg_words.proofs.laws.options_come_in_any_order.Goals as goal

pub returns : goal.returns
returns c = IsJobOf-swap
