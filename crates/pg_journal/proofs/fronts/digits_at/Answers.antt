use Rattle.std.proofs.Common.{sym, ◌∙◌, arith}
use Rattle.pg_journal.proofs.Digits.{digits_at-more, digits_at-none, digits_at-end}
use Rattle.pg_journal.proofs.fronts.digits_at.Goals as goal

pub loop-count-preserved : goal.loop-count-preserved
loop-count-preserved c =
    let more = digits_at-more c.args.bytes.now c.loop-count.count c.loop-count-test.true (sym c.is_ascii_digit.ensures.value ∙ c.if-is_ascii_digit.true) in
    record { within = omega arith; count = omega arith }

pub returns-else-is_ascii_digit-clause-count : goal.returns-else-is_ascii_digit-clause-count
returns-else-is_ascii_digit-clause-count c =
    let none = digits_at-none c.args.bytes.now c.loop-count.count c.loop-count-test.true (sym c.is_ascii_digit.ensures.value ∙ c.if-is_ascii_digit.false) in
    omega arith

pub returns-after-loop-count-clause-count : goal.returns-after-loop-count-clause-count
returns-after-loop-count-clause-count c =
    let end = digits_at-end c.args.bytes.now c.loop-count.count c.loop-count-test.false in
    omega arith
