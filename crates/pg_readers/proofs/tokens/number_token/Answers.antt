use Rattle.std.proofs.Common.{◌-◌, ◌^◌, drop, sym, ap, ◌∙◌, None, arith}
use Rattle.std.proofs.lemmas.List.{length-drop}
use Rattle.pg_base.specs.Numbers.{with_digit}
use Rattle.pg_readers.specs.Tokens.{is_blank, behind_token}
use Rattle.pg_readers.proofs.TokenLemmas.{IsFirst, begins_nothing, begins_blank, number_ends, no_number, from_place, byte_at, number_on, behind_on}
use Rattle.pg_readers.proofs.tokens.number_token.Goals as goal

pub loop-at-preserved : goal.loop-at-preserved
loop-at-preserved c =
    let bytes = c.args.bytes.now in
    let some = sym c.with_digit.ensures ∙ c.in-Some.is in
    let invariant = c.loop-at.invariant in
    record {
      within = omega (arith, c.loop-at-test.true);
      number = sym (number_on bytes c.loop-at.at c.loop-at.number c.in-Some.more c.loop-at-test.true some) ∙ invariant.number;
      behind = sym (behind_on bytes c.loop-at.at c.loop-at.number c.in-Some.more c.loop-at-test.true some) ∙ invariant.behind;
    }

pub returns-then-is_blank-clause-numbers : goal.returns-then-is_blank-clause-numbers
returns-then-is_blank-clause-numbers c =
    let bytes = c.args.bytes.now in
    let blank = begins_blank (drop c.loop-at.at bytes) (ap is_blank (byte_at bytes c.loop-at.at c.loop-at-test.true) ∙ sym c.is_blank.ensures ∙ c.if-is_blank.true) in
    let first = number_ends bytes c.requires c.loop-at.number (drop c.loop-at.at bytes) c.loop-at.invariant.number c.loop-at.invariant.behind blank in
    rw (from_place bytes c.loop-at.at) first.0

missed : (c : goal.After-behind_token) → IsFirst c.args.bytes.now None c.behind_token.result.now
missed c =
    let bytes = c.args.bytes.now in
    let here = byte_at bytes c.loop-at.at c.loop-at-test.true in
    no_number bytes c.requires c.loop-at.number (drop c.loop-at.at bytes) c.loop-at.invariant.number c.loop-at.invariant.behind c.behind_token.result.now
    (omega (arith, length-drop c.loop-at.at bytes, c.loop-at-test.true))
    (ap (with_digit (2 ^ 32 - 1) c.loop-at.number) here ∙ sym c.with_digit.ensures ∙ c.in_default.is)
    (ap is_blank here ∙ sym c.is_blank.ensures ∙ c.if-is_blank.false)
    (c.behind_token.ensures ∙ ap behind_token (from_place bytes c.loop-at.at))

pub returns-in_default-clause-numbers : goal.returns-in_default-clause-numbers
returns-in_default-clause-numbers c = (missed c).0

pub returns-in_default-clause-shorter : goal.returns-in_default-clause-shorter
returns-in_default-clause-shorter c = (missed c).1

pub returns-clause-numbers : goal.returns-clause-numbers
returns-clause-numbers c =
    let bytes = c.args.bytes.now in
    let none = begins_nothing (drop c.loop-at.at bytes) (omega (arith, length-drop c.loop-at.at bytes, c.loop-at-test.false)) in
    let first = number_ends bytes c.requires c.loop-at.number (drop c.loop-at.at bytes) c.loop-at.invariant.number c.loop-at.invariant.behind none in
    rw (from_place bytes c.loop-at.at) first.0
