use Rattle.std.proofs.Common.{◌≡◌, ◌+◌, length, take, map, Some, string_bytes, option_and_then, sym, ap, ◌∙◌, arith}
use Rattle.std.proofs.lemmas.List.{length-map, take_all}
use Rattle.pg_words.specs.Reading.{next, job_at}
use Rattle.pg_words.proofs.Counting.{next-IsStep, words_behind-le}
use Rattle.pg_words.proofs.Limiting.{IsJob-HasWorkers}
use Rattle.pg_words.proofs.Parsing.{IsJob-from_reading}
use Rattle.pg_words.proofs.Placing.{after-push, wrong_at, wrong_behind, take_more-map}
use Rattle.pg_words.proofs.reading.read_words.Goals as goal

pub returns-in-None-clause-err : goal.returns-in-None-clause-err
returns-in-None-clause-err c =
    let more = take_more-map string_bytes c.args.words.now c.loop-word.word-index c.word-item.result c.as_str.result.now c.loop-word-test.true c.word-item.is c.as_str.ensures.value in
    (wrong_at (map string_bytes c.args.words.now) c.loop-word.word-index c.loop-word.standing c.as_str.result.now
    (rw (length-map c.args.words.now string_bytes) c.loop-word-test.true) c.loop-word.invariant.stands more (sym c.next.ensures ∙ c.in-None.is)).none

pub returns-in-None-clause-place : goal.returns-in-None-clause-place
returns-in-None-clause-place c =
    let more = take_more-map string_bytes c.args.words.now c.loop-word.word-index c.word-item.result c.as_str.result.now c.loop-word-test.true c.word-item.is c.as_str.ensures.value in
    rw c.loop-word.invariant.place
    (wrong_at (map string_bytes c.args.words.now) c.loop-word.word-index c.loop-word.standing c.as_str.result.now
    (rw (length-map c.args.words.now string_bytes) c.loop-word-test.true) c.loop-word.invariant.stands more (sym c.next.ensures ∙ c.in-None.is)).at

pub overflow_add-place : goal.overflow_add-place
overflow_add-place c =
    let most = words_behind-le c.loop-word.standing in
    omega arith

pub loop-word-preserved : goal.loop-word-preserved
loop-word-preserved c =
    let more = take_more-map string_bytes c.args.words.now c.loop-word.word-index c.word-item.result c.as_str.result.now c.loop-word-test.true c.word-item.is c.as_str.ensures.value in
    let follows : next c.loop-word.standing c.as_str.result.now ≡ Some c.in-Some.more = sym c.next.ensures ∙ c.in-Some.is in
    let step = next-IsStep c.loop-word.standing c.in-Some.more c.as_str.result.now c.loop-word.invariant.fresh follows in
    record {
      stands = rw more (after-push (take c.loop-word.word-index (map string_bytes c.args.words.now)) c.as_str.result.now c.loop-word.standing c.loop-word.invariant.stands ∙ follows);
      fresh = step.fresh;
      behind = (let further = step.further in omega arith);
      place = omega arith;
    }

pub returns-in-Some-job-clause-grammar : goal.returns-in-Some-job-clause-grammar
returns-in-Some-job-clause-grammar c =
    let count : length (map string_bytes c.args.words.now) ≡ length c.args.words.now = length-map c.args.words.now string_bytes in
    let all = take_all c.loop-word.word-index (map string_bytes c.args.words.now) (omega arith) in
    let stands = rw all at c.loop-word.invariant.stands in
    IsJob-from_reading (map string_bytes c.args.words.now) c.in-Some-job.job
    (ap (option_and_then job_at) stands ∙ (sym c.job.ensures ∙ c.in-Some-job.is))

pub returns-in-Some-job-clause-workers : goal.returns-in-Some-job-clause-workers
returns-in-Some-job-clause-workers c =
    IsJob-HasWorkers (map string_bytes c.args.words.now) c.in-Some-job.job (returns-in-Some-job-clause-grammar c)

pub returns-in-None-job-clause-place : goal.returns-in-None-job-clause-place
returns-in-None-job-clause-place c =
    let count : length (map string_bytes c.args.words.now) ≡ length c.args.words.now = length-map c.args.words.now string_bytes in
    let all = take_all c.loop-word.word-index (map string_bytes c.args.words.now) (omega arith) in
    let stands = rw all at c.loop-word.invariant.stands in
    let place : c.loop-word.place ≡ length (map string_bytes c.args.words.now) + 1 = omega arith in
    rw place (wrong_behind (map string_bytes c.args.words.now) c.loop-word.standing stands (sym c.job.ensures ∙ c.in-None-job.is)).at
