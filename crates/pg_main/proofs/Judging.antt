-- What the lines before a report and the report behind them say of a whole text.
use Rattle.std.proofs.Common.{◌≡◌, ℕ, ◌+◌, ◌-◌, List, [], ◌∷◌, length, Bool, true, false, cond, refl, sym, ◌∙◌, ap, subst, arith, inr}
use Rattle.std.specs.Prelude.{Option, Some, None, IfSome, Ok, Err, nat_lt}
use Rattle.std.specs.Option.{option_map}
use Rattle.std.specs.Io.KnownBytes.{append_known}
use Rattle.pg_base.specs.Cutting.{Cutting, ahead}
use Rattle.pg_base.specs.declared.limits.Limits.{Limits}
use Rattle.pg_graph.specs.Multigraph.{Multigraph}
use Rattle.pg_readers.specs.declared.line.BadLine.{BadLine}
use Rattle.pg_input.specs.Events.{IsEventOf}
use Rattle.pg_input.specs.Reading.{event_until, bytes_of_stop, is_stop_ended}
use Rattle.pg_input.specs.Texts.{TextLine, lines, width}
use Rattle.pg_input.specs.declared.error.InputError.{InputError}
use Rattle.pg_input.specs.declared.error.InputError.TheVariants as input
use Rattle.pg_input.specs.declared.error.Which.TheVariants.{Bytes}
use Rattle.pg_words.specs.declared.job.RunJob.{RunJob}
use Rattle.pg_check.specs.Reports.{ReadLine, read_line, read_report}
use Rattle.pg_check.specs.Verdicts.{job_verdict, gathers_of, lines_for, event_in, event_for}
use Rattle.pg_check.specs.declared.verdict.Verdict.{Verdict}
use Rattle.pg_check.specs.declared.verdict.Verdict.TheVariants.{Confirmed}
use Rattle.pg_main.specs.Answers.{Judges}
use Rattle.pg_main.specs.Checks.{report_mark, header_of, behind_header, report_lines, IsGraphBefore, event_before, verdict_on, event_behind, IsBase, IsJudged, IsConfirmed, IsEventOfCheck, confirmed_text}
use Rattle.pg_main.specs.Counters.{FirstTakes}
use Rattle.pg_main.specs.Jobs.{absent_source}

-- what was read of a text up to its report, and what is still to come
pub record IsPart (limits : Limits) (job : RunJob) (g : Multigraph) (header : Option ReadLine) (given : ℕ) (behind : Option (List ℕ)) (text : List ℕ) : Type 0 where
  pub accepted : event_before job.format limits text ≡ None
  pub graph_of : IsGraphBefore job.format limits text g
  pub header_is : header ≡ option_map read_line (header_of text)
  pub behind_is : behind ≡ Some (behind_header text)
  pub given_is : given + length (behind_header text) ≡ length text

-- no line of a report is bad
no_bad_line : (limit given : ℕ) (lines : List TextLine) (number : ℕ) (kind : BadLine) → event_in limit given lines ≡ Some (input.Line number kind) → ⊥
no_bad_line limit given [] number kind e = cc
no_bad_line limit given (line ∷ lines) number kind e =
    let by_test : (b : Bool) → cond b (Some (input.Limit Bytes limit)) (event_in limit (given + width line) lines) ≡ Some (input.Line number kind) → ⊥ = λ b. elim b
    as (λ v. cond v (Some (input.Limit Bytes limit)) (event_in limit (given + width line) lines) ≡ Some (input.Line number kind) → ⊥) [
      | true ↦ λ same. cc
      | false ↦ λ same. no_bad_line limit (given + width line) lines number kind same
    ] in
    by_test (nat_lt limit (given + width line)) e

-- an event of a report is that of the whole text, by its error
event_as : (limits : Limits) (job : RunJob) (g : Multigraph) (text : List ℕ) (given : ℕ) (verdict : Verdict) (behind : List ℕ) → IsBase limits job text g
    → event_for limits.bytes given verdict behind ≡ event_behind job limits g text
    → (error : InputError) → IsEventOf (event_for limits.bytes given verdict behind) error → IsEventOfCheck limits error job text
event_as limits job g text given verdict behind base same (input.Line number kind) event = absurd (no_bad_line limits.bytes given (lines_for verdict (lines behind)) number kind event)
event_as limits job g text given verdict behind base same (input.Limit which limit) event = inr (record { graph = g; base = base; behind = sym same ∙ event })
event_as limits job g text given verdict behind base same input.ReadFault event = tt
event_as limits job g text given verdict behind base same input.Memory event = tt

module _ {limits : Limits} {job : RunJob} {g : Multigraph} {header : Option ReadLine} {given : ℕ} {behind : Option (List ℕ)} {text : List ℕ}
    (part : IsPart limits job g header given behind text) where
  -- what holds of the bytes behind the header
  behind_has : (Q : List ℕ → Type 0) → IfSome behind Q → Q (behind_header text)
  behind_has Q holds = subst (λ (o : Option (List ℕ)). IfSome o Q) part.behind_is holds

  lines_are : read_report header (behind_header text) ≡ report_lines text
  lines_are = ap (λ (h : Option ReadLine). read_report h (behind_header text)) part.header_is

  given_before : given ≡ length text - length (behind_header text)
  given_before = let sum = part.given_is in omega arith

  module _ (there : absent_source job g ≡ None) where
    base : IsBase limits job text g
    base = record { accepted = part.accepted; graph_of = part.graph_of; source = there }

    module _ {after : Option (List ℕ)} {faults_before faults_after : ℕ} {steps_before steps_after : List (Option ℕ)} where
      -- the report was judged
      pub judged : {verdict : Verdict} → Judges limits job g header given behind after faults_before faults_after steps_before steps_after (Ok verdict)
          → IsJudged limits verdict job text
      judged {verdict} judges =
          let same : verdict_on job g text ≡ verdict =
          sym (behind_has (λ t. verdict ≡ job_verdict job g (read_report header t)) judges.judged ∙ ap (job_verdict job g) lines_are) in
          let met = behind_has (λ t. event_for limits.bytes given verdict t ≡ None) judges.within in
          record { graph = g; base = base; within = rw (same, ← given_before) met; judged = same }

      -- it is right, and that was written
      pub confirmed : {written now : Option (List ℕ)} → Judges limits job g header given behind after faults_before faults_after steps_before steps_after (Ok Confirmed)
          → now ≡ append_known written confirmed_text → IsConfirmed limits written now steps_before steps_after job text
      unfolding judged
      confirmed judges wrote =
          let found = judged judges in
          record {
            graph = g;
            base = base;
            within = found.within;
            judged = found.judged;
            appended = wrote;
            counted = subst (λ (lines : List ReadLine). FirstTakes steps_before steps_after (gathers_of job.program job.engine g lines)) lines_are
                (behind_has (λ t. FirstTakes steps_before steps_after (gathers_of job.program job.engine g (read_report header t))) (judges.counted refl));
          }

      -- a line of it was refused
      pub refused : (error : InputError) → Judges limits job g header given behind after faults_before faults_after steps_before steps_after (Err error)
          → IsEventOfCheck limits error job text
      refused error judges =
          event_as limits job g text given (job_verdict job g (read_report header (behind_header text))) (behind_header text) base
          (rw (lines_are, given_before) refl) error
          (behind_has (λ t. IsEventOf (event_for limits.bytes given (job_verdict job g (read_report header t)) t) error) judges.event)

-- a cutter that holds nothing has the whole text ahead
ahead_fresh : (cutter : Cutting) (left : Option (List ℕ)) → cutter.held ≡ [] → ahead cutter left ≡ left
ahead_fresh cutter None nothing = refl
ahead_fresh cutter (Some text) nothing = rw nothing refl

-- the header as it was handed over
header_as : (stop : Option TextLine) (bytes : Option (List ℕ)) (ended : Bool) → bytes ≡ bytes_of_stop stop → ended ≡ is_stop_ended stop
    → option_map (λ line. (line, ended)) bytes ≡ option_map read_line stop
header_as None bytes ended is_bytes is_ended = rw is_bytes refl
header_as (Some line) bytes ended is_bytes is_ended = rw (is_bytes, is_ended) refl

-- what the reading of a text up to its report tells of a fresh cutter's text
pub part_of : (limits : Limits) (job : RunJob) (g : Multigraph) (header : Option ReadLine) (given : ℕ) (behind bytes : Option (List ℕ)) (ended : Bool)
    (cutter : Cutting) (left : Option (List ℕ)) → cutter.held ≡ [] → cutter.given ≡ 0
    → IfSome (ahead cutter left) (λ text. IsGraphBefore job.format limits text g)
    → IfSome (ahead cutter left) (λ text. event_until job.format (Some report_mark) limits cutter.given text ≡ None)
    → IfSome (ahead cutter left) (λ text. bytes ≡ bytes_of_stop (header_of text))
    → IfSome (ahead cutter left) (λ text. ended ≡ is_stop_ended (header_of text))
    → IfSome (ahead cutter left) (λ text. behind ≡ Some (behind_header text))
    → IfSome (ahead cutter left) (λ text. given + length (behind_header text) ≡ cutter.given + length text)
    → header ≡ option_map (λ line. (line, ended)) bytes
    → IfSome left (IsPart limits job g header given behind)
part_of limits job g header given behind bytes ended cutter None nothing at graph accepted stop stop_ended behind_is given_is header_is = tt
part_of limits job g header given behind bytes ended cutter (Some text) nothing at graph accepted stop stop_ended behind_is given_is header_is =
    let whole : (Q : List ℕ → Type 0) → IfSome (ahead cutter (Some text)) Q → Q text =
    λ Q holds. subst (λ (o : Option (List ℕ)). IfSome o Q) (ahead_fresh cutter (Some text) nothing) holds in
    let sum = whole (λ t. given + length (behind_header t) ≡ cutter.given + length t) given_is in
    record {
      accepted = rw at at (whole (λ t. event_until job.format (Some report_mark) limits cutter.given t ≡ None) accepted);
      graph_of = whole (λ t. IsGraphBefore job.format limits t g) graph;
      header_is = header_is ∙ header_as (header_of text) bytes ended (whole (λ t. bytes ≡ bytes_of_stop (header_of t)) stop) (whole (λ t. ended ≡ is_stop_ended (header_of t)) stop_ended);
      behind_is = whole (λ t. behind ≡ Some (behind_header t)) behind_is;
      given_is = omega arith;
    }
