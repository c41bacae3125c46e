-- A check confirms the reports of what a run may leave, and no others.
use Rattle.std.proofs.Common.{◌≡◌, ℕ, suc, ◌+◌, ◌⊎◌, inl, inr, Bool, true, false, ◌==◌, ◌||◌, cond, List, [], ◌∷◌, ◌++◌, length, drop, map, refl, sym, ◌∙◌, ap, arith}
use Rattle.std.specs.Prelude.{IsTrue}
use Rattle.std.proofs.lemmas.Bool.{cases_Bool, eqb-true, eq-eqb}
use Rattle.std.proofs.lemmas.List.{append-nil, map-append, drop_at, length-map}
use Rattle.pg_graph.specs.Multigraph.{Multigraph, IsMultigraph}
use Rattle.pg_input.specs.Texts.{lines}
use Rattle.pg_law.specs.declared.values.JournalEntry.{JournalEntry}
use Rattle.pg_law.specs.Configuration.{Configuration, start_state, is_quiet}
use Rattle.pg_law.specs.Journal.{replay, IsLegal, FitsFuel}
use Rattle.pg_law.specs.Program.{Program}
use Rattle.pg_report.specs.Lines.{line_text}
use Rattle.pg_report.specs.declared.line.ReportLine.{ReportLine}
use Rattle.pg_words.specs.Programs.{is_wide}
use Rattle.pg_words.specs.declared.job.Engine.{Engine}
use Rattle.pg_words.specs.declared.job.Engine.TheVariants.{Sync, Serial, Virtual}
use Rattle.pg_words.specs.declared.job.ProgramName.{ProgramName}
use Rattle.pg_check.specs.Outcomes.{Outcome, left_by, engine_name}
use Rattle.pg_check.specs.Reports.{ReadLine, read_line, has_text, entry_row, head_lines, tail_lines}
use Rattle.pg_check.specs.Verdicts.{Judge, ends, expects, judges, journal_in, completes, verdict_by}
use Rattle.pg_check.specs.Right.{report_lines, IsOutcome, IsRightText, ConfirmsRight, ConfirmedIsRight}
use Rattle.pg_check.specs.declared.verdict.Verdict.{Verdict}
use Rattle.pg_check.specs.declared.verdict.Verdict.TheVariants.{Confirmed, Rejected}
use Rattle.pg_check.proofs.Cut.{ended_line, bytes_of, lines_again, cut_again, bytes_ended, text_is_lines}
use Rattle.pg_check.proofs.Journals.{own_text, line_is, rows, takes, rows_taken}

-- lines that are expected and stand there
stand : (expected : List ReportLine) (others : Judge) (number : ℕ) (rest : List ReadLine)
    → expects expected others number (map ended_line expected ++ rest) ≡ others (number + length expected) rest
stand [] others number rest = ap (λ (n : ℕ). others n rest) (let same : number ≡ number + 0 = omega arith in same)
stand (line ∷ more) others number rest =
    rw (own_text (line_text line)) (stand more others (number + 1) rest)
    ∙ ap (λ (n : ℕ). others n rest) (let same : number + 1 + length more ≡ number + suc (length more) = omega arith in same)

stand_all : (expected : List ReportLine) (number : ℕ) → expects expected ends number (map ended_line expected) ≡ Confirmed
stand_all expected number =
    ap (expects expected ends number) (sym (append-nil (map ended_line expected))) ∙ stand expected ends number []

-- lines that were confirmed
pub record Stood (expected : List ReportLine) (others : Judge) (number : ℕ) (lines : List ReadLine) : Type 0 where
  pub rest : List ReadLine
  pub split : lines ≡ map ended_line expected ++ rest
  pub confirmed : others (number + length expected) rest ≡ Confirmed

not_rejected : {A : Type 0} (number : ℕ) → Rejected number ≡ Confirmed → A
not_rejected number is = absurd (cc)

stood : (expected : List ReportLine) (others : Judge) (number : ℕ) (lines : List ReadLine)
    → expects expected others number lines ≡ Confirmed → Stood expected others number lines
stood [] others number lines confirmed = record {
  rest = lines;
  split = refl;
  confirmed = ap (λ (n : ℕ). others n lines) (let same : number + 0 ≡ number = omega arith in same) ∙ confirmed;
}
stood (expected ∷ more) others number [] confirmed = not_rejected number confirmed
stood (expected ∷ more) others number (line ∷ lines) confirmed =
    here (λ on. stood more others (number + 1) lines on) (cases_Bool (has_text (line_text expected) line)) confirmed
  where
    here : (expects more others (number + 1) lines ≡ Confirmed → Stood more others (number + 1) lines)
        → ((has_text (line_text expected) line ≡ true) ⊎ (has_text (line_text expected) line ≡ false))
        → expects (expected ∷ more) others number (line ∷ lines) ≡ Confirmed → Stood (expected ∷ more) others number (line ∷ lines)
    here later (inl has) confirmed =
        let rest = later (rw has at confirmed) in
        record {
          rest = rest.rest;
          split = ap (λ (first : ReadLine). first ∷ lines) (line_is (line_text expected) line has)
              ∙ ap (λ (behind : List ReadLine). ended_line expected ∷ behind) rest.split;
          confirmed = ap (λ (n : ℕ). others n rest.rest) (let same : number + suc (length more) ≡ number + 1 + length more = omega arith in same) ∙ rest.confirmed;
        }
    here later (inr not) confirmed = not_rejected number (rw not at confirmed)

ended_all : (number : ℕ) (lines : List ReadLine) → ends number lines ≡ Confirmed → lines ≡ []
ended_all number [] confirmed = refl
ended_all number (line ∷ lines) confirmed = not_rejected number confirmed

-- a test that was passed
passed : (b : Bool) (number : ℕ) (verdict : Verdict) → cond b verdict (Rejected number) ≡ Confirmed → (b ≡ true) × (verdict ≡ Confirmed)
passed true number verdict confirmed = (refl, confirmed)
passed false number verdict confirmed = not_rejected number confirmed

either_is : (quiet full : Bool) → (quiet || full) ≡ true → (quiet ≡ true) ⊎ (full ≡ true)
either_is true full is = inl refl
either_is false full is = inr is

or_true : (quiet full : Bool) → ((quiet ≡ true) ⊎ (full ≡ true)) → (quiet || full) ≡ true
or_true quiet full (inl is) = rw is refl
or_true true full (inr is) = refl
or_true false full (inr is) = is

module _ {Acc Carry : Type 0} (p : Program Acc Carry) (name : ProgramName) (g : Multigraph) (kept : Bool) where
  abbrev start : Configuration
  start = start_state p g

  abbrev tail_of : Outcome → List ReportLine
  tail_of outcome = tail_lines name g outcome.state outcome.last

  length_rows : (journal : List JournalEntry) → length (rows p name g journal) ≡ length journal
  length_rows journal =
      length-map (map (entry_row (is_wide name) g) journal) ended_line ∙ length-map journal (entry_row (is_wide name) g)

  -- the lines of a report, part by part
  parts : (engine : Engine) (outcome : Outcome) → map ended_line (report_lines name engine g outcome)
      ≡ map ended_line (head_lines (engine_name engine) name g) ++ (rows p name g outcome.journal ++ map ended_line (tail_of outcome))
  parts engine outcome =
      map-append ended_line (head_lines (engine_name engine) name g) (map (entry_row (is_wide name) g) outcome.journal ++ tail_of outcome)
      ∙ ap (λ (rest : List ReadLine). map ended_line (head_lines (engine_name engine) name g) ++ rest)
      (map-append ended_line (map (entry_row (is_wide name) g) outcome.journal) (tail_of outcome))

  -- a legal journal that fits the fuel is confirmed
  replayed_right : (graph : IsMultigraph g) (fuel number : ℕ) (journal : List JournalEntry) → IsLegal p g start journal → FitsFuel p g start journal fuel
      → judges p name g (Serial fuel) kept number (rows p name g journal ++ map ended_line (tail_of (left_by p g (Serial fuel) kept journal))) ≡ Confirmed
  replayed_right graph fuel number journal legal fits =
      let outcome = left_by p g (Serial fuel) kept journal in
      let tail = map ended_line (tail_of outcome) in
      let all = rows p name g journal ++ tail in
      let found = rows_taken p name g graph journal start fuel tail legal fits.within fits.complete in
      let Replay : List JournalEntry → Verdict = λ j. completes p name g fuel (left_by p g (Serial fuel) kept j) (number + length j) (drop (length j) all) in
      ap Replay found
      ∙ (rw (or_true (is_quiet g outcome.state) (length journal == fuel) (over fits.complete)) refl
      ∙ (ap (expects (tail_of outcome) ends (number + length journal)) (drop_at (rows p name g journal) tail (length journal) (length_rows journal))
      ∙ stand_all (tail_of outcome) (number + length journal)))
    where
      over : (IsTrue (is_quiet g (replay p g start journal)) ⊎ (length journal ≡ fuel)) → (is_quiet g (replay p g start journal) ≡ true) ⊎ ((length journal == fuel) ≡ true)
      over (inl quiet) = inl quiet
      over (inr full) = inr (eq-eqb (length journal) fuel full)

  -- what a run may leave is confirmed behind its counts
  behind_right : (graph : IsMultigraph g) (engine : Engine) (number : ℕ) (outcome : Outcome) → IsOutcome p g engine kept outcome
      → judges p name g engine kept number (rows p name g outcome.journal ++ map ended_line (tail_of outcome)) ≡ Confirmed
  behind_right graph (Sync limit) number outcome left =
      let run = left_by p g (Sync limit) kept [] in
      ap (λ (o : Outcome). judges p name g (Sync limit) kept number (rows p name g o.journal ++ map ended_line (tail_of o))) left
      ∙ stand_all (tail_of run) number
  behind_right graph (Serial fuel) number outcome left =
      ap (λ (o : Outcome). judges p name g (Serial fuel) kept number (rows p name g o.journal ++ map ended_line (tail_of o))) left.outcome_is
      ∙ replayed_right graph fuel number left.journal left.legal left.fits
  behind_right graph (Virtual fuel seed) number outcome left =
      ap (λ (o : Outcome). judges p name g (Virtual fuel seed) kept number (rows p name g o.journal ++ map ended_line (tail_of o))) left.outcome_is
      ∙ replayed_right graph fuel number left.journal left.legal left.fits

  lines_right : (graph : IsMultigraph g) (engine : Engine) (outcome : Outcome) → IsOutcome p g engine kept outcome
      → verdict_by p name g engine kept (map ended_line (report_lines name engine g outcome)) ≡ Confirmed
  lines_right graph engine outcome left =
      let head = head_lines (engine_name engine) name g in
      let behind = rows p name g outcome.journal ++ map ended_line (tail_of outcome) in
      ap (expects head (judges p name g engine kept) 1) (parts engine outcome)
      ∙ (stand head (judges p name g engine kept) 1 behind ∙ behind_right graph engine (1 + length head) outcome left)

  -- what was confirmed behind the counts
  pub record Left (engine : Engine) (lines : List ReadLine) : Type 0 where
    pub outcome : Outcome
    pub left : IsOutcome p g engine kept outcome
    pub lines_are : lines ≡ rows p name g outcome.journal ++ map ended_line (tail_of outcome)

  tail_alone : (expected : List ReportLine) (number : ℕ) (lines : List ReadLine) → expects expected ends number lines ≡ Confirmed → lines ≡ map ended_line expected
  tail_alone expected number lines confirmed =
      let all = stood expected ends number lines confirmed in
      all.split ∙ (ap (λ (rest : List ReadLine). map ended_line expected ++ rest) (ended_all (number + length expected) all.rest all.confirmed)
      ∙ append-nil (map ended_line expected))

  -- of executions, a legal journal that fits the fuel
  replayed_left : (fuel number : ℕ) (lines : List ReadLine) → judges p name g (Serial fuel) kept number lines ≡ Confirmed → Left (Serial fuel) lines
  replayed_left fuel number lines confirmed =
      let journal = journal_in p name g start fuel lines in
      let outcome = left_by p g (Serial fuel) kept journal in
      let all = takes p name g start fuel lines in
      let is = passed (is_quiet g outcome.state || (length journal == fuel)) (number + length journal)
      (expects (tail_of outcome) ends (number + length journal) (drop (length journal) lines)) confirmed in
      record {
        outcome = outcome;
        left = record {
          journal = journal;
          legal = all.legal;
          fits = record { within = all.within; complete = over (either_is (is_quiet g outcome.state) (length journal == fuel) is.0) };
          outcome_is = refl;
        };
        lines_are = all.split
            ∙ ap (λ (rest : List ReadLine). rows p name g journal ++ rest) (tail_alone (tail_of outcome) (number + length journal) (drop (length journal) lines) is.1);
      }
    where
      over : ((is_quiet g (replay p g start (journal_in p name g start fuel lines)) ≡ true) ⊎ ((length (journal_in p name g start fuel lines) == fuel) ≡ true))
          → IsTrue (is_quiet g (replay p g start (journal_in p name g start fuel lines))) ⊎ (length (journal_in p name g start fuel lines) ≡ fuel)
      over (inl quiet) = inl quiet
      over (inr full) = inr (eqb-true (length (journal_in p name g start fuel lines)) fuel full)

  behind_left : (engine : Engine) (number : ℕ) (lines : List ReadLine) → judges p name g engine kept number lines ≡ Confirmed → Left engine lines
  behind_left (Sync limit) number lines confirmed =
      let run = left_by p g (Sync limit) kept [] in
      record { outcome = run; left = refl; lines_are = tail_alone (tail_of run) number lines confirmed }
  behind_left (Serial fuel) number lines confirmed = replayed_left fuel number lines confirmed
  behind_left (Virtual fuel seed) number lines confirmed =
      let replayed = replayed_left fuel number lines confirmed in
      let left = replayed.left in
      record {
        outcome = replayed.outcome;
        left = record { journal = left.journal; legal = left.legal; fits = left.fits; outcome_is = left.outcome_is };
        lines_are = replayed.lines_are;
      }

  text_left : (engine : Engine) (text : List ℕ) → verdict_by p name g engine kept (map read_line (lines text)) ≡ Confirmed → IsRightText p name g engine kept text
  text_left engine text confirmed =
      let head = head_lines (engine_name engine) name g in
      let front = stood head (judges p name g engine kept) 1 (map read_line (lines text)) confirmed in
      let behind = behind_left engine (1 + length head) front.rest front.confirmed in
      let all = report_lines name engine g behind.outcome in
      let read_are : map read_line (lines text) ≡ map ended_line all =
      front.split ∙ (ap (λ (rest : List ReadLine). map ended_line head ++ rest) behind.lines_are ∙ sym (parts engine behind.outcome)) in
      record {
        outcome = behind.outcome;
        left = behind.left;
        text_is = sym (lines_again text) ∙ (ap bytes_of read_are ∙ (bytes_ended all ∙ text_is_lines name engine g behind.outcome));
      }

pub confirms_right : {Acc Carry : Type 0} (p : Program Acc Carry) → ConfirmsRight p
confirms_right p name engine kept g outcome graph left fit =
    let all = report_lines name engine g outcome in
    ap (λ (text : List ℕ). verdict_by p name g engine kept (map read_line (lines text))) (sym (text_is_lines name engine g outcome))
    ∙ (ap (verdict_by p name g engine kept) (cut_again all fit) ∙ lines_right p name g kept graph engine outcome left)

pub confirmed_is_right : {Acc Carry : Type 0} (p : Program Acc Carry) → ConfirmedIsRight p
confirmed_is_right p name engine kept g text confirmed = text_left p name g kept engine text confirmed
