-- A report that is read line by line: what was read, what is expected, and the limit of bytes.
use Rattle.std.proofs.Common.{◌≡◌, ℕ, suc, ◌+◌, ◌-◌, ◌<◌, ◌≤◌, Bool, true, false, ◌==◌, ◌||◌, cond, List, [], ◌∷◌, ◌++◌, length, take, drop, map, refl, sym, ◌∙◌, ap, subst, arith, append_assoc, length-append}
use Rattle.std.specs.Prelude.{Option, Some, None, IfSome, OnSome, nat_lt}
use Rattle.std.proofs.lemmas.Bool.{false≢true}
use Rattle.std.proofs.lemmas.Bool.Decides.{nat_tests}
use Rattle.std.proofs.lemmas.List.{append-nil, take_all}
use Rattle.std.proofs.Math.Seq.{take-append-add}
use Rattle.pg_base.specs.Lines.{first_line, has_feed, later_lines, first_width, width_of}
use Rattle.pg_base.specs.Cutting.{IsFirstLine, width_given}
use Rattle.pg_base.specs.Shown.{shown}
use Rattle.pg_base.specs.declared.line_cutter.RawLine.{RawLine}
use Rattle.std.specs.Io.KnownBytes.{prepend_known}
use Rattle.std.proofs.lemmas.Option.{none-some, same_Some}
use Rattle.pg_graph.specs.Multigraph.{Multigraph}
use Rattle.pg_input.specs.Texts.{TextLine, text_line, lines, width}
use Rattle.pg_input.specs.declared.error.InputError.TheVariants.{Limit}
use Rattle.pg_input.specs.declared.error.Which.TheVariants.{Bytes}
use Rattle.pg_input.proofs.TextLemmas.{lines-first}
use Rattle.pg_law.specs.Configuration.{Configuration, is_quiet}
use Rattle.pg_law.specs.Journal.{replay}
use Rattle.pg_law.specs.Program.{Program}
use Rattle.pg_report.specs.Lines.{line_text}
use Rattle.pg_report.specs.Report.{counts_line}
use Rattle.pg_report.specs.declared.line.ReportLine.{ReportLine}
use Rattle.pg_report.specs.declared.line.ReportLine.TheVariants as line
use Rattle.pg_words.specs.declared.job.Engine.{Engine}
use Rattle.pg_words.specs.declared.job.Engine.TheVariants.{Sync, Serial, Virtual}
use Rattle.pg_words.specs.declared.job.ProgramName.{ProgramName}
use Rattle.pg_check.specs.Outcomes.{engine_name}
use Rattle.pg_check.specs.Reports.{ReadLine, read_line, read_report, has_text, tail_lines}
use Rattle.pg_check.specs.Verdicts.{Judge, ends, expects, judges, journal_in, verdict_by, gathers_by, lines_for, event_in, event_for}
use Rattle.pg_check.specs.Course.{last_of, lines_from, full, told_gathers, replays_from, behind_counts, expects_from, gathers_from, gathers_made, GoesOn, IsConfirmed, IsRejected, IsTaken}
use Rattle.pg_check.specs.declared.course.Course.{Course}
use Rattle.pg_check.specs.declared.place.Place.{Place}
use Rattle.pg_check.specs.declared.place.Place.TheVariants.{Counts, Journal, Tail}
use Rattle.pg_check.specs.declared.place.Tally.{Tally}
use Rattle.pg_check.specs.declared.verdict.Verdict.{Verdict}
use Rattle.pg_check.specs.declared.verdict.Verdict.TheVariants.{Confirmed, Rejected}

-- a verdict on lines from a number on rejects none before
abbrev IsFrom : ℕ → Verdict → Type 0
IsFrom number Confirmed = Unit {0}
IsFrom number (Rejected line) = number ≤ line

from_later : (number later : ℕ) (verdict : Verdict) → number ≤ later → IsFrom later verdict → IsFrom number verdict
from_later number later Confirmed before is = tt
from_later number later (Rejected line) before is = omega (arith, before, is)

from_cond : (b : Bool) (number : ℕ) (one other : Verdict) → IsFrom number one → IsFrom number other → IsFrom number (cond b one other)
from_cond true number one other is else_is = is
from_cond false number one other is else_is = else_is

ends_from : (number : ℕ) (lines : List ReadLine) → IsFrom number (ends number lines)
ends_from number [] = tt
ends_from number (line ∷ lines) = omega arith

expects_later : (expected : List ReportLine) (others : Judge) → ((number : ℕ) (lines : List ReadLine) → IsFrom number (others number lines))
    → (number : ℕ) (lines : List ReadLine) → IsFrom number (expects expected others number lines)
expects_later [] others later number lines = later number lines
expects_later (expected ∷ more) others later number [] = omega arith
expects_later (expected ∷ more) others later number (line ∷ lines) =
    from_cond (has_text (line_text expected) line) number (expects more others (number + 1) lines) (Rejected number)
    (from_later number (number + 1) (expects more others (number + 1) lines) (omega arith) (expects_later more others later (number + 1) lines))
    (omega arith)

-- two judges that say the same
expects_as : (expected : List ReportLine) (one other : Judge) → ((number : ℕ) (lines : List ReadLine) → one number lines ≡ other number lines)
    → (number : ℕ) (lines : List ReadLine) → expects expected one number lines ≡ expects expected other number lines
expects_as [] one other same number lines = same number lines
expects_as (expected ∷ more) one other same number [] = refl
expects_as (expected ∷ more) one other same number (line ∷ lines) =
    ap (λ (v : Verdict). cond (has_text (line_text expected) line) v (Rejected number)) (expects_as more one other same (number + 1) lines)

-- lines that were read, and so many more
take_on : (taken : List TextLine) (line : TextLine) (later : List TextLine) (n : ℕ) → length taken + 1 ≤ n
    → take n (taken ++ line ∷ later) ≡ taken ++ line ∷ take (n - length taken - 1) later
take_on taken line later n far =
    let more = n - length taken - 1 in
    let all : n ≡ length taken + suc more = omega (arith, far) in
    ap (λ (k : ℕ). take k (taken ++ line ∷ later)) all ∙ take-append-add taken (line ∷ later) (suc more)

-- an event of the bytes
passes : (limit given : ℕ) (line : TextLine) (later : List TextLine) → limit < given + width line
    → event_in limit given (line ∷ later) ≡ Some (Limit Bytes limit)
passes limit given line later far =
    let past : nat_lt limit (given + width line) ≡ true = grind (arith, nat_tests) in rw past refl

fits_on : (limit given : ℕ) (line : TextLine) (later : List TextLine) → given + width line ≤ limit
    → event_in limit given (line ∷ later) ≡ event_in limit (given + width line) later
fits_on limit given line later near =
    let within : nat_lt limit (given + width line) ≡ false = grind (arith, nat_tests) in rw within refl

module _ {Acc Carry : Type 0} (p : Program Acc Carry) (name : ProgramName) (g : Multigraph) where
  replays_later : (kept : Bool) (noted : List Bool) (s : Configuration) (tally : Tally) (number : ℕ) (lines : List ReadLine) → IsFrom number (replays_from p name g kept noted s tally number lines)
  replays_later kept noted s tally number lines =
      let more = journal_in p name g s tally.left lines in
      let now = replay p g s more in
      let expected = tail_lines name g now (last_of g now (tally.executions + length more) (told_gathers p g kept noted tally.gathers more)) in
      let later = number + length more in
      from_cond (is_quiet g now || (length more == tally.left)) number (expects expected ends later (drop (length more) lines)) (Rejected later)
      (from_later number later (expects expected ends later (drop (length more) lines)) (omega arith)
      (expects_later expected ends ends_from later (drop (length more) lines)))
      (omega arith)

  -- a course rejects no line that was read
  course_later : (engine : Engine) (kept : Bool) (c : Course) (place : Place) (number : ℕ) (lines : List ReadLine)
      → IsFrom number (expects_from p name g engine kept c place number lines)
  course_later engine kept c Counts number lines = expects_later (counts_line g ∷ []) (behind_counts p name g engine kept c) (behind engine) number lines
    where
      behind : (engine : Engine) (number : ℕ) (lines : List ReadLine) → IsFrom number (behind_counts p name g engine kept c number lines)
      behind (Sync limit) number lines = expects_later (tail_lines name g c.state c.last) ends ends_from number lines
      behind (Serial fuel) number lines = replays_later kept c.noted.items c.state (full fuel) number lines
      behind (Virtual fuel seed) number lines = replays_later kept c.noted.items c.state (full fuel) number lines
  course_later engine kept c (Journal tally) number lines = replays_later kept c.noted.items c.state tally number lines
  course_later engine kept c (Tail at) number lines = expects_later (lines_from name g c.state c.last at) ends ends_from number lines

  module _ (engine : Engine) (kept : Bool) (limit start : ℕ) (first : Option ReadLine) where
    -- what was read behind the header, and what the course makes of the rest
    pub record IsRest (c : Course) (number given : ℕ) (text rest : List ℕ) : Type 0 where
      pub taken : List TextLine
      pub split : lines text ≡ taken ++ lines rest
      pub count : length taken + 1 ≡ number
      pub fits : (more : List TextLine) → event_in limit start (taken ++ more) ≡ event_in limit given more
      pub verdict : verdict_by p name g engine kept (read_report first text)
          ≡ expects_from p name g engine kept c c.place (number + 1) (map read_line (lines rest))
      pub gathers : gathers_by p name g engine (read_report first text)
          ≡ gathers_from p name g engine c c.place (map read_line (lines rest))

    -- what is answered of the text
    pub record IsDone (verdict : Verdict) (text : List ℕ) : Type 0 where
      pub is : verdict ≡ verdict_by p name g engine kept (read_report first text)
      pub accepted : event_for limit start verdict text ≡ None

    pub begun : (c : Course) (header : ReadLine) (text : List ℕ) → first ≡ Some header → has_text (line_text (line.Head (engine_name engine) name)) header ≡ true
        → c.place ≡ Counts
        → ((number : ℕ) (lines : List ReadLine) → judges p name g engine kept number lines ≡ behind_counts p name g engine kept c number lines)
        → ((front : ReadLine) (lines : List ReadLine) → gathers_by p name g engine (front ∷ lines) ≡ gathers_from p name g engine c Counts lines)
        → IsRest c 1 start text text
    begun c header text there head place judge gathers = record {
      taken = [];
      split = refl;
      count = refl;
      fits = λ more. refl;
      verdict = ap (λ (f : Option ReadLine). verdict_by p name g engine kept (read_report f text)) there
          ∙ rw head (expects_as (counts_line g ∷ []) (judges p name g engine kept) (behind_counts p name g engine kept c) judge 2 (map read_line (lines text)))
          ∙ ap (λ (at : Place). expects_from p name g engine kept c at 2 (map read_line (lines text))) (sym place);
      gathers = ap (λ (f : Option ReadLine). gathers_by p name g engine (read_report f text)) there
          ∙ gathers header (map read_line (lines text))
          ∙ ap (λ (at : Place). gathers_from p name g engine c at (map read_line (lines text))) (sym place);
    }

    module _ (c : Course) (number given : ℕ) (text rest : List ℕ) (so_far : IsRest c number given text rest) where
      abbrev verdict_now : Verdict
      verdict_now = verdict_by p name g engine kept (read_report first text)

      -- a line that passes the limit, at the place of the next
      past : (v : Verdict) → IsFrom (number + 1) v → (line : TextLine) (later : List TextLine) → limit < given + width line
          → event_in limit start (lines_for v (so_far.taken ++ line ∷ later)) ≡ Some (Limit Bytes limit)
      past Confirmed from line later far = so_far.fits (line ∷ later) ∙ passes limit given line later far
      past (Rejected rejected) from line later far =
          let more = rejected - 1 - length so_far.taken - 1 in
          ap (event_in limit start) (take_on so_far.taken line later (rejected - 1) (omega (arith, from, so_far.count)))
          ∙ (so_far.fits (line ∷ take more later) ∙ passes limit given line (take more later) far)

      pub over : 0 < length rest → limit < given + first_width rest → event_for limit start verdict_now text ≡ Some (Limit Bytes limit)
      over some far =
          let next = text_line (first_line rest) (has_feed rest) (later_lines rest) in
          let from = subst (IsFrom (number + 1)) (sym so_far.verdict) (course_later engine kept c c.place (number + 1) (map read_line (lines rest))) in
          ap (λ (all : List TextLine). event_in limit start (lines_for verdict_now all)) (so_far.split ∙ ap (λ (l : List TextLine). so_far.taken ++ l) (lines-first rest some))
          ∙ past verdict_now from next (lines (later_lines rest)) far

      -- the input is over
      module _ (nothing : rest ≡ []) where
        all_taken : lines text ≡ so_far.taken
        all_taken = so_far.split ∙ (ap (λ (bytes : List ℕ). so_far.taken ++ lines bytes) nothing ∙ append-nil so_far.taken)

        no_event : event_in limit start so_far.taken ≡ None
        no_event = ap (event_in limit start) (sym (append-nil so_far.taken)) ∙ so_far.fits []

        verdict_is : verdict_now ≡ expects_from p name g engine kept c c.place (number + 1) []
        verdict_is = so_far.verdict ∙ ap (λ (bytes : List ℕ). expects_from p name g engine kept c c.place (number + 1) (map read_line (lines bytes))) nothing

        pub confirmed : (steps_old steps_new : ℕ) → IsConfirmed p name g engine kept c steps_old steps_new None (number + 1) → IsDone Confirmed text
        confirmed steps_old steps_new is = record {
          is = sym (verdict_is ∙ is.verdict);
          accepted = ap (event_in limit start) all_taken ∙ no_event;
        }

        pub gathered : (steps_old steps_new : ℕ) → IsConfirmed p name g engine kept c steps_old steps_new None (number + 1)
            → gathers_by p name g engine (read_report first text) ≡ gathers_made p name g engine c c.place
        gathered steps_old steps_new is =
            so_far.gathers ∙ (ap (λ (bytes : List ℕ). gathers_from p name g engine c c.place (map read_line (lines bytes))) nothing ∙ is.gathers)

        pub missing : (steps_old steps_new rejected : ℕ) → IsRejected p name g engine kept c steps_old steps_new None (number + 1) rejected → IsDone (Rejected rejected) text
        missing steps_old steps_new rejected is = record {
          is = ap (λ (n : ℕ). Rejected n) is.here ∙ sym (verdict_is ∙ is.verdict []);
          accepted = ap (λ (all : List TextLine). event_in limit start (take (rejected - 1) all)) all_taken
              ∙ (ap (event_in limit start) (take_all (rejected - 1) so_far.taken (omega (arith, is.here, so_far.count))) ∙ no_event);
        }

      -- the next line was read
      module _ (line : List ℕ) (ended : Bool) (cut : IsFirstLine rest (Some (line, ended))) (fit : given + width_of (length line) ended ≤ limit) where
        abbrev next_line : TextLine
        next_line = text_line line ended (later_lines rest)

        lines_are : lines rest ≡ next_line ∷ lines (later_lines rest)
        lines_are = rw (cut.1, cut.2) (lines-first rest cut.0)

        read_are : map read_line (lines rest) ≡ (line, ended) ∷ map read_line (lines (later_lines rest))
        read_are = ap (map read_line) lines_are

        split_on : lines text ≡ so_far.taken ++ next_line ∷ lines (later_lines rest)
        split_on = so_far.split ∙ ap (λ (l : List TextLine). so_far.taken ++ l) lines_are

        pub wrong : (steps_old steps_new rejected : ℕ) → IsRejected p name g engine kept c steps_old steps_new (Some (line, ended)) (number + 1) rejected → IsDone (Rejected rejected) text
        wrong steps_old steps_new rejected is =
            let none_more : take (rejected - 1 - length so_far.taken - 1) (lines (later_lines rest)) ≡ [] =
            ap (λ (n : ℕ). take n (lines (later_lines rest))) (let zero_is : rejected - 1 - length so_far.taken - 1 ≡ 0 = omega (arith, is.here, so_far.count) in zero_is) in
            record {
              is = ap (λ (n : ℕ). Rejected n) is.here
                  ∙ sym (so_far.verdict ∙ (ap (expects_from p name g engine kept c c.place (number + 1)) read_are ∙ is.verdict (map read_line (lines (later_lines rest)))));
              accepted = ap (λ (all : List TextLine). event_in limit start (take (rejected - 1) all)) split_on
                  ∙ (ap (event_in limit start) (take_on so_far.taken next_line (lines (later_lines rest)) (rejected - 1) (omega (arith, is.here, so_far.count))
                  ∙ ap (λ (l : List TextLine). so_far.taken ++ next_line ∷ l) none_more)
                  ∙ (so_far.fits (next_line ∷ []) ∙ fits_on limit given next_line [] fit));
            }

        pub goes_on : (new : Course) (steps_old steps_new : ℕ) → GoesOn p name g engine kept c new steps_old steps_new (Some (line, ended)) (number + 1)
            → IsRest new (number + 1) (given + width_of (length line) ended) text (later_lines rest)
        goes_on new steps_old steps_new on = record {
          taken = so_far.taken ++ next_line ∷ [];
          split = split_on ∙ sym (append_assoc so_far.taken (next_line ∷ []) (lines (later_lines rest)));
          count = omega (arith, so_far.count, length-append so_far.taken (next_line ∷ []));
          fits = λ more. (ap (event_in limit start) (append_assoc so_far.taken (next_line ∷ []) more)
              ∙ (so_far.fits (next_line ∷ more) ∙ fits_on limit given next_line more fit));
          verdict = so_far.verdict ∙ (ap (expects_from p name g engine kept c c.place (number + 1)) read_are ∙ on.verdict (map read_line (lines (later_lines rest))));
          gathers = so_far.gathers ∙ (ap (gathers_from p name g engine c c.place) read_are ∙ on.gathers (map read_line (lines (later_lines rest))));
        }

        pub no_confirmed : (steps_old steps_new : ℕ) → IsConfirmed p name g engine kept c steps_old steps_new (Some (line, ended)) (number + 1) → ⊥
        no_confirmed steps_old steps_new is = none-some (line, ended) (sym is.none)

      -- what the next line, or the end, decides
      pub done : (raw : Option RawLine) (new : Course) (steps_old steps_new : ℕ) (verdict : Verdict)
          → IsFirstLine rest (shown raw) → OnSome raw ((0 < width_given (shown raw)) × (given + width_given (shown raw) ≤ limit))
          → IsTaken p name g engine kept c new steps_old steps_new (shown raw) (number + 1) (Some verdict) → IsDone verdict text
      done None new steps_old steps_new Confirmed cut fit is = confirmed cut steps_old steps_new is
      done None new steps_old steps_new (Rejected rejected) cut fit is = missing cut steps_old steps_new rejected is
      done (Some raw) new steps_old steps_new Confirmed cut fit is = absurd (no_confirmed raw.bytes.now raw.ended cut fit.1 steps_old steps_new is)
      done (Some raw) new steps_old steps_new (Rejected rejected) cut fit is = wrong raw.bytes.now raw.ended cut fit.1 steps_old steps_new rejected is

      -- a confirmed report is over
      pub over_with : (raw : Option RawLine) (new : Course) (steps_old steps_new : ℕ) (verdict : Verdict)
          → IsFirstLine rest (shown raw) → OnSome raw ((0 < width_given (shown raw)) × (given + width_given (shown raw) ≤ limit))
          → IsTaken p name g engine kept c new steps_old steps_new (shown raw) (number + 1) (Some verdict) → verdict ≡ Confirmed
          → (rest ≡ []) × (gathers_by p name g engine (read_report first text) ≡ gathers_made p name g engine c c.place)
      over_with None new steps_old steps_new Confirmed cut fit is same = (cut, gathered cut steps_old steps_new is)
      over_with None new steps_old steps_new (Rejected rejected) cut fit is same = absurd (cc)
      over_with (Some raw) new steps_old steps_new Confirmed cut fit is same = absurd (no_confirmed raw.bytes.now raw.ended cut fit.1 steps_old steps_new is)
      over_with (Some raw) new steps_old steps_new (Rejected rejected) cut fit is same = absurd (cc)

      pub goes_on_with : (raw : Option RawLine) (new : Course) (steps_old steps_new : ℕ)
          → IsFirstLine rest (shown raw) → OnSome raw ((0 < width_given (shown raw)) × (given + width_given (shown raw) ≤ limit))
          → GoesOn p name g engine kept c new steps_old steps_new (shown raw) (number + 1)
          → IsRest new (number + 1) (given + width_given (shown raw)) text (later_lines rest)
      goes_on_with None new steps_old steps_new cut fit on = absurd (false≢true on.there)
      goes_on_with (Some raw) new steps_old steps_new cut fit on = goes_on raw.bytes.now raw.ended cut fit.1 new steps_old steps_new on

-- a verdict comes after some steps
pub steps_later : {Acc Carry : Type 0} (p : Program Acc Carry) (name : ProgramName) (g : Multigraph) (engine : Engine) (kept : Bool) (old new : Course) (steps_old steps_new number : ℕ)
    (line : Option ReadLine) (verdict : Verdict) → IsTaken p name g engine kept old new steps_old steps_new line number (Some verdict) → steps_old ≤ steps_new
steps_later p name g engine kept old new steps_old steps_new number line Confirmed taken = let same = taken.steps in omega (arith, same)
steps_later p name g engine kept old new steps_old steps_new number line (Rejected rejected) taken = taken.steps

pub steps_same : {Acc Carry : Type 0} (p : Program Acc Carry) (name : ProgramName) (g : Multigraph) (engine : Engine) (kept : Bool) (old new : Course) (steps_old steps_new number : ℕ)
    (line : Option ReadLine) (verdict : Verdict) → IsTaken p name g engine kept old new steps_old steps_new line number (Some verdict) → verdict ≡ Confirmed → steps_new ≡ steps_old
steps_same p name g engine kept old new steps_old steps_new number line Confirmed taken same = taken.steps
steps_same p name g engine kept old new steps_old steps_new number line (Rejected rejected) taken same = absurd (cc)

-- two facts of what is told
pub both_some : (P Q : List ℕ → Type 0) (left : Option (List ℕ)) → IfSome left P → IfSome left Q → IfSome left (λ text. P text × Q text)
both_some P Q None p q = tt
both_some P Q (Some text) p q = (p, q)

-- nothing is left in a source where nothing comes
nothing_behind : (held rest : List ℕ) → held ++ rest ≡ [] → rest ≡ []
nothing_behind [] rest none = none
nothing_behind (byte ∷ held) rest none = absurd (cc)

pub nothing_left : (held : List ℕ) (left : Option (List ℕ)) → prepend_known held left ≡ Some [] → left ≡ Some []
nothing_left held None none = absurd (cc)
nothing_left held (Some rest) none = ap (λ (bytes : List ℕ). Some bytes) (nothing_behind held rest (same_Some (held ++ rest) [] none))
