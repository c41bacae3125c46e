-- What a course expects, line by line.
use Rattle.std.proofs.Common.{◌≡◌, ℕ, zero, suc, ◌+◌, ◌-◌, ◌<◌, ◌≤◌, Bool, true, false, ◌==◌, ◌||◌, cond, List, [], ◌∷◌, length, drop, get_or, refl, sym, subst, ◌∙◌, ap, arith, zero-add, add-zero}
use Rattle.std.specs.Prelude.{Option, Some, None, IsSome, filter, sum_by}
use Rattle.std.specs.List.{range_with_len}
use Rattle.std.proofs.lemmas.Bool.{false≢true}
use Rattle.std.proofs.lemmas.Bool.Decides.{nat_tests}
use Rattle.std.proofs.lemmas.List.Elements.{filter_agree}
use Rattle.std.proofs.lemmas.List.Sums.{sum_by-append}
use Rattle.pg_graph.specs.Multigraph.{Multigraph, vertices}
use Rattle.pg_law.specs.declared.values.JournalEntry.{JournalEntry}
use Rattle.pg_law.specs.Configuration.{Configuration, start_state, is_quiet, IsFit}
use Rattle.pg_law.specs.Journal.{replay}
use Rattle.pg_law.specs.Rounds.{rounds, end_of}
use Rattle.pg_law.specs.declared.values.End.{End}
use Rattle.pg_law.specs.Program.{Program}
use Rattle.pg_law.specs.Round.{execution}
use Rattle.pg_report.specs.Lines.{line_text}
use Rattle.pg_report.specs.Report.{counts_line}
use Rattle.pg_report.specs.declared.line.LastLine.{LastLine}
use Rattle.pg_report.specs.declared.line.ReportLine.{ReportLine}
use Rattle.pg_rounds.specs.Executed.{executes, executed}
use Rattle.pg_serial.specs.Distinct.{has_entry, executed_in}
use Rattle.pg_serial.specs.Journals.{gathers_over, gather_degree}
use Rattle.pg_serial.specs.Serial.{entry_of}
use Rattle.pg_serial.proofs.Journals.{replay_none}
use Rattle.pg_words.specs.declared.job.Engine.{Engine}
use Rattle.pg_words.specs.declared.job.Engine.TheVariants.{Sync, Serial, Virtual}
use Rattle.pg_words.specs.declared.job.ProgramName.{ProgramName}
use Rattle.pg_check.specs.Outcomes.{distinct_by, left_by}
use Rattle.pg_check.specs.Reports.{ReadLine, tail_lines}
use Rattle.pg_check.specs.Verdicts.{Judge, ends, expects, journal_in, replays}
use Rattle.pg_check.specs.Course.{last_of, values_from, lines_from, IsTailPlace, IsTally, at_place, full, with_entry, with_line, stands, AreNoted, told_gathers}
use Rattle.pg_check.specs.Course.{replays_from, behind_counts, expects_from, gathers_behind, gathers_from, gathers_made, IsPlace, IsCourse, IsEntry, IsWrongEntry, GoesOn, IsRejected, IsTaken}
use Rattle.pg_check.specs.declared.course.Course.{Course}
use Rattle.pg_check.specs.declared.place.Place.{Place}
use Rattle.pg_check.specs.declared.place.Place.TheVariants.{Counts, Journal, Tail}
use Rattle.pg_check.specs.declared.place.Tally.{Tally}
use Rattle.pg_check.specs.declared.tail.TailPlace.{TailPlace}
use Rattle.pg_check.specs.declared.verdict.Verdict.{Verdict}
use Rattle.pg_check.specs.declared.verdict.Verdict.TheVariants.{Confirmed, Rejected}

-- the expected line stands there, or another or none
pub stood : (text : List ℕ) (line : Option ReadLine) → stands text line ≡ true → IsSome line
stood text None is = absurd (false≢true is)
stood text (Some line) is = refl

pub stand_on : (expected : ReportLine) (more : List ReportLine) (others : Judge) (number : ℕ) (line : Option ReadLine) (lines : List ReadLine)
    → stands (line_text expected) line ≡ true
    → expects (expected ∷ more) others number (with_line line lines) ≡ expects more others (number + 1) lines
stand_on expected more others number None lines is = absurd (false≢true is)
stand_on expected more others number (Some line) lines is = rw is refl

-- two tests that agree below a number pass the same
agree_below : (q r : ℕ → Bool) (a n : ℕ) → ((v : ℕ) → v < a + n → q v ≡ r v) → filter q (range_with_len a n) ≡ filter r (range_with_len a n)
agree_below q r a zero same = refl
agree_below q r a (suc n) same =
    rw (same a (omega arith)) (ap (λ vs. cond (r a) (a ∷ vs) vs) (agree_below q r (a + 1) n (λ v below. same v (omega (arith, below)))))

-- marks that agree at the vertices of a graph tell the same
pub marks_agree : {Acc Carry : Type 0} (p : Program Acc Carry) (g : Multigraph) (q r : ℕ → Bool) → ((v : ℕ) → v < length g.ids → q v ≡ r v)
    → sum_by (gather_degree p g) (filter q (vertices g)) ≡ sum_by (gather_degree p g) (filter r (vertices g))
marks_agree p g q r same = ap (sum_by (gather_degree p g)) (agree_below q r 0 (length g.ids) (λ v below. same v (omega (arith, below))))

module _ {Acc Carry : Type 0} (p : Program Acc Carry) (g : Multigraph) where
  gathers_more : (entry : JournalEntry) (more : List JournalEntry) → gathers_over p g (entry ∷ more) ≡ gather_degree p g entry.vertex + gathers_over p g more
  gathers_more entry more =
      sum_by-append (λ (entry : JournalEntry). gather_degree p g entry.vertex) (entry ∷ []) more ∙ omega arith

  or_none : (b : Bool) → (b || false) ≡ b
  or_none true = refl
  or_none false = refl

  apart : (a b c : Bool) → (a || (b || c)) ≡ ((a || b) || c)
  apart true b c = refl
  apart false b c = refl

  -- no entry follows
  pub told_none : (kept : Bool) (noted : List Bool) (gathers : ℕ)
      → told_gathers p g kept noted gathers [] ≡ cond kept (sum_by (gather_degree p g) (filter (λ v. get_or noted v false) (vertices g))) gathers
  told_none true noted gathers = ap (sum_by (gather_degree p g)) (filter_agree (λ v. get_or noted v false || false) (λ v. get_or noted v false) (λ v. or_none (get_or noted v false)) (vertices g))
  told_none false noted gathers = add-zero gathers

  -- an entry follows, whose vertex is noted
  pub told_more : (kept : Bool) (old new : List Bool) (gathers own : ℕ) (entry : JournalEntry) (more : List JournalEntry) → AreNoted g kept old new entry.vertex
      → own ≡ gather_degree p g entry.vertex → told_gathers p g kept old gathers (entry ∷ more) ≡ told_gathers p g kept new (gathers + own) more
  told_more true old new gathers own entry more noted degree =
      marks_agree p g (λ v. get_or old v false || ((entry.vertex == v) || has_entry more v)) (λ v. get_or new v false || has_entry more v)
      (λ v inside. apart (get_or old v false) (entry.vertex == v) (has_entry more v) ∙ ap (λ b. b || has_entry more v) (sym (noted refl v inside)))
  told_more false old new gathers own entry more noted degree = omega (arith, gathers_more entry more, degree)

  -- nothing was noted before a journal
  pub told_all : (kept : Bool) (noted : List Bool) (journal : List JournalEntry) → ((v : ℕ) → get_or noted v false ≡ false)
      → cond kept (sum_by (gather_degree p g) (executed_in g journal)) (gathers_over p g journal) ≡ told_gathers p g kept noted 0 journal
  told_all true noted journal blank = ap (sum_by (gather_degree p g))
      (filter_agree (has_entry journal) (λ v. get_or noted v false || has_entry journal v) (λ v. ap (λ b. b || has_entry journal v) (sym (blank v))) (vertices g))
  told_all false noted journal blank = sym (zero-add (gathers_over p g journal))

  -- the vertices that rounds execute were noted
  pub told_rounds : (kept : Bool) (noted : List Bool) (s : Configuration) (limit gathers : ℕ)
      → (kept ≡ true → (v : ℕ) → v < length g.ids → get_or noted v false ≡ executes p g s limit v)
      → told_gathers p g kept noted gathers [] ≡ cond kept (sum_by (gather_degree p g) (executed p g s limit)) gathers
  told_rounds true noted s limit gathers marked = told_none true noted gathers ∙ marks_agree p g (λ v. get_or noted v false) (executes p g s limit) (marked refl)
  told_rounds false noted s limit gathers marked = told_none false noted gathers

  -- the last line of rounds that were made
  pub last_told : (kept : Bool) (limit : ℕ) (s state : Configuration) (end : End) (made executions gathers told : ℕ) → s ≡ start_state p g
      → state ≡ (rounds p g s limit).state → end ≡ end_of g state → made ≡ (rounds p g s limit).rounds → executions ≡ (rounds p g s limit).executions
      → gathers ≡ (rounds p g s limit).gathers → told ≡ cond kept (distinct_by p g (Sync limit) []) gathers
      → record { end = end; rounds = Some made; executions = executions; gathers = told } ≡ (left_by p g (Sync limit) kept []).last
  last_told kept limit s state end made executions gathers told start =
      let At : Configuration → Type 0 = λ t. state ≡ (rounds p g t limit).state → end ≡ end_of g state → made ≡ (rounds p g t limit).rounds → executions ≡ (rounds p g t limit).executions
      → gathers ≡ (rounds p g t limit).gathers → told ≡ cond kept (distinct_by p g (Sync limit) []) gathers
      → record { end = end; rounds = Some made; executions = executions; gathers = told } ≡ (left_by p g (Sync limit) kept []).last in
      let begun : At (start_state p g) = λ of_state of_end of_made of_executions of_gathers of_told.
      (let ended = of_end ∙ ap (end_of g) of_state in
      let all = of_told ∙ ap (λ n. cond kept (distinct_by p g (Sync limit) []) n) of_gathers in
      rw (ended, of_made, of_executions, all) refl) in
      subst At (sym start) begun

module _ {Acc Carry : Type 0} (p : Program Acc Carry) (name : ProgramName) (g : Multigraph) where
  -- what is expected behind a journal
  abbrev closes : Configuration → Bool → ℕ → ℕ → Judge
  closes now spent executions gathers number lines =
      cond (is_quiet g now || spent)
      (expects (tail_lines name g now (last_of g now executions gathers)) ends number lines)
      (Rejected number)

  abbrev behind_more : Bool → List Bool → Configuration → Tally → ℕ → List ReadLine → List JournalEntry → Verdict
  behind_more kept noted s tally number lines more =
      closes (replay p g s more) (length more == tally.left) (tally.executions + length more)
      (told_gathers p g kept noted tally.gathers more) (number + length more) (drop (length more) lines)

  turned : (n : ℕ) → (0 == n) ≡ (n == 0)
  turned zero = refl
  turned (suc n) = grind (arith, nat_tests)

  -- no entry is left
  pub replays_none : (kept : Bool) (noted : List Bool) (s : Configuration) (tally : Tally) (number : ℕ) (lines : List ReadLine) → journal_in p name g s tally.left lines ≡ []
      → replays_from p name g kept noted s tally number lines
      ≡ cond (is_quiet g s || (tally.left == 0)) (expects (tail_lines name g s (last_of g s tally.executions (told_gathers p g kept noted tally.gathers []))) ends number lines) (Rejected number)
  replays_none kept noted s tally number lines none =
      let told = told_gathers p g kept noted tally.gathers [] in
      ap (behind_more kept noted s tally number lines) none
      ∙ (ap (λ (t : Configuration). closes t (0 == tally.left) (tally.executions + 0) told (number + 0) lines) (replay_none p g s)
      ∙ (ap (λ (b : Bool). closes s b (tally.executions + 0) told (number + 0) lines) (turned tally.left)
      ∙ (ap (λ (k : ℕ). closes s (tally.left == 0) k told (number + 0) lines) (add-zero tally.executions)
      ∙ ap (λ (k : ℕ). closes s (tally.left == 0) tally.executions told k lines) (add-zero number))))

  -- one more entry
  spent_more : (n left : ℕ) → 0 < left → (suc n == left) ≡ (n == left - 1)
  spent_more n left some = grind (arith, nat_tests)

  one_more : (kept : Bool) (old noted : List Bool) (s new : Configuration) (tally : Tally) (number gathers u : ℕ) (line : ReadLine) (lines : List ReadLine) (more : List JournalEntry)
      → AreNoted g kept old noted u → 0 < tally.left → new ≡ execution p g s u → gathers ≡ gather_degree p g u
      → behind_more kept old s tally number (line ∷ lines) (entry_of p g s u ∷ more)
      ≡ behind_more kept noted new (with_entry tally gathers) (number + 1) lines more
  unfolding replay
  one_more kept old noted s new tally number gathers u line lines more marked some executed degree =
      let n = length more in
      let now = replay p g new more in
      let all = told_gathers p g kept old tally.gathers (entry_of p g s u ∷ more) in
      let rest = drop n lines in
      let less = tally.left - 1 in
      let executions : tally.executions + suc n ≡ (tally.executions + 1) + n = omega arith in
      let summed : all ≡ told_gathers p g kept noted (tally.gathers + gathers) more = told_more p g kept old noted tally.gathers gathers (entry_of p g s u) more marked degree in
      let next : number + suc n ≡ (number + 1) + n = omega arith in
      ap (λ (t : Configuration). closes (replay p g t more) (suc n == tally.left) (tally.executions + suc n) all (number + suc n) rest) (sym executed)
      ∙ (ap (λ (b : Bool). closes now b (tally.executions + suc n) all (number + suc n) rest) (spent_more n tally.left some)
      ∙ (ap (λ (k : ℕ). closes now (n == less) k all (number + suc n) rest) executions
      ∙ (ap (λ (k : ℕ). closes now (n == less) ((tally.executions + 1) + n) k (number + suc n) rest) summed
      ∙ ap (λ (k : ℕ). closes now (n == less) ((tally.executions + 1) + n) (told_gathers p g kept noted (tally.gathers + gathers) more) k rest) next)))

  pub replays_more : (kept : Bool) (old noted : List Bool) (s new : Configuration) (tally : Tally) (number u gathers : ℕ) (line : Option ReadLine) (lines : List ReadLine)
      → IsEntry p name g s new tally.left line u gathers → AreNoted g kept old noted u
      → replays_from p name g kept old s tally number (with_line line lines)
      ≡ replays_from p name g kept noted new (with_entry tally gathers) (number + 1) lines
  replays_more kept old noted s new tally number u gathers None lines entry marked = absurd (false≢true entry.there)
  replays_more kept old noted s new tally number u gathers (Some line) lines entry marked =
      ap (behind_more kept old s tally number (line ∷ lines)) (entry.entries lines)
      ∙ one_more kept old noted s new tally number gathers u line lines (journal_in p name g new (tally.left - 1) lines) marked entry.some entry.executed entry.degree

  -- the whole journal
  module _ (kept : Bool) (noted : List Bool) (blank : (v : ℕ) → get_or noted v false ≡ false) where
    pub serial_full : (fuel number : ℕ) (lines : List ReadLine)
        → replays p name g (Serial fuel) fuel kept number lines ≡ replays_from p name g kept noted (start_state p g) (full fuel) number lines
    serial_full fuel number lines =
        let journal = journal_in p name g (start_state p g) fuel lines in
        let now = replay p g (start_state p g) journal in
        let n = length journal in
        let spent = n == fuel in
        let rest = drop n lines in
        ap (λ (k : ℕ). closes now spent n k (number + n) rest) (told_all p g kept noted journal blank)
        ∙ ap (λ (k : ℕ). closes now spent k (told_gathers p g kept noted 0 journal) (number + n) rest) (sym (zero-add n))

    pub virtual_full : (fuel seed number : ℕ) (lines : List ReadLine)
        → replays p name g (Virtual fuel seed) fuel kept number lines ≡ replays_from p name g kept noted (start_state p g) (full fuel) number lines
    virtual_full fuel seed number lines = serial_full fuel number lines

  -- how many edges are gathered over
  pub gathers_none : (s : Configuration) (tally : Tally) (lines : List ReadLine) → journal_in p name g s tally.left lines ≡ []
      → tally.gathers + gathers_over p g (journal_in p name g s tally.left lines) ≡ tally.gathers
  gathers_none s tally lines none =
      ap (λ (more : List JournalEntry). tally.gathers + gathers_over p g more) none ∙ add-zero tally.gathers

  pub gathers_on : (s new : Configuration) (tally : Tally) (u gathers : ℕ) (line : Option ReadLine) (lines : List ReadLine)
      → IsEntry p name g s new tally.left line u gathers
      → tally.gathers + gathers_over p g (journal_in p name g s tally.left (with_line line lines))
      ≡ (tally.gathers + gathers) + gathers_over p g (journal_in p name g new (tally.left - 1) lines)
  gathers_on s new tally u gathers line lines entry =
      ap (λ (more : List JournalEntry). tally.gathers + gathers_over p g more) (entry.entries lines)
      ∙ omega (arith, gathers_more p g (entry_of p g s u) (journal_in p name g new (tally.left - 1) lines), entry.degree)

  -- a course that expects the same of its lines as another is taken so too
  pub taken_as : (engine : Engine) (kept : Bool) (old as_old new : Course) (steps_old steps_new number : ℕ) (line : Option ReadLine) (result : Option Verdict)
      → ((lines : List ReadLine) → expects_from p name g engine kept old old.place number (with_line line lines)
      ≡ expects_from p name g engine kept as_old as_old.place number (with_line line lines))
      → ((lines : List ReadLine) → gathers_from p name g engine old old.place (with_line line lines)
      ≡ gathers_from p name g engine as_old as_old.place (with_line line lines))
      → gathers_made p name g engine old old.place ≡ gathers_made p name g engine as_old as_old.place
      → IsTaken p name g engine kept as_old new steps_old steps_new line number result
      → IsTaken p name g engine kept old new steps_old steps_new line number result
  taken_as engine kept old as_old new steps_old steps_new number line None same gathers made taken = record {
    there = taken.there;
    course = taken.course;
    verdict = λ lines. (same lines ∙ taken.verdict lines);
    gathers = λ lines. (gathers lines ∙ taken.gathers lines);
    steps = omega (arith, made, taken.steps);
  }
  taken_as engine kept old as_old new steps_old steps_new number line (Some Confirmed) same gathers made taken =
      let at_end : with_line line [] ≡ [] = ap (λ (l : Option ReadLine). with_line l []) taken.none in
      record {
        none = taken.none;
        verdict = ap (expects_from p name g engine kept old old.place number) (sym at_end) ∙ (same [] ∙ (ap (expects_from p name g engine kept as_old as_old.place number) at_end ∙ taken.verdict));
        gathers = ap (gathers_from p name g engine old old.place) (sym at_end) ∙ (gathers [] ∙ (ap (gathers_from p name g engine as_old as_old.place) at_end ∙ (taken.gathers ∙ sym made)));
        steps = taken.steps;
      }
  taken_as engine kept old as_old new steps_old steps_new number line (Some (Rejected line_is)) same gathers made taken = record {
    steps = taken.steps;
    here = taken.here;
    verdict = λ lines. (same lines ∙ taken.verdict lines);
  }

  -- the counts of the graph were read: behind them come the values, or the journal
  pub sync_counts : (kept : Bool) (old : Course) (limit number : ℕ) (line : Option ReadLine) (at : TailPlace) → IsCourse p name g kept old → old.place ≡ Counts
      → stands (line_text (counts_line g)) line ≡ true → IsTailPlace g at
      → ((last : LastLine) → lines_from name g old.state last at ≡ values_from name g old.state last 0)
      → GoesOn p name g (Sync limit) kept old (at_place old (Tail at)) 0 0 line number
  sync_counts kept old limit number line at course place is within lines_are = record {
    there = stood (line_text (counts_line g)) line is;
    course = record { fit = course.fit; place = within; marks = course.marks };
    verdict = λ lines. (ap (λ (at : Place). expects_from p name g (Sync limit) kept old at number (with_line line lines)) place
        ∙ (stand_on (counts_line g) [] (behind_counts p name g (Sync limit) kept old) number line lines is
        ∙ ap (λ (tail : List ReportLine). expects tail ends (number + 1) lines) (sym (lines_are old.last))));
    gathers = λ lines. ap (λ (at : Place). gathers_from p name g (Sync limit) old at (with_line line lines)) place;
    steps = ap (λ (at : Place). 0 + gathers_made p name g (Sync limit) old at) place;
  }

  -- an engine that executes a journal with this fuel
  record Executes (engine : Engine) (kept : Bool) (fuel : ℕ) (c : Course) : Type 0 where
    pub judge : behind_counts p name g engine kept c ≡ replays_from p name g kept c.noted.items c.state (full fuel)
    pub gathers : (lines : List ReadLine) → gathers_behind p name g engine c lines ≡ gathers_over p g (journal_in p name g c.state fuel lines)
    pub made : gathers_made p name g engine c Counts ≡ 0

  journal_gathers : (engine : Engine) (kept : Bool) (old : Course) (fuel : ℕ) (line : Option ReadLine) (lines : List ReadLine) → Executes engine kept fuel old → IsSome line
      → gathers_from p name g engine old Counts (with_line line lines) ≡ gathers_from p name g engine old (Journal (full fuel)) lines
  journal_gathers engine kept old fuel None lines executes there = absurd (false≢true there)
  journal_gathers engine kept old fuel (Some line) lines executes there =
      executes.gathers lines ∙ sym (zero-add (gathers_over p g (journal_in p name g old.state fuel lines)))

  journal_counts : (engine : Engine) (kept : Bool) (old : Course) (fuel number : ℕ) (line : Option ReadLine) → Executes engine kept fuel old → IsCourse p name g kept old → old.place ≡ Counts
      → stands (line_text (counts_line g)) line ≡ true → IsTally (full fuel)
      → GoesOn p name g engine kept old (at_place old (Journal (full fuel))) 0 0 line number
  journal_counts engine kept old fuel number line executes course place is tally =
      let there = stood (line_text (counts_line g)) line is in
      record {
        there = there;
        course = record { fit = course.fit; place = tally; marks = course.marks };
        verdict = λ lines. (ap (λ (at : Place). expects_from p name g engine kept old at number (with_line line lines)) place
            ∙ (stand_on (counts_line g) [] (behind_counts p name g engine kept old) number line lines is
            ∙ ap (λ (judge : Judge). judge (number + 1) lines) executes.judge));
        gathers = λ lines. (ap (λ (at : Place). gathers_from p name g engine old at (with_line line lines)) place
            ∙ journal_gathers engine kept old fuel line lines executes there);
        steps = ap (λ (at : Place). 0 + gathers_made p name g engine old at) place ∙ ap (λ (n : ℕ). 0 + n) executes.made;
      }

  pub serial_counts : (kept : Bool) (old : Course) (fuel number : ℕ) (line : Option ReadLine) → IsCourse p name g kept old → old.place ≡ Counts
      → stands (line_text (counts_line g)) line ≡ true → IsTally (full fuel)
      → GoesOn p name g (Serial fuel) kept old (at_place old (Journal (full fuel))) 0 0 line number
  serial_counts kept old fuel number line = journal_counts (Serial fuel) kept old fuel number line (record { judge = refl; gathers = λ _. refl; made = refl })

  pub virtual_counts : (kept : Bool) (old : Course) (fuel seed number : ℕ) (line : Option ReadLine) → IsCourse p name g kept old → old.place ≡ Counts
      → stands (line_text (counts_line g)) line ≡ true → IsTally (full fuel)
      → GoesOn p name g (Virtual fuel seed) kept old (at_place old (Journal (full fuel))) 0 0 line number
  virtual_counts kept old fuel seed number line = journal_counts (Virtual fuel seed) kept old fuel number line (record { judge = refl; gathers = λ _. refl; made = refl })

  -- an entry was taken
  pub entry_taken : (engine : Engine) (kept : Bool) (old new : Course) (tally more : Tally) (u gathers number steps_old steps_new : ℕ) (line : Option ReadLine)
      → old.place ≡ Journal tally → new.place ≡ Journal more → IsFit p g new.state → more ≡ with_entry tally gathers → IsTally more
      → IsEntry p name g old.state new.state tally.left line u gathers → AreNoted g kept old.noted.items new.noted.items u
      → (kept ≡ true → length new.noted.items ≡ length g.ids) → steps_new ≡ steps_old + gathers
      → GoesOn p name g engine kept old new steps_old steps_new line number
  entry_taken engine kept old new tally more u gathers number steps_old steps_new line place next fit is tallied entry noted marks steps = record {
    there = entry.there;
    course = record { fit = fit; place = subst (IsPlace g) (sym next) tallied; marks = marks };
    verdict = λ lines. (ap (λ (at : Place). expects_from p name g engine kept old at number (with_line line lines)) place
        ∙ (replays_more kept old.noted.items new.noted.items old.state new.state tally number u gathers line lines entry noted
        ∙ (ap (λ (t : Tally). replays_from p name g kept new.noted.items new.state t (number + 1) lines) (sym is)
        ∙ ap (λ (at : Place). expects_from p name g engine kept new at (number + 1) lines) (sym next))));
    gathers = λ lines. (ap (λ (at : Place). gathers_from p name g engine old at (with_line line lines)) place
        ∙ (gathers_on old.state new.state tally u gathers line lines entry
        ∙ (ap (λ (t : Tally). t.gathers + gathers_over p g (journal_in p name g new.state t.left lines)) (sym is)
        ∙ ap (λ (at : Place). gathers_from p name g engine new at lines) (sym next))));
    steps = let made = ap (λ (at : Place). gathers_made p name g engine old at) place in
        let now = ap (λ (at : Place). gathers_made p name g engine new at) next in
        let total = ap (λ (t : Tally). t.gathers) is in omega (arith, made, now, total, steps);
  }

  -- a wrong entry was read
  pub entry_rejected : (engine : Engine) (kept : Bool) (old : Course) (tally : Tally) (number steps_old steps_new : ℕ) (line : Option ReadLine) → old.place ≡ Journal tally
      → IsWrongEntry p name g old.state tally.left line → steps_old ≤ steps_new
      → IsRejected p name g engine kept old steps_old steps_new line number number
  entry_rejected engine kept old tally number steps_old steps_new line place wrong later = record {
    steps = later;
    here = refl;
    verdict = λ lines. (ap (λ (at : Place). expects_from p name g engine kept old at number (with_line line lines)) place
        ∙ (replays_none kept old.noted.items old.state tally number (with_line line lines) (wrong.none lines)
        ∙ rw (wrong.signalled, not_spent tally.left wrong.some) refl));
  }
    where
      not_spent : (left : ℕ) → 0 < left → (left == 0) ≡ false
      not_spent left some = grind (arith, nat_tests)
