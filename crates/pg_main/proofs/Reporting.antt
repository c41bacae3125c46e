-- What a run answers once its report was written, or where it was stopped.
use Rattle.std.proofs.Common.{◌≡◌, ℕ, ◌≤◌, List, [], ◌++◌, refl, sym, ◌∙◌, ap, subst}
use Rattle.std.specs.Prelude.{Bool, Option, Result, Ok, Err}
use Rattle.std.specs.Io.KnownBytes.{append_known}
use Rattle.pg_base.specs.Faults.{HasRisen}
use Rattle.pg_base.specs.Writing.{Sent, SendsFront, Writes}
use Rattle.pg_base.proofs.Sending.{sent_nothing}
use Rattle.pg_graph.specs.Multigraph.{Multigraph}
use Rattle.pg_law.specs.declared.async_end.AsyncError.{AsyncError}
use Rattle.pg_law.specs.declared.async_end.AsyncError.TheVariants as async
use Rattle.pg_law.specs.declared.values.End.{End}
use Rattle.pg_law.specs.declared.values.JournalEntry.{JournalEntry}
use Rattle.pg_law.specs.Configuration.{Configuration, start_state}
use Rattle.pg_law.specs.Program.{Program}
use Rattle.pg_serial.proofs.Serials.{serial_laws}
use Rattle.pg_words.specs.declared.job.Engine.{Engine}
use Rattle.pg_words.specs.declared.job.Engine.TheVariants.{Sync, Serial, Virtual}
use Rattle.pg_words.specs.declared.job.ProgramName.{ProgramName}
use Rattle.pg_words.specs.declared.job.ProgramName.TheVariants.{Components, Colour, Sssp, Rank, Tree}
use Rattle.pg_words.specs.Programs.{is_wide}
use Rattle.pg_report.specs.declared.line.LastLine.{LastLine}
use Rattle.pg_report.specs.Report.{journal_text, head_text, tail_text}
use Rattle.pg_main.specs.Answers.{Reports, refusal_of}
use Rattle.pg_main.specs.Counters.{ArePresent, Counted}
use Rattle.pg_check.specs.Outcomes.{Outcome, outcome_with, text_of, engine_name, journal_of, HasJournal, HasJournalOf, left_of, kept_text}
use Rattle.pg_main.specs.declared.refusal.Refusal.{Refusal}
use Rattle.pg_main.specs.declared.refusal.Refusal.TheVariants.{WriteFault, Memory}
use Rattle.pg_report.proofs.Sending.{sent_part, sent_front, sent_rest}

-- rounds have no journal
pub no_journal : (name : ProgramName) (limit : ℕ) (g : Multigraph) → HasJournalOf name (Sync limit) g []
no_journal Components limit g = refl
no_journal Colour limit g = refl
no_journal (Sssp source) limit g = refl
no_journal (Rank tolerance) limit g = refl
no_journal (Tree source) limit g = refl

-- the serial machine has its journal, which is one that actors may have too
pub serial_has : {Acc Carry : Type 0} (p : Program Acc Carry) (g : Multigraph) (fuel : ℕ) → HasJournal p g (Serial fuel) (journal_of p g fuel)
serial_has p g fuel = record { is = refl; serial = serial_laws p g (start_state p g) fuel }

pub actors_have : {Acc Carry : Type 0} (p : Program Acc Carry) (g : Multigraph) (fuel seed : ℕ) → HasJournal p g (Virtual fuel seed) (journal_of p g fuel)
actors_have p g fuel seed = let laws = serial_laws p g (start_state p g) fuel in record { legal = laws.legal; fits = laws.fits }

-- the entries' lines are those of the report
pub lines : (wide named : Bool) → wide ≡ named → (graph : Multigraph) (journal : List JournalEntry) → journal_text wide graph journal ≡ journal_text named graph journal
lines wide named same graph journal = ap (λ w. journal_text w graph journal) same

-- an error by what is known of it
pub by_error : {r : Refusal} (P : Result End Refusal → Type 0) (result : Result End Refusal) → ((e : Refusal) × (result ≡ Err e) × (e ≡ r)) → P (Err r) → P result
by_error {r} P result known holds = subst P (sym (known.1 ∙ ap (λ (e : Refusal). Err e) known.2)) holds

module _ (name : ProgramName) (engine : Engine) (kept : Bool) (g : Multigraph) (journal : List JournalEntry) (is_journal : HasJournalOf name engine g journal) (gathers : ℕ → ℕ) (before : Option (List ℕ)) (faults : ℕ) (steps : List (Option ℕ)) where
  -- memory was wanting
  pub no_memory : {after : Option (List ℕ)} {faults_after : ℕ} {steps_after : List (Option ℕ)} → SendsFront before after (kept_text name engine kept g journal) → faults ≤ faults_after → ArePresent steps_after
      → Reports name engine kept g gathers before after faults faults_after steps steps_after (Err Memory)
  no_memory front later present = record { journal = journal; is_journal = is_journal; end = tt; whole = tt; counted = tt; late = tt; front = front; fault = λ is. absurd (cc); later = later; present = present }

  -- the output failed
  pub failed : {after : Option (List ℕ)} {faults_after : ℕ} {steps_after : List (Option ℕ)} → SendsFront before after (kept_text name engine kept g journal) → HasRisen faults faults_after → faults ≤ faults_after → ArePresent steps_after
      → Reports name engine kept g gathers before after faults faults_after steps steps_after (Err WriteFault)
  failed front risen later present = record { journal = journal; is_journal = is_journal; end = tt; whole = tt; counted = tt; late = tt; front = front; fault = λ is. risen; later = later; present = present }

  -- a run of executions was stopped
  pub stopped : {after : Option (List ℕ)} {faults_after : ℕ} {steps_after : List (Option ℕ)} (e : AsyncError) → SendsFront before after (kept_text name engine kept g journal) → (e ≡ async.WriteFault → HasRisen faults faults_after) → faults ≤ faults_after
      → ArePresent steps_after → Reports name engine kept g gathers before after faults faults_after steps steps_after (Err (refusal_of e))
  stopped async.WriteFault front risen later present = failed front (risen refl) later present
  stopped async.Memory front risen later present = no_memory front later present

  -- before anything was written
  pub nothing_sent : SendsFront before before (kept_text name engine kept g journal)
  nothing_sent = (kept_text name engine kept g journal, sent_nothing before (kept_text name engine kept g journal))

  -- by what the run left
  module _ (state : Configuration) (last : LastLine) (is : outcome_with journal state last ≡ left_of name engine kept g journal) where
    abbrev head : List ℕ
    head = head_text (engine_name engine) name g

    abbrev body : List ℕ
    body = journal_text (is_wide name) g journal

    abbrev tail : List ℕ
    tail = tail_text name g state last

    text_is : head ++ (body ++ tail) ≡ kept_text name engine kept g journal
    text_is = ap (text_of name engine g) is

    named_rest : {mid : Option (List ℕ)} {rest : List ℕ} → Sent before mid (head ++ (body ++ tail)) rest → Sent before mid (kept_text name engine kept g journal) rest
    named_rest {mid} {rest} sent = let P : List ℕ → Type 0 = λ text. Sent before mid text rest in subst P text_is sent

    named_front : {after : Option (List ℕ)} → SendsFront before after (head ++ (body ++ tail)) → SendsFront before after (kept_text name engine kept g journal)
    named_front {after} front = let P : List ℕ → Type 0 = λ text. SendsFront before after text in subst P text_is front

    -- the head was written, or a front of it
    pub head_sent : {mid : Option (List ℕ)} → mid ≡ append_known before head → Sent before mid (head ++ (body ++ tail)) (body ++ tail)
    head_sent whole = sent_part head (body ++ tail) (sent_nothing before (head ++ (body ++ tail))) whole

    pub head_front : {after : Option (List ℕ)} → SendsFront before after head → SendsFront before after (kept_text name engine kept g journal)
    head_front front = named_front (sent_front head (body ++ tail) (sent_nothing before (head ++ (body ++ tail))) front)

    -- the journal behind it, or a front of it
    pub journal_sent : {mid after : Option (List ℕ)} → mid ≡ append_known before head → after ≡ append_known mid body → Sent before after (head ++ (body ++ tail)) tail
    journal_sent head_whole whole = sent_part body tail (head_sent head_whole) whole

    pub journal_front : {mid after : Option (List ℕ)} → mid ≡ append_known before head → SendsFront mid after body → SendsFront before after (kept_text name engine kept g journal)
    journal_front head_whole front = named_front (sent_front body tail (head_sent head_whole) front)

    -- the tail behind that, or a front of it
    pub tail_front : {A E : Type 0} {mid after : Option (List ℕ)} {faults_mid faults_after : ℕ} → Sent before mid (head ++ (body ++ tail)) tail → faults ≤ faults_mid → (e : E)
        → Writes {A = A} mid after faults_mid faults_after tail (Err e) → SendsFront before after (kept_text name engine kept g journal)
    tail_front {A} {E} sent later e writes = named_front (sent_rest {A = A} {E = E} sent later (Err e) writes).front

    pub tail_whole : {A E : Type 0} {mid after : Option (List ℕ)} {faults_mid faults_after : ℕ} → Sent before mid (head ++ (body ++ tail)) tail → faults ≤ faults_mid → (x : A)
        → Writes {E = E} mid after faults_mid faults_after tail (Ok x) → after ≡ append_known before (kept_text name engine kept g journal)
    tail_whole {A} {E} sent later x writes = (sent_rest {A = A} {E = E} sent later (Ok x) writes).whole ∙ ap (append_known before) text_is

    -- all of it
    pub done : {after : Option (List ℕ)} {faults_after : ℕ} {steps_after : List (Option ℕ)} → after ≡ append_known before (kept_text name engine kept g journal)
        → Counted engine steps steps_after gathers → faults ≤ faults_after → ArePresent steps_after → Reports name engine kept g gathers before after faults faults_after steps steps_after (Ok last.end)
    done {after} {faults_after} {steps_after} whole counted later present =
        record {
          journal = journal;
          is_journal = is_journal;
          end = sym (ap (λ (o : Outcome). o.last.end) is);
          whole = whole;
          counted = counted;
          late = tt;
          front = tt;
          fault = λ e. absurd (cc);
          later = later;
          present = present;
        }
