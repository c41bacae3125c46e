-- What a run of actors leaves, in the words of reports.
use Rattle.std.proofs.Common.{◌≡◌, ℕ, zero, suc, ◌+◌, ◌-◌, ◌<◌, ◌≤◌, List, [], ◌∷◌, length, refl, sym, ap, ◌∙◌, arith}
use Rattle.std.specs.Prelude.{Bool, Option, Some, None, Result, Ok, Err, IfOk, OnOk, slice_index_or, slice_set}
use Rattle.pg_graph.specs.Multigraph.{Multigraph}
use Rattle.pg_law.specs.declared.async_end.AsyncEnd.{AsyncEnd}
use Rattle.pg_law.specs.declared.values.JournalEntry.{JournalEntry}
use Rattle.pg_law.specs.Configuration.{start_state}
use Rattle.pg_law.specs.Program.{Program}
use Rattle.pg_law.specs.Rounds.{end_of}
use Rattle.pg_virtual.specs.Interleaved.{IsJournal, Ran}
use Rattle.pg_words.specs.declared.job.Engine.TheVariants.{Virtual}
use Rattle.pg_check.specs.Outcomes.{outcome_with, HasJournal, left_by}
use Rattle.pg_main.specs.Counters.{counter_at, raised_by, FirstRises}

module _ {Acc Carry : Type 0} (p : Program Acc Carry) (g : Multigraph) where
  -- a journal of actors is one that a report may have
  pub actors_journal : (fuel seed : ℕ) (journal : List JournalEntry) → IsJournal p g (start_state p g) fuel journal → HasJournal p g (Virtual fuel seed) journal
  actors_journal fuel seed journal is = record { legal = is.legal; fits = is.fits }

  -- they leave what it says
  pub actors_left : (texts : JournalEntry → List ℕ) (fuel seed : ℕ) (kept : Bool) (before after : Option (List ℕ)) (ended : AsyncEnd)
      → (ran : Ran p g texts (start_state p g) fuel kept before after ended)
      → outcome_with ran.journal ended.state (record { end = ended.end; rounds = None; executions = ended.executions; gathers = ended.gathers })
      ≡ left_by p g (Virtual fuel seed) kept ran.journal
  actors_left texts fuel seed kept before after ended ran =
      let state = ran.state in
      let end = ran.ended ∙ ap (end_of g) state in
      let executions = ran.executions in
      let gathers = ran.gathers in
      rw (end, state, executions, gathers) refl

-- what follows where a call succeeds
pub on_success : {A E P Q : Type 0} (result : Result A E) → (P → Q) → IfOk result (λ _. P) → OnOk result Q
on_success (Ok x) go p = go p
on_success (Err e) go p = tt

-- a counter that was taken out and comes back has risen, and the others stand
pub first_rises : (counters : List (Option ℕ)) (first hole : Option ℕ) (old new : ℕ) → 0 < length counters → first ≡ slice_index_or counters 0 first
    → first ≡ Some old → old ≤ new → FirstRises counters (slice_set (slice_set counters 0 hole) 0 (Some new))
first_rises [] first hole old new some at was later = absurd (omega arith)
first_rises (counter ∷ counters) first hole old new some at was later =
    let stood : counter ≡ Some old = sym at ∙ was in
    let more : new ≡ old + (new - old) = omega arith in
    record {
      steps = new - old;
      takes = record {
        first = ap (λ n. Some n) more ∙ sym (ap (raised_by (new - old)) stood);
        others = λ worker above. others worker above;
      };
    }
  where
    others : (worker : ℕ) → 0 < worker → counter_at (Some new ∷ counters) worker ≡ counter_at (counter ∷ counters) worker
    others zero above = absurd (omega arith)
    others (suc worker) above = refl
