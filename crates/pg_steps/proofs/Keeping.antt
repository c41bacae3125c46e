-- What each step keeps holds after any rounds and after any executions.
use Rattle.std.proofs.Common.{◌≡◌, ℕ, zero, suc, ◌<◌, Bool, true, false, List, [], ◌∷◌, length}
use Rattle.std.proofs.Common.{refl, sym, subst, arith}
use Rattle.std.specs.Prelude.{◌==◌, None}
use Rattle.std.proofs.lemmas.List.FromFn.{get_or-map-range_with_len}
use Rattle.pg_graph.specs.Multigraph.{Multigraph, info}
use Rattle.pg_law.specs.declared.values.JournalEntry.{JournalEntry}
use Rattle.pg_law.specs.Values.{one}
use Rattle.pg_law.specs.Program.{Program}
use Rattle.pg_law.specs.Configuration.{Configuration, datum_in, message_in, start_state, is_quiet}
use Rattle.pg_law.specs.Round.{round, execution}
use Rattle.pg_law.specs.Rounds.{Run, rounds}
use Rattle.pg_law.specs.Journal.{replay}
use Rattle.pg_law.proofs.Repeating.{rounds_none, rounds_stop, rounds_go}
use Rattle.pg_steps.specs.Step.{step}

module _ {Acc Carry : Type 0} (p : Program Acc Carry) (g : Multigraph) where
  -- how a vertex starts
  pub start_datum : (v : ℕ) → v < length g.ids
      → datum_in (start_state p g).values v ≡ (p.start (info g v)).datum
  start_datum v h = get_or-map-range_with_len (λ v. (p.start (info g v)).datum) 0 (length g.ids)
      v v (one 0) h (omega arith)

  pub start_message : (v : ℕ) → v < length g.ids
      → message_in (start_state p g).messages v ≡ (p.start (info g v)).message
  start_message v h = get_or-map-range_with_len (λ v. (p.start (info g v)).message) 0
      (length g.ids) v v None h (omega arith)

module _ {Acc Carry : Type 0} (p : Program Acc Carry) (g : Multigraph)
    (Q : Configuration → Type 0)
    (keeps : (s : Configuration) (executes : ℕ → Bool) → Q s → Q (step p g s executes)) where
  pub round_keeps : (s : Configuration) → Q s → Q (round p g s)
  unfolding round
  round_keeps s before = keeps s (λ v. true) before

  pub execution_keeps : (s : Configuration) (u : ℕ) → Q s → Q (execution p g s u)
  unfolding execution
  execution_keeps s u before = keeps s (λ v. v == u) before

  pub rounds_keep : (n : ℕ) (s : Configuration) → Q s → Q (rounds p g s n).state
  rounds_keep zero s before = subst (λ (r : Run). Q r.state) (sym (rounds_none p g s)) before
  rounds_keep (suc n) s before = by_quiet (is_quiet g s) refl
      (rounds_keep n (round p g s) (round_keeps s before))
    where
      by_quiet : (quiet : Bool) → is_quiet g s ≡ quiet → Q (rounds p g (round p g s) n).state
          → Q (rounds p g s (suc n)).state
      by_quiet true quiet later = subst (λ (r : Run). Q r.state)
          (sym (rounds_stop p g s (suc n) quiet)) before
      by_quiet false quiet later = subst (λ (r : Run). Q r.state)
          (sym (rounds_go p g s (suc n) n quiet (omega arith))) later

  pub replay_keeps : (journal : List JournalEntry) (s : Configuration) → Q s
      → Q (replay p g s journal)
  unfolding replay
  replay_keeps [] s before = before
  replay_keeps (entry ∷ journal) s before = replay_keeps journal (execution p g s entry.vertex)
      (execution_keeps s entry.vertex before)
