-- Journals, entry by entry.
use Rattle.std.proofs.Common.{◌≡◌, ℕ, zero, suc, ◌+◌, ◌<◌, List, [], ◌∷◌, ◌++◌, length, take, refl, ◌∙◌, ap, arith, add-one}
use Rattle.std.specs.Prelude.{IsTrue}
use Rattle.std.proofs.lemmas.List.{take_more}
use Rattle.std.proofs.lemmas.List.Sums.{sum_by-append}
use Rattle.pg_graph.specs.Multigraph.{Multigraph}
use Rattle.pg_law.specs.declared.values.JournalEntry.{JournalEntry}
use Rattle.pg_law.specs.Program.{Program}
use Rattle.pg_law.specs.Configuration.{Configuration, is_signalled}
use Rattle.pg_law.specs.Round.{execution}
use Rattle.pg_law.specs.Journal.{replay, IsLegal}
use Rattle.pg_serial.specs.Journals.{no_entry, entry_at, state_at, datum_given, gather_degree, gathers_over}

module _ {Acc Carry : Type 0} (p : Program Acc Carry) (g : Multigraph) where
  -- a journal is replayed by its front and then its back
  pub replay-append : (s : Configuration) (front back : List JournalEntry) → replay p g s (front ++ back) ≡ replay p g (replay p g s front) back
  unfolding replay
  replay-append s [] back = refl
  replay-append s (entry ∷ front) back = replay-append (execution p g s entry.vertex) front back

  pub replay_none : (s : Configuration) → replay p g s [] ≡ s
  unfolding replay
  replay_none s = refl

  pub replay_one : (s : Configuration) (entry : JournalEntry) → replay p g s (entry ∷ []) ≡ execution p g s entry.vertex
  unfolding replay
  replay_one s entry = refl

  pub legal_none : (s : Configuration) → IsLegal p g s []
  unfolding IsLegal
  legal_none s = tt

  state_suc : (s : Configuration) (journal : List JournalEntry) (at : ℕ) → at < length journal → state_at p g s journal (suc at) ≡ execution p g (state_at p g s journal at) (entry_at journal at).vertex
  unfolding replay
  state_suc s [] at h = absurd (omega arith)
  state_suc s (entry ∷ journal) zero h = refl
  state_suc s (entry ∷ journal) (suc at) h = state_suc (execution p g s entry.vertex) journal at (omega arith)

  -- the state at the next place
  pub state_next : (s : Configuration) (journal : List JournalEntry) (at : ℕ) → at < length journal → state_at p g s journal (at + 1) ≡ execution p g (state_at p g s journal at) (entry_at journal at).vertex
  state_next s journal at h = rw (add-one at) (state_suc s journal at h)

  legal_suc : (s : Configuration) (journal : List JournalEntry) (at : ℕ) → at < length journal → IsLegal p g s (take at journal)
      → (entry_at journal at).vertex < length g.ids → IsTrue (is_signalled (state_at p g s journal at) (entry_at journal at).vertex)
      → datum_given p g (state_at p g s journal at) (entry_at journal at).vertex ≡ (entry_at journal at).datum → IsLegal p g s (take (suc at) journal)
  unfolding replay IsLegal
  legal_suc s [] at h legal v t d = absurd (omega arith)
  legal_suc s (entry ∷ journal) zero h legal v t d = (v, t, d, tt)
  legal_suc s (entry ∷ journal) (suc at) h legal v t d = (legal.0, legal.1, legal.2, legal_suc (execution p g s entry.vertex) journal at (omega arith) legal.3 v t d)

  -- one more legal entry
  pub legal_next : (s : Configuration) (journal : List JournalEntry) (at : ℕ) → at < length journal → IsLegal p g s (take at journal)
      → (entry_at journal at).vertex < length g.ids → IsTrue (is_signalled (state_at p g s journal at) (entry_at journal at).vertex)
      → datum_given p g (state_at p g s journal at) (entry_at journal at).vertex ≡ (entry_at journal at).datum → IsLegal p g s (take (at + 1) journal)
  legal_next s journal at h legal v t d = rw (add-one at) (legal_suc s journal at h legal v t d)

  -- how many gathers one more entry takes
  pub gathers_next : (journal : List JournalEntry) (at : ℕ) → at < length journal
      → gathers_over p g (take (at + 1) journal) ≡ gathers_over p g (take at journal) + gather_degree p g (entry_at journal at).vertex
  gathers_next journal at h = ap (gathers_over p g) (take_more journal at no_entry h)
      ∙ sum_by-append (λ (entry : JournalEntry). gather_degree p g entry.vertex) (take at journal) (entry_at journal at ∷ [])
      ∙ omega arith
