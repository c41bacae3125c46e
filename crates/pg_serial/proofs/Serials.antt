-- The serial run, entry by entry.
use Rattle.std.proofs.Common.{◌≡◌, ℕ, zero, suc, ◌+◌, ◌<◌, true, Option, Some, None, List, [], ◌∷◌, ◌++◌, length, get_or}
use Rattle.std.proofs.Common.{refl, sym, ◌∙◌, ap, subst, arith, add-one, inl, inr, append_assoc, length-append}
use Rattle.std.specs.Prelude.{◌==◌, ◌⊎◌, slice_get, IsTrue}
use Rattle.std.proofs.lemmas.Option.{none-some, same_Some}
use Rattle.std.proofs.lemmas.List.{append-nil}
use Rattle.std.proofs.lemmas.List.Sums.{sum_by-append}
use Rattle.pg_graph.specs.Multigraph.{Multigraph}
use Rattle.pg_graph.proofs.Numbers.{filter_numbers_each}
use Rattle.pg_law.specs.declared.values.JournalEntry.{JournalEntry}
use Rattle.pg_law.specs.Program.{Program}
use Rattle.pg_law.specs.Configuration.{Configuration, is_signalled, signalled, is_quiet}
use Rattle.pg_law.specs.Round.{execution, edges_over}
use Rattle.pg_law.specs.Journal.{replay, IsLegal}
use Rattle.pg_serial.specs.Journals.{gathers_over}
use Rattle.pg_serial.specs.Serial.{least_signalled, entry_of, entries_from, serial_journal, IsLeastFirst, IsSerialJournal}
use Rattle.pg_serial.proofs.Journals.{replay_one, replay-append}

first_read : (xs : List ℕ) (u : ℕ) → slice_get xs 0 ≡ Some u → (0 < length xs) × (get_or xs 0 0 ≡ u)
first_read [] u h = absurd (none-some u h)
first_read (x ∷ xs) u h = (omega arith, same_Some x u h)

none_read : (xs : List ℕ) → slice_get xs 0 ≡ None → xs ≡ []
none_read [] h = refl
none_read (x ∷ xs) h = absurd (none-some x (sym h))

module _ (g : Multigraph) where
  -- the least signalled vertex is in the graph and signalled
  pub least_known : (s : Configuration) (u : ℕ) → least_signalled g s ≡ Some u → (u < length g.ids) × (is_signalled s u ≡ true)
  least_known s u h = let first = first_read (signalled g s) u h in
      let each = filter_numbers_each (is_signalled s) (length g.ids) 0 0 first.0 in
      let P : ℕ → Type 0 = λ v. (v < length g.ids) × (is_signalled s v ≡ true) in subst P first.1 each

  pub none_quiet : (s : Configuration) → least_signalled g s ≡ None → is_quiet g s ≡ true
  none_quiet s h = ap (λ (xs : List ℕ). length xs == 0) (none_read (signalled g s) h)

module _ {Acc Carry : Type 0} (p : Program Acc Carry) (g : Multigraph) where
  serial_step_laws : (s : Configuration) (fuel : ℕ) → ((u : ℕ) → IsSerialJournal p g (execution p g s u) fuel (serial_journal p g (execution p g s u) fuel))
      → (o : Option ℕ) → least_signalled g s ≡ o → IsSerialJournal p g s (suc fuel) (entries_from p g s o (λ u. serial_journal p g (execution p g s u) fuel))
  unfolding replay IsLegal IsLeastFirst
  serial_step_laws s fuel rest None none = record { legal = tt; fits = record { within = omega arith; complete = inl (none_quiet g s none) }; least = tt }
  serial_step_laws s fuel rest (Some u) some = let known = least_known g s u some in record {
    legal = (known.0, known.1, refl, (rest u).legal);
    fits = record { within = omega (arith, (rest u).fits.within); complete = later (rest u).fits.complete };
    least = (some, (rest u).least);
  }
    where
      later : (IsTrue (is_quiet g (replay p g (execution p g s u) (serial_journal p g (execution p g s u) fuel))) ⊎ (length (serial_journal p g (execution p g s u) fuel) ≡ fuel))
          → IsTrue (is_quiet g (replay p g (execution p g s u) (serial_journal p g (execution p g s u) fuel))) ⊎ (suc (length (serial_journal p g (execution p g s u) fuel)) ≡ suc fuel)
      later (inl quiet) = inl quiet
      later (inr full) = inr (ap suc full)

  -- the serial run is legal, fits its fuel, and takes the least vertex first
  pub serial_laws : (s : Configuration) (fuel : ℕ) → IsSerialJournal p g s fuel (serial_journal p g s fuel)
  unfolding serial_journal replay IsLegal IsLeastFirst
  serial_laws s zero = record { legal = tt; fits = record { within = omega arith; complete = inr refl }; least = tt }
  serial_laws s (suc fuel) = serial_step_laws s fuel (λ u. serial_laws (execution p g s u) fuel) (least_signalled g s) refl

  pub serial_zero : (s : Configuration) (n : ℕ) → n ≡ 0 → serial_journal p g s n ≡ []
  unfolding serial_journal
  serial_zero s n e = rw e refl

  pub serial_none : (s : Configuration) (n : ℕ) → least_signalled g s ≡ None → serial_journal p g s n ≡ []
  unfolding serial_journal
  serial_none s zero none = refl
  serial_none s (suc n) none = ap (λ o. entries_from p g s o (λ u. serial_journal p g (execution p g s u) n)) none

  pub serial_go : (s : Configuration) (n m u : ℕ) → least_signalled g s ≡ Some u → n ≡ m + 1 → serial_journal p g s n ≡ entry_of p g s u ∷ serial_journal p g (execution p g s u) m
  unfolding serial_journal
  serial_go s n m u some e = rw (e, add-one m) (ap (λ o. entries_from p g s o (λ u. serial_journal p g (execution p g s u) m)) some)

-- what was done so far, once one more entry is
pub split_more : (whole done rest old : List JournalEntry) (entry : JournalEntry) → whole ≡ done ++ old → old ≡ entry ∷ rest → whole ≡ (done ++ entry ∷ []) ++ rest
split_more whole done rest old entry a b = a ∙ ap (λ xs. done ++ xs) b ∙ sym (append_assoc done (entry ∷ []) rest)

-- and once nothing is left
pub split_all : (whole done old : List JournalEntry) → whole ≡ done ++ old → old ≡ [] → whole ≡ done
split_all whole done old a b = a ∙ ap (λ xs. done ++ xs) b ∙ append-nil done

pub length_more : (done : List JournalEntry) (entry : JournalEntry) → length (done ++ entry ∷ []) ≡ length done + 1
length_more done entry = length-append done (entry ∷ [])

pub replay_more : {Acc Carry : Type 0} (p : Program Acc Carry) (g : Multigraph) (s now new : Configuration) (done : List JournalEntry) (entry : JournalEntry) → now ≡ replay p g s done → new ≡ execution p g now entry.vertex → new ≡ replay p g s (done ++ entry ∷ [])
replay_more p g s now new done entry a b = b ∙ ap (λ x. execution p g x entry.vertex) a ∙ sym (replay_one p g (replay p g s done) entry) ∙ sym (replay-append p g s done (entry ∷ []))

pub gathers_more : {Acc Carry : Type 0} (p : Program Acc Carry) (g : Multigraph) (done : List JournalEntry) (entry : JournalEntry) (now more : ℕ) → now ≡ gathers_over p g done → more ≡ length (edges_over p.gather_edges g entry.vertex) → now + more ≡ gathers_over p g (done ++ entry ∷ [])
gathers_more p g done entry now more a b = omega (arith, a, b, sum_by-append (λ (entry : JournalEntry). length (edges_over p.gather_edges g entry.vertex)) done (entry ∷ []))
