-- Legal journals, one behind another.
use Rattle.std.proofs.Common.{◌≡◌, ℕ, ◌+◌, ◌<◌, ◌⊎◌, true, List, [], ◌∷◌, ◌++◌, length, inl, inr, sym, subst, arith, length-append}
use Rattle.std.specs.Prelude.{IsTrue, All}
use Rattle.std.specs.List.{AllByRecursion}
use Rattle.std.proofs.lemmas.List.Elements.{All-from_recursion}
use Rattle.pg_graph.specs.Multigraph.{Multigraph}
use Rattle.pg_law.specs.declared.values.JournalEntry.{JournalEntry}
use Rattle.pg_law.specs.Program.{Program}
use Rattle.pg_law.specs.Configuration.{Configuration, is_signalled, is_quiet, datum_in}
use Rattle.pg_law.specs.Round.{execution}
use Rattle.pg_law.specs.Journal.{replay, IsLegal}
use Rattle.pg_serial.specs.Serial.{serial_journal}
use Rattle.pg_serial.proofs.Journals.{replay-append}
use Rattle.pg_serial.proofs.Serials.{serial_laws}
use Rattle.pg_virtual.specs.Interleaved.{IsJournal}

module _ {Acc Carry : Type 0} (p : Program Acc Carry) (g : Multigraph) where
  -- a legal journal, and one that is legal from where it leads
  pub legal-append : (s : Configuration) (front back : List JournalEntry) → IsLegal p g s front → IsLegal p g (replay p g s front) back → IsLegal p g s (front ++ back)
  unfolding replay IsLegal
  legal-append s [] back a b = b
  legal-append s (entry ∷ front) back a b = (a.0, a.1, a.2, legal-append (execution p g s entry.vertex) front back a.3 b)

  each_within : (s : Configuration) (journal : List JournalEntry) → IsLegal p g s journal → AllByRecursion (λ (entry : JournalEntry). entry.vertex < length g.ids) journal
  unfolding IsLegal
  each_within s [] legal = tt
  each_within s (entry ∷ journal) legal = (legal.0, each_within (execution p g s entry.vertex) journal legal.3)

  -- each entry is of a vertex of the graph
  pub entries_within : (s : Configuration) (journal : List JournalEntry) → IsLegal p g s journal → All (λ (entry : JournalEntry). entry.vertex < length g.ids) journal
  entries_within s journal legal = All-from_recursion _ journal (each_within s journal legal)

  pub legal_as : (s : Configuration) (entries journal : List JournalEntry) → entries ≡ journal → IsLegal p g s journal → IsLegal p g s entries
  legal_as s entries journal is legal = subst (λ xs. IsLegal p g s xs) (sym is) legal

  -- one entry
  pub legal_one : (s : Configuration) (entry : JournalEntry) → entry.vertex < length g.ids → is_signalled s entry.vertex ≡ true
      → datum_in (execution p g s entry.vertex).values entry.vertex ≡ entry.datum → IsLegal p g s (entry ∷ [])
  unfolding IsLegal
  legal_one s entry inside signalled datum = (inside, signalled, datum, tt)

  -- with the serial journal behind it, a legal journal fits the fuel
  pub completed : (s : Configuration) (done : List JournalEntry) (left fuel : ℕ) → IsLegal p g s done → length done + left ≡ fuel → IsJournal p g s fuel (done ++ serial_journal p g (replay p g s done) left)
  completed s done left fuel legal count = let now = replay p g s done in
      let laws = serial_laws p g now left in
      let more = length-append done (serial_journal p g now left) in record {
        legal = legal-append s done (serial_journal p g now left) legal laws.legal;
        fits = record { within = omega (arith, more, count, laws.fits.within); complete = over laws.fits.complete };
      }
    where
      over : (IsTrue (is_quiet g (replay p g (replay p g s done) (serial_journal p g (replay p g s done) left))) ⊎ (length (serial_journal p g (replay p g s done) left) ≡ left))
          → IsTrue (is_quiet g (replay p g s (done ++ serial_journal p g (replay p g s done) left))) ⊎ (length (done ++ serial_journal p g (replay p g s done) left) ≡ fuel)
      over (inl quiet) = inl (subst (λ x. IsTrue (is_quiet g x)) (sym (replay-append p g s done (serial_journal p g (replay p g s done) left))) quiet)
      over (inr full) = inr (omega (arith, length-append done (serial_journal p g (replay p g s done) left), full, count))
