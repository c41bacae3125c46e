-- The journal of a report's lines, and the lines of a journal.
use Rattle.std.proofs.Common.{◌≡◌, ℕ, zero, suc, ◌+◌, ◌-◌, ◌^◌, ◌<◌, ◌≤◌, ◌⊎◌, inl, inr, Bool, true, false, ◌==◌, List, [], ◌∷◌, ◌++◌, length, drop, map, refl, sym, ◌∙◌, ap, subst, arith, codes, slice_index}
use Rattle.std.specs.Prelude.{Option, Some, None, IsTrue}
use Rattle.std.specs.List.{filter, find, range_with_len}
use Rattle.std.proofs.lemmas.Bool.{cases_Bool, false≢true, eqb-true}
use Rattle.std.proofs.lemmas.Option.{none-some, same_Some}
use Rattle.std.proofs.lemmas.Slice.Eq.{bytes_eq-Decides}
use Rattle.pg_graph.specs.Multigraph.{Multigraph, IsMultigraph}
use Rattle.pg_journal.specs.Fronts.{behind, number_at}
use Rattle.pg_journal.proofs.Digits.{parts_of}
use Rattle.pg_journal.proofs.EntryLemmas.{one_vertex as one_vertex_of}
use Rattle.pg_law.specs.declared.values.Datum.{Datum}
use Rattle.pg_law.specs.declared.values.JournalEntry.{JournalEntry}
use Rattle.pg_law.specs.Configuration.{Configuration, is_signalled, signalled, is_quiet}
use Rattle.pg_law.specs.Journal.{replay, IsLegal}
use Rattle.pg_law.specs.Program.{Program}
use Rattle.pg_law.specs.Round.{execution}
use Rattle.pg_report.specs.Lines.{line_text}
use Rattle.pg_serial.specs.Serial.{entry_of, entries_from}
use Rattle.pg_words.specs.declared.job.ProgramName.{ProgramName}
use Rattle.pg_words.specs.Programs.{is_wide}
use Rattle.pg_check.specs.Reports.{ReadLine, has_text, entry_row}
use Rattle.pg_check.specs.Verdicts.{vertex_of, journal_in}
use Rattle.pg_check.proofs.Cut.{ended_line}
use Rattle.pg_check.proofs.Entries.{behind_id, mark_read, id_read, one_vertex, journal_nil, journal_none, journal_more, journal_spent}

-- a line has its own text, and a line that has a text is it
pub own_text : (text : List ℕ) → has_text text (text, true) ≡ true
own_text text = (bytes_eq-Decides text text).1 refl

pub line_is : (text : List ℕ) (line : ReadLine) → has_text text line ≡ true → line ≡ (text, true)
line_is text (bytes, true) has = let Line : List ℕ → ReadLine = λ b. (b, true) in ap Line ((bytes_eq-Decides bytes text).0 has)
line_is text (bytes, false) has = absurd (false≢true has)

-- what was found is one of the numbers, and passes
pub record Passes (test own : ℕ → Bool) (below u : ℕ) : Type 0 where
  pub within : u < below
  pub own_is : own u ≡ true
  pub test_is : test u ≡ true

pub find_passes : (test own : ℕ → Bool) (a n u : ℕ) → find test (filter own (range_with_len a n)) ≡ Some u → Passes test own (a + n) u
find_passes test own a zero u found = absurd (none-some u found)
find_passes test own a (suc n) u found =
    by_first (λ more. let later = find_passes test own (a + 1) n u more in record { within = let w = later.within in omega (arith, w); own_is = later.own_is; test_is = later.test_is })
    (cases_Bool (own a)) (cases_Bool (test a)) found
  where
    by_first : (find test (filter own (range_with_len (a + 1) n)) ≡ Some u → Passes test own (a + suc n) u)
        → ((own a ≡ true) ⊎ (own a ≡ false)) → ((test a ≡ true) ⊎ (test a ≡ false))
        → find test (filter own (range_with_len a (suc n))) ≡ Some u → Passes test own (a + suc n) u
    by_first later (inl own_is) (inl test_is) found =
        let here = same_Some a u (rw (own_is, test_is) at found) in
        subst (Passes test own (a + suc n)) here (record { within = omega arith; own_is = own_is; test_is = test_is })
    by_first later (inl own_is) (inr not) found = later (rw (own_is, not) at found)
    by_first later (inr not) tested found = later (rw not at found)

-- lines of two entries that are one line have one vertex
same_vertex : (g : Multigraph) → IsMultigraph g → (wide other_wide : Bool) (entry other : JournalEntry) → entry.vertex < length g.ids → other.vertex < length g.ids
    → line_text (entry_row wide g entry) ≡ line_text (entry_row other_wide g other) → Some entry.vertex ≡ Some other.vertex
same_vertex g graph wide other_wide entry other inside other_inside same =
    let one = mark_read g graph wide entry inside in
    let two = mark_read g graph other_wide other other_inside in
    let rest = same_Some _ _ (sym one ∙ (ap (behind (codes "@")) same ∙ two)) in
    let id = id_read g graph wide entry inside in
    let other_id = id_read g graph other_wide other other_inside in
    let ids = parts_of (slice_index g.ids entry.vertex) (slice_index g.ids other.vertex) (behind_id wide entry) (behind_id other_wide other)
    (sym id ∙ (ap (number_at (2 ^ 32 - 1)) rest ∙ other_id)) in
    ap (λ (v : ℕ). Some v) (one_vertex_of g.ids graph.ids entry.vertex other.vertex inside other_inside ids.0)

none_of : (xs : List ℕ) → (length xs == 0) ≡ true → xs ≡ []
none_of [] is = refl
none_of (x ∷ xs) is = absurd (let none = eqb-true (length (x ∷ xs)) 0 is in omega (arith, none))

module _ {Acc Carry : Type 0} (p : Program Acc Carry) (name : ProgramName) (g : Multigraph) where
  -- the lines of a journal
  abbrev pub rows : List JournalEntry → List ReadLine
  rows journal = map ended_line (map (entry_row (is_wide name) g) journal)

  -- what is taken from lines is legal, within the fuel, and stands in front of them
  pub record Takes (s : Configuration) (fuel : ℕ) (lines : List ReadLine) (journal : List JournalEntry) : Type 0 where
    pub legal : IsLegal p g s journal
    pub within : length journal ≤ fuel
    pub split : lines ≡ rows journal ++ drop (length journal) lines

  takes_one : (s : Configuration) (fuel : ℕ) (line : ReadLine) (lines : List ReadLine)
      → ((u : ℕ) → Takes (execution p g s u) fuel lines (journal_in p name g (execution p g s u) fuel lines))
      → (vertex : Option ℕ) → vertex_of p name g s line ≡ vertex
      → Takes s (suc fuel) (line ∷ lines) (entries_from p g s vertex (λ u. journal_in p name g (execution p g s u) fuel lines))
  unfolding IsLegal
  takes_one s fuel line lines later None none = record { legal = tt; within = omega arith; split = refl }
  takes_one s fuel line lines later (Some u) some =
      let entry = entry_of p g s u in
      let text = line_text (entry_row (is_wide name) g entry) in
      let more = journal_in p name g (execution p g s u) fuel lines in
      let passes = find_passes (λ u. has_text (line_text (entry_row (is_wide name) g (entry_of p g s u))) line) (is_signalled s) 0 (length g.ids) u some in
      let rest = later u in
      let inside = passes.within in
      let few = rest.within in
      record {
        legal = (omega (arith, inside), passes.own_is, refl, rest.legal);
        within = omega (arith, few);
        split = ap (λ (first : ReadLine). first ∷ lines) (line_is text line passes.test_is)
            ∙ ap (λ (behind : List ReadLine). (text, true) ∷ behind) rest.split;
      }

  pub takes : (s : Configuration) (fuel : ℕ) (lines : List ReadLine) → Takes s fuel lines (journal_in p name g s fuel lines)
  unfolding journal_in IsLegal
  takes s zero lines = record { legal = tt; within = omega arith; split = refl }
  takes s (suc fuel) [] = record { legal = tt; within = omega arith; split = refl }
  takes s (suc fuel) (line ∷ lines) = takes_one s fuel line lines (λ u. takes (execution p g s u) fuel lines) (vertex_of p name g s line) refl

  -- where nothing is signalled no entry is taken
  quiet_none : (s : Configuration) (fuel : ℕ) (lines : List ReadLine) → is_quiet g s ≡ true → journal_in p name g s fuel lines ≡ []
  quiet_none s fuel [] quiet = journal_nil p name g s fuel
  quiet_none s fuel (line ∷ lines) quiet =
      journal_none p name g s fuel line lines
      (ap (find (λ u. has_text (line_text (entry_row (is_wide name) g (entry_of p g s u))) line)) (none_of (signalled g s) quiet))

  module _ (graph : IsMultigraph g) where
    -- the vertex of an entry's line
    row_vertex : (s : Configuration) (entry : JournalEntry) → entry.vertex < length g.ids → is_signalled s entry.vertex ≡ true
        → entry_of p g s entry.vertex ≡ entry → vertex_of p name g s (ended_line (entry_row (is_wide name) g entry)) ≡ Some entry.vertex
    row_vertex s entry inside is given =
        let text = line_text (entry_row (is_wide name) g entry) in
        one_vertex p name g s text true (Some entry.vertex)
        (λ wide other other_inside same. same_vertex g graph (is_wide name) wide entry other inside other_inside same)
        entry.vertex refl inside is
        (ap (λ (e : JournalEntry). has_text (line_text (entry_row (is_wide name) g e)) (text, true)) given ∙ own_text text)

    -- the lines of a legal journal that fits the fuel are taken as it, and no line behind them
    pub rows_taken : (journal : List JournalEntry) (s : Configuration) (fuel : ℕ) (rest : List ReadLine) → IsLegal p g s journal → length journal ≤ fuel
        → (IsTrue (is_quiet g (replay p g s journal)) ⊎ (length journal ≡ fuel)) → journal_in p name g s fuel (rows journal ++ rest) ≡ journal
    unfolding replay IsLegal
    rows_taken [] s fuel rest legal within (inl quiet) = quiet_none s fuel rest quiet
    rows_taken [] s fuel rest legal within (inr full) = journal_spent p name g s fuel rest (sym full)
    rows_taken (entry ∷ journal) s fuel rest legal within complete =
        let Entry : Datum → JournalEntry = λ d. record { vertex = entry.vertex; datum = d } in
        let given : entry_of p g s entry.vertex ≡ entry = ap Entry legal.2 in
        let some : 0 < fuel = omega (arith, within) in
        let behind = rows journal ++ rest in
        journal_more p name g s fuel entry.vertex (ended_line (entry_row (is_wide name) g entry)) behind some (row_vertex s entry legal.0 legal.1 given)
        ∙ (ap (λ (e : JournalEntry). e ∷ journal_in p name g (execution p g s entry.vertex) (fuel - 1) behind) given
        ∙ ap (λ (more : List JournalEntry). entry ∷ more)
        (rows_taken journal (execution p g s entry.vertex) (fuel - 1) rest legal.3 (omega (arith, within)) (less complete)))
      where
        less : (IsTrue (is_quiet g (replay p g (execution p g s entry.vertex) journal)) ⊎ (suc (length journal) ≡ fuel))
            → IsTrue (is_quiet g (replay p g (execution p g s entry.vertex) journal)) ⊎ (length journal ≡ fuel - 1)
        less (inl quiet) = inl quiet
        less (inr full) = inr (omega (arith, full))
