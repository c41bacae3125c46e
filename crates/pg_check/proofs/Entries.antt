-- Which execution a line is the entry of.
use Rattle.std.proofs.Common.{◌≡◌, ℕ, zero, suc, ◌+◌, ◌-◌, ◌^◌, ◌<◌, ◌≤◌, ◌⊎◌, inl, inr, Bool, true, false, List, [], ◌∷◌, ◌++◌, length, refl, sym, ◌∙◌, ap, subst, arith, codes, decimal, slice_index, lit<}
use Rattle.std.specs.Prelude.{Option, Some, None, IsSome, IfSome, Contains}
use Rattle.std.specs.List.{filter, find, range_with_len}
use Rattle.std.specs.Str.{bytes_eq}
use Rattle.std.proofs.lemmas.Bool.{cases_Bool, and_parts, false≢true}
use Rattle.std.proofs.lemmas.Option.{same_Some}
use Rattle.std.proofs.lemmas.Slice.Eq.{bytes_eq-Decides}
use Rattle.pg_graph.specs.Multigraph.{Multigraph, IsMultigraph}
use Rattle.pg_journal.specs.Fronts.{behind, digits_at, number_at}
use Rattle.pg_journal.proofs.Digits.{behind_again, number_again}
use Rattle.pg_journal.proofs.EntryLemmas.{one_vertex as one_vertex_of}
use Rattle.std.proofs.lemmas.List.Elements.{Contains-get_or}
use Rattle.pg_law.specs.declared.values.JournalEntry.{JournalEntry}
use Rattle.pg_law.specs.Configuration.{Configuration, is_signalled}
use Rattle.pg_law.specs.Program.{Program}
use Rattle.pg_law.specs.Round.{execution}
use Rattle.pg_report.specs.Lines.{line_text, second_text}
use Rattle.pg_report.specs.Report.{second_if}
use Rattle.pg_law.proofs.Lists.{some_passes}
use Rattle.pg_serial.specs.Journals.{gather_degree}
use Rattle.pg_serial.specs.Serial.{entry_of}
use Rattle.pg_words.specs.declared.job.ProgramName.{ProgramName}
use Rattle.pg_words.specs.Programs.{is_wide}
use Rattle.pg_check.specs.Reports.{ReadLine, has_text, entry_row}
use Rattle.pg_check.specs.Verdicts.{vertex_of, journal_in}
use Rattle.pg_check.specs.Course.{with_line, IsEntry, IsNoEntry, IsWrongEntry}

-- a tab ends a number
tab_ends : (rest : List ℕ) → digits_at (codes "\t" ++ rest) ≡ 0
unfolding digits_at
tab_ends rest = refl

-- what stands behind the id of an entry
abbrev pub behind_id : Bool → JournalEntry → List ℕ
behind_id wide entry =
    codes "\t" ++ (decimal entry.datum.first ++ second_text (second_if wide entry.datum))

module _ (g : Multigraph) (graph : IsMultigraph g) (wide : Bool) (entry : JournalEntry) (inside : entry.vertex < length g.ids) where
  -- its line begins with the mark and the id
  pub mark_read : behind (codes "@") (line_text (entry_row wide g entry))
      ≡ Some (decimal (slice_index g.ids entry.vertex) ++ behind_id wide entry)
  mark_read = behind_again (codes "@") (decimal (slice_index g.ids entry.vertex) ++ behind_id wide entry)

  pub id_read : number_at (2 ^ 32 - 1) (decimal (slice_index g.ids entry.vertex) ++ behind_id wide entry)
      ≡ Some (slice_index g.ids entry.vertex, behind_id wide entry)
  id_read =
      let small = graph.id entry.vertex inside in
      number_again (2 ^ 32 - 1) (slice_index g.ids entry.vertex) (behind_id wide entry) (omega (arith, small)) (lit< tt)
      (tab_ends (decimal entry.datum.first ++ second_text (second_if wide entry.datum)))

-- the first of some numbers that passes a test
pub find_none : (test own : ℕ → Bool) (a n : ℕ) → ((v : ℕ) → v < a + n → own v ≡ true → test v ≡ false)
    → find test (filter own (range_with_len a n)) ≡ None
find_none test own a zero none = refl
find_none test own a (suc n) none =
    let rest = find_none test own (a + 1) n (λ v below is. none v (omega (arith, below)) is) in
    elim (cases_Bool (own a)) [
      | inl is ↦ rw (is, none a (omega arith) is) rest
      | inr not ↦ rw not rest
    ]

pub find_one : (test own : ℕ → Bool) (a n u : ℕ) → a ≤ u → u < a + n → own u ≡ true → test u ≡ true
    → ((v : ℕ) → v < a + n → own v ≡ true → test v ≡ true → v ≡ u)
    → find test (filter own (range_with_len a n)) ≡ Some u
find_one test own a zero u from below is passes only = absurd (omega arith)
find_one test own a (suc n) u from below is passes only =
    by_first (λ other. find_one test own (a + 1) n u (omega (arith, from, other)) (omega (arith, below)) is passes
    (λ v under own_is test_is. only v (omega (arith, under)) own_is test_is))
    (cases_Bool (own a)) (cases_Bool (test a))
  where
    by_first : ((a ≡ u → ⊥) → find test (filter own (range_with_len (a + 1) n)) ≡ Some u)
        → ((own a ≡ true) ⊎ (own a ≡ false)) → ((test a ≡ true) ⊎ (test a ≡ false))
        → find test (filter own (range_with_len a (suc n))) ≡ Some u
    by_first later (inl own_is) (inl test_is) =
        rw (own_is, test_is) (ap (λ (v : ℕ). Some v) (only a (omega arith) own_is test_is))
    by_first later (inl own_is) (inr not) =
        rw (own_is, not) (later (λ same. false≢true (sym not ∙ (ap test same ∙ passes))))
    by_first later (inr not) tested = rw not (later (λ same. false≢true (sym not ∙ (ap own same ∙ is))))

-- the vertex of an id
pub vertex_by_id : (g : Multigraph) → IsMultigraph g → (v id : ℕ) (found : Option ℕ) → v < length g.ids → id ≡ slice_index g.ids v
    → IfSome found (λ u. u < length g.ids) → IfSome found (λ u. slice_index g.ids u ≡ id)
    → (Contains g.ids id → IsSome found) → found ≡ Some v
vertex_by_id g graph v id None inside is within at there =
    absurd (false≢true (there (subst (Contains g.ids) (sym is) (Contains-get_or g.ids v 0 inside))))
vertex_by_id g graph v id (Some u) inside is within at there =
    ap (λ (w : ℕ). Some w) (one_vertex_of g.ids graph.ids u v within inside (at ∙ is))

-- a line that has a text is it
pub text_of_line : (text bytes : List ℕ) (ended : Bool) → has_text text (bytes, ended) ≡ true → bytes ≡ text
text_of_line text bytes ended has =
    let both = and_parts ended (bytes_eq bytes text) has in
    (bytes_eq-Decides bytes text).0 both.1

module _ {Acc Carry : Type 0} (p : Program Acc Carry) (name : ProgramName) (g : Multigraph) (s : Configuration) (bytes : List ℕ) (ended : Bool) where
  abbrev pub is_entry_of : ℕ → Bool
  is_entry_of u = has_text (line_text (entry_row (is_wide name) g (entry_of p g s u))) (bytes, ended)

  module _ (named : Option ℕ) (only : (wide : Bool) (entry : JournalEntry) → entry.vertex < length g.ids
      → bytes ≡ line_text (entry_row wide g entry) → named ≡ Some entry.vertex) where
    -- the vertex of an entry is the one that the line names
    named_here : (v : ℕ) → v < length g.ids → is_entry_of v ≡ true → named ≡ Some v
    named_here v inside is =
        only (is_wide name) (entry_of p g s v) inside
        (text_of_line (line_text (entry_row (is_wide name) g (entry_of p g s v))) bytes ended is)

    pub no_vertex : ((v : ℕ) → named ≡ Some v → is_signalled s v ≡ true → is_entry_of v ≡ false)
        → vertex_of p name g s (bytes, ended) ≡ None
    no_vertex none = find_none is_entry_of (is_signalled s) 0 (length g.ids) (λ v below is. each v below is (cases_Bool (is_entry_of v)))
      where
        each : (v : ℕ) → v < 0 + length g.ids → is_signalled s v ≡ true → ((is_entry_of v ≡ true) ⊎ (is_entry_of v ≡ false)) → is_entry_of v ≡ false
        each v below is (inl entry) = none v (named_here v (omega (arith, below)) entry) is
        each v below is (inr not) = not

    pub one_vertex : (u : ℕ) → named ≡ Some u → u < length g.ids → is_signalled s u ≡ true → is_entry_of u ≡ true
        → vertex_of p name g s (bytes, ended) ≡ Some u
    one_vertex u some inside is entry =
        find_one is_entry_of (is_signalled s) 0 (length g.ids) u (omega arith) (omega (arith, inside)) is entry
        (λ v below own test. same_Some v u (sym (named_here v (omega (arith, below)) test) ∙ some))

module _ {Acc Carry : Type 0} (p : Program Acc Carry) (name : ProgramName) (g : Multigraph) where
  pub journal_nil : (s : Configuration) (left : ℕ) → journal_in p name g s left [] ≡ []
  unfolding journal_in
  journal_nil s zero = refl
  journal_nil s (suc left) = refl

  pub journal_spent : (s : Configuration) (left : ℕ) (lines : List ReadLine) → left ≡ 0 → journal_in p name g s left lines ≡ []
  unfolding journal_in
  journal_spent s zero lines none = refl
  journal_spent s (suc left) lines none = absurd (omega (arith, none))

  pub journal_none : (s : Configuration) (left : ℕ) (line : ReadLine) (lines : List ReadLine) → vertex_of p name g s line ≡ None
      → journal_in p name g s left (line ∷ lines) ≡ []
  unfolding journal_in
  journal_none s zero line lines none = refl
  journal_none s (suc left) line lines none = rw none refl

  pub journal_more : (s : Configuration) (left u : ℕ) (line : ReadLine) (lines : List ReadLine) → 0 < left → vertex_of p name g s line ≡ Some u
      → journal_in p name g s left (line ∷ lines)
      ≡ entry_of p g s u ∷ journal_in p name g (execution p g s u) (left - 1) lines
  unfolding journal_in
  journal_more s zero u line lines some is = absurd (omega arith)
  journal_more s (suc left) u line lines some is =
      let less : suc left - 1 ≡ left = omega arith in
      rw (is, less) refl

  -- what a line is that was taken for an entry
  pub no_entry : (s : Configuration) (left : ℕ) (line : ReadLine) → vertex_of p name g s line ≡ None → IsNoEntry p name g s left (Some line)
  no_entry s left line none = record { none = λ lines. journal_none s left line lines none }

  pub wrong_entry : (s : Configuration) (left u : ℕ) (line : ReadLine) → vertex_of p name g s line ≡ None → 0 < left → u < length g.ids
      → is_signalled s u ≡ true → IsWrongEntry p name g s left (Some line)
  wrong_entry s left u line none some inside is = record {
    none = λ lines. journal_none s left line lines none;
    some = some;
    signalled = some_passes (is_signalled s) u (length g.ids) inside is;
  }

  pub an_entry : (s new : Configuration) (left u gathers : ℕ) (line : ReadLine) → vertex_of p name g s line ≡ Some u → 0 < left
      → u < length g.ids → new ≡ execution p g s u → gathers ≡ gather_degree p g u → gathers ≤ 2 ^ 24 → IsEntry p name g s new left (Some line) u gathers
  an_entry s new left u gathers line one some inside executed degree few = record {
    within = inside;
    some = some;
    there = refl;
    executed = executed;
    entries = λ lines. (journal_more s left u line lines some one
        ∙ ap (λ (t : Configuration). entry_of p g s u ∷ journal_in p name g t (left - 1) lines) (sym executed));
    degree = degree;
    few = few;
  }

  pub no_line : (s : Configuration) (left : ℕ) → IsNoEntry p name g s left None
  no_line s left = record { none = λ lines. journal_nil s left }

  pub no_fuel : (s : Configuration) (left : ℕ) (line : Option ReadLine) → left ≡ 0 → IsNoEntry p name g s left line
  no_fuel s left line spent = record { none = λ lines. journal_spent s left (with_line line lines) spent }
