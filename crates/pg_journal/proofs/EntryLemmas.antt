-- The line of an entry is read as that entry, and no other line is read.
use Rattle.std.proofs.Common.{◌≡◌, ℕ, ◌+◌, ◌-◌, ◌^◌, ◌<◌, ◌≤◌, List, [], ◌∷◌, ◌++◌, length, Bool, true, false, eqb, cond, Some, None, refl, sym, subst, ap, ◌∙◌, arith, codes, append_assoc, append-nil, slice_index, lit<}
use Rattle.std.proofs.Common.{zero, suc, get_or, ◌⊎◌, inl, inr}
use Rattle.std.specs.List.Sorted.{IsStrictlyIncreasing}
use Rattle.std.proofs.lemmas.Bool.{eqb-true, cases_order}
use Rattle.std.specs.Fmt.{decimal}
use Rattle.pg_journal.specs.Fronts.{◌>>=◌, behind, digits_at, number_at}
use Rattle.pg_journal.proofs.Digits.{read_some, tested, parts_of, behind_takes, behind_again, number_takes, number_again}
use Rattle.pg_journal.specs.Entry.{datum_text, entry_text, entry_text_of, IsShown, IsEntry, datum_at, entry_at}
use Rattle.pg_law.specs.declared.values.Datum.{Datum}
use Rattle.pg_law.specs.declared.values.JournalEntry.{JournalEntry}
use Rattle.pg_graph.specs.Multigraph.{Multigraph, IsMultigraph}

-- nothing is left where no byte is
nothing_left : (bytes : List ℕ) → eqb (length bytes) 0 ≡ true → bytes ≡ []
nothing_left [] e = refl
nothing_left (byte ∷ bytes) e = absurd (let none = eqb-true (length (byte ∷ bytes)) 0 e in omega arith)

-- a datum that was read stands there
pub record Takes (wide : Bool) (bytes : List ℕ) (datum : Datum) (rest : List ℕ) : Type 0 where
  pub text : bytes ≡ datum_text wide datum ++ rest
  pub is : IsShown wide datum

datum_takes : (wide : Bool) (bytes rest : List ℕ) (datum : Datum) → datum_at wide bytes ≡ Some (datum, rest) → Takes wide bytes datum rest
unfolding datum_at
datum_takes false bytes rest datum e =
    let read = read_some (number_at (2 ^ 64 - 1) bytes) (λ first. Some (record { first = first.0; second = 0 }, first.1)) (datum, rest) e in
    let number = number_takes (2 ^ 64 - 1) bytes read.0.1 read.0.0 (lit< tt) read.1 in
    let same = parts_of (record { first = read.0.0; second = 0 }) datum read.0.1 rest read.2 in
    let small = number.1 in
    let takes : Takes false bytes (record { first = read.0.0; second = 0 }) read.0.1 = record { text = number.0; is = record { first = omega arith; second = lit< tt; narrow = λ _. refl } } in
    subst (λ (d : Datum). Takes false bytes d rest) same.0 (subst (λ (r : List ℕ). Takes false bytes (record { first = read.0.0; second = 0 }) r) same.1 takes)
datum_takes true bytes rest datum e =
    let one = read_some (number_at (2 ^ 64 - 1) bytes) (λ first. behind (codes "\t") first.1 >>= (λ rest. number_at (2 ^ 64 - 1) rest >>= (λ second. Some (record { first = first.0; second = second.0 }, second.1)))) (datum, rest) e in
    let tab = read_some (behind (codes "\t") one.0.1) (λ rest. number_at (2 ^ 64 - 1) rest >>= (λ second. Some (record { first = one.0.0; second = second.0 }, second.1))) (datum, rest) one.2 in
    let two = read_some (number_at (2 ^ 64 - 1) tab.0) (λ second. Some (record { first = one.0.0; second = second.0 }, second.1)) (datum, rest) tab.2 in
    let first = number_takes (2 ^ 64 - 1) bytes one.0.1 one.0.0 (lit< tt) one.1 in
    let gap = behind_takes (codes "\t") one.0.1 tab.0 tab.1 in
    let second = number_takes (2 ^ 64 - 1) tab.0 two.0.1 two.0.0 (lit< tt) two.1 in
    let same = parts_of (record { first = one.0.0; second = two.0.0 }) datum two.0.1 rest two.2 in
    let low = first.1 in
    let high = second.1 in
    let takes : Takes true bytes (record { first = one.0.0; second = two.0.0 }) two.0.1 = record {
      text = first.0 ∙ (ap (λ (r : List ℕ). decimal one.0.0 ++ r) (gap ∙ ap (λ (r : List ℕ). codes "\t" ++ r) second.0) ∙ simp append_assoc);
      is = record { first = omega arith; second = omega arith; narrow = λ wide. cc };
    } in
    subst (λ (d : Datum). Takes true bytes d rest) same.0 (subst (λ (r : List ℕ). Takes true bytes (record { first = one.0.0; second = two.0.0 }) r) same.1 takes)

-- a tab ends a number
tab_ends : (rest : List ℕ) → digits_at (codes "\t" ++ rest) ≡ 0
unfolding digits_at
tab_ends rest = refl

end_ends : digits_at [] ≡ 0
unfolding digits_at
end_ends = refl

-- and it is read again
datum_again : (wide : Bool) (datum : Datum) (rest : List ℕ) → IsShown wide datum → digits_at rest ≡ 0 → datum_at wide (datum_text wide datum ++ rest) ≡ Some (datum, rest)
unfolding datum_at
datum_again false datum rest is ends =
    let first = is.first in
    rw (number_again (2 ^ 64 - 1) datum.first rest (omega arith) (lit< tt) ends, sym (is.narrow refl)) refl
datum_again true datum rest is ends =
    let first = is.first in
    let second = is.second in
    let text : (decimal datum.first ++ (codes "\t" ++ decimal datum.second)) ++ rest ≡ decimal datum.first ++ (codes "\t" ++ (decimal datum.second ++ rest)) = simp append_assoc in
    ap (datum_at true) text ∙ rw (
      number_again (2 ^ 64 - 1) datum.first (codes "\t" ++ (decimal datum.second ++ rest)) (omega arith) (lit< tt) (tab_ends (decimal datum.second ++ rest)),
      behind_again (codes "\t") (decimal datum.second ++ rest),
      number_again (2 ^ 64 - 1) datum.second rest (omega arith) (lit< tt) ends,
    ) refl

-- a line that was read is the line of what was read
pub record TakesEntry (wide : Bool) (line : List ℕ) (id : ℕ) (datum : Datum) : Type 0 where
  pub text : line ≡ entry_text wide id datum
  pub is : IsShown wide datum

pub entry_takes : (wide : Bool) (line : List ℕ) (id : ℕ) (datum : Datum) → entry_at wide line ≡ Some (id, datum) → TakesEntry wide line id datum
unfolding entry_at
entry_takes wide line id datum e =
    let at = read_some (behind (codes "@") line) (λ rest. number_at (2 ^ 32 - 1) rest >>= (λ id. behind (codes "\t") id.1 >>= (λ rest. datum_at wide rest >>= (λ datum. cond (eqb (length datum.1) 0) (Some (id.0, datum.0)) None)))) (id, datum) e in
    let number = read_some (number_at (2 ^ 32 - 1) at.0) (λ id. behind (codes "\t") id.1 >>= (λ rest. datum_at wide rest >>= (λ datum. cond (eqb (length datum.1) 0) (Some (id.0, datum.0)) None))) (id, datum) at.2 in
    let tab = read_some (behind (codes "\t") number.0.1) (λ rest. datum_at wide rest >>= (λ datum. cond (eqb (length datum.1) 0) (Some (number.0.0, datum.0)) None)) (id, datum) number.2 in
    let value = read_some (datum_at wide tab.0) (λ datum. cond (eqb (length datum.1) 0) (Some (number.0.0, datum.0)) None) (id, datum) tab.2 in
    let end = tested (eqb (length value.0.1) 0) (Some (number.0.0, value.0.0)) (id, datum) value.2 in
    let same = parts_of number.0.0 id value.0.0 datum end.1 in
    let mark = behind_takes (codes "@") line at.0 at.1 in
    let name = number_takes (2 ^ 32 - 1) at.0 number.0.1 number.0.0 (lit< tt) number.1 in
    let gap = behind_takes (codes "\t") number.0.1 tab.0 tab.1 in
    let takes = datum_takes wide tab.0 value.0.1 value.0.0 value.1 in
    let left = nothing_left value.0.1 end.0 in
    let last : tab.0 ≡ datum_text wide value.0.0 = takes.text ∙ rw left (append-nil (datum_text wide value.0.0)) in
    let whole : TakesEntry wide line number.0.0 value.0.0 = record {
      text = mark ∙ (ap (λ (r : List ℕ). codes "@" ++ r) (name.0 ∙ ap (λ (r : List ℕ). decimal number.0.0 ++ r) (gap ∙ ap (λ (r : List ℕ). codes "\t" ++ r) last)));
      is = takes.is;
    } in
    subst (λ (d : Datum). TakesEntry wide line id d) same.1 (subst (λ (n : ℕ). TakesEntry wide line n value.0.0) same.0 whole)

pub entry_again : (wide : Bool) (id : ℕ) (datum : Datum) → id ≤ 2 ^ 32 - 1 → IsShown wide datum → entry_at wide (entry_text wide id datum) ≡ Some (id, datum)
unfolding entry_at
entry_again wide id datum small is =
    let text : entry_text wide id datum ≡ codes "@" ++ (decimal id ++ (codes "\t" ++ (datum_text wide datum ++ []))) =
    ap (λ (r : List ℕ). codes "@" ++ (decimal id ++ (codes "\t" ++ r))) (sym (append-nil (datum_text wide datum))) in
    ap (entry_at wide) text ∙ rw (
      behind_again (codes "@") (decimal id ++ (codes "\t" ++ (datum_text wide datum ++ []))),
      number_again (2 ^ 32 - 1) id (codes "\t" ++ (datum_text wide datum ++ [])) small (lit< tt) (tab_ends (datum_text wide datum ++ [])),
      behind_again (codes "\t") (datum_text wide datum ++ []),
      datum_again wide datum [] is end_ends,
    ) refl

-- the id and the datum of the line of an entry
pub line_again : (g : Multigraph) → IsMultigraph g → (wide : Bool) (entry : JournalEntry) (line : List ℕ) → IsEntry g wide entry
    → line ≡ entry_text_of g wide entry → entry_at wide line ≡ Some (slice_index g.ids entry.vertex, entry.datum)
line_again g graph wide entry line is text =
    let small = graph.id entry.vertex is.vertex in
    ap (entry_at wide) text ∙ entry_again wide (slice_index g.ids entry.vertex) entry.datum (omega arith) is.datum

-- one reading of a line
pub same_reading : (wide : Bool) (line : List ℕ) (id other : ℕ) (datum more : Datum) → entry_at wide line ≡ Some (id, datum)
    → entry_at wide line ≡ Some (other, more) → (id ≡ other) × (datum ≡ more)
same_reading wide line id other datum more a b = parts_of id other datum more (sym a ∙ b)

-- parts that were put one behind another
pub narrow_line : (mark id tab value end : List ℕ) → (((mark ++ id) ++ tab) ++ value) ++ end ≡ (mark ++ (id ++ (tab ++ value))) ++ end
narrow_line mark id tab value end = ap (λ (r : List ℕ). r ++ end) (append_assoc (mark ++ id) tab value ∙ append_assoc mark id (tab ++ value))

pub wide_line : (mark id tab first second end : List ℕ) → (((((mark ++ id) ++ tab) ++ first) ++ tab) ++ second) ++ end
    ≡ (mark ++ (id ++ (tab ++ (first ++ (tab ++ second))))) ++ end
wide_line mark id tab first second end = ap (λ (r : List ℕ). r ++ end) (append_assoc (((mark ++ id) ++ tab) ++ first) tab second
    ∙ append_assoc ((mark ++ id) ++ tab) first (tab ++ second) ∙ append_assoc (mark ++ id) tab (first ++ (tab ++ second))
    ∙ append_assoc mark id (tab ++ (first ++ (tab ++ second))))

-- ids ascend, so an id has one vertex
rises : (xs : List ℕ) → IsStrictlyIncreasing xs → (i d : ℕ) → i + d < length xs → get_or xs i 0 + d ≤ get_or xs (i + d) 0
rises xs up i zero h = let same : i + 0 ≡ i = omega arith in rw same (omega arith)
rises xs up i (suc d) h =
    let before = rises xs up i d (omega arith) in
    let step = up (i + d) (omega arith) in
    let next : i + suc d ≡ (i + d) + 1 = omega arith in
    rw next (omega (arith, before, step))

pub one_vertex : (xs : List ℕ) → IsStrictlyIncreasing xs → (u v : ℕ) → u < length xs → v < length xs → get_or xs u 0 ≡ get_or xs v 0 → u ≡ v
one_vertex xs up u v hu hv same = by_order (cases_order u v)
  where
    by_order : (u ≡ v) ⊎ ((u < v) ⊎ (v < u)) → u ≡ v
    by_order (inl e) = e
    by_order (inr (inl below)) = absurd (let far : u + (v - u) ≡ v = omega arith in
        let more = rises xs up u (v - u) (omega (arith, far, hv)) in
        let at = ap (λ n. get_or xs n 0) far in omega (arith, more, at, same, below))
    by_order (inr (inr above)) = absurd (let far : v + (u - v) ≡ u = omega arith in
        let more = rises xs up v (u - v) (omega (arith, far, hu)) in
        let at = ap (λ n. get_or xs n 0) far in omega (arith, more, at, same, above))
