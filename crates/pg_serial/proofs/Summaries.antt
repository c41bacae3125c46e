-- Sets of the words of a set, when a number is taken out.
use Rattle.std.proofs.Common.{◌≡◌, ℕ, ◌/◌, ◌*◌, ◌+◌, ◌^◌, ◌≤◌, Bool, true, false, cond, ◌==◌, List, length, refl, sym, ◌∙◌, ap, arith, replicate, get_or}
use Rattle.std.specs.Prelude.{nat_lt}
use Rattle.std.proofs.Common.{⊎_elim}
use Rattle.std.proofs.lemmas.Bool.{eqb-true, cases_lt}
use Rattle.std.proofs.lemmas.List.{length-replicate, get_or_past}
use Rattle.std.proofs.lemmas.List.Elements.{All-replicate}
use Rattle.pg_serial.specs.Bits.{has, is_taken, IsSummary, AreSummaries}
use Rattle.pg_serial.proofs.Words.{has_none, has_taken, none_taken}

module _ (above below : List ℕ) (summary : IsSummary above below) where
  -- a number stands in the set below, and so its word in the set above
  pub summary_has : (k : ℕ) → has below k ≡ true → has above (k / 64) ≡ true
  summary_has k member = summary.each (k / 64) ∙ has_taken below k member

  -- the word keeps some number
  pub summary_kept : (after : List ℕ) (k : ℕ) → length after ≡ length below → has below k ≡ true
      → ((i : ℕ) → is_taken after i ≡ cond (i == k / 64) true (is_taken below i)) → IsSummary above after
  summary_kept after k count member is = record {
    room = omega (arith, summary.room, count);
    each = λ i. summary.each i ∙ sym (is i ∙ either i (i == k / 64) refl);
  }
    where
      either : (i : ℕ) (b : Bool) → (i == k / 64) ≡ b → cond b true (is_taken below i) ≡ is_taken below i
      either i true e = sym (ap (λ n. is_taken below n) (eqb-true i (k / 64) e) ∙ has_taken below k member)
      either i false e = refl

  -- the word has none left, and is taken out too
  pub summary_less : (above' below' : List ℕ) (k : ℕ) → length above' ≡ length above → length below' ≡ length below
      → ((i : ℕ) → has above' i ≡ cond (i == k) false (has above i))
      → ((i : ℕ) → is_taken below' i ≡ cond (i == k) false (is_taken below i)) → IsSummary above' below'
  summary_less above' below' k as_many as_many_below is is_below = record {
    room = omega (arith, summary.room, as_many, as_many_below);
    each = λ i. is i ∙ ap (λ b. cond (i == k) false b) (summary.each i) ∙ sym (is_below i);
  }

-- words that are 0
abbrev pub zeros : ℕ → List ℕ
zeros n = replicate n 0

length-zeros : (n : ℕ) → length (zeros n) ≡ n
length-zeros n = let zero : ℕ = 0 in length-replicate n zero

zero_at : (n i : ℕ) → get_or (zeros n) i 0 ≡ 0
zero_at n i = ⊎_elim (λ below. All-replicate (λ w. w ≡ 0) n 0 refl i 0 (omega (arith, below, length-zeros n)))
    (λ past. get_or_past (zeros n) i 0 (omega (arith, past, length-zeros n))) (cases_lt i n)

-- they have no number
pub zeros_none : (n k : ℕ) → has (zeros n) k ≡ false
zeros_none n k = has_none (zeros n) k (zero_at n (k / 64))

zeros_summary : (m n : ℕ) → n ≤ 64 * m → IsSummary (zeros m) (zeros n)
zeros_summary m n room = record {
  room = omega (arith, room, length-zeros m, length-zeros n);
  each = λ i. zeros_none m i ∙ sym (ap (λ w. nat_lt 0 w) (zero_at n i));
}

pub summaries_made : (bits groups blocks : List ℕ) (count : ℕ) → bits ≡ zeros count → groups ≡ zeros (count / 64 + 1)
    → blocks ≡ zeros (count / 4096 + 1) → count ≤ 2 ^ 20 → AreSummaries bits groups blocks
summaries_made bits groups blocks count a b c few = rw (a, b, c) record {
  groups_are = zeros_summary (count / 64 + 1) count (omega arith);
  blocks_are = zeros_summary (count / 4096 + 1) (count / 64 + 1) (omega arith);
  few = omega (arith, few, length-zeros count);
  few_groups = omega (arith, few, length-zeros (count / 64 + 1));
  few_blocks = omega (arith, few, length-zeros (count / 4096 + 1));
}

-- where the set of its words is empty, a set is
pub summary_none : (above below : List ℕ) → IsSummary above below → ((i : ℕ) → has above i ≡ false) → (k : ℕ) → has below k ≡ false
summary_none above below summary none = none_taken below (λ i. sym (summary.each i) ∙ none i)
