-- Those that applied, written one after another.
use Rattle.std.proofs.Common.{◌≡◌, ◌≢◌, ℕ, suc, ◌+◌, ◌<◌, Bool, true, false, cond, ◌==◌, Some, None, List, [], ◌∷◌, ◌++◌, length, get_or, take, refl, sym, ◌∙◌, ap, arith, ⊎_elim}
use Rattle.std.specs.Prelude.{AllPairs}
use Rattle.std.proofs.lemmas.Bool.{eq-eqb, ne_eqb, eqb-true, cases_eq}
use Rattle.std.proofs.lemmas.List.{take_more, get_or-take, length-take, get_or_default}
use Rattle.pg_law.specs.declared.values.Applied.{Applied}
use Rattle.pg_law.specs.Configuration.{datum_in, message_in}
use Rattle.pg_law.specs.Carries.{carry_at, carry_in}
use Rattle.pg_law.specs.Round.{datum_after, message_after}
use Rattle.pg_apply_scatter.specs.Halves.{entry_of}
use Rattle.pg_sync.specs.declared.masters.Masters.{Masters}
use Rattle.pg_sync.specs.Masters.{IsWritten, HaveNone, WritesOne}

module _ {A : Type 0} where
  pub entry_absent : (xs : List (ℕ × A)) (v : ℕ) → ((k : ℕ) (d : ℕ × A) → k < length xs → (get_or xs k d).0 ≢ v) → entry_of xs v ≡ None
  entry_absent [] v away = refl
  entry_absent (x ∷ xs) v away = ap (λ b. cond b (Some x.1) (entry_of xs v)) (ne_eqb x.0 v (away 0 x (omega arith))) ∙ entry_absent xs v (λ k d h. away (suc k) d (omega (arith, h)))

  -- one more entry, of a vertex that had none
  entry_push : (xs : List (ℕ × A)) (a : ℕ × A) (v : ℕ) → ((k : ℕ) (d : ℕ × A) → k < length xs → (get_or xs k d).0 ≢ a.0) → entry_of (xs ++ a ∷ []) v ≡ cond (a.0 == v) (Some a.1) (entry_of xs v)
  entry_push [] a v away = refl
  entry_push (x ∷ xs) a v away = ap (cond (x.0 == v) (Some x.1)) (entry_push xs a v (λ k d h. away (suc k) d (omega (arith, h)))) ∙ chosen (x.0 == v) (a.0 == v) refl refl
    where
      chosen : (b c : Bool) → (x.0 == v) ≡ b → (a.0 == v) ≡ c → cond b (Some x.1) (cond c (Some a.1) (entry_of xs v)) ≡ cond c (Some a.1) (cond b (Some x.1) (entry_of xs v))
      chosen true true is_x is_a = absurd (away 0 x (omega arith) (eqb-true x.0 v is_x ∙ sym (eqb-true a.0 v is_a)))
      chosen true false is_x is_a = refl
      chosen false true is_x is_a = refl
      chosen false false is_x is_a = refl

module _ {Carry : Type 0} where
  pub written_none : (old new : Masters Carry) → HaveNone old new → IsWritten [] old new
  written_none old new clear = record {
    data_count = ap (λ vs. length vs.items) clear.values;
    message_count = ap (λ ms. length ms.items) clear.messages;
    carry_count = clear.count;
    each_datum = λ v h. ap (λ vs. datum_in vs.items v) clear.values;
    each_message = λ v h. ap (λ ms. message_in ms.items v) clear.messages;
    each_carry = clear.each;
  }

  pub written_more : (applied : List (ℕ × Applied Carry)) (i : ℕ) (a : ℕ × Applied Carry) (old mid new : Masters Carry) → AllPairs (λ a b. a.0 ≢ b.0) applied → i < length applied → get_or applied i a ≡ a
      → IsWritten (take i applied) old mid → WritesOne a.0 a.1 mid new → IsWritten (take (i + 1) applied) old new
  written_more applied i a old mid new apart h is written one = record {
    data_count = one.data_count ∙ written.data_count;
    message_count = one.message_count ∙ written.message_count;
    carry_count = one.carry_count ∙ written.carry_count;
    each_datum = λ v below. ⊎_elim (λ same. ap (datum_in new.values.items) same ∙ one.datum ∙ sym (ap (datum_after (datum_in old.values.items v)) (here v same))) (λ other. one.other_datum v other ∙ written.each_datum v below ∙ sym (ap (datum_after (datum_in old.values.items v)) (there v other))) (cases_eq v a.0);
    each_message = λ v below. ⊎_elim (λ same. ap (message_in new.messages.items) same ∙ one.message ∙ sym (ap (message_after (message_in old.messages.items v)) (here v same))) (λ other. one.other_message v other ∙ written.each_message v below ∙ sym (ap (message_after (message_in old.messages.items v)) (there v other))) (cases_eq v a.0);
    each_carry = λ v below. ⊎_elim (λ same. ap (carry_at new.carries.items) same ∙ one.carry ∙ sym (ap carry_in (here v same))) (λ other. one.other_carry v other ∙ written.each_carry v below ∙ sym (ap carry_in (there v other))) (cases_eq v a.0);
  }
    where
      away : (k : ℕ) (d : ℕ × Applied Carry) → k < length (take i applied) → (get_or (take i applied) k d).0 ≢ a.0
      away k d inside same = let lt : k < i = omega (arith, inside, length-take i applied) in
          apart k i a lt h (ap (λ x. x.0) (get_or_default applied k a d (omega arith)) ∙ sym (ap (λ x. x.0) (get_or-take i applied k d lt)) ∙ same ∙ sym (ap (λ x. x.0) is))

      entry : (v : ℕ) → entry_of (take (i + 1) applied) v ≡ cond (a.0 == v) (Some a.1) (entry_of (take i applied) v)
      entry v = ap (λ xs. entry_of xs v) (take_more applied i a h ∙ ap (λ x. take i applied ++ x ∷ []) is) ∙ entry_push (take i applied) a v away

      here : (v : ℕ) → v ≡ a.0 → entry_of (take (i + 1) applied) v ≡ Some a.1
      here v same = entry v ∙ ap (λ b. cond b (Some a.1) (entry_of (take i applied) v)) (eq-eqb a.0 v (sym same))

      there : (v : ℕ) → v ≢ a.0 → entry_of (take (i + 1) applied) v ≡ entry_of (take i applied) v
      there v other = entry v ∙ ap (λ b. cond b (Some a.1) (entry_of (take i applied) v)) (ne_eqb a.0 v (λ same. other (sym same)))
