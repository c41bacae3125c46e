-- Each word that may follow is one more behind what stands, and there are twenty-six at most.
use Rattle.std.proofs.Common.{◌≡◌, ℕ, ◌+◌, ◌*◌, ◌<◌, ◌≤◌, List, [], ◌∷◌, length, Bool, true, false, ◌||◌, cond, Option, Some, None, Contains, count_by, refl, sym, ap, ◌∙◌, eqb, arith, zero, suc, lit<, lit≤, subst}
use Rattle.std.proofs.lemmas.Bool.{eq-eqb}
use Rattle.std.specs.List.{slice_index_or}
use Rattle.std.proofs.lemmas.List.{length-append}
use Rattle.std.proofs.lemmas.List.Sums.{count_by-le-length, sum_by-cons}
use Rattle.pg_words.specs.Names.{Word, options}
use Rattle.pg_words.specs.Options.{stands, with_flag}
use Rattle.pg_words.specs.Jobs.{head_parts, with_setting}
use Rattle.pg_words.specs.Reading.{next, standing, behind_option}
use Rattle.pg_words.specs.declared.choices.Choices.{Choices}
use Rattle.pg_words.specs.declared.head.Head.{Head}
use Rattle.pg_words.specs.declared.head.Head.TheVariants as heads
use Rattle.pg_words.specs.declared.lead.Lead.{Lead}
use Rattle.pg_words.specs.declared.lead.Lead.TheVariants as leads
use Rattle.pg_words.specs.declared.lead.Led.{Led}
use Rattle.pg_words.specs.declared.lead.Led.TheVariants as to
use Rattle.pg_words.specs.declared.names.OptionName.{OptionName}
use Rattle.pg_words.specs.declared.names.OptionName.TheVariants as option
use Rattle.pg_words.specs.declared.reading.Reading.{Reading}
use Rattle.pg_words.specs.declared.reading.Reading.TheVariants as reading
use Rattle.pg_words.proofs.Leading.{lead_parts, led_parts, IsNext, lead_step}
use Rattle.pg_words.proofs.Naming.{option_step, value_step}
use Rattle.pg_words.proofs.Choosing.{row, stands-with_setting}
use Rattle.pg_words.proofs.Settings.{free_parts}

-- each option is among the options
options-row : (option : OptionName) → Contains options option
options-row option.Format = (0, lit< tt, refl)
options-row option.Workers = (1, lit< tt, refl)
options-row option.Cut = (2, lit< tt, refl)
options-row option.Seed = (3, lit< tt, refl)
options-row option.Rounds = (4, lit< tt, refl)
options-row option.Fuel = (5, lit< tt, refl)
options-row option.Serial = (6, lit< tt, refl)
options-row option.Virtual = (7, lit< tt, refl)
options-row option.Source = (8, lit< tt, refl)
options-row option.Tolerance = (9, lit< tt, refl)
options-row option.Cache = (10, lit< tt, refl)

module _ {X : Type 0} (p q : X → Bool) (keeps : (x : X) → p x ≡ true → q x ≡ true) where
  one-keeps : (b c : Bool) → (b ≡ true → c ≡ true) → cond b 1 0 ≤ cond c 1 0
  one-keeps true true kept = omega arith
  one-keeps true false kept = let no = kept refl in cc
  one-keeps false true kept = omega arith
  one-keeps false false kept = omega arith

  -- what passes a wider test is as many
  count_by-keeps : (xs : List X) → count_by p xs ≤ count_by q xs
  count_by-keeps [] = omega arith
  count_by-keeps (x ∷ xs) =
      let first = one-keeps (p x) (q x) (keeps x) in
      let others = count_by-keeps xs in
      let narrow = sum_by-cons (λ (y : X). cond (p y) 1 0) x xs in
      let wide = sum_by-cons (λ (y : X). cond (q y) 1 0) x xs in
      omega arith

  -- and more where one passes only that
  count_by-gains : (xs : List X) (x : X) (k : ℕ) → k < length xs → slice_index_or xs k x ≡ x
      → p x ≡ false → q x ≡ true → count_by p xs < count_by q xs
  count_by-gains [] x k inside is fails passes = absurd (omega arith)
  count_by-gains (y ∷ ys) x zero inside is fails passes =
      let without : cond {A = ℕ} (p y) 1 0 ≡ 0 = rw (is, fails) refl in
      let within : cond {A = ℕ} (q y) 1 0 ≡ 1 = rw (is, passes) refl in
      let others = count_by-keeps ys in
      let narrow = sum_by-cons (λ (z : X). cond (p z) 1 0) y ys in
      let wide = sum_by-cons (λ (z : X). cond (q z) 1 0) y ys in
      omega arith
  count_by-gains (y ∷ ys) x (suc k) inside is fails passes =
      let first = one-keeps (p y) (q y) (keeps y) in
      let others = count_by-gains ys x k (omega arith) is fails passes in
      let narrow = sum_by-cons (λ (z : X). cond (p z) 1 0) y ys in
      let wide = sum_by-cons (λ (z : X). cond (q z) 1 0) y ys in
      omega arith

-- how many options stand
abbrev pub count : Choices → ℕ
count c = count_by (stands c) options

or_right : (a b : Bool) → b ≡ true → (a || b) ≡ true
or_right true b e = refl
or_right false b e = e

-- one more stands with a new option
count-with_setting : (c d : Choices) (option : OptionName) (word : Option Word) → stands c option ≡ false
    → with_setting c option word ≡ Some d → count c < count d
count-with_setting c d option word new e =
    let found = options-row option in
    count_by-gains (stands c) (stands d)
    (λ other stood. stands-with_setting c d option word e other ∙ or_right (eqb (row option) (row other)) (stands c other) stood)
    options option found.0 found.1 found.2 new
    (stands-with_setting c d option word e option ∙ rw (eq-eqb (row option) (row option) refl) refl)

-- at least how many words are behind what stands
abbrev pub words_behind : Reading → ℕ
words_behind (reading.Lead lead) = length (lead_parts lead)
words_behind (reading.Options head c) = length (head_parts head) + 2 * count c
words_behind (reading.Value head c option) = length (head_parts head) + 1 + 2 * count c

-- three words at most stand before the options
head_parts-le : (head : Head) → length (head_parts head) ≤ 3
head_parts-le (heads.Run engine program) = lit≤ tt
head_parts-le (heads.Check engine program) = lit≤ tt
head_parts-le heads.Cut = lit≤ tt

pub words_behind-le : (standing : Reading) → words_behind standing ≤ 4 + 2 * length options
words_behind-le (reading.Lead leads.Start) = lit≤ tt
words_behind-le (reading.Lead leads.Check) = lit≤ tt
words_behind-le (reading.Lead (leads.Run engine)) = lit≤ tt
words_behind-le (reading.Lead (leads.CheckBy engine)) = lit≤ tt
words_behind-le (reading.Options head c) =
    let most = count_by-le-length (stands c) options in
    let before = head_parts-le head in
    omega arith
words_behind-le (reading.Value head c option) =
    let most = count_by-le-length (stands c) options in
    let before = head_parts-le head in
    omega arith

-- an option that waits for its value doesn't stand yet, and never stands alone
abbrev pub IsFresh : Reading → Type 0
IsFresh (reading.Value head c option) = (stands c option ≡ false) × (with_flag c option ≡ None)
IsFresh _ = Unit {0}

-- what a word more makes of what stands
pub record IsStep (standing more : Reading) : Type 0 where
  pub fresh : IsFresh more
  pub further : words_behind standing < words_behind more

-- so does an option that may follow
behind-IsStep : (head : Head) (c : Choices) (option : OptionName) → stands c option ≡ false
    → IsStep (reading.Options head c) (behind_option head c option (with_flag c option))
behind-IsStep head c option new =
    let by_flag : (alone : Option Choices) → with_flag c option ≡ alone
    → IsStep (reading.Options head c) (behind_option head c option alone) = λ alone. elim alone
    as (λ o. with_flag c option ≡ o → IsStep (reading.Options head c) (behind_option head c option o)) [
      | None ↦ λ e. record { fresh = (new, e); further = omega arith }
      | Some d ↦ λ e. (let one = count-with_setting c d option None new e in record { fresh = tt; further = omega arith })
    ] in
    by_flag (with_flag c option) refl

-- so does a word before the options
led-IsStep : (lead : Lead) (led : Led) (word : Word) → IsNext lead word led → IsStep (reading.Lead lead) (standing led)
led-IsStep lead led word next =
    let longer : length (led_parts led) ≡ length (lead_parts lead) + 1 =
    ap length next.parts ∙ length-append (lead_parts lead) (next.part ∷ []) in
    elim led as (λ l. length (led_parts l) ≡ length (lead_parts lead) + 1 → IsStep (reading.Lead lead) (standing l)) [
      | to.Lead more ↦ λ e. record { fresh = tt; further = omega arith }
      | to.Head head ↦ λ e. record { fresh = tt; further = omega arith }
    ] longer

-- a word that may follow makes a step
pub next-IsStep : (standing more : Reading) (word : Word) → IsFresh standing → next standing word ≡ Some more → IsStep standing more
next-IsStep (reading.Lead lead) more word fresh e =
    let step = lead_step lead word more e in
    subst (IsStep (reading.Lead lead)) (sym step.is) (led-IsStep lead step.led word step.next)
next-IsStep (reading.Options head c) more word fresh e =
    let step = option_step head c word more e in
    subst (IsStep (reading.Options head c)) (sym step.is) (behind-IsStep head c step.option (free_parts head c step.option step.free).new)
next-IsStep (reading.Value head c option) more word fresh e =
    let step = value_step head c option word more e in
    let one = count-with_setting c step.chosen option (Some word) fresh.0 step.valued in
    subst (IsStep (reading.Value head c option)) (sym step.is) (record { fresh = tt; further = omega arith })
