-- What is read at the end of a line is all that is left.
use Rattle.std.proofs.Common.{◌≡◌, ℕ, ◌^◌, ◌<◌, ◌≤◌, List, [], ◌∷◌, ◌++◌, length, true, eqb, Some, refl, ap, ◌∙◌, arith, decimal, append-nil}
use Rattle.std.proofs.lemmas.Bool.{eqb-true}
use Rattle.pg_journal.specs.Fronts.{digits_at, number_at}
use Rattle.pg_journal.proofs.Digits.{read_some, tested, number_takes, number_again}
use Rattle.pg_report.specs.Fronts.{at_end, last_number}

pub nothing_left : (bytes : List ℕ) → eqb (length bytes) 0 ≡ true → bytes ≡ []
nothing_left [] e = refl
nothing_left (byte ∷ bytes) e = absurd (let none = eqb-true (length (byte ∷ bytes)) 0 e in omega arith)

-- what is read at the end is all
pub end_takes : {A : Type 0} (x y : A) (bytes : List ℕ) → at_end x bytes ≡ Some y → (bytes ≡ []) × (Some x ≡ Some y)
end_takes x y bytes e =
    let end = tested (eqb (length bytes) 0) (Some x) y e in
    (nothing_left bytes end.0, end.1)

-- a last number is all that is left
pub last_takes : (max : ℕ) (bytes : List ℕ) (n : ℕ) → max < 2 ^ 64 → last_number max bytes ≡ Some n
    → (bytes ≡ decimal n) × (n ≤ max)
last_takes max bytes n word e =
    let read = read_some (number_at max bytes) (λ found. at_end found.0 found.1) n e in
    let end = end_takes read.0.0 n read.0.1 read.2 in
    let front = number_takes max bytes read.0.1 read.0.0 word read.1 in
    let same : read.0.0 ≡ n = (let some = end.1 in cc) in
    let none = end.0 in
    let within = front.1 in
    (front.0 ∙ (ap (λ (rest : List ℕ). decimal read.0.0 ++ rest) none ∙ (append-nil (decimal read.0.0) ∙ ap decimal same)), omega arith)

pub last_again : (max n : ℕ) → n ≤ max → max < 2 ^ 64 → last_number max (decimal n) ≡ Some n
unfolding digits_at
last_again max n small word =
    let alone = append-nil (decimal n) in
    let number = number_again max n [] small word refl in
    let read = rw alone at number in
    rw read refl
