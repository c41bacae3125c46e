-- A number at the front is read again as it was written, and nothing else is read.
use Rattle.std.proofs.Common.{◌≡◌, ℕ, ◌+◌, ◌-◌, ◌*◌, ◌^◌, ◌<◌, ◌≤◌, List, [], ◌∷◌, ◌++◌, length, get_or, take, drop, Bool, true, false, ◌&&◌, eqb, cond, nat_le, Option, Some, None, refl, sym, ap, ◌∙◌, arith, zero, suc, add-one, lit<}
use Rattle.std.proofs.Math.Seq.{drop-cons, take-append_seam, drop-append_seam}
use Rattle.std.proofs.lemmas.List.{drop_all, take-append-drop}
use Rattle.std.proofs.lemmas.Slice.Eq.{bytes_eq-Decides}
use Rattle.std.proofs.lemmas.Bool.{eqb-true, and_parts}
use Rattle.std.proofs.lemmas.Bool.Decides.{nat_tests}
use Rattle.std.proofs.lemmas.Fmt.{decimal-digits_value, digits_decimal, digits_value-decimal, first_decimal, decimal_digit, decimal_nonempty}
use Rattle.std.proofs.lemmas.Str.Parse.{IsNumeralModel}
use Rattle.std.specs.Fmt.{decimal}
use Rattle.std.specs.Char.{digit_value}
use Rattle.std.specs.Str.{bytes_eq}
use Rattle.std.specs.Str.Parse.{digits_value_after, AllDigits}
use Rattle.pg_base.specs.Numbers.{is_digit, are_digits, value_from, number_of}
use Rattle.pg_journal.specs.Fronts.{◌>>=◌, behind, digits_at, is_plain, plain_number, number_at}

-- the count of digits, byte by byte
pub digits_at-more : (bytes : List ℕ) (i : ℕ) → i < length bytes → is_digit (get_or bytes i 0) ≡ true
    → digits_at (drop i bytes) ≡ 1 + digits_at (drop (i + 1) bytes)
unfolding digits_at
digits_at-more bytes i inside digit = rw (drop-cons bytes i 0 inside, digit, add-one) refl

pub digits_at-none : (bytes : List ℕ) (i : ℕ) → i < length bytes → is_digit (get_or bytes i 0) ≡ false
    → digits_at (drop i bytes) ≡ 0
unfolding digits_at
digits_at-none bytes i inside other = rw (drop-cons bytes i 0 inside, other) refl

pub digits_at-end : (bytes : List ℕ) (i : ℕ) → length bytes ≤ i → digits_at (drop i bytes) ≡ 0
unfolding digits_at
digits_at-end bytes i behind = rw (drop_all i bytes behind) refl

-- the value of the first reading, and what the second made of it
pub read_some : {A B : Type 0} (o : Option A) (f : A → Option B) (y : B) → (o >>= f) ≡ Some y
    → (x : A) × (o ≡ Some x) × (f x ≡ Some y)
read_some None f y e = cc
read_some (Some x) f y e = (x, refl, e)

-- what a test let through
pub tested : {A : Type 0} (b : Bool) (o : Option A) (y : A) → cond b o None ≡ Some y → (b ≡ true) × (o ≡ Some y)
tested true o y e = (refl, e)
tested false o y e = cc

-- what is behind a text stands behind it
pub behind_takes : (text bytes rest : List ℕ) → behind text bytes ≡ Some rest → bytes ≡ text ++ rest
unfolding behind
behind_takes text bytes rest e =
    let found = tested (bytes_eq (take (length text) bytes) text) (Some (drop (length text) bytes)) rest e in
    let front : take (length text) bytes ≡ text = (bytes_eq-Decides (take (length text) bytes) text).0 found.0 in
    let back : drop (length text) bytes ≡ rest = cc in
    sym (take-append-drop (length text) bytes) ∙ rw (front, back) refl

pub behind_again : (text rest : List ℕ) → behind text (text ++ rest) ≡ Some rest
unfolding behind
behind_again text rest =
    rw (take-append_seam text rest, drop-append_seam text rest, (bytes_eq-Decides text text).1 refl) refl

-- the parts of what was read
pub parts_of : {A B : Type 0} (a c : A) (b d : B) → (let o : Option (A × B) = Some (a, b) in o ≡ Some (c, d)) → (a ≡ c) × (b ≡ d)
parts_of {A} {B} a c b d e =
    let part : Option (A × B) → A × B = λ o. elim o [ None ↦ (a, b) | Some p ↦ p ] in
    (ap (λ (o : Option (A × B)). (part o).0) e, ap (λ (o : Option (A × B)). (part o).1) e)

-- a digit by its test, and by its value
digit_low : (byte : ℕ) → is_digit byte ≡ true → digit_value byte < 10
digit_low byte is = grind (arith, nat_tests)

digit_is : (byte : ℕ) → digit_value byte < 10 → (is_digit byte ≡ true) × (byte - 48 ≡ digit_value byte)
digit_is byte low = (grind (arith, nat_tests), grind (arith, nat_tests))

all_digits : (digits : List ℕ) → are_digits digits ≡ true → AllDigits 10 digits
all_digits [] e = tt
all_digits (byte ∷ bytes) e =
    let both = and_parts (is_digit byte) (are_digits bytes) e in
    (digit_low byte both.0, all_digits bytes both.1)

are_all : (digits : List ℕ) → AllDigits 10 digits → are_digits digits ≡ true
are_all [] all = refl
are_all (byte ∷ bytes) all =
    let first = (digit_is byte all.0).0 in
    let rest = are_all bytes all.1 in
    rw (first, rest) refl

value_same : (n : ℕ) (digits : List ℕ) → AllDigits 10 digits → value_from n digits ≡ digits_value_after 10 n digits
value_same n [] all = refl
value_same n (byte ∷ bytes) all =
    ap (λ (m : ℕ). value_from (n * 10 + m) bytes) (digit_is byte all.0).1
    ∙ value_same (n * 10 + digit_value byte) bytes all.1

-- numbers are read as std reads numerals
numerals : IsNumeralModel (λ digits. are_digits digits ≡ true) (value_from 0)
numerals = record { to = all_digits; from = are_all; same = value_same 0 }

-- a number that was read: its digits, its value, and that it is within its limit
record IsNumber (max : ℕ) (digits : List ℕ) (n : ℕ) : Type 0 where
  pub some : 0 < length digits
  pub digits_all : are_digits digits ≡ true
  pub value : value_from 0 digits ≡ n
  pub within : n ≤ max

within_max : (max v : ℕ) → nat_le v max ≡ true → v ≤ max
within_max max v e = grind (arith, nat_tests)

number_is : (max : ℕ) (digits : List ℕ) (n : ℕ) → number_of max digits ≡ Some n → IsNumber max digits n
number_is max [] n e = cc
number_is max (byte ∷ bytes) n e =
    let found = tested (are_digits (byte ∷ bytes) && nat_le (value_from 0 (byte ∷ bytes)) max) (Some (value_from 0 (byte ∷ bytes))) n e in
    let both = and_parts (are_digits (byte ∷ bytes)) (nat_le (value_from 0 (byte ∷ bytes)) max) found.0 in
    let value : value_from 0 (byte ∷ bytes) ≡ n = cc in
    let within = within_max max (value_from 0 (byte ∷ bytes)) both.1 in
    record { some = omega arith; digits_all = both.0; value = value; within = omega arith }

number_again_of : (max : ℕ) (digits : List ℕ) (n : ℕ) → IsNumber max digits n → number_of max digits ≡ Some n
number_again_of max [] n is = absurd (let some = is.some in omega arith)
number_again_of max (byte ∷ bytes) n is =
    let value = is.value in
    let digits = is.digits_all in
    let small : nat_le n max ≡ true = (let within = is.within in grind (arith, nat_tests)) in
    rw (digits, value, small) refl

plain_alone : (digits : List ℕ) → is_plain digits ≡ true → get_or digits 0 0 ≡ 48 → length digits ≡ 1
plain_alone digits plain zero_first =
    let leading : eqb (get_or digits 0 0) 48 ≡ true = rw zero_first refl in
    let alone : eqb (length digits) 1 ≡ true = rw leading at plain in
    eqb-true (length digits) 1 alone

-- a number that is read is what `decimal` writes
pub number_takes : (max : ℕ) (bytes rest : List ℕ) (n : ℕ) → max < 2 ^ 64 → number_at max bytes ≡ Some (n, rest)
    → (bytes ≡ decimal n ++ rest) × (n ≤ max)
unfolding number_at plain_number
number_takes max bytes rest n word e =
    let found = read_some (plain_number max (take (digits_at bytes) bytes)) (λ number. Some (number, drop (digits_at bytes) bytes)) (n, rest) e in
    let plain = tested (is_plain (take (digits_at bytes) bytes)) (number_of max (take (digits_at bytes) bytes)) found.0 found.1 in
    let number = number_is max (take (digits_at bytes) bytes) found.0 plain.1 in
    let parts = parts_of found.0 n (drop (digits_at bytes) bytes) rest found.2 in
    let same = parts.0 in
    let back = parts.1 in
    let within = number.within in
    let value = number.value in
    let text = decimal-digits_value numerals (take (digits_at bytes) bytes) number.digits_all number.some (plain_alone (take (digits_at bytes) bytes) plain.0) (omega arith) in
    let front : take (digits_at bytes) bytes ≡ decimal n = sym text ∙ ap decimal (value ∙ same) in
    (sym (take-append-drop (digits_at bytes) bytes) ∙ rw (front, back) refl, omega arith)

-- what `decimal` writes is read, whatever other byte follows
digits_at-append : (digits rest : List ℕ) → are_digits digits ≡ true → digits_at rest ≡ 0
    → digits_at (digits ++ rest) ≡ length digits
unfolding digits_at
digits_at-append [] rest all ends = ends
digits_at-append (digit ∷ digits) rest all ends =
    let parts = and_parts (is_digit digit) (are_digits digits) all in
    rw (parts.0, digits_at-append digits rest parts.1 ends) (omega arith)

decimal_is_plain : (n : ℕ) → n < 2 ^ 64 → is_plain (decimal n) ≡ true
decimal_is_plain zero word = rw (decimal_digit 0 (lit< tt)) refl
decimal_is_plain (suc n) word =
    let first = first_decimal (suc n) (omega arith) word in
    let other : eqb (get_or (decimal (suc n)) 0 0) 48 ≡ false = grind (arith, nat_tests, first) in
    rw other refl

pub number_again : (max n : ℕ) (rest : List ℕ) → n ≤ max → max < 2 ^ 64 → digits_at rest ≡ 0
    → number_at max (decimal n ++ rest) ≡ Some (n, rest)
unfolding number_at plain_number
number_again max n rest small word ends =
    let fits : n < 2 ^ 64 = omega arith in
    let all = digits_decimal numerals n fits in
    let count = digits_at-append (decimal n) rest all ends in
    let number = number_again_of max (decimal n) n (record {
      some = decimal_nonempty n fits;
      digits_all = all;
      value = digits_value-decimal numerals n fits;
      within = small;
    }) in
    rw (count, take-append_seam (decimal n) rest, drop-append_seam (decimal n) rest, decimal_is_plain n fits, number) refl
