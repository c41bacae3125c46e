-- The token at the front of a line, and its number digit by digit.
use Rattle.std.proofs.Common.{◌≡◌, ℕ, ◌+◌, ◌-◌, ◌*◌, ◌^◌, ◌<◌, ◌≤◌, List, [], ◌∷◌, length, map, get_or, take, drop, suc, add-one, Bool, true, false, cond, not, eqb, Option, Some, None, refl, sym, ap, ◌∙◌, arith}
use Rattle.std.specs.Prelude.{◌&&◌, nat_le}
use Rattle.std.proofs.Math.Seq.{drop-cons}
use Rattle.std.proofs.lemmas.List.{take_all, length-drop}
use Rattle.std.proofs.lemmas.Bool.Decides.{nat_tests}
use Rattle.pg_base.specs.Numbers.{is_digit, with_digit, number_of}
use Rattle.pg_base.proofs.Digits.{read_from, read_all}
use Rattle.pg_readers.specs.Lines.{is_comment}
use Rattle.pg_readers.specs.Tokens.{is_blank, begins_token, with_byte, tokens, behind_token, numbers}

-- what is left of a token that goes on at these bytes
abbrev pub token_front : List ℕ → List ℕ
token_front [] = []
token_front (byte ∷ bytes) = cond (is_blank byte) [] (byte ∷ token_front bytes)

-- its number, after that of its front
abbrev pub number_from : ℕ → List ℕ → Option ℕ
number_from n bytes = read_from (2 ^ 32 - 1) n (token_front bytes)

not_true : (b : Bool) → not b ≡ true → b ≡ false
not_true true e = cc
not_true false e = refl

-- bytes that begin with a token have that token and those behind it
pub tokens-front : (bytes : List ℕ) → begins_token bytes ≡ true → tokens bytes ≡ token_front bytes ∷ tokens (behind_token bytes)
tokens-front [] begins = cc
tokens-front (byte ∷ []) begins = rw (not_true (is_blank byte) begins) refl
tokens-front (byte ∷ next ∷ bytes) begins =
    let by_next : (b : Bool) → is_blank next ≡ b → with_byte byte (begins_token (next ∷ bytes)) (tokens (next ∷ bytes)) ≡ (byte ∷ token_front (next ∷ bytes)) ∷ tokens (behind_token (next ∷ bytes)) =
    λ b. elim b as (λ v. is_blank next ≡ v → with_byte byte (begins_token (next ∷ bytes)) (tokens (next ∷ bytes)) ≡ (byte ∷ token_front (next ∷ bytes)) ∷ tokens (behind_token (next ∷ bytes))) [
      | true ↦ λ blank. rw (blank, blank) refl
      | false ↦ λ solid. (let more : begins_token (next ∷ bytes) ≡ true = rw solid refl in
          rw (more, tokens-front (next ∷ bytes) more) refl)
    ] in
    rw (not_true (is_blank byte) begins) (by_next (is_blank next) refl)

pub numbers-front : (bytes : List ℕ) → begins_token bytes ≡ true → numbers bytes ≡ number_from 0 bytes ∷ numbers (behind_token bytes)
numbers-front [] begins = cc
numbers-front (byte ∷ bytes) begins =
    let solid = not_true (is_blank byte) begins in
    let whole : token_front (byte ∷ bytes) ≡ byte ∷ token_front bytes = rw solid refl in
    let first : number_of (2 ^ 32 - 1) (token_front (byte ∷ bytes)) ≡ number_from 0 (byte ∷ bytes) =
    ap (number_of (2 ^ 32 - 1)) whole ∙ sym (ap (read_from (2 ^ 32 - 1) 0) whole ∙ read_all (2 ^ 32 - 1) (byte ∷ token_front bytes) (omega arith)) in
    ap (map (number_of (2 ^ 32 - 1))) (tokens-front (byte ∷ bytes) begins) ∙ ap (λ (n : Option ℕ). n ∷ numbers (behind_token (byte ∷ bytes))) first

-- a digit is no blank
digit_is_solid : (byte : ℕ) → is_digit byte ≡ true → is_blank byte ≡ false
unfolding is_blank
digit_is_solid byte digit = grind (arith, nat_tests, digit)

only_digits : (b fits : Bool) (n m : ℕ) → cond (b && fits) (Some n) None ≡ Some m → b ≡ true
only_digits true fits n m some = refl
only_digits false fits n m some = cc

-- a digit more of the token
pub with_digit_solid : (n m byte : ℕ) → with_digit (2 ^ 32 - 1) n byte ≡ Some m → is_blank byte ≡ false
with_digit_solid n m byte some = digit_is_solid byte (only_digits (is_digit byte) (nat_le (n * 10 + (byte - 48)) (2 ^ 32 - 1)) (n * 10 + (byte - 48)) m some)

pub digit_more : (n m byte : ℕ) (bytes : List ℕ) → with_digit (2 ^ 32 - 1) n byte ≡ Some m → number_from n (byte ∷ bytes) ≡ number_from m bytes
digit_more n m byte bytes some = rw (with_digit_solid n m byte some, some) refl

pub behind_more : (byte : ℕ) (bytes : List ℕ) → is_blank byte ≡ false → behind_token (byte ∷ bytes) ≡ behind_token bytes
behind_more byte bytes solid = rw solid refl

-- the bytes behind a token are fewer
behind_le : (bytes : List ℕ) → length (behind_token bytes) ≤ length bytes
behind_le [] = omega arith
behind_le (byte ∷ bytes) =
    elim (is_blank byte) as (λ b. length (cond b (byte ∷ bytes) (behind_token bytes)) ≤ length (byte ∷ bytes)) [ true ↦ omega arith | false ↦ (let less = behind_le bytes in omega arith) ]

pub behind_shorter : (bytes : List ℕ) → begins_token bytes ≡ true → length (behind_token bytes) < length bytes
behind_shorter [] begins = cc
behind_shorter (byte ∷ bytes) begins = let less = behind_le bytes in rw (not_true (is_blank byte) begins) (omega arith)

pub begins-length : (bytes : List ℕ) → begins_token bytes ≡ true → 0 < length bytes
begins-length [] begins = cc
begins-length (byte ∷ bytes) begins = omega arith

-- the first byte of the first token
pub is_comment-tokens : (bytes : List ℕ) → begins_token bytes ≡ true → is_comment (tokens bytes) ≡ eqb (get_or bytes 0 0) 35
is_comment-tokens [] begins = cc
is_comment-tokens (byte ∷ bytes) begins =
    let whole : token_front (byte ∷ bytes) ≡ byte ∷ token_front bytes = rw (not_true (is_blank byte) begins) refl in
    rw (tokens-front (byte ∷ bytes) begins, whole) refl

not_false : (b : Bool) → not b ≡ false → b ≡ true
not_false true e = refl
not_false false e = cc

-- where no token begins
pub begins_nothing : (bytes : List ℕ) → length bytes < 1 → begins_token bytes ≡ false
begins_nothing [] short = refl
begins_nothing (byte ∷ bytes) short = absurd (omega arith)

pub begins_blank : (bytes : List ℕ) → is_blank (get_or bytes 0 0) ≡ true → begins_token bytes ≡ false
begins_blank [] blank = refl
begins_blank (byte ∷ bytes) blank = rw blank refl

-- there a number is whole
whole_here : (n : ℕ) (bytes : List ℕ) → begins_token bytes ≡ false → (number_from n bytes ≡ Some n) × (behind_token bytes ≡ bytes)
whole_here n [] ends = (refl, refl)
whole_here n (byte ∷ bytes) ends = let blank = not_false (is_blank byte) ends in (rw blank refl, rw blank refl)

none_here : (n : ℕ) (bytes : List ℕ) → 1 ≤ length bytes → with_digit (2 ^ 32 - 1) n (get_or bytes 0 0) ≡ None → is_blank (get_or bytes 0 0) ≡ false → number_from n bytes ≡ None
none_here n [] some no_digit solid = absurd (omega arith)
none_here n (byte ∷ bytes) some no_digit solid = rw (solid, no_digit) refl

-- the first number of the line, and the bytes behind its token
abbrev pub IsFirst : List ℕ → Option ℕ → List ℕ → Type 0
IsFirst bytes number behind = (numbers bytes ≡ number ∷ numbers behind) × (length behind < length bytes)

first_is : (bytes : List ℕ) (number : Option ℕ) (behind : List ℕ) → begins_token bytes ≡ true → number ≡ number_from 0 bytes → behind ≡ behind_token bytes → IsFirst bytes number behind
first_is bytes number behind begins number_is behind_is = (
  numbers-front bytes begins ∙ (ap (λ (n : Option ℕ). n ∷ numbers (behind_token bytes)) (sym number_is) ∙ ap (λ (rest : List ℕ). number ∷ numbers rest) (sym behind_is)),
  rw behind_is (behind_shorter bytes begins),
)

-- digits were read up to these bytes
module _ (bytes : List ℕ) (begins : begins_token bytes ≡ true) (n : ℕ) (rest : List ℕ) (number : number_from n rest ≡ number_from 0 bytes) (behind : behind_token rest ≡ behind_token bytes) where
  pub number_ends : begins_token rest ≡ false → IsFirst bytes (Some n) rest
  number_ends ends = let whole = whole_here n rest ends in first_is bytes (Some n) rest begins (sym whole.0 ∙ number) (sym whole.1 ∙ behind)

  pub no_number : (later : List ℕ) → 1 ≤ length rest → with_digit (2 ^ 32 - 1) n (get_or rest 0 0) ≡ None → is_blank (get_or rest 0 0) ≡ false → later ≡ behind_token rest → IsFirst bytes None later
  no_number later some no_digit solid later_is = first_is bytes None later begins (sym (none_here n rest some no_digit solid) ∙ number) (later_is ∙ behind)

-- the bytes from a place on, and the first of them
pub from_place : (bytes : List ℕ) (at : ℕ) → take (length bytes - at) (drop at bytes) ≡ drop at bytes
from_place bytes at = take_all (length bytes - at) (drop at bytes) (omega (arith, length-drop at bytes))

pub byte_at : (bytes : List ℕ) (at : ℕ) → at < length bytes → get_or (drop at bytes) 0 0 ≡ get_or bytes at 0
byte_at bytes at within = rw (drop-cons bytes at 0 within) refl

-- one digit more
module _ (bytes : List ℕ) (at n m : ℕ) (within : at < length bytes) (some : with_digit (2 ^ 32 - 1) n (get_or bytes at 0) ≡ Some m) where
  pub number_on : number_from n (drop at bytes) ≡ number_from m (drop (at + 1) bytes)
  number_on = ap (number_from n) (drop-cons bytes at 0 within) ∙ digit_more n m (get_or bytes at 0) (drop (suc at) bytes) some ∙ ap (λ k. number_from m (drop k bytes)) (sym (add-one at))

  pub behind_on : behind_token (drop at bytes) ≡ behind_token (drop (at + 1) bytes)
  behind_on = ap behind_token (drop-cons bytes at 0 within) ∙ behind_more (get_or bytes at 0) (drop (suc at) bytes) (with_digit_solid n m (get_or bytes at 0) some) ∙ ap (λ k. behind_token (drop k bytes)) (sym (add-one at))
