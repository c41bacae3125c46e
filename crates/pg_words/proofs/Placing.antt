-- Where words go wrong: behind words that something stands after, at a word that may not follow.
use Rattle.std.proofs.Common.{◌≡◌, ℕ, ◌+◌, ◌<◌, ◌≤◌, List, [], ◌∷◌, ◌++◌, length, take, drop, map, get_or, Option, Some, None, option_and_then, append_assoc, refl, sym, subst, ap, ◌∙◌, arith, zero, suc, inl, inr}
use Rattle.std.proofs.lemmas.Bool.{cases_lt}
use Rattle.std.proofs.lemmas.Option.{option_and_then_some}
use Rattle.std.proofs.lemmas.List.{take-append-drop, take_all, take_more, length-map, get_or-map}
use Rattle.pg_words.specs.Names.{Word}
use Rattle.pg_words.specs.Jobs.{IsJob, BeginsJob, IsPlace}
use Rattle.pg_words.specs.Reading.{start, next, after, job_at, job_of}
use Rattle.pg_words.specs.declared.reading.Reading.{Reading}
use Rattle.pg_words.proofs.Completing.{can_end}
use Rattle.pg_words.proofs.Counting.{IsFresh, next-IsStep}
use Rattle.pg_words.proofs.Parsing.{IsJob-from_reading, job_of-IsJob}

-- words are read in parts
after-append : (standing : Reading) (front back : List Word)
    → after standing (front ++ back) ≡ option_and_then (λ more. after more back) (after standing front)
after-append standing [] back = refl
after-append standing (word ∷ front) back =
    elim (next standing word) as (λ o. option_and_then (λ more. after more (front ++ back)) o
    ≡ option_and_then (λ more. after more back) (option_and_then (λ more. after more front) o)) [
      | None ↦ refl
      | Some more ↦ after-append more front back
    ]

-- what stands after a word more
pub after-push : (words : List Word) (word : Word) (standing : Reading)
    → after start words ≡ Some standing → after start (words ++ word ∷ []) ≡ next standing word
after-push words word standing e =
    let parts = after-append start words (word ∷ []) in
    let last : (o : Option Reading) → option_and_then (λ more. Some more) o ≡ o =
    λ o. elim o as (λ v. option_and_then (λ more. Some more) v ≡ v) [ None ↦ refl | Some r ↦ refl ] in
    parts ∙ (rw e (last (next standing word)))

-- what is fresh is fresh with words more
after-IsFresh : (standing last : Reading) (words : List Word) → IsFresh standing → after standing words ≡ Some last → IsFresh last
after-IsFresh standing last [] fresh e = let same : standing ≡ last = cc in subst IsFresh same fresh
after-IsFresh standing last (word ∷ words) fresh e =
    option_and_then_some (λ more. after more words) (next standing word) last e (λ more follows behind.
    after-IsFresh more last words (next-IsStep standing more word fresh follows).fresh behind)

-- words after which something stands begin a job
begins : (words : List Word) (standing : Reading) → after start words ≡ Some standing → BeginsJob words
begins words standing e =
    let end = can_end standing (after-IsFresh start standing words tt e) in
    let parts = after-append start words end.0 in
    let read : job_of (words ++ end.0) ≡ Some end.1 =
    subst (λ (o : Option Reading). option_and_then job_at o ≡ Some end.1) (sym (parts ∙ rw e refl)) end.2 in
    (end.0, end.1, IsJob-from_reading (words ++ end.0) end.1 read)

-- others begin none
begins_none : (words : List Word) → after start words ≡ None → BeginsJob words → ⊥
begins_none words e (back, job, is) =
    let parts = after-append start words back in
    let nothing : after start (words ++ back) ≡ None = parts ∙ rw e refl in
    let none : job_of (words ++ back) ≡ None = ap (option_and_then job_at) nothing in
    let some : job_of (words ++ back) ≡ Some job = job_of-IsJob (words ++ back) job is in
    cc

-- the front of words that begin a job begins it
begins-front : (front back : List Word) → BeginsJob (front ++ back) → BeginsJob front
begins-front front back (more, job, is) =
    (back ++ more, job, subst (λ (words : List Word). IsJob words job) (append_assoc front back more) is)

-- a shorter front of a front
take-take : (words : List Word) (k i : ℕ) → k ≤ i → take k (take i words) ≡ take k words
take-take words zero i below = refl
take-take [] (suc k) zero below = refl
take-take (word ∷ words) (suc k) zero below = absurd (omega arith)
take-take [] (suc k) (suc i) below = refl
take-take (word ∷ words) (suc k) (suc i) below = ap (λ rest. word ∷ rest) (take-take words k i (omega arith))

-- the same for a front by its length
pub begins-take : (words : List Word) (k i : ℕ) → k ≤ i → BeginsJob (take i words) → BeginsJob (take k words)
begins-take words k i below begins =
    let front : take k (take i words) ≡ take k words = take-take words k i below in
    let whole = take-append-drop k (take i words) in
    rw (← front) (begins-front (take k (take i words)) (drop k (take i words)) (rw whole begins))

-- nothing stands after words that nothing stands after a front of
after-stops : (words : List Word) (i : ℕ) → after start (take i words) ≡ None → after start words ≡ None
after-stops words i nothing =
    let whole = take-append-drop i words in
    let parts = after-append start (take i words) (drop i words) in
    ap (after start) (sym whole) ∙ (parts ∙ rw nothing refl)

-- the words name no job, and go wrong there
pub record GoesWrong (words : List Word) (place : ℕ) : Type 0 where
  pub none : job_of words ≡ None
  pub at : IsPlace words place

-- the word at i may not follow those before it
pub wrong_at : (words : List Word) (i : ℕ) (standing : Reading) (word : Word) → i < length words
    → after start (take i words) ≡ Some standing → take (i + 1) words ≡ take i words ++ word ∷ []
    → next standing word ≡ None → GoesWrong words (i + 1)
wrong_at words i standing word inside stands more stops =
    let nothing : after start (take (i + 1) words) ≡ None = rw more (after-push (take i words) word standing stands ∙ stops) in
    record {
      none = ap (option_and_then job_at) (after-stops words (i + 1) nothing);
      at = record {
        counted = (omega arith, omega arith);
        before = λ k below. begins-take words k i (omega arith) (begins (take i words) standing stands);
        here = λ _. begins_none (take (i + 1) words) nothing;
      };
    }

-- all words may stand, and words are missing
pub wrong_behind : (words : List Word) (standing : Reading) → after start words ≡ Some standing
    → job_at standing ≡ None → GoesWrong words (length words + 1)
wrong_behind words standing stands missing =
    let all = take_all (length words) words (omega arith) in
    record {
      none = ap (option_and_then job_at) stands ∙ missing;
      at = record {
        counted = (omega arith, omega arith);
        before = λ k below. begins-take words k (length words) (omega arith) (rw all (begins words standing stands));
        here = λ inside. absurd (omega arith);
      };
    }

-- a word more of words that are seen by their bytes
pub take_more-map : {X Y : Type 0} (f : X → Y) (xs : List X) (i : ℕ) (x : X) (y : Y) → i < length xs
    → x ≡ get_or xs i x → y ≡ f x → take (i + 1) (map f xs) ≡ take i (map f xs) ++ y ∷ []
take_more-map f xs i x y inside is seen =
    let more = take_more (map f xs) i y (rw (length-map xs f) inside) in
    let one : get_or (map f xs) i y ≡ y = get_or-map f xs i x y inside ∙ (ap f (sym is) ∙ sym seen) in
    more ∙ ap (λ last. take i (map f xs) ++ last ∷ []) one

-- of two places neither is behind the other
IsPlace-le : (words : List Word) (place other : ℕ) → IsPlace words place → IsPlace words other → place ≤ other
IsPlace-le words place other is is_other = elim (cases_lt other place) [
  | inl below ↦ absurd (is_other.here (let counted = is.counted.1 in omega arith) (is.before other below))
  | inr le ↦ le
]

-- words go wrong at one place
pub IsPlace-only : (words : List Word) (place other : ℕ) → IsPlace words place → IsPlace words other → place ≡ other
IsPlace-only words place other is is_other =
    let here = IsPlace-le words place other is is_other in
    let there = IsPlace-le words other place is_other is in
    omega arith
