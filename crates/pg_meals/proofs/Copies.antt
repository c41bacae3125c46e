-- Copies for the workers of a span.
use Rattle.std.proofs.Common.{ℕ, ◌+◌, ◌≡◌, List, [], ◌∷◌, ◌++◌, Bool, true, false, cond, refl, sym, ap, ◌∙◌}
use Rattle.std.specs.Prelude.{map, filter}
use Rattle.std.specs.List.{range_with_len}
use Rattle.std.proofs.lemmas.List.{append-nil}
use Rattle.pg_graph.proofs.Numbers.{filter_numbers_more}
use Rattle.pg_cut.specs.WorkerSet.{all_workers, has, workers_in}
use Rattle.pg_meals.specs.Opening.{copy_of}
use Rattle.pg_law.specs.declared.values.Datum.{Datum}
use Rattle.pg_meals.specs.declared.seat.Replica.{Replica}

module _ {X : Type 0} (f : ℕ → X) where
  map_more : (xs : List ℕ) (n : ℕ) (b : Bool) → map f (xs ++ cond b (n ∷ []) []) ≡ map f xs ++ cond b (f n ∷ []) []
  map_more [] n true = refl
  map_more [] n false = refl
  map_more (x ∷ xs) n b = ap (λ ys. f x ∷ ys) (map_more xs n b)

  module _ (p : ℕ → Bool) (n : ℕ) (xs : List X) (done : xs ≡ map f (filter p (range_with_len 0 n))) where
    more : (xs ++ cond (p n) (f n ∷ []) []) ≡ map f (filter p (range_with_len 0 (n + 1)))
    more = ap (λ ys. ys ++ cond (p n) (f n ∷ []) []) done ∙ (sym (map_more (filter p (range_with_len 0 n)) n (p n)) ∙ ap (map f) (sym (filter_numbers_more p n)))

    -- one more number passes, or not
    pub passed : p n ≡ true → (xs ++ f n ∷ []) ≡ map f (filter p (range_with_len 0 (n + 1)))
    passed t = ap (λ b. xs ++ cond b (f n ∷ []) []) (sym t) ∙ more

    pub failed : p n ≡ false → xs ≡ map f (filter p (range_with_len 0 (n + 1)))
    failed t = sym (append-nil xs) ∙ (ap (λ b. xs ++ cond b (f n ∷ []) []) (sym t) ∙ more)

-- all workers are those below 64
pub all_copies : (span n : ℕ) (datum : Datum) (row : List Replica) → row ≡ map (copy_of datum) (filter (has span) (range_with_len 0 n)) → n ≡ 64 → row ≡ map (copy_of datum) (workers_in span)
unfolding all_workers
all_copies span n datum row done all = done ∙ ap (λ m. map (copy_of datum) (filter (has span) (range_with_len 0 m))) all
