-- Replicas to which an entry has yet to be written.
use Rattle.std.proofs.Common.{ℕ, zero, suc, ◌+◌, ◌<◌, ◌≡◌, ◌≢◌, ◌⊎◌, inl, inr, ◌==◌, length, take, drop, List, [], ◌∷◌, ◌++◌, slice_index_or, slice_set, Bool, true, false, cond, arith, refl, sym, ap, ◌∙◌, add-one}
use Rattle.std.specs.Prelude.{map, Vec}
use Rattle.std.specs.declared.alloc.Global.{Global}
use Rattle.std.proofs.lemmas.Bool.Decides.{Decides-eqb}
use Rattle.pg_meals.specs.declared.seat.Replica.{Replica}
use Rattle.pg_meals.specs.Entries.{replicas_at, replica_in, made_stale, homes}
use Rattle.pg_meals.proofs.At.{same_or_not, false_test}
use Rattle.pg_meals.proofs.Copied.{rows_set}

set_next : (xs : List Replica) (i : ℕ) (d : Replica) → i < length xs
    → slice_set (map made_stale (take i xs) ++ drop i xs) i (made_stale (slice_index_or (map made_stale (take i xs) ++ drop i xs) i d)) ≡ map made_stale (take (suc i) xs) ++ drop (suc i) xs
set_next [] i d l = absurd (omega arith)
set_next (x ∷ xs) zero d l = refl
set_next (x ∷ xs) (suc i) d l = ap (λ ys. made_stale x ∷ ys) (set_next xs i d (omega arith))

-- one more replica is stale
pub stale_more : (xs rows : List Replica) (i : ℕ) (x : Replica) → rows ≡ map made_stale (take i xs) ++ drop i xs → i < length xs → x ≡ slice_index_or rows i x
    → slice_set rows i (made_stale x) ≡ map made_stale (take (i + 1) xs) ++ drop (i + 1) xs
stale_more xs rows i x done l is =
    rw (add-one) (ap (λ y. slice_set rows i (made_stale y)) is ∙ (ap (λ ys. slice_set ys i (made_stale (slice_index_or ys i x))) done ∙ set_next xs i x l))

-- the workers and data are as before, and each replica is stale
pub stale_homes : (xs : List Replica) → homes (map made_stale xs) ≡ homes xs
stale_homes [] = refl
stale_homes (x ∷ xs) = ap (λ ks. x.worker ∷ ks) (stale_homes xs)

pub stale_datum : (xs : List Replica) (k : ℕ) → (replica_in (map made_stale xs) k).datum ≡ (replica_in xs k).datum
stale_datum [] k = refl
stale_datum (x ∷ xs) k = go (k == x.worker) (stale_datum xs k)
  where
    go : (b : Bool) → (replica_in (map made_stale xs) k).datum ≡ (replica_in xs k).datum → (cond b (made_stale x) (replica_in (map made_stale xs) k)).datum ≡ (cond b x (replica_in xs k)).datum
    go true rest = refl
    go false rest = rest

pub all_stale : (xs : List Replica) (k : ℕ) → (replica_in (map made_stale xs) k).stale ≡ true
all_stale [] k = refl
all_stale (x ∷ xs) k = go (k == x.worker) (all_stale xs k)
  where
    go : (b : Bool) → (replica_in (map made_stale xs) k).stale ≡ true → (cond b (made_stale x) (replica_in (map made_stale xs) k)).stale ≡ true
    go true rest = refl
    go false rest = rest

-- the workers of each vertex's replicas are the same once those of one are stale
pub stale_after : (rows : List (Vec Replica Global)) (v : ℕ) (row : Vec Replica Global) → v < length rows → row.items ≡ map made_stale (replicas_at rows v) → (u : ℕ) → homes (replicas_at (slice_set rows v row) u) ≡ homes (replicas_at rows u)
stale_after rows v row v_in row_is u = ap homes (rows_set rows v row u v_in) ∙ go (same_or_not u v)
  where
    go : (u ≡ v) ⊎ (u ≢ v) → homes (cond (u == v) row.items (replicas_at rows u)) ≡ homes (replicas_at rows u)
    go (inl q) =
        let t : (u == v) ≡ true = (Decides-eqb u v).1 q in
        rw (t) (ap homes row_is ∙ (stale_homes (replicas_at rows v) ∙ ap (λ n. homes (replicas_at rows n)) (sym q)))
    go (inr n) = rw (false_test u v n) refl
