-- Replicas that are stale or not, and when an actor may leave its vertex.
use Rattle.std.proofs.Common.{ℕ, zero, suc, ◌<◌, ◌≡◌, ◌≢◌, ◌==◌, ◌&&◌, not, length, List, [], ◌∷◌, slice_index_or, Bool, true, false, cond, Some, arith, refl, sym, ap, ◌∙◌, true≢false}
use Rattle.std.specs.Prelude.{Vec, ltb}
use Rattle.std.specs.declared.alloc.Global.{Global}
use Rattle.std.proofs.lemmas.Bool.Decides.{Decides-eqb, nat_tests}
use Rattle.pg_law.specs.Values.{two}
use Rattle.pg_meals.specs.declared.seat.Replica.{Replica}
use Rattle.pg_meals.specs.declared.actor.Actor.{Actor}
use Rattle.pg_meals.specs.Once.{is_among, Once}
use Rattle.pg_meals.specs.Entries.{actor_at, replicas_at, replica_in, homes}
use Rattle.pg_meals.specs.Shown.{written_of}
use Rattle.pg_meals.specs.Tallies.{stale_among, left_to_write}
use Rattle.pg_meals.proofs.At.{false_test}
use Rattle.pg_meals.proofs.Counts.{none_passes, one_passes}

-- where no replica is stale, that of a worker that has one isn't
none_stale : (xs : List Replica) → ((i : ℕ) (d : Replica) → i < length xs → (slice_index_or xs i d).stale ≡ false) → (k : ℕ) → is_among k (homes xs) ≡ true → (replica_in xs k).stale ≡ false
none_stale [] none k t = absurd (true≢false (sym t))
none_stale (x ∷ xs) none k t = go (k == x.worker) t (none_stale xs (λ i d l. none (suc i) d (omega arith)) k)
  where
    go : (b : Bool) → cond b true (is_among k (homes xs)) ≡ true → (is_among k (homes xs) ≡ true → (replica_in xs k).stale ≡ false) → (cond b x (replica_in xs k)).stale ≡ false
    go true t rest = none 0 x (omega arith)
    go false t rest = rest t

-- a replica's worker is among the homes
pub home_of : (xs : List Replica) (i : ℕ) (d : Replica) → i < length xs → is_among (slice_index_or xs i d).worker (homes xs) ≡ true
home_of [] i d l = absurd (omega arith)
home_of (x ∷ xs) zero d l = let t : (x.worker == x.worker) ≡ true = (Decides-eqb x.worker x.worker).1 refl in rw (t) refl
home_of (x ∷ xs) (suc i) d l = go ((slice_index_or xs i d).worker == x.worker) (home_of xs i d (omega arith))
  where
    go : (b : Bool) → is_among (slice_index_or xs i d).worker (homes xs) ≡ true → cond b true (is_among (slice_index_or xs i d).worker (homes xs)) ≡ true
    go true rest = refl
    go false rest = rest

-- and where each has one home, it is the replica of that worker
pub found : (xs : List Replica) (i : ℕ) (d : Replica) → Once (homes xs) → i < length xs → replica_in xs (slice_index_or xs i d).worker ≡ slice_index_or xs i d
found [] i d o l = absurd (omega arith)
found (x ∷ xs) zero d o l = let t : (x.worker == x.worker) ≡ true = (Decides-eqb x.worker x.worker).1 refl in rw (t) refl
found (x ∷ xs) (suc i) d o l =
    let k = (slice_index_or xs i d).worker in
    let t : (k == x.worker) ≡ false = false_test k x.worker (λ q. true≢false (sym (home_of xs i d (omega arith)) ∙ (ap (λ n. is_among n (homes xs)) q ∙ o.0))) in
    rw (t) (found xs i d o.1 (omega arith))

module _ (actors : List Actor) (rows : List (Vec Replica Global)) (a v : ℕ) where
  abbrev written : ℕ → ℕ → Bool
  written = written_of (actor_at actors a).vertex (actor_at actors a).committed (replicas_at rows)

  written_is : (k h : ℕ) → (actor_at actors a).vertex ≡ Some v → written k h ≡ ((actor_at actors a).committed && not (replica_in (replicas_at rows v) k).stale && ltb h 2)
  written_is k h busy = ap (λ o. written_of o (actor_at actors a).committed (replicas_at rows) k h) busy

  -- both halves are written where the replica isn't stale, and none where it is
  pub fresh_written : (k h : ℕ) → (actor_at actors a).vertex ≡ Some v → (actor_at actors a).committed ≡ true → (replica_in (replicas_at rows v) k).stale ≡ false → h < 2 → written k h ≡ true
  fresh_written k h busy t fresh l =
      let few : ltb h 2 ≡ true = grind (arith, nat_tests, l) in
      written_is k h busy ∙ (λ j. t j && not (fresh j) && few j)

  pub stale_unwritten : (k h : ℕ) → (actor_at actors a).vertex ≡ Some v → (actor_at actors a).committed ≡ true → (replica_in (replicas_at rows v) k).stale ≡ true → written k h ≡ false
  stale_unwritten k h busy t stale = written_is k h busy ∙ (λ j. t j && not (stale j) && ltb h 2)

  abbrev left : ℕ
  left = left_to_write (actor_at actors a).vertex (actor_at actors a).committed (replicas_at rows)

  -- an actor that has nothing left to write has written all
  pub leaves : left ≡ 0 → (actor_at actors a).vertex ≡ Some v → (actor_at actors a).committed ≡ true → (k h : ℕ) → is_among k (homes (replicas_at rows v)) ≡ true → h < 2 → written k h ≡ true
  leaves nothing busy t k h s l =
      let none : stale_among (replicas_at rows v) ≡ 0 = (λ j. left_to_write (sym busy j) (sym t j) (replicas_at rows)) ∙ nothing in
      fresh_written k h busy t (none_stale (replicas_at rows v) (none_passes (λ (r : Replica). r.stale) (replicas_at rows v) none) k s) l

  abbrev row : List Replica
  row = replicas_at rows v

  abbrev nowhere : Replica
  nowhere = record { worker = 0; datum = two 0 0; stale = true }

  -- one that has something left has not
  pub stays_on : left ≢ 0 → (actor_at actors a).vertex ≡ Some v → Once (homes (replicas_at rows v))
      → ((actor_at actors a).committed ≡ true → (k h : ℕ) → is_among k (homes (replicas_at rows v)) ≡ true → h < 2 → written k h ≡ true) → ⊥
  stays_on some busy o all = go (actor_at actors a).committed refl
    where
      go : (c : Bool) → (actor_at actors a).committed ≡ c → ⊥
      go false t = some (λ j. left_to_write (busy j) (t j) (replicas_at rows))
      go true t =
          let one = one_passes (λ (r : Replica). r.stale) row (λ n. some ((λ j. left_to_write (busy j) (t j) (replicas_at rows)) ∙ n)) in
          let x = slice_index_or row one.0 nowhere in
          let stale : (replica_in row x.worker).stale ≡ true = ap (λ (r : Replica). r.stale) (found row one.0 nowhere o one.1) ∙ one.2 nowhere in
          true≢false (sym (all t x.worker 0 (home_of row one.0 nowhere one.1) (omega arith)) ∙ stale_unwritten x.worker 0 busy t stale)

-- where no replica is of a worker, it has no home there
pub no_home : (xs : List Replica) (k : ℕ) → ((i : ℕ) (d : Replica) → i < length xs → (slice_index_or xs i d).worker ≡ k → ⊥) → is_among k (homes xs) ≡ false
no_home [] k none = refl
no_home (x ∷ xs) k none =
    let t : (k == x.worker) ≡ false = false_test k x.worker (λ q. none 0 x (omega arith) (sym q)) in
    rw (t) (no_home xs k (λ i d l. none (suc i) d (omega arith)))

-- a worker without a home has the replica of nothing
pub no_replica : (xs : List Replica) (k : ℕ) → is_among k (homes xs) ≡ false → replica_in xs k ≡ record { worker = k; datum = two 0 0; stale = true }
no_replica [] k none = refl
no_replica (x ∷ xs) k none = go (k == x.worker) none (no_replica xs k)
  where
    go : (b : Bool) → cond b true (is_among k (homes xs)) ≡ false → (is_among k (homes xs) ≡ false → replica_in xs k ≡ record { worker = k; datum = two 0 0; stale = true })
        → cond b x (replica_in xs k) ≡ record { worker = k; datum = two 0 0; stale = true }
    go true none rest = absurd (true≢false none)
    go false none rest = rest none
