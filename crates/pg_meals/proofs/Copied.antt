-- A board after a replica was written shows the core after both its halves were.
use Rattle.std.proofs.Common.{ℕ, zero, suc, ◌<◌, ◌≡◌, ◌≢◌, ◌⊎◌, ◌==◌, ◌&&◌, not, length, List, [], ◌∷◌, slice_set, slice_index_or, Bool, true, false, cond, Option, Some, None, inl, inr, refl, sym, ap, subst, ◌∙◌, arith, true≢false}
use Rattle.std.specs.Prelude.{ltb, map, Vec}
use Rattle.std.specs.declared.alloc.Global.{Global}
use Rattle.std.proofs.lemmas.Bool.Decides.{Decides-eqb, nat_tests}
use Rattle.std.proofs.lemmas.List.{map-set, length-map}
use Rattle.pg_law.specs.declared.values.Datum.{Datum}
use Rattle.pg_law.specs.declared.values.JournalEntry.{JournalEntry}
use Rattle.pg_meals.specs.declared.fork.Fork.{Fork}
use Rattle.pg_meals.specs.declared.seat.Seat.{Seat}
use Rattle.pg_meals.specs.declared.seat.Replica.{Replica}
use Rattle.pg_meals.specs.declared.actor.Actor.{Actor}
use Rattle.pg_meals.specs.Families.{set_at}
use Rattle.pg_meals.specs.Core.{Core, Notes, half_of}
use Rattle.pg_meals.specs.Once.{is_among, Once}
use Rattle.pg_meals.specs.Entries.{replicas_at, replica_in, homes}
use Rattle.pg_meals.specs.Shown.{written_of, half_in, core_from}
use Rattle.pg_meals.proofs.At.{same_or_not, false_test}
use Rattle.pg_meals.proofs.ListReads.{read_set}
use Rattle.pg_meals.proofs.Showing.{as_set}
use Rattle.pg_meals.proofs.Written.{home_of}

-- a replica in the place of one of the same worker
pub in_place : (xs : List Replica) (i : ℕ) (y d : Replica) → Once (homes xs) → i < length xs → (slice_index_or xs i d).worker ≡ y.worker
    → (j : ℕ) → replica_in (slice_set xs i y) j ≡ cond (j == y.worker) y (replica_in xs j)
in_place [] i y d o l same j = absurd (omega arith)
in_place (x ∷ xs) zero y d o l same j = go (j == y.worker) (ap (λ k. j == k) same)
  where
    go : (b : Bool) → (j == x.worker) ≡ b → cond b y (replica_in xs j) ≡ cond b y (cond (j == x.worker) x (replica_in xs j))
    go true q = refl
    go false q = rw (q) refl
in_place (x ∷ xs) (suc i) y d o l same j = go (same_or_not j x.worker) (in_place xs i y d o.1 (omega arith) same j)
  where
    go : (j ≡ x.worker) ⊎ (j ≢ x.worker) → replica_in (slice_set xs i y) j ≡ cond (j == y.worker) y (replica_in xs j)
        → cond (j == x.worker) x (replica_in (slice_set xs i y) j) ≡ cond (j == y.worker) y (cond (j == x.worker) x (replica_in xs j))
    go (inl q) rest =
        let t : (j == x.worker) ≡ true = (Decides-eqb j x.worker).1 q in
        let u : (j == y.worker) ≡ false = false_test j y.worker (λ r. true≢false (sym (home_of xs i d (omega arith)) ∙ (ap (λ k. is_among k (homes xs)) (same ∙ (sym r ∙ q)) ∙ o.0))) in
        rw (t, u) refl
    go (inr n) rest = rw (false_test j x.worker n) rest

-- the workers are the same then
pub homes_same : (xs : List Replica) (i : ℕ) (y d : Replica) → i < length xs → (slice_index_or xs i d).worker ≡ y.worker → homes (slice_set xs i y) ≡ homes xs
homes_same [] i y d l same = absurd (omega arith)
homes_same (x ∷ xs) zero y d l same = ap (λ k. k ∷ homes xs) (sym same)
homes_same (x ∷ xs) (suc i) y d l same = ap (λ ks. x.worker ∷ ks) (homes_same xs i y d (omega arith) same)

-- the replicas of a vertex stand in its row
pub row_at : (rows : List (Vec Replica Global)) (v : ℕ) (d : Vec Replica Global) → v < length rows → replicas_at rows v ≡ (slice_index_or rows v d).items
row_at [] v d l = absurd (omega arith)
row_at (row ∷ rows) zero d l = refl
row_at (row ∷ rows) (suc v) d l = row_at rows v d (omega arith)

-- one row is written
pub rows_set : (rows : List (Vec Replica Global)) (v : ℕ) (row : Vec Replica Global) (u : ℕ) → v < length rows → replicas_at (slice_set rows v row) u ≡ set_at (replicas_at rows) v row.items u
rows_set rows v row u l =
    ap (λ xs. slice_index_or xs u []) (map-set (λ (r : Vec Replica Global). r.items) rows v row)
    ∙ read_set (map (λ (r : Vec Replica Global). r.items) rows) v row.items u [] (subst (λ n. v < n) (sym (length-map rows (λ (r : Vec Replica Global). r.items))) l)

-- a replica is its two halves, one written after the other
past_two : (h : ℕ) → ltb (suc (suc h)) 2 ≡ false
past_two h = grind (arith, nat_tests)

no_one : (h : ℕ) → (suc (suc h) == 1) ≡ false
no_one h = false_test (suc (suc h)) 1 (λ r. omega (arith, r))

no_nil : (h : ℕ) → (suc (suc h) == 0) ≡ false
no_nil h = false_test (suc (suc h)) 0 (λ r. omega (arith, r))

halves_in : (before datum pd : Datum) → datum ≡ pd → (h : ℕ) → half_in h datum ≡ set_at (set_at (λ i. half_in i before) 0 (half_of 0 pd)) 1 (half_of 1 pd) h
halves_in before datum pd is zero = ap (λ (x : Datum). x.first) is
halves_in before datum pd is (suc zero) = ap (λ (x : Datum). x.second) is
halves_in before datum pd is (suc (suc h)) = rw (no_one h, no_nil h, past_two h) refl

written_halves : (b : Bool) (h : ℕ) → ltb h 2 ≡ set_at (set_at (λ i. b && ltb i 2) 0 true) 1 true h
written_halves b zero = refl
written_halves b (suc zero) = refl
written_halves b (suc (suc h)) = rw (no_one h, no_nil h, past_two h) (sym (and_false b))
  where
    and_false : (b : Bool) → (b && false) ≡ false
    and_false true = refl
    and_false false = refl

-- the notes with one half more written on a worker
abbrev pub with_written : {A : Type 0} → ℕ → ℕ → Notes A → Notes A
with_written k h notes = record notes { written = set_at notes.written k (set_at (notes.written k) h true) }

module _ {A : Type 0} (seats : ℕ → Seat A) (forks : ℕ → Fork A) (rows : List (Vec Replica Global)) (actors : ℕ → Actor) (turn : Option ℕ) (journal : List JournalEntry) (a v k i : ℕ) (row : Vec Replica Global) (datum : Datum) (z : Replica)
    (v_in : v < length rows) (row_is : row.items ≡ slice_set (replicas_at rows v) i (record { worker = k; datum = datum; stale = false }))
    (i_in : i < length (replicas_at rows v)) (home : (slice_index_or (replicas_at rows v) i z).worker ≡ k) (once : Once (homes (replicas_at rows v))) (datum_is : datum ≡ (seats v).datum)
    (busy : (actors a).vertex ≡ Some v) (committed : (actors a).committed ≡ true) (alone : (b : ℕ) → (actors b).vertex ≡ Some v → b ≡ a) where
  abbrev y : Replica
  y = record { worker = k; datum = datum; stale = false }

  abbrev was : ℕ → ℕ → Replica
  was u j = replica_in (replicas_at rows u) j

  abbrev after : ℕ → List Replica
  after = replicas_at (slice_set rows v row)

  abbrev old : Core A
  old = core_from seats forks (replicas_at rows) actors turn journal

  abbrev new : Core A
  new = core_from seats forks after actors turn journal

  here_is : (j : ℕ) → replica_in (after v) j ≡ cond (j == k) y (was v j)
  here_is j =
      let t : (v == v) ≡ true = (Decides-eqb v v).1 refl in
      ap (λ xs. replica_in xs j) (rows_set rows v row v v_in ∙ (ap (λ b. cond b row.items (replicas_at rows v)) t ∙ row_is)) ∙ in_place (replicas_at rows v) i y z once i_in home j

  there_is : (u j : ℕ) → u ≢ v → replica_in (after u) j ≡ was u j
  there_is u j n = ap (λ xs. replica_in xs j) (rows_set rows v row u v_in ∙ ap (λ b. cond b row.items (replicas_at rows u)) (false_test u v n))

  abbrev half_copied : ℕ → (ℕ → ℕ → ℕ → ℕ) → ℕ → ℕ → ℕ → ℕ
  half_copied h replica = set_at replica v (set_at (replica v) k (set_at (replica v k) h (half_of h (seats v).datum)))

  replica_is : (u j h : ℕ) → (u ≡ v) ⊎ (u ≢ v) → (j ≡ k) ⊎ (j ≢ k) → new.replica u j h ≡ half_copied 1 (half_copied 0 old.replica) u j h
  replica_is u j h (inl q) (inl r) =
      let t : (u == v) ≡ true = (Decides-eqb u v).1 q in
      let s : (j == k) ≡ true = (Decides-eqb j k).1 r in
      let tv : (v == v) ≡ true = (Decides-eqb v v).1 refl in
      let sk : (k == k) ≡ true = (Decides-eqb k k).1 refl in
      let copied : set_at (set_at (old.replica v k) 0 (half_of 0 (seats v).datum)) 1 (half_of 1 (seats v).datum) h ≡ half_copied 1 (half_copied 0 old.replica) u j h = rw (t, s, tv, sk) refl in
      ap (λ n. half_in h (replica_in (after n) j).datum) q ∙ (ap (λ (x : Replica). half_in h x.datum) (here_is j ∙ ap (λ b. cond b y (was v j)) s) ∙ (halves_in (was v k).datum datum (seats v).datum datum_is h ∙ copied))
  replica_is u j h (inl q) (inr n) =
      let t : (u == v) ≡ true = (Decides-eqb u v).1 q in
      let s : (j == k) ≡ false = false_test j k n in
      let tv : (v == v) ≡ true = (Decides-eqb v v).1 refl in
      let copied : old.replica v j h ≡ half_copied 1 (half_copied 0 old.replica) u j h = rw (t, tv, s) refl in
      ap (λ n. half_in h (replica_in (after n) j).datum) q ∙ (ap (λ (x : Replica). half_in h x.datum) (here_is j ∙ ap (λ b. cond b y (was v j)) s) ∙ copied)
  replica_is u j h (inr n) r =
      let t : (u == v) ≡ false = false_test u v n in
      let copied : old.replica u j h ≡ half_copied 1 (half_copied 0 old.replica) u j h = rw (t) refl in
      ap (λ (x : Replica). half_in h x.datum) (there_is u j n) ∙ copied

  abbrev between : ℕ → Notes A
  between = set_at old.notes a (with_written k 0 (old.notes a))

  written_is : (j h : ℕ) → (j ≡ k) ⊎ (j ≢ k) → (new.notes a).written j h ≡ (with_written k 1 (with_written k 0 (old.notes a))).written j h
  written_is j h (inl q) =
      let s : (j == k) ≡ true = (Decides-eqb j k).1 q in
      let sk : (k == k) ≡ true = (Decides-eqb k k).1 refl in
      let had : (old.notes a).written k ≡ (λ i. ((actors a).committed && not (was v k).stale) && ltb i 2) = λ p i. (ap (λ o. written_of o (actors a).committed (replicas_at rows) k i) busy ∙ regroup (actors a).committed (not (was v k).stale) (ltb i 2)) p in
      let both : set_at (set_at ((old.notes a).written k) 0 true) 1 true h ≡ (with_written k 1 (with_written k 0 (old.notes a))).written j h = rw (s, sk) refl in
      ap (λ o. written_of o (actors a).committed after j h) busy
      ∙ ((λ p. committed p && not ((here_is j ∙ ap (λ b. cond b y (was v j)) s) p).stale && ltb h 2)
      ∙ (written_halves ((actors a).committed && not (was v k).stale) h ∙ (ap (λ (f : ℕ → Bool). set_at (set_at f 0 true) 1 true h) (sym had) ∙ both)))
    where
      regroup : (b d e : Bool) → (b && d && e) ≡ ((b && d) && e)
      regroup true d e = refl
      regroup false d e = refl
  written_is j h (inr n) =
      let s : (j == k) ≡ false = false_test j k n in
      let both : (old.notes a).written j h ≡ (with_written k 1 (with_written k 0 (old.notes a))).written j h = rw (s) refl in
      ap (λ o. written_of o (actors a).committed after j h) busy
      ∙ ((λ p. (actors a).committed && not ((here_is j ∙ ap (λ b. cond b y (was v j)) s) p).stale && ltb h 2)
      ∙ (sym (ap (λ o. written_of o (actors a).committed (replicas_at rows) j h) busy) ∙ both))

  other_written : (o : Option ℕ) (c : Bool) (j h : ℕ) → (o ≡ Some v → ⊥) → written_of o c after j h ≡ written_of o c (replicas_at rows) j h
  other_written None c j h n = refl
  other_written (Some u) c j h n = ap (λ (x : Replica). c && not x.stale && ltb h 2) (there_is u j (λ q. n (ap Some q)))

  notes_are : (b : ℕ) → new.notes b ≡ set_at between a (with_written k 1 (between a)) b
  notes_are = as_set between new.notes a (with_written k 1 (between a))
      ((λ p. record (old.notes a) { written = λ j h. written_is j h (same_or_not j k) p }) ∙ ap (λ b. with_written k 1 (cond b (with_written k 0 (old.notes a)) (old.notes a))) (sym ((Decides-eqb a a).1 refl)))
      (λ b n. (λ p. record (old.notes b) { written = λ j h. other_written (actors b).vertex (actors b).committed j h (λ q. n (alone b q)) p }) ∙ ap (λ t. cond t (with_written k 0 (old.notes a)) (old.notes b)) (sym (false_test b a n)))

  pub copy_shows : new ≡ record old { replica = half_copied 1 (half_copied 0 old.replica); notes = set_at between a (with_written k 1 (between a)) }
  copy_shows = λ p. record {
    words = old.words;
    content = old.content;
    place = old.place;
    replica = λ u j h. replica_is u j h (same_or_not u v) (same_or_not j k) p;
    notes = λ b. notes_are b p;
  }

  -- the second half isn't written after the first
  pub second_unwritten : (old.notes a).written k 1 ≡ false → (between a).written k 1 ≡ false
  second_unwritten n =
      let t : (a == a) ≡ true = (Decides-eqb a a).1 refl in
      let s : (k == k) ≡ true = (Decides-eqb k k).1 refl in
      rw (t, s) n

-- the workers of each vertex's replicas are the same once one was written
pub homes_after : (rows : List (Vec Replica Global)) (v i : ℕ) (row : Vec Replica Global) (y d : Replica) → v < length rows → row.items ≡ slice_set (replicas_at rows v) i y → i < length (replicas_at rows v)
    → (slice_index_or (replicas_at rows v) i d).worker ≡ y.worker → (u : ℕ) → homes (replicas_at (slice_set rows v row) u) ≡ homes (replicas_at rows u)
homes_after rows v i row y d v_in row_is i_in same u = ap homes (rows_set rows v row u v_in) ∙ go (same_or_not u v)
  where
    go : (u ≡ v) ⊎ (u ≢ v) → homes (cond (u == v) row.items (replicas_at rows u)) ≡ homes (replicas_at rows u)
    go (inl q) =
        let t : (u == v) ≡ true = (Decides-eqb u v).1 q in
        rw (t) (ap homes row_is ∙ (homes_same (replicas_at rows v) i y d i_in same ∙ ap (λ n. homes (replicas_at rows n)) (sym q)))
    go (inr n) = rw (false_test u v n) refl
