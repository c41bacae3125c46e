-- The gathers of the workers, which are all gathers.
use Rattle.std.proofs.Common.{◌≡◌, ℕ, zero, suc, ◌+◌, ◌<◌, Bool, true, false, List, [], ◌∷◌, length, refl, sym, ◌∙◌, ap, arith, add-one}
use Rattle.std.specs.Prelude.{sum_by, slice_index}
use Rattle.std.specs.List.{range_with_len, AllByRecursion}
use Rattle.std.proofs.lemmas.List.Sums.{sum_by-cons}
use Rattle.pg_graph.specs.Multigraph.{Multigraph, side_at, takes}
use Rattle.pg_graph.proofs.Stored.{edges_passing_below}
use Rattle.pg_law.specs.Program.{Program}
use Rattle.pg_law.specs.Monoid.{IsCommutativeMonoid, part}
use Rattle.pg_law.specs.Configuration.{Configuration, signalled, is_quiet}
use Rattle.pg_law.specs.Round.{edges_over, round}
use Rattle.pg_law.specs.Rounds.{Run, rounds, gathers_in}
use Rattle.pg_law.proofs.Parts.{parts_sum_up}
use Rattle.pg_law.proofs.Repeating.{rounds_none, rounds_stop, rounds_go}
use Rattle.pg_cut.specs.Cut.{Division, IsCutOf}
use Rattle.pg_sync.specs.Counting.{gathers_in_on, gathers_on}

pub sum_agree : (f h : ℕ → ℕ) → ((x : ℕ) → f x ≡ h x) → (xs : List ℕ) → sum_by f xs ≡ sum_by h xs
sum_agree f h agree [] = refl
sum_agree f h agree (x ∷ xs) = omega (arith, sum_by-cons f x xs, sum_by-cons h x xs, agree x, sum_agree f h agree xs)

pub sum_of_none : {X : Type 0} (xs : List X) → sum_by (λ (x : X). 0) xs ≡ 0
sum_of_none [] = refl
sum_of_none {X = X} (x ∷ xs) = omega (arith, sum_by-cons (λ (x : X). 0) x xs, sum_of_none xs)

sum_of_ones : (xs : List ℕ) → sum_by (λ (x : ℕ). 1) xs ≡ length xs
sum_of_ones [] = refl
sum_of_ones (x ∷ xs) = omega (arith, sum_by-cons (λ (x : ℕ). 1) x xs, sum_of_ones xs)

pub sum_of_both : {X : Type 0} (f h : X → ℕ) (xs : List X) → sum_by (λ x. f x + h x) xs ≡ sum_by f xs + sum_by h xs
sum_of_both f h [] = refl
sum_of_both f h (x ∷ xs) = omega (arith, sum_by-cons (λ x. f x + h x) x xs, sum_by-cons f x xs, sum_by-cons h x xs, sum_of_both f h xs)

-- by rows or by columns
pub exchanged : (f : ℕ → ℕ → ℕ) (ws us : List ℕ) → sum_by (λ w. sum_by (f w) us) ws ≡ sum_by (λ u. sum_by (λ w. f w u) ws) us
exchanged f ws [] = sum_of_none ws
exchanged f ws (u ∷ us) = sum_agree (λ w. sum_by (f w) (u ∷ us)) (λ w. f w u + sum_by (f w) us) (λ w. sum_by-cons (f w) u us) ws
    ∙ sum_of_both (λ w. f w u) (λ w. sum_by (f w) us) ws
    ∙ ap (λ n. sum_by (λ w. f w u) ws + n) (exchanged f ws us)
    ∙ sym (sum_by-cons (λ u. sum_by (λ w. f w u) ws) u us)

sums : IsCommutativeMonoid (λ (n : ℕ). Unit {0}) 0 (λ a b. a + b)
sums = record {
  unit_own = tt;
  closed = λ a b pa pb. tt;
  left_unit = λ a pa. omega arith;
  comm = λ a b pa pb. omega arith;
  assoc = λ a b c pa pb pc. omega arith;
}

all_own : (xs : List ℕ) → AllByRecursion (λ (x : ℕ). Unit {0}) xs
all_own [] = tt
all_own (x ∷ xs) = (tt, all_own xs)

-- each item is one worker's
pub parts_count : (place : ℕ → ℕ) (n : ℕ) (xs : List ℕ) → AllByRecursion (λ x. place x < n) xs → sum_by (λ w. length (part place w xs)) (range_with_len 0 n) ≡ length xs
parts_count place n xs below = sum_agree (λ w. length (part place w xs)) (λ w. sum_by (λ (x : ℕ). 1) (part place w xs)) (λ w. sym (sum_of_ones (part place w xs))) (range_with_len 0 n)
    ∙ parts_sum_up (λ (n : ℕ). Unit {0}) 0 (λ a b. a + b) sums (λ (x : ℕ). 1) place n xs below (all_own xs)
    ∙ sum_of_ones xs

each_then : (P Q : ℕ → Type 0) (xs : List ℕ) → ((x : ℕ) → P x → Q x) → AllByRecursion P xs → AllByRecursion Q xs
each_then P Q [] then all = tt
each_then P Q (x ∷ xs) then all = (then x all.0, each_then P Q xs then all.1)

module _ {Acc Carry : Type 0} (p : Program Acc Carry) (g : Multigraph) (cut : Division) where
  -- no more rounds, nothing to do, and one more round
  pub gathers_none : (s : Configuration) (w : ℕ) → gathers_on p g cut s 0 w ≡ 0
  unfolding gathers_on
  gathers_none s w = refl

  pub gathers_stop : (s : Configuration) (n w : ℕ) → is_quiet g s ≡ true → gathers_on p g cut s n w ≡ 0
  unfolding gathers_on
  gathers_stop s zero w quiet = refl
  gathers_stop s (suc n) w quiet = rw quiet refl

  pub gathers_go : (s : Configuration) (n m w : ℕ) → is_quiet g s ≡ false → n ≡ m + 1 → gathers_on p g cut s n w ≡ gathers_in_on p g cut s w + gathers_on p g cut (round p g s) m w
  unfolding gathers_on
  gathers_go s n m w busy e = rw (e, add-one, busy) refl

  module _ (is : IsCutOf g cut) where
    pub edges_placed : (u : ℕ) → AllByRecursion (λ e. slice_index cut.place e < cut.workers) (edges_over p.gather_edges g u)
    edges_placed u = each_then (λ e. e < length g.edges) (λ e. slice_index cut.place e < cut.workers) (edges_over p.gather_edges g u)
        (λ e h. is.placed.each e (omega (arith, h, is.placed.count)))
        (edges_passing_below g (λ e. takes p.gather_edges (side_at g u e)) u)

    in_round : (s : Configuration) → sum_by (gathers_in_on p g cut s) (range_with_len 0 cut.workers) ≡ gathers_in p g s
    in_round s = exchanged (λ w u. length (part (slice_index cut.place) w (edges_over p.gather_edges g u))) (range_with_len 0 cut.workers) (signalled g s)
        ∙ sum_agree (λ u. sum_by (λ w. length (part (slice_index cut.place) w (edges_over p.gather_edges g u))) (range_with_len 0 cut.workers)) (λ u. length (edges_over p.gather_edges g u))
        (λ u. parts_count (slice_index cut.place) cut.workers (edges_over p.gather_edges g u) (edges_placed u)) (signalled g s)

    pub in_rounds : (s : Configuration) (limit : ℕ) → sum_by (gathers_on p g cut s limit) (range_with_len 0 cut.workers) ≡ (rounds p g s limit).gathers
    in_rounds s zero = sum_agree (gathers_on p g cut s 0) (λ w. 0) (gathers_none s) (range_with_len 0 cut.workers) ∙ sum_of_none (range_with_len 0 cut.workers) ∙ ap (λ (r : Run). r.gathers) (sym (rounds_none p g s))
    in_rounds s (suc m) = by_quiet (is_quiet g s) refl (in_rounds (round p g s) m)
      where
        by_quiet : (quiet : Bool) → is_quiet g s ≡ quiet → sum_by (gathers_on p g cut (round p g s) m) (range_with_len 0 cut.workers) ≡ (rounds p g (round p g s) m).gathers
            → sum_by (gathers_on p g cut s (suc m)) (range_with_len 0 cut.workers) ≡ (rounds p g s (suc m)).gathers
        by_quiet true quiet later = sum_agree (gathers_on p g cut s (suc m)) (λ w. 0) (λ w. gathers_stop s (suc m) w quiet) (range_with_len 0 cut.workers)
            ∙ sum_of_none (range_with_len 0 cut.workers) ∙ ap (λ (r : Run). r.gathers) (sym (rounds_stop p g s (suc m) quiet))
        by_quiet false quiet later = sum_agree (gathers_on p g cut s (suc m)) (λ w. gathers_in_on p g cut s w + gathers_on p g cut (round p g s) m w) (λ w. gathers_go s (suc m) m w quiet (omega arith)) (range_with_len 0 cut.workers)
            ∙ sum_of_both (gathers_in_on p g cut s) (gathers_on p g cut (round p g s) m) (range_with_len 0 cut.workers)
            ∙ ap (λ n. n + sum_by (gathers_on p g cut (round p g s) m) (range_with_len 0 cut.workers)) (in_round s)
            ∙ ap (λ n. gathers_in p g s + n) later
            ∙ ap (λ (r : Run). r.gathers) (sym (rounds_go p g s (suc m) m quiet (omega arith)))
