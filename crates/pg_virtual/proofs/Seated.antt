-- A table that was just opened has no replica on a worker beyond those of a cut.
use Rattle.std.proofs.Common.{ℕ, ◌<◌, ◌≤◌, ◌≡◌, ◌⊎◌, ◌==◌, length, List, [], ◌∷◌, Bool, true, false, cond, Option, Some, None, inl, inr, arith, refl, sym, ap, subst, ◌∙◌, slice_index_or, true≢false}
use Rattle.std.specs.Prelude.{IfSome, IsSome, IsNone, filter}
use Rattle.std.specs.List.{AllByRecursion, range_with_len}
use Rattle.std.proofs.lemmas.Bool.Decides.{Decides-eqb}
use Rattle.std.proofs.lemmas.List.{get_or_past}
use Rattle.std.proofs.lemmas.List.FromFn.{get_or-map-range_with_len}
use Rattle.pg_graph.specs.Multigraph.{Multigraph}
use Rattle.pg_graph.proofs.Numbers.{passing_below}
use Rattle.pg_law.specs.Configuration.{Configuration}
use Rattle.pg_cut.specs.WorkerSet.{all_workers}
use Rattle.pg_cut.specs.Cut.{Division, IsCutOf, in_span, span_of, span_in}
use Rattle.pg_delta.specs.declared.cell.CacheCell.{CacheCell}
use Rattle.pg_meals.specs.declared.actor.Actor.{Actor}
use Rattle.pg_meals.specs.declared.board.Board.{Board}
use Rattle.pg_meals.specs.Listed.{Cut}
use Rattle.pg_meals.specs.Once.{is_among}
use Rattle.pg_meals.specs.Opened.{IsOpened}
use Rattle.pg_meals.specs.Closing.{AllFree, OneBusy}
use Rattle.pg_meals.proofs.Gathers.{below_or_past}
use Rattle.pg_virtual.specs.Stretches.{HasFewWorkers}

-- what holds of each in a list holds of one that stands there
among_each : (P : ℕ → Type 0) (xs : List ℕ) (k : ℕ) → AllByRecursion P xs → is_among k xs ≡ true → P k
among_each P [] k all i = absurd (true≢false (sym i))
among_each P (x ∷ xs) k all i = go (among_each P xs k all.1) (k == x) refl i
  where
    go : (is_among k xs ≡ true → P k) → (b : Bool) → (k == x) ≡ b → cond b true (is_among k xs) ≡ true → P k
    go rest true q j = subst P (sym ((Decides-eqb k x).0 q)) all.0
    go rest false q j = rest j

span_below : (g : Multigraph) (workers : ℕ) (place : List ℕ) (v k : ℕ) → is_among k (span_of g workers place v) ≡ true → k < 64
unfolding all_workers
span_below g workers place v k i = among_each (λ w. w < 64) (filter (in_span g workers place v) (range_with_len 0 64)) k (passing_below (in_span g workers place v) 64 64 (omega arith)) i

few_in : (g : Multigraph) (cut : Division) → IsCutOf g cut → (v k : ℕ) → is_among k (span_in cut v) ≡ true → k < 64
few_in g cut is v k i = go (below_or_past v (length g.ids))
  where
    go : (v < length g.ids) ⊎ (length g.ids ≤ v) → k < 64
    go (inl below) = span_below g cut.workers cut.place v k (sym (ap (is_among k) (ap (λ xs. slice_index_or xs v []) is.spans_are
        ∙ get_or-map-range_with_len (span_of g cut.workers cut.place) 0 (length g.ids) v v [] below (omega arith))) ∙ i)
    go (inr past) = absurd (true≢false (sym i ∙ ap (is_among k) (get_or_past cut.spans v [] (omega (arith, past, is.count)))))

pub few_opened : {A : Type 0} (g : Multigraph) (cut : Division) (s : Configuration) (cells : List (CacheCell A)) (b : Board A) → IsCutOf g cut → IsOpened g cut s cells b → HasFewWorkers b
few_opened g cut s cells b is opened v k i = few_in g cut is v k (sym (ap (λ (z : Cut). z.spans v k) opened.placed) ∙ i)

-- what an option has, where it has this
pub some_in : {X : Type 0} (F : X → Type 0) (o : Option X) (x : X) → o ≡ Some x → IfSome o F → F x
some_in F o x is if = subst (λ z. IfSome z F) is if

-- where no actor has a vertex in hand, not one has
none_busy : (actors : List Actor) → AllFree actors → OneBusy actors → ⊥
none_busy actors free busy = true≢false (sym busy.2 ∙ free busy.0 busy.1)

pub closes : {X : Type 0} (o : Option X) (actors : List Actor) → AllFree actors → (IsNone o → OneBusy actors) → IsSome o
closes (Some x) actors free busy = refl
closes None actors free busy = absurd (none_busy actors free (busy refl))
