-- The forks of a vertex, and which of them an actor has pinned.
use Rattle.std.proofs.Common.{ℕ, zero, suc, ◌<◌, ◌≡◌, ◌≢◌, ◌⊎◌, ◌==◌, ◌||◌, List, [], ◌∷◌, ◌++◌, length, slice_index_or, Bool, true, false, cond, Option, Some, None, inl, inr, arith, refl, sym, ap, subst, ◌∙◌, add-one, true≢false}
use Rattle.std.specs.Prelude.{filter}
use Rattle.std.specs.List.{range_with_len, AllByRecursion}
use Rattle.std.proofs.lemmas.Bool.Decides.{Decides-eqb}
use Rattle.pg_graph.specs.declared.edge.Side.{Side}
use Rattle.pg_graph.specs.declared.edge.Side.TheVariants.{Source, Target}
use Rattle.pg_graph.specs.Multigraph.{Multigraph, IsMultigraph, edge_at, end_at, is_at, edges_at}
use Rattle.pg_graph.proofs.Numbers.{filter_numbers_more, filter_numbers_each}
use Rattle.pg_meals.specs.declared.board.Board.{Board}
use Rattle.pg_meals.specs.Entries.{is_actor, no_fork, fork_at, actor_at}
use Rattle.pg_meals.specs.Tallies.{pins_among}
use Rattle.pg_meals.specs.Boards.{IsBoard}
use Rattle.std.proofs.lemmas.List.Elements.{recursion_from_All}
use Rattle.pg_meals.specs.Once.{is_among}
use Rattle.pg_meals.proofs.Distinct.{IsIn}
use Rattle.pg_meals.proofs.Around.{either_end, edges_have}
use Rattle.pg_meals.proofs.At.{same_or_not, false_test, some_of}
use Rattle.pg_meals.proofs.Counts.{count_places, Within, within_fewer, within_all}

all_left : (P : ℕ → Type 0) (xs ys : List ℕ) → AllByRecursion P (xs ++ ys) → AllByRecursion P xs
all_left P [] ys k = tt
all_left P (x ∷ xs) ys k = (k.0, all_left P xs ys k.1)

all_right : (P : ℕ → Type 0) (xs ys : List ℕ) → AllByRecursion P (xs ++ ys) → AllByRecursion P ys
all_right P [] ys k = k
all_right P (x ∷ xs) ys k = all_right P xs ys k.1

-- what holds of each that passes holds of any that passes
pub any_passing : (P : ℕ → Type 0) (test : ℕ → Bool) (n : ℕ) → AllByRecursion P (filter test (range_with_len 0 n)) → (e : ℕ) → e < n → test e ≡ true → P e
any_passing P test zero k e i t = absurd (omega arith)
any_passing P test (suc n) k e i t =
    let whole : AllByRecursion P (filter test (range_with_len 0 n) ++ cond (test n) (n ∷ []) [])
    = subst (AllByRecursion P) (filter_numbers_more test n) (subst (λ m. AllByRecursion P (filter test (range_with_len 0 m))) (sym (add-one n)) k) in
    go (any_passing P test n (all_left P _ _ whole) e) (all_right P (filter test (range_with_len 0 n)) (cond (test n) (n ∷ []) []) whole) (same_or_not e n)
  where
    last : (b : Bool) → b ≡ true → AllByRecursion P (cond b (n ∷ []) []) → P n
    last true q k = k.0
    last false q k = absurd (true≢false (sym q))

    go : (e < n → test e ≡ true → P e) → AllByRecursion P (cond (test n) (n ∷ []) []) → (e ≡ n) ⊎ (e ≢ n) → P e
    go before here (inl q) = subst P (sym q) (last (test n) (ap test (sym q) ∙ t) here)
    go before here (inr m) = before (omega (arith, i, m)) t

-- by place, and by recursion
pub each_by_place : (P : ℕ → Type 0) (xs : List ℕ) → ((i : ℕ) → i < length xs → P (slice_index_or xs i 0)) → AllByRecursion P xs
each_by_place P [] k = tt
each_by_place P (x ∷ xs) k = (k 0 (omega arith), each_by_place P xs (λ i l. k (suc i) (omega arith)))

pub at_is : (g : Multigraph) (s : Side) (e v : ℕ) → end_at g s e ≡ v → is_at v (edge_at g e) ≡ true
at_is g Source e v q = ap (λ b. b || (end_at g Target e == v)) ((Decides-eqb (end_at g Source e) v).1 q)
at_is g Target e v q = ap (λ b. (end_at g Source e == v) || b) ((Decides-eqb (end_at g Target e) v).1 q) ∙ or_true (end_at g Source e == v)
  where
    or_true : (b : Bool) → (b || true) ≡ true
    or_true true = refl
    or_true false = refl

pub around_all : (P : ℕ → Type 0) (g : Multigraph) (v : ℕ) → ((i : ℕ) → i < length (edges_at g v) → P (slice_index_or (edges_at g v) i 0)) → (s : Side) (e : ℕ) → e < length g.edges → end_at g s e ≡ v → P e
around_all P g v k s e i at = any_passing P (λ f. is_at v (edge_at g f)) (length g.edges) (each_by_place P (edges_at g v) k) e i (at_is g s e v at)

pub is_actor_of : (a : ℕ) (o : Option ℕ) → is_actor a o ≡ true → o ≡ Some a
is_actor_of a None q = absurd (true≢false (sym q))
is_actor_of a (Some b) q = ap Some ((Decides-eqb b a).0 q)

-- an actor that has pinned as many forks as its vertex has edges has pinned all of them
module _ {A : Type 0} (g : Multigraph) (b : Board A) (board : IsBoard g b) (a v w : ℕ) (busy : (actor_at b.actors.items a).vertex ≡ Some v) where
  abbrev pins : ℕ → Bool
  pins e = is_actor a (fork_at w b.forks.items e).mark.pinner

  abbrev at_v : ℕ → Bool
  at_v e = is_at v (edge_at g e)

  abbrev PinsAround : Type 0
  PinsAround = (s : Side) (e : ℕ) → e < length g.edges → end_at g s e ≡ v → pins e ≡ true

  counted : pins_among a b.forks.items ≡ length (filter pins (range_with_len 0 (length g.edges)))
  counted = count_places (λ x. is_actor a x.mark.pinner) b.forks.items (no_fork w) ∙ ap (λ n. length (filter pins (range_with_len 0 n))) board.forks

  pinned_here : Within pins at_v (length g.edges)
  pinned_here e i t = let held = board.held w a e (is_actor_of a (fork_at w b.forks.items e).mark.pinner t) in at_is g (fork_at w b.forks.items e).mark.word.side e v (some_of _ v (sym held.1 ∙ busy))

  pub pins_all : pins_among a b.forks.items ≡ length (edges_at g v) → PinsAround
  pins_all as_many s e i at = within_all pins at_v (length g.edges) pinned_here (sym counted ∙ as_many) e i (at_is g s e v at)

  -- and the other way round
  pub as_many_pins : PinsAround → pins_among a b.forks.items ≡ length (edges_at g v)
  as_many_pins all = omega (arith, counted, within_fewer pins at_v (length g.edges) pinned_here, within_fewer at_v pins (length g.edges) here_pinned)
    where
      either : (e : ℕ) → e < length g.edges → (end_at g Source e ≡ v) ⊎ (end_at g Target e ≡ v) → pins e ≡ true
      either e i (inl q) = all Source e i q
      either e i (inr q) = all Target e i q

      here_pinned : Within at_v pins (length g.edges)
      here_pinned e i t = either e i (either_end (end_at g Source e) (end_at g Target e) v t)

-- the ends of an edge are vertices
pub end_in : (g : Multigraph) → IsMultigraph g → (s : Side) (e : ℕ) → e < length g.edges → end_at g s e < length g.ids
end_in g ok Source e i = (ok.edge e i).src
end_in g ok Target e i = (ok.edge e i).dst

-- what holds of each number of a list holds of any that stands in it
among_all : (P : ℕ → Type 0) (xs : List ℕ) (k : ℕ) → AllByRecursion P xs → is_among k xs ≡ true → P k
among_all P [] k all t = absurd (true≢false (sym t))
among_all P (x ∷ xs) k all t = go (same_or_not k x) t (among_all P xs k all.1)
  where
    go : (k ≡ x) ⊎ (k ≢ x) → cond (k == x) true (is_among k xs) ≡ true → (is_among k xs ≡ true → P k) → P k
    go (inl q) t rest = subst P (sym q) all.0
    go (inr n) t rest = rest (ap (λ b. cond b true (is_among k xs)) (sym (false_test k x n)) ∙ t)

pub in_among : (k : ℕ) (xs : List ℕ) → IsIn k xs → is_among k xs ≡ true
in_among k [] i = absurd i
in_among k (x ∷ xs) (inl q) = let t : (k == x) ≡ true = (Decides-eqb k x).1 q in rw (t) refl
in_among k (x ∷ xs) (inr m) = go (k == x) (in_among k xs m)
  where
    go : (b : Bool) → is_among k xs ≡ true → cond b true (is_among k xs) ≡ true
    go true rest = refl
    go false rest = rest

-- the edges at a vertex are those that are pinned, where these are just the edges of the vertex
pub pins_are : (g : Multigraph) (v : ℕ) (pins : ℕ → Bool) → ((e : ℕ) → pins e ≡ true → (e < length g.edges) × (s : Side) × (end_at g s e ≡ v))
    → ((s : Side) (e : ℕ) → e < length g.edges → end_at g s e ≡ v → pins e ≡ true) → (e : ℕ) → is_among e (edges_at g v) ≡ pins e
pins_are g v pins here all e = go (pins e) refl
  where
    at : is_among e (edges_at g v) ≡ true → pins e ≡ true
    at t =
        let P = λ (f : ℕ). (f < length g.edges) × (is_at v (edge_at g f) ≡ true) in
        let k = among_all P (edges_at g v) e (recursion_from_All P _ (filter_numbers_each (λ f. is_at v (edge_at g f)) (length g.edges))) t in
        either (either_end (end_at g Source e) (end_at g Target e) v k.1) k.0
      where
        either : (end_at g Source e ≡ v) ⊎ (end_at g Target e ≡ v) → e < length g.edges → pins e ≡ true
        either (inl q) i = all Source e i q
        either (inr q) i = all Target e i q

    not_at : (b : Bool) → is_among e (edges_at g v) ≡ b → pins e ≡ false → is_among e (edges_at g v) ≡ false
    not_at true t n = absurd (true≢false (sym (at t) ∙ n))
    not_at false t n = t

    go : (b : Bool) → pins e ≡ b → is_among e (edges_at g v) ≡ b
    go true q = let k = here e q in in_among e (edges_at g v) (edges_have g v e k.0 k.1 k.2)
    go false q = not_at (is_among e (edges_at g v)) refl q
