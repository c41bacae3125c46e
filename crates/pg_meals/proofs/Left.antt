-- What is left of a board: the state after the replay, and true cells.
use Rattle.std.proofs.Common.{ℕ, ◌+◌, ◌<◌, ◌≤◌, ◌≡◌, ◌≢◌, ◌⊎◌, ◌==◌, ◌||◌, length, List, slice_index_or, slice_set, Bool, true, false, cond, Option, None, inl, inr, arith, refl, sym, ap, subst, ◌∙◌, add-one}
use Rattle.std.specs.Prelude.{map}
use Rattle.std.specs.List.{range_with_len}
use Rattle.std.proofs.lemmas.Bool.Decides.{Decides-eqb}
use Rattle.std.proofs.lemmas.List.{length-set}
use Rattle.std.proofs.lemmas.List.FromFn.{fill_by_all}
use Rattle.pg_graph.specs.declared.edge.Side.{Side}
use Rattle.pg_graph.specs.declared.edge.Side.TheVariants.{Source, Target}
use Rattle.pg_graph.specs.Multigraph.{Multigraph, IsMultigraph, end_at}
use Rattle.pg_law.specs.Program.{Program}
use Rattle.pg_law.specs.Laws.{IsLawful, IsOptional}
use Rattle.pg_law.specs.Round.{join}
use Rattle.pg_law.specs.Configuration.{message_in}
use Rattle.pg_law.proofs.Parts.{join_monoid}
use Rattle.pg_delta.specs.declared.cell.CacheCell.{CacheCell}
use Rattle.pg_delta.specs.Cell.{cleared}
use Rattle.pg_meals.specs.declared.fork.Fork.{Fork}
use Rattle.pg_meals.specs.Families.{total}
use Rattle.pg_meals.specs.Setting.{cell_at}
use Rattle.pg_meals.specs.Entries.{at_side, fork_at}
use Rattle.pg_meals.specs.Closing.{for_end, ride_for, delivered, waits_on, waits_below, is_delta}
use Rattle.pg_meals.proofs.At.{same_or_not, false_test}
use Rattle.pg_meals.proofs.Totals.{total_in, join-none}
use Rattle.pg_meals.proofs.ListReads.{read_set}

-- the first n of m entries are those of the family
pub record IsFilled {X : Type 0} (f : ℕ → X) (n m : ℕ) (ys : List X) : Type 0 where
  pub count : length ys ≡ m
  pub each : (u : ℕ) (y : X) → u < n → slice_index_or ys u y ≡ f u

-- all are
pub filled_all : {X : Type 0} (f : ℕ → X) (n m : ℕ) (d : X) (ys : List X) → IsFilled f n m ys → m ≤ n → ys ≡ map f (range_with_len 0 m)
filled_all f n m d ys filled l = fill_by_all f ys m d filled.count (λ k i. filled.each k d (omega (arith, i, l)))

-- two entries of a list are written, at the ends of an edge
pub set_ends : {X : Type 0} (g : Multigraph) → IsMultigraph g → (e : ℕ) → e < length g.edges → (xs : List X) (d x y : X) → length xs ≡ length g.ids → (v : ℕ)
    → slice_index_or (slice_set (slice_set xs (end_at g Source e) x) (end_at g Target e) y) v d ≡ for_end g v e x y (slice_index_or xs v d)
set_ends g ok e i xs d x y count v =
    let s = end_at g Source e in
    let t = end_at g Target e in
    let one = read_set (slice_set xs s x) t y v d (omega (arith, (ok.edge e i).dst, count, length-set xs s x)) in
    let two = read_set xs s x v d (omega (arith, (ok.edge e i).src, count)) in
    one ∙ (ap (cond (v == t) y) two ∙ go (same_or_not v s) (same_or_not v t))
  where
    go : (v ≡ end_at g Source e) ⊎ (v ≢ end_at g Source e) → (v ≡ end_at g Target e) ⊎ (v ≢ end_at g Target e)
        → cond (v == end_at g Target e) y (cond (v == end_at g Source e) x (slice_index_or xs v d)) ≡ for_end g v e x y (slice_index_or xs v d)
    go (inl q) (inl r) = absurd ((ok.edge e i).apart (sym q ∙ r))
    go (inl q) (inr n) = rw (false_test v (end_at g Target e) n, (Decides-eqb v (end_at g Source e)).1 q, (Decides-eqb (end_at g Source e) v).1 (sym q)) refl
    go (inr n) (inl r) = rw ((Decides-eqb v (end_at g Target e)).1 r, false_test (end_at g Source e) v (λ q. n (sym q)), (Decides-eqb (end_at g Target e) v).1 (sym r)) refl
    go (inr n) (inr m) = rw (false_test v (end_at g Target e) m, false_test v (end_at g Source e) n, false_test (end_at g Source e) v (λ q. n (sym q)), false_test (end_at g Target e) v (λ q. m (sym q))) refl

-- what is at neither end isn't read at the other one
pub other_end : {X : Type 0} (g : Multigraph) → IsMultigraph g → (e : ℕ) → e < length g.edges → (xs : List X) (d x : X) → length xs ≡ length g.ids
    → slice_index_or (slice_set xs (end_at g Source e) x) (end_at g Target e) d ≡ slice_index_or xs (end_at g Target e) d
other_end g ok e i xs d x count =
    let apart : end_at g Target e ≢ end_at g Source e = λ q. (ok.edge e i).apart (sym q) in
    read_set xs (end_at g Source e) x (end_at g Target e) d (omega (arith, (ok.edge e i).src, count)) ∙ rw (false_test (end_at g Target e) (end_at g Source e) apart) refl

-- by ends: what is joined at one end and at the other
pub for_end_each : {X Y : Type 0} (g : Multigraph) (v e : ℕ) (h : Y → X) (s t none : Y) (x y z : X) → (v ≡ end_at g Source e → x ≡ h s) → (v ≡ end_at g Target e → y ≡ h t) → z ≡ h none → for_end g v e x y z ≡ h (for_end g v e s t none)
for_end_each g v e h s t none x y z a b c = go (end_at g Source e == v) refl (end_at g Target e == v) refl
  where
    go : (k : Bool) → (end_at g Source e == v) ≡ k → (l : Bool) → (end_at g Target e == v) ≡ l → cond k x (cond l y z) ≡ h (cond k s (cond l t none))
    go true q l r = a (sym ((Decides-eqb (end_at g Source e) v).0 q))
    go false q true r = b (sym ((Decides-eqb (end_at g Target e) v).0 r))
    go false q false r = c

module _ {A C : Type 0} (p : Program A C) (law : IsLawful p) (g : Multigraph) (forks : List (Fork A)) (rides : (s : Side) (e : ℕ) → IsOptional p.IsMessage (at_side s (fork_at 0 forks e).content).message) where
  ride_own : (v e : ℕ) → IsOptional p.IsMessage (ride_for g forks v e)
  ride_own v e = go (end_at g Source e == v) (end_at g Target e == v)
    where
      go : (k l : Bool) → IsOptional p.IsMessage (cond k (fork_at 0 forks e).content.source.message (cond l (fork_at 0 forks e).content.target.message None))
      go true l = rides Source e
      go false true = rides Target e
      go false false = tt

  rides_total : (v n : ℕ) → IsOptional p.IsMessage (total (join p.combine) None (ride_for g forks v) n)
  rides_total v n = total_in (join_monoid p law) (ride_for g forks v) n (ride_own v)

  -- a message is one of the program still, with those that ride
  pub delivered_own : (v n : ℕ) (own : Option ℕ) → IsOptional p.IsMessage own → IsOptional p.IsMessage (delivered p.combine g forks v n own)
  delivered_own v n own k = (join_monoid p law).closed own _ k (rides_total v n)

  -- one more fork
  pub delivered_more : (v n : ℕ) (own : Option ℕ) → IsOptional p.IsMessage own → join p.combine (delivered p.combine g forks v n own) (ride_for g forks v n) ≡ delivered p.combine g forks v (n + 1) own
  delivered_more v n own k =
      let goal : ℕ → Type 0 = λ m. join p.combine (delivered p.combine g forks v n own) (ride_for g forks v n) ≡ delivered p.combine g forks v m own in
      subst goal (sym (add-one n)) ((join_monoid p law).assoc own _ _ k (rides_total v n) (ride_own v n))

  module _ (ok : IsMultigraph g) (old xs : List (Option ℕ)) (e : ℕ) (i : e < length g.edges) (count : length xs ≡ length g.ids) (own : (v : ℕ) → IsOptional p.IsMessage (message_in old v))
      (so_far : (v : ℕ) → v < length g.ids → message_in xs v ≡ delivered p.combine g forks v e (message_in old v)) where
    -- what was delivered so far are messages of the program
    pub so_far_own : (v : ℕ) → v < length g.ids → IsOptional p.IsMessage (message_in xs v)
    so_far_own v l = subst (IsOptional p.IsMessage) (sym (so_far v l)) (delivered_own v e (message_in old v) (own v))

    -- what rides on one more fork is delivered
    pub deliver_more : (x y : Option ℕ) → x ≡ join p.combine (message_in xs (end_at g Source e)) (fork_at 0 forks e).content.source.message
        → y ≡ join p.combine (message_in xs (end_at g Target e)) (fork_at 0 forks e).content.target.message
        → (v : ℕ) → v < length g.ids → message_in (slice_set (slice_set xs (end_at g Source e) x) (end_at g Target e) y) v ≡ delivered p.combine g forks v (e + 1) (message_in old v)
    deliver_more x y x_is y_is v l =
        set_ends g ok e i xs None x y count v
        ∙ (for_end_each g v e (join p.combine (message_in xs v)) (fork_at 0 forks e).content.source.message (fork_at 0 forks e).content.target.message None x y (message_in xs v)
        (λ q. x_is ∙ ap (λ u. join p.combine (message_in xs u) (fork_at 0 forks e).content.source.message) (sym q))
        (λ q. y_is ∙ ap (λ u. join p.combine (message_in xs u) (fork_at 0 forks e).content.target.message) (sym q))
        (sym (join-none p.combine (message_in xs v)))
        ∙ (ap (λ m. join p.combine m (ride_for g forks v e)) (so_far v l) ∙ delivered_more v e (message_in old v) (own v)))

-- one more fork, of whose deltas some may wait
pub waits_more : {A : Type 0} (g : Multigraph) (forks : List (Fork A)) (v n : ℕ) (cell : CacheCell A) → cond (waits_on g forks v n) cleared (cond (waits_below g forks v n) cleared cell) ≡ cond (waits_below g forks v (n + 1)) cleared cell
waits_more g forks v n cell =
    let goal : ℕ → Type 0 = λ m. cond (waits_on g forks v n) cleared (cond (waits_below g forks v n) cleared cell) ≡ cond (waits_below g forks v m) cleared cell in
    subst goal (sym (add-one n)) (go (waits_on g forks v n) (waits_below g forks v n))
  where
    go : (k l : Bool) → cond k cleared (cond l cleared cell) ≡ cond (l || k) cleared cell
    go true true = refl
    go true false = refl
    go false true = refl
    go false false = refl

-- one more fork: the cells at its ends are cleared where deltas wait there
pub clear_more : {A : Type 0} (g : Multigraph) → IsMultigraph g → (forks : List (Fork A)) (old xs : List (CacheCell A)) (e : ℕ) → e < length g.edges → length xs ≡ length g.ids
    → ((v : ℕ) → v < length g.ids → cell_at xs v ≡ cond (waits_below g forks v e) cleared (cell_at old v))
    → (x y : CacheCell A) → x ≡ cond (is_delta (fork_at 0 forks e).content.source.delta) cleared (cell_at xs (end_at g Source e))
    → y ≡ cond (is_delta (fork_at 0 forks e).content.target.delta) cleared (cell_at xs (end_at g Target e))
    → (v : ℕ) → v < length g.ids → cell_at (slice_set (slice_set xs (end_at g Source e) x) (end_at g Target e) y) v ≡ cond (waits_below g forks v (e + 1)) cleared (cell_at old v)
clear_more g ok forks old xs e i count so_far x y x_is y_is v l =
    set_ends g ok e i xs cleared x y count v
    ∙ (for_end_each g v e (λ b. cond b cleared (cell_at xs v)) (is_delta (fork_at 0 forks e).content.source.delta) (is_delta (fork_at 0 forks e).content.target.delta) false x y (cell_at xs v)
    (λ q. x_is ∙ ap (λ u. cond (is_delta (fork_at 0 forks e).content.source.delta) cleared (cell_at xs u)) (sym q))
    (λ q. y_is ∙ ap (λ u. cond (is_delta (fork_at 0 forks e).content.target.delta) cleared (cell_at xs u)) (sym q))
    refl
    ∙ (ap (λ k. cond (waits_on g forks v e) cleared k) (so_far v l) ∙ waits_more g forks v e (cell_at old v)))
