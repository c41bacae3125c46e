-- What a board finds signalled is signalled in the state for which it stands.
use Rattle.std.proofs.Common.{ℕ, zero, suc, ◌<◌, ◌≤◌, ◌≡◌, ◌⊎◌, ◌==◌, ◌||◌, length, List, [], ◌∷◌, slice_index_or, Bool, true, false, cond, Option, Some, None, inl, inr, arith, refl, sym, ap, ◌∙◌, true≢false}
use Rattle.std.specs.Prelude.{is_some}
use Rattle.std.proofs.lemmas.Bool.Decides.{Decides-eqb}
use Rattle.std.proofs.lemmas.List.{get_or_default, get_or_past}
use Rattle.pg_graph.specs.declared.edge.Side.{Side}
use Rattle.pg_graph.specs.declared.edge.Side.TheVariants.{Source, Target}
use Rattle.pg_graph.specs.Multigraph.{Multigraph, edge_at, end_at, side_at, is_at, edges_at}
use Rattle.pg_graph.proofs.Numbers.{filter_numbers_each}
use Rattle.pg_law.specs.declared.values.Datum.{Datum}
use Rattle.pg_law.specs.Program.{Program}
use Rattle.pg_law.specs.Laws.{IsLawful}
use Rattle.pg_law.specs.Values.{two}
use Rattle.pg_law.specs.Round.{join}
use Rattle.pg_law.specs.Configuration.{Configuration, is_signalled}
use Rattle.pg_law.proofs.Parts.{join_monoid}
use Rattle.pg_meals.specs.declared.fork.Fork.{Fork}
use Rattle.pg_meals.specs.declared.seat.Seat.{Seat}
use Rattle.pg_meals.specs.declared.board.Board.{Board}
use Rattle.pg_meals.specs.declared.ranking.Ranked.{Ranked}
use Rattle.pg_meals.specs.Families.{total}
use Rattle.pg_meals.specs.Entries.{at_side, no_fork, no_seat, fork_at, seat_at, actor_at}
use Rattle.pg_meals.specs.Shown.{carried, shape_on}
use Rattle.pg_meals.specs.Standing.{signalled, message_at}
use Rattle.pg_meals.specs.Listed.{any_word, any_datum}
use Rattle.pg_meals.specs.Carrying.{setting_of, core_by, IsKept}
use Rattle.pg_meals.specs.Stuck.{IsFirst}
use Rattle.pg_meals.specs.Ranks.{Before}
use Rattle.pg_meals.specs.Least.{rides_to, OneRides, NoneRides, has_own, IsAwaited, IsQuiet, IsLeastBelow}
use Rattle.pg_meals.specs.Tables.{state_of_board}
use Rattle.pg_meals.proofs.Totals.{total_unit}
use Rattle.pg_meals.proofs.Gathers.{either_side, below_or_past}
use Rattle.pg_meals.proofs.Holding.{any_passing, each_by_place}
use Rattle.pg_meals.proofs.Signals.{own_signals, ridden_signals}
use Rattle.pg_meals.proofs.Settings.{plain, signalled_is}

none_is : {X : Type 0} (o : Option X) → is_some o ≡ false → o ≡ None
none_is None e = refl
none_is (Some x) e = absurd (true≢false e)

-- the end of an edge at which a vertex stands
pub side_end : (g : Multigraph) (v e : ℕ) → is_at v (edge_at g e) ≡ true → end_at g (side_at g v e) e ≡ v
side_end g v e = go (end_at g Source e == v) refl
  where
    go : (b : Bool) → (end_at g Source e == v) ≡ b → (b || (end_at g Target e == v)) ≡ true → end_at g (cond b Source Target) e ≡ v
    go true q t = (Decides-eqb (end_at g Source e) v).0 q
    go false q t = (Decides-eqb (end_at g Target e) v).0 t

-- one of some forks has a message for the vertex, or none has
decide_rides : {A : Type 0} (g : Multigraph) (b : Board A) (v : ℕ) (es : List ℕ) → OneRides g b v es ⊎ NoneRides g b v es
decide_rides g b v [] = inr (λ i l. absurd (omega (arith, l)))
decide_rides g b v (e ∷ es) = go (rides_to g b v e) refl (decide_rides g b v es)
  where
    none : rides_to g b v e ≡ false → NoneRides g b v es → (i : ℕ) → i < suc (length es) → rides_to g b v (slice_index_or (e ∷ es) i 0) ≡ false
    none t rest zero l = t
    none t rest (suc i) l = rest i (omega (arith, l))

    go : (k : Bool) → rides_to g b v e ≡ k → OneRides g b v es ⊎ NoneRides g b v es → OneRides g b v (e ∷ es) ⊎ NoneRides g b v (e ∷ es)
    go true t rest = inl (0, omega arith, t)
    go false t (inl one) = inl (suc one.0, omega (arith, one.1), one.2)
    go false t (inr rest) = inr (none t rest)

decide : {A : Type 0} (g : Multigraph) (b : Board A) (v : ℕ) → IsAwaited g b v ⊎ IsQuiet g b v
decide g b v = go (has_own b v) refl (decide_rides g b v (edges_at g v))
  where
    go : (k : Bool) → has_own b v ≡ k → OneRides g b v (edges_at g v) ⊎ NoneRides g b v (edges_at g v) → IsAwaited g b v ⊎ IsQuiet g b v
    go true t rest = inl (inl t)
    go false t (inl one) = inl (inr one)
    go false t (inr none) = inr (t, none)

-- a message in a place doesn't depend on what stands beyond the list
own_same : {A : Type 0} (d k : Datum) (seats : List (Seat A)) (v : ℕ) → (v < length seats) ⊎ (length seats ≤ v) → (seat_at d seats v).message ≡ (seat_at k seats v).message
own_same d k seats v (inl i) = ap (λ (x : Seat _). x.message) (get_or_default seats v (no_seat d) (no_seat k) i)
own_same d k seats v (inr i) = ap (λ (x : Seat _). x.message) (get_or_past seats v (no_seat d) i) ∙ sym (ap (λ (x : Seat _). x.message) (get_or_past seats v (no_seat k) i))

module _ {A C : Type 0} (p : Program A C) (law : IsLawful p) (g : Multigraph) (s : Configuration) (b : Board A) (kept : IsKept p g s b) where
  own_is : (v : ℕ) → has_own b v ≡ is_some ((core_by p b).place v).message
  own_is v = ap is_some (own_same (two 0 0) (any_datum p) b.seats.items v (below_or_past v (length b.seats.items)))

  -- a fork of the graph is one of the list
  pub fork_same : (e : ℕ) → e < length g.edges → fork_at 0 b.forks.items e ≡ fork_at (any_word p) b.forks.items e
  fork_same e i = get_or_default b.forks.items e (no_fork 0) (no_fork (any_word p)) (omega (arith, i, kept.laid.forks))

  awaited_signals : (v : ℕ) → IsAwaited g b v → signalled p (shape_on g b) (core_by p b) v ≡ true
  awaited_signals v (inl own) = own_signals p (shape_on g b) (core_by p b) v (sym (own_is v) ∙ own)
  awaited_signals v (inr one) =
      let e = slice_index_or (edges_at g v) one.0 0 in
      let at = filter_numbers_each (λ f. is_at v (edge_at g f)) (length g.edges) one.0 0 one.1 in
      ridden_signals p (shape_on g b) (core_by p b) (side_at g v e) v e (plain p law (setting_of g s b) kept.setting) at.0 (side_end g v e at.1)
      (ap (λ (f : Fork A). is_some (at_side (side_at g v e) (carried (actor_at b.actors.items) f)).message) (sym (fork_same e at.0)) ∙ one.2)

  quiet_none : (v : ℕ) → NoneRides g b v (edges_at g v) → (e : ℕ) → e < length g.edges → message_at (shape_on g b) (core_by p b).content v e ≡ None
  quiet_none v none e i =
      let f : Side → Option ℕ = λ t. (at_side t (carried (actor_at b.actors.items) (fork_at (any_word p) b.forks.items e))).message in
      either_side (end_at g Source e == v) (end_at g Target e == v) f None ∙ go (is_at v (edge_at g e)) refl
    where
      go : (k : Bool) → is_at v (edge_at g e) ≡ k → cond k (at_side (side_at g v e) (carried (actor_at b.actors.items) (fork_at (any_word p) b.forks.items e))).message None ≡ None
      go true t =
          none_is _ (ap (λ (f : Fork A). is_some (at_side (side_at g v e) (carried (actor_at b.actors.items) f)).message) (sym (fork_same e i))
          ∙ any_passing (λ d. rides_to g b v d ≡ false) (λ d. is_at v (edge_at g d)) (length g.edges) (each_by_place (λ d. rides_to g b v d ≡ false) (edges_at g v) none) e i t)
      go false t = refl

  not_there : (v : ℕ) → IsQuiet g b v → signalled p (shape_on g b) (core_by p b) v ≡ false
  not_there v quiet =
      let own : ((core_by p b).place v).message ≡ None = none_is _ (sym (own_is v) ∙ quiet.0) in
      let rest : total (join p.combine) None (message_at (shape_on g b) (core_by p b).content v) (length g.edges) ≡ None
      = total_unit (join_monoid p law) (message_at (shape_on g b) (core_by p b).content v) (length g.edges) (quiet_none v quiet.1) in
      λ j. is_some (join p.combine (own j) (rest j))

  there : (v : ℕ) → is_signalled (state_of_board p g s b) v ≡ signalled p (shape_on g b) (core_by p b) v
  there v = signalled_is p law (setting_of g s b) kept.setting (core_by p b) v kept.stands.kept

  -- what isn't signalled on the board isn't in the state
  pub quiet_there : (v : ℕ) → IsQuiet g b v → is_signalled (state_of_board p g s b) v ≡ false
  quiet_there v quiet = there v ∙ not_there v quiet

  -- and the first of the board's is the first of the state's
  pub first_there : (first : Ranked) → IsLeastBelow g b (length g.ids) first → IsFirst (setting_of g s b) (state_of_board p g s b) b.journal.items first.vertex
  first_there first found = record {
    inside = found.below;
    signalled = there first.vertex ∙ awaited_signals first.vertex found.awaited;
    least = λ w i t. go w i t (decide g b w);
  }
    where
      go : (w : ℕ) → w < length g.ids → is_signalled (state_of_board p g s b) w ≡ true → IsAwaited g b w ⊎ IsQuiet g b w → (w ≡ first.vertex) ⊎ Before b.journal.items first.vertex w
      go w i t (inl awaited) = found.least w i awaited
      go w i t (inr quiet) = absurd (true≢false (sym t ∙ quiet_there w quiet))
