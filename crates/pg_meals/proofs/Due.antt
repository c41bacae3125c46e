-- What a board shows to an actor that may prepare.
use Rattle.std.proofs.Common.{ℕ, ◌<◌, ◌≡◌, ◌⊎◌, length, true, false, cond, Option, Some, None, arith, sym, ap, subst, ◌∙◌}
use Rattle.std.specs.Prelude.{is_some}
use Rattle.std.proofs.lemmas.List.{get_or_default}
use Rattle.pg_graph.specs.Multigraph.{Multigraph, edge_at, end_at, side_at, is_at, edges_at, opposite, takes}
use Rattle.pg_graph.proofs.Stored.{edge_known}
use Rattle.pg_law.specs.declared.values.Datum.{Datum}
use Rattle.pg_law.specs.declared.values.Near.{Near}
use Rattle.pg_law.specs.declared.values.Delta.{Delta}
use Rattle.pg_law.specs.declared.values.Delta.TheVariants.{Nothing}
use Rattle.pg_law.specs.Program.{Program}
use Rattle.pg_law.specs.Laws.{IsLawful, IsOptional, IsDelta, IsNear}
use Rattle.pg_law.specs.Values.{two}
use Rattle.pg_law.specs.Round.{join, edges_over}
use Rattle.pg_law.specs.Configuration.{Configuration}
use Rattle.pg_law.proofs.Parts.{join_monoid}
use Rattle.pg_delta.specs.declared.cell.CacheCell.{CacheCell}
use Rattle.pg_delta.specs.Cell.{IsCell}
use Rattle.pg_delta.specs.Deltas.{joined}
use Rattle.pg_meals.specs.declared.fork.Carried.{Carried}
use Rattle.pg_meals.specs.declared.fork.Fork.{Fork}
use Rattle.pg_meals.specs.declared.board.Board.{Board}
use Rattle.pg_meals.specs.Families.{total}
use Rattle.pg_meals.specs.Shape.{Shape}
use Rattle.pg_meals.specs.Serial.{Serial, or_zero, fresh}
use Rattle.pg_meals.specs.Core.{Core}
use Rattle.pg_meals.specs.Standing.{stands, message_at, delta_at, waiting}
use Rattle.pg_meals.specs.Preparing.{MayPrepare, near_noted, noted_datum, gather_noted}
use Rattle.pg_meals.specs.Listed.{any_word, any_datum, serial_of}
use Rattle.pg_meals.specs.Entries.{at_side, no_seat, fork_at, seat_at, actor_at}
use Rattle.pg_meals.specs.Shown.{carried, shape_on, cut_of, content_of, half_noted}
use Rattle.pg_meals.specs.StandsFor.{IsContent}
use Rattle.pg_meals.specs.Carrying.{setting_of, core_by, IsKept}
use Rattle.pg_meals.specs.Sparing.{has_gather, cost, gather_degree}
use Rattle.pg_meals.specs.Tables.{state_of_board}
use Rattle.pg_meals.specs.Plans.{near_over, datum_noted, ride_on, message_along, added, added_along, gather_along}
use Rattle.pg_meals.proofs.Totals.{total_like}
use Rattle.pg_meals.proofs.Gathers.{edge_is, message_own as serial_message_own}
use Rattle.pg_meals.proofs.Settings.{plain, state_is}
use Rattle.pg_meals.proofs.Around.{degree_is}
use Rattle.pg_meals.proofs.Holding.{is_actor_of}
use Rattle.pg_meals.proofs.Riding.{held_carries}
use Rattle.pg_meals.proofs.Seen.{fork_same, side_end}
use Rattle.pg_meals.proofs.Prepare.{gathered_is}
use Rattle.pg_meals.proofs.Prepare as preparing
use Rattle.pg_meals.proofs.Plans.{datum_by_halves}
use Rattle.pg_meals.proofs.Along.{joined_along, at_end_test, gather_is, added_joined, added_all, added_own, added_there, added_leads, waits_own}

module _ {A C : Type 0} (p : Program A C) (law : IsLawful p) (g : Multigraph) (s : Configuration) (b : Board A) (kept : IsKept p g s b) where
  abbrev shape : Shape
  shape = shape_on g b

  abbrev c : Core A
  c = core_by p b

  abbrev st : Serial
  st = stands p shape c

  -- a seat of the graph is one of the list
  pub seat_same : (v : ℕ) → v < length g.ids → seat_at (two 0 0) b.seats.items v ≡ seat_at (any_datum p) b.seats.items v
  seat_same v i = get_or_default b.seats.items v (no_seat (two 0 0)) (no_seat (any_datum p)) (omega (arith, i, kept.laid.seats))

  -- the fork of each edge of v carries its content
  abbrev pub CarriesOwn : ℕ → Type 0
  CarriesOwn v = (e : ℕ) → e < length g.edges → is_at v (edge_at g e) ≡ true → (fork_at 0 b.forks.items e).content ≡ carried (actor_at b.actors.items) (fork_at (any_word p) b.forks.items e)

  -- so it is where an actor has pinned them that hasn't made its entry
  pub carries_own : (a v : ℕ) → (actor_at b.actors.items a).committed ≡ false → ((e : ℕ) → e < length g.edges → is_at v (edge_at g e) ≡ true → (c.words.grip a).pins e ≡ true) → CarriesOwn v
  carries_own a v fresh pins e i at =
      ap (λ (f : Fork A). f.content) (fork_same p law g s b kept e i)
      ∙ sym (held_carries (actor_at b.actors.items) (fork_at (any_word p) b.forks.items e) a false (is_actor_of a (fork_at (any_word p) b.forks.items e).mark.pinner (pins e i at)) fresh)

  module _ (v : ℕ) (own : CarriesOwn v) where
    -- what waits on a fork are values of the program
    pub message_own : (e : ℕ) → e < length g.edges → is_at v (edge_at g e) ≡ true → IsOptional p.IsMessage (ride_on g b.forks.items v e).message
    message_own e i at = subst (λ (x : Carried A). IsOptional p.IsMessage (at_side (side_at g v e) x).message) (sym (own e i at)) ((kept.stands.kept.true_of.content_fits e).message (side_at g v e))

    pub delta_own : (e : ℕ) → e < length g.edges → is_at v (edge_at g e) ≡ true → IsDelta p.IsAcc (ride_on g b.forks.items v e).delta
    delta_own e i at = subst (λ (x : Carried A). IsDelta p.IsAcc (at_side (side_at g v e) x).delta) (sym (own e i at)) ((kept.stands.kept.true_of.content_fits e).delta (side_at g v e))

    pub content_own : (e : ℕ) → e < length g.edges → is_at v (edge_at g e) ≡ true → IsContent p (content_of (fork_at 0 b.forks.items e).content)
    content_own e i at = subst (λ (x : Carried A). IsContent p (content_of x)) (sym (own e i at)) (kept.stands.kept.true_of.content_fits e)

    -- the message that is found is that of the state
    pub message_is : (mine : Option ℕ) → mine ≡ (c.place v).message → message_along p.combine g b.forks.items v mine (edges_at g v) ≡ st.message v
    message_is mine is =
        joined_along (join_monoid p law) (λ e. is_at v (edge_at g e)) (λ e. (ride_on g b.forks.items v e).message) (λ e. (c.content e).message (side_at g v e)) mine (length g.edges)
        (subst (IsOptional p.IsMessage) (sym is) (kept.stands.kept.true_of.own_message v))
        (λ e i. (kept.stands.kept.true_of.content_fits e).message (side_at g v e))
        (λ e i at. ap (λ (x : Carried A). (at_side (side_at g v e) x).message) (own e i at))
        ∙ (λ j. join p.combine (is j) (total_like (join p.combine) None
        (λ e. cond (is_at v (edge_at g e)) ((c.content e).message (side_at g v e)) None) (message_at shape c.content v) (length g.edges)
        (λ e i. sym (at_end_test g (cut_of b) b.caches v e (λ t. (c.content e).message t) None)) j))

    -- the gather that is kept, with all that waits
    pub kept_is : (cell : CacheCell A) → cell ≡ (c.place v).cell
        → added_along p.sum g b.forks.items v (added p.sum cell.acc cell.pending) (edges_at g v) ≡ added p.sum (c.place v).cell.acc (waiting p shape c v)
    kept_is cell is =
        let fits : IsCell p cell = subst (IsCell p) (sym is) (kept.stands.kept.true_of.cell_fits v) in
        let rest : Delta A = total (joined p.sum) Nothing (λ e. cond (is_at v (edge_at g e)) ((c.content e).delta (side_at g v e)) Nothing) (length g.edges) in
        let rest_own : IsDelta p.IsAcc rest = waits_own p law (λ e. is_at v (edge_at g e)) (λ e. (c.content e).delta (side_at g v e)) (length g.edges) (λ e i. (kept.stands.kept.true_of.content_fits e).delta (side_at g v e)) in
        added_all p law (λ e. is_at v (edge_at g e)) (λ e. (ride_on g b.forks.items v e).delta) (λ e. (c.content e).delta (side_at g v e)) (added p.sum cell.acc cell.pending) (length g.edges)
        (added_own p law cell.acc cell.pending fits.acc fits.pending)
        (λ e i. (kept.stands.kept.true_of.content_fits e).delta (side_at g v e))
        (λ e i at. ap (λ (x : Carried A). (at_side (side_at g v e) x).delta) (own e i at))
        ∙ added_joined p law cell.acc cell.pending rest fits.acc fits.pending rest_own
        ∙ (λ j. added p.sum (is j).acc (joined p.sum (is j).pending (total_like (joined p.sum) Nothing
        (λ e. cond (is_at v (edge_at g e)) ((c.content e).delta (side_at g v e)) Nothing) (delta_at shape c.content v) (length g.edges)
        (λ e i. sym (at_end_test g (cut_of b) b.caches v e (λ t. (c.content e).delta t) Nothing)) j)))

  -- it can be used where the vertex has a gather
  pub kept_there : (v : ℕ) → is_some (added p.sum (c.place v).cell.acc (waiting p shape c v)) ≡ has_gather p shape c v
  kept_there v = added_there p law (c.place v).cell.acc (waiting p shape c v)

  -- what it takes in calls of gather
  pub cost_kept : (v : ℕ) (x : A) → added p.sum (c.place v).cell.acc (waiting p shape c v) ≡ Some x → cost p shape c v ≡ 0
  cost_kept v x is = ap (λ t. cond t 0 (gather_degree p shape v)) (sym (kept_there v) ∙ ap is_some is)

  pub cost_noted : (v : ℕ) → added p.sum (c.place v).cell.acc (waiting p shape c v) ≡ None → cost p shape c v ≡ length (edges_over p.gather_edges g v)
  cost_noted v is = ap (λ t. cond t 0 (gather_degree p shape v)) (sym (kept_there v) ∙ ap is_some is) ∙ degree_is p g (cut_of b) b.caches v

  -- a message of the state is one of the program
  pub state_message_own : (v m : ℕ) → st.message v ≡ Some m → p.IsMessage m
  state_message_own v m is =
      subst (IsOptional p.IsMessage) (ap (λ (x : Serial). x.message v) (state_is p law (setting_of g s b) kept.setting c kept.stands.kept) ∙ is)
      (serial_message_own p g (cut_of b) b.caches law kept.setting.graph (state_of_board p g s b) kept.stands.fit v)

  module _ (a v m : ℕ) (may : MayPrepare p shape c a v m) where
    -- the fork of an edge of v is pinned
    pins : (e : ℕ) → e < length g.edges → is_at v (edge_at g e) ≡ true → (c.words.grip a).pins e ≡ true
    pins e i at = may.all (side_at g v e) e i (side_end g v e at)

    pub may_carry : CarriesOwn v
    may_carry = carries_own a v may.fresh pins

    pub near_is : (centre : Datum) (e : ℕ) → e < length g.edges → is_at v (edge_at g e) ≡ true → near_over g b.forks.items centre v e ≡ near_noted p shape c a centre (side_at g v e) e
    near_is centre e i at = λ j. record {
      side = side_at g v e;
      edge = sym (edge_is p g (cut_of b) b.caches law kept.setting.graph e i) j;
      word = ap (λ (x : Carried A). x.word) (may_carry e i at) j;
      centre = centre;
      other = (ap (λ (f : Fork A). datum_noted f.mark.noted) (fork_same p law g s b kept e i)
          ∙ datum_by_halves (fork_at (any_word p) b.forks.items e).mark.noted
          ∙ sym (ap (λ k. let n = cond k (fork_at (any_word p) b.forks.items e).mark.noted None in two (or_zero (half_noted 0 n)) (or_zero (half_noted 1 n))) (pins e i at))) j;
    }

    -- so its gather is the fresh one, over what was noted and as it is kept
    pub noted_fresh : gather_noted p shape c a v ≡ fresh p shape st v
    noted_fresh = gathered_is p shape b.fuel (serial_of p s) (plain p law (setting_of g s b) kept.setting) c a v m may kept.stands.kept.clean kept.stands.kept.true_of

    pub kept_fresh : (x : A) → added p.sum (c.place v).cell.acc (waiting p shape c v) ≡ Some x → x ≡ gather_noted p shape c a v
    kept_fresh x is = added_leads p law (c.place v).cell.acc (waiting p shape c v) (fresh p shape st v) x (kept.stands.kept.true_of.cell_true v) is ∙ sym noted_fresh

    pub gathered_along : (centre : Datum) → centre ≡ (c.place v).datum → gather_along p g b.forks.items centre v (edges_over p.gather_edges g v) ≡ gather_noted p shape c a v
    gathered_along centre is = ap (λ d. gather_along p g b.forks.items d v (edges_over p.gather_edges g v)) is
        ∙ gather_is p g (cut_of b) b.caches (near_noted p shape c a (c.place v).datum) (near_over g b.forks.items (c.place v).datum v) v (near_is (c.place v).datum)

    -- what is looked at are values of the program
    pub near_own : (centre : Datum) → p.IsDatum centre → (e : ℕ) → e < length g.edges → is_at v (edge_at g e) ≡ true
        → (takes p.gather_edges (side_at g v e) ≡ true) ⊎ (takes p.scatter_edges (side_at g v e) ≡ true) → IsNear p (near_over g b.forks.items centre v e)
    near_own centre own e i at used =
        let other : noted_datum p shape c a e ≡ st.value (end_at g (opposite (side_at g v e)) e)
        = preparing.datum_noted p shape b.fuel (serial_of p s) (plain p law (setting_of g s b) kept.setting) c a v m may kept.stands.kept.clean kept.stands.kept.true_of (side_at g v e) e i (side_end g v e at) used in
        record {
          edge = edge_known g kept.setting.graph e i;
          word = subst (λ (x : Carried A). p.IsWord x.word) (sym (may_carry e i at)) (kept.stands.kept.true_of.content_fits e).word;
          centre = own;
          other = subst p.IsDatum (sym (ap (λ (n : Near). n.other) (near_is centre e i at) ∙ other)) (kept.stands.kept.true_of.datum_fits (end_at g (opposite (side_at g v e)) e));
        }
