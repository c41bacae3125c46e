-- What is kept of a draft is what is prepared of the core.
use Rattle.std.proofs.Common.{ℕ, ◌<◌, ◌≤◌, ◌≡◌, ◌⊎◌, length, Bool, true, false, cond, Some, inl, inr, arith, refl, sym, ap, subst, ◌∙◌, true≢false}
use Rattle.std.specs.Prelude.{ltb, Vec}
use Rattle.std.specs.Vec.{vec_capacity}
use Rattle.std.specs.declared.alloc.Global.{Global}
use Rattle.std.proofs.lemmas.List.{length-set}
use Rattle.std.proofs.lemmas.Bool.Decides.{nat_tests}
use Rattle.pg_graph.specs.declared.edge.Side.{Side}
use Rattle.pg_graph.specs.Multigraph.{Multigraph, edge_at, side_at, is_at, edges_at}
use Rattle.pg_law.specs.declared.values.JournalEntry.{JournalEntry}
use Rattle.pg_law.specs.declared.values.Applied.{Applied}
use Rattle.pg_law.specs.Program.{Program}
use Rattle.pg_law.specs.Laws.{IsLawful}
use Rattle.pg_law.specs.Values.{two}
use Rattle.pg_law.specs.Configuration.{Configuration}
use Rattle.pg_delta.specs.declared.cell.CacheCell.{CacheCell}
use Rattle.pg_meals.specs.declared.fork.Carried.{Carried}
use Rattle.pg_meals.specs.declared.actor.Ready.{Ready}
use Rattle.pg_meals.specs.declared.seat.Replica.{Replica}
use Rattle.pg_meals.specs.declared.board.Board.{Board}
use Rattle.pg_meals.specs.declared.preparing.Draft.{Draft}
use Rattle.pg_meals.specs.Families.{set_at}
use Rattle.pg_meals.specs.Shape.{Shape, at_end}
use Rattle.pg_meals.specs.Core.{Core, Content, empty_content}
use Rattle.pg_meals.specs.Once.{is_among}
use Rattle.pg_meals.specs.Listed.{any_word, any_datum}
use Rattle.pg_meals.specs.Preparing.{MayPrepare, content_after, near_noted, prepared_core}
use Rattle.pg_meals.specs.Entries.{is_actor, fork_at, seat_at, actor_at, replicas_at, homes}
use Rattle.pg_meals.specs.Shown.{shape_on, cut_of, content_of, core_from}
use Rattle.pg_meals.specs.Carrying.{setting_of, core_by, IsKept}
use Rattle.pg_meals.specs.Plans.{planned_over, near_over}
use Rattle.pg_meals.specs.Boards.{Frame}
use Rattle.pg_meals.specs.Tallies.{ArePinsCounted, AreStaleCounted, AreLastKept, IsTallied}
use Rattle.pg_meals.specs.Setting.{Stands}
use Rattle.pg_meals.specs.Readied.{IsReadied}
use Rattle.pg_meals.specs.Prepares.{applied_on, prepared_on, PreparesOn, IsDraft}
use Rattle.pg_meals.proofs.At.{some_of}
use Rattle.pg_meals.proofs.Gathers.{below_or_past}
use Rattle.pg_meals.proofs.Holding.{pins_are, at_is}
use Rattle.pg_meals.proofs.Seen.{side_end}
use Rattle.pg_meals.proofs.Plans.{planned_content}
use Rattle.pg_meals.proofs.Along.{at_end_test}
use Rattle.pg_meals.proofs.Due.{seat_same, may_carry, near_is}
use Rattle.pg_meals.proofs.Readied.{ready_shows}
use Rattle.pg_meals.proofs.Settings.{preparing_keeps}
use Rattle.pg_meals.proofs.Carried.{kept_by}
use Rattle.pg_meals.proofs.Tallied.{pins_actor, pins_forks, planned_pinner, stale_actor, last_seat}

module _ {A C : Type 0} (p : Program A C) (law : IsLawful p) (g : Multigraph) (s : Configuration) (b : Board A) (kept : IsKept p g s b) (a v m : ℕ) (may : MayPrepare p (shape_on g b) (core_by p b) a v m) where
  abbrev shape : Shape
  shape = shape_on g b

  abbrev c : Core A
  c = core_by p b

  abbrev x : Applied C
  x = applied_on p g b a v m

  -- an edge that is pinned is one of v
  pinned_at : (e : ℕ) → (c.words.grip a).pins e ≡ true → (e < length g.edges) × (is_at v (edge_at g e) ≡ true)
  pinned_at e t =
      let inv = kept.stands.kept.clean in
      let held = inv.pin_holder a e t in
      (inv.pin_inside a e t, at_is g (c.words.fork e).side e v (some_of _ v (sym held ∙ may.busy)))

  -- what v sends over an edge, as the core has it
  abbrev sent : ℕ → Side → Content A
  sent e t = content_after p shape t (c.content e) (p.scatter (near_noted p shape c a x.datum t e) x.carry)

  planned_is : (e : ℕ) → e < length g.edges → is_at v (edge_at g e) ≡ true → content_of (planned_over p g b.forks.items v x e) ≡ sent e (side_at g v e)
  planned_is e i at =
      planned_content p shape (side_at g v e) (fork_at 0 b.forks.items e).content (p.scatter (near_over g b.forks.items x.datum v e) x.carry)
      ∙ (λ j. content_after p shape (side_at g v e) (content_of (may_carry p law g s b kept a v m may e i at j)) (p.scatter (near_is p law g s b kept a v m may x.datum e i at j) x.carry))

  content_is : (e : ℕ) → cond ((c.words.grip a).pins e) (content_of (planned_over p g b.forks.items v x e)) empty_content ≡ (prepared_on p g b a v m).content e
  content_is e = go ((c.words.grip a).pins e) refl
    where
      inside : e < length g.edges → cond (ltb e (length g.edges)) (at_end shape v e (sent e) empty_content) empty_content ≡ cond (is_at v (edge_at g e)) (sent e (side_at g v e)) empty_content
      inside i =
          let t : ltb e (length g.edges) ≡ true = grind (arith, nat_tests) in
          ap (λ k. cond k (at_end shape v e (sent e) empty_content) empty_content) t ∙ at_end_test g (cut_of b) b.caches v e (sent e) empty_content

      past : length g.edges ≤ e → cond (ltb e (length g.edges)) (at_end shape v e (sent e) empty_content) empty_content ≡ empty_content
      past i =
          let t : ltb e (length g.edges) ≡ false = grind (arith, nat_tests) in
          ap (λ k. cond k (at_end shape v e (sent e) empty_content) empty_content) t

      away : (e < length g.edges) ⊎ (length g.edges ≤ e) → (c.words.grip a).pins e ≡ false → (k : Bool) → is_at v (edge_at g e) ≡ k → empty_content ≡ cond (ltb e (length g.edges)) (at_end shape v e (sent e) empty_content) empty_content
      away (inr i) n k q = sym (past i)
      away (inl i) n true q = absurd (true≢false (sym (may.all (side_at g v e) e i (side_end g v e q)) ∙ n))
      away (inl i) n false q = sym (inside i ∙ ap (λ k. cond k (sent e (side_at g v e)) empty_content) q)

      go : (k : Bool) → (c.words.grip a).pins e ≡ k → cond k (content_of (planned_over p g b.forks.items v x e)) empty_content ≡ cond (ltb e (length g.edges)) (at_end shape v e (sent e) empty_content) empty_content
      go true t =
          let at = pinned_at e t in
          planned_is e at.0 at.1 ∙ sym (inside at.0 ∙ ap (λ k. cond k (sent e (side_at g v e)) empty_content) at.1)
      go false t = away (below_or_past e (length g.edges)) t (is_at v (edge_at g e)) refl

  -- a board that keeps the draft has prepared
  module _ (b' : Board A) (draft : Draft A) (is : IsDraft p g b a v m draft) (a_in : a < length b.actors.items)
      (readied : IsReadied g b a v draft.ready draft.cell (planned_over p g b.forks.items v x) b') where
    v_in : v < length g.ids
    v_in = kept.stands.kept.clean.inside a v may.busy

    among : (e : ℕ) → is_among e (edges_at g v) ≡ is_actor a (fork_at (any_word p) b.forks.items e).mark.pinner
    among = pins_are g v (λ e. (c.words.grip a).pins e) (λ e t. let at = pinned_at e t in (at.0, side_at g v e, side_end g v e at.1)) may.all

    alone : (o : ℕ) → (actor_at b.actors.items o).vertex ≡ Some v → o ≡ a
    alone o q = some_of o a (sym (kept.stands.kept.clean.names v o q) ∙ kept.stands.kept.clean.names v a may.busy)

    shown : core_by p b' ≡ prepared_core p shape c a v m
    shown =
        (λ j. core_from (seat_at (any_datum p) (readied.seats j)) (fork_at (any_word p) b'.forks.items) (replicas_at (readied.replicas j).items) (actor_at (readied.actors j)) (readied.turn j) (readied.journal j).items)
        ∙ ready_shows (any_word p) (any_datum p) b.seats.items b.forks.items b'.forks.items b.replicas.items b.actors.items b.turn b.journal.items a v (edges_at g v)
        (actor_at b.actors.items a) draft.ready (seat_at (two 0 0) b.seats.items v) draft.cell (planned_over p g b.forks.items v x)
        a_in (omega (arith, v_in, kept.laid.seats)) refl (seat_same p law g s b kept v v_in) readied.forks among may.busy may.fresh alone
        ∙ (λ j. record c { notes = set_at c.notes a (record (c.notes a) { prepared = Some (record { datum = is.datum j; again = is.again j; cell = is.cell j; content = λ e. content_is e j }) }) })

    pub draft_prepares : PreparesOn p g b a b'
    draft_prepares = (v, m, may, shown)

-- a board that keeps something is framed as before
pub readied_frame : {A : Type 0} (g : Multigraph) (b b' : Board A) (a v : ℕ) (ready : Ready) (cell : CacheCell A) (plan : ℕ → Carried A) → IsReadied g b a v ready cell plan b' → Frame b b'
readied_frame g b b' a v ready cell plan is = record {
  workers = is.workers;
  homes = λ u. ap (λ (x : Vec (Vec Replica Global) Global). homes (replicas_at x.items u)) is.replicas;
  fuel = is.fuel;
  room = ap vec_capacity is.journal;
  caches = is.caches;
  seats = ap length is.seats ∙ length-set _ _ _;
  replicas = ap (λ (x : Vec (Vec Replica Global) Global). length x.items) is.replicas;
  forks = is.count;
  actors = ap length is.actors ∙ length-set _ _ _;
}

-- and what it counts is true
pub readied_tallied : {A : Type 0} (g : Multigraph) (b b' : Board A) (a v : ℕ) (ready : Ready) (cell : CacheCell A) (plan : ℕ → Carried A) → a < length b.actors.items → v < length b.seats.items
    → IsReadied g b a v ready cell plan b' → IsTallied b → IsTallied b'
readied_tallied g b b' a v ready cell plan a_in v_in is tallied = record {
  pinned = subst (ArePinsCounted b'.forks.items) (sym is.actors) (pins_actor b'.forks.items b.actors.items (pins_forks b.forks.items b.actors.items tallied.pinned b'.forks.items is.count (planned_pinner b.forks.items b'.forks.items plan (edges_at g v) is.forks)) a _ a_in refl);
  stale = subst (λ (x : Vec (Vec Replica Global) Global). AreStaleCounted x.items b'.actors.items) (sym is.replicas) (subst (AreStaleCounted b.replicas.items) (sym is.actors) (stale_actor b.replicas.items b.actors.items tallied.stale a _ a_in (tallied.stale a)));
  last = subst (λ (x : Vec JournalEntry Global). AreLastKept b'.seats.items x.items) (sym is.journal) (subst (λ xs. AreLastKept xs b.journal.items) (sym is.seats) (last_seat b.seats.items b.journal.items tallied.last v _ v_in refl));
}

-- a board that has prepared keeps its promise
pub prepare_carries : {A C : Type 0} (p : Program A C) → IsLawful p → (g : Multigraph) (s : Configuration) (b b' : Board A) (a : ℕ) → IsKept p g s b → PreparesOn p g b a b' → Frame b b' → IsTallied b' → IsKept p g s b'
prepare_carries p law g s b b' a kept made frame tallied =
    kept_by p g s b b' kept frame tallied (subst (Stands p (setting_of g s b)) (sym made.3) (preparing_keeps p law (setting_of g s b) kept.setting (core_by p b) a made.0 made.1 kept.stands made.2))
