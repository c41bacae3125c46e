-- When an actor may prepare, by what the board shows.
use Rattle.std.proofs.Common.{ℕ, ◌<◌, ◌≡◌, ◌⊎◌, ◌&&◌, ◌||◌, not, length, slice_index_or, Bool, true, false, Option, Some, None, inl, inr, refl, sym, ap, ◌∙◌, true≢false}
use Rattle.std.specs.Prelude.{is_some, ltb, cond}
use Rattle.std.proofs.lemmas.Bool.Decides.{Decides-eqb}
use Rattle.pg_graph.specs.declared.edge.Side.{Side}
use Rattle.pg_graph.specs.declared.edge.Side.TheVariants.{Source, Target}
use Rattle.pg_graph.specs.declared.edge.Dir.{Dir}
use Rattle.pg_graph.specs.Multigraph.{Multigraph, edge_at, end_at, side_at, is_at, edges_at, takes}
use Rattle.pg_graph.proofs.Numbers.{filter_numbers_each}
use Rattle.pg_law.specs.declared.values.Datum.{Datum}
use Rattle.pg_law.specs.Program.{Program}
use Rattle.pg_law.specs.Laws.{IsLawful}
use Rattle.pg_law.specs.Configuration.{Configuration}
use Rattle.pg_meals.specs.declared.fork.Mark.{Mark}
use Rattle.pg_meals.specs.declared.fork.Fork.{Fork}
use Rattle.pg_meals.specs.declared.board.Board.{Board}
use Rattle.pg_meals.specs.Shape.{Shape}
use Rattle.pg_meals.specs.Core.{Core, half_of}
use Rattle.pg_meals.specs.Standing.{stands}
use Rattle.pg_meals.specs.Preparing.{MayPrepare, IsNoted}
use Rattle.pg_meals.specs.Listed.{any_word}
use Rattle.pg_meals.specs.Entries.{is_actor, fork_at, actor_at}
use Rattle.pg_meals.specs.Shown.{shape_on, half_noted, noted_by}
use Rattle.pg_meals.specs.Carrying.{setting_of, core_by, IsKept}
use Rattle.pg_meals.specs.Readied.{is_seen, sees_over, SeesEach, MissesOne}
use Rattle.pg_meals.proofs.At.{false_test}
use Rattle.pg_meals.proofs.Settings.{plain}
use Rattle.pg_meals.proofs.Holding.{any_passing, each_by_place, around_all}
use Rattle.pg_meals.proofs.Seen.{fork_same, side_end}

both_true : (x y : Bool) → (x && y) ≡ true → (x ≡ true) × (y ≡ true)
both_true true y t = (refl, t)
both_true false y t = absurd (true≢false (sym t))

is_both : (x y : Bool) → x ≡ true → y ≡ true → (x && y) ≡ true
is_both true y s t = t
is_both false y s t = absurd (true≢false (sym s))

-- who looks has noted
looks_noted : (x y n : Bool) → (not (x || y) || n) ≡ true → (x ≡ true) ⊎ (y ≡ true) → n ≡ true
looks_noted true y n t u = t
looks_noted false true n t u = t
looks_noted false false n t (inl u) = absurd (true≢false (sym u))
looks_noted false false n t (inr u) = absurd (true≢false (sym u))

noted_looks : (x y n : Bool) → ((x ≡ true) ⊎ (y ≡ true) → n ≡ true) → (not (x || y) || n) ≡ true
noted_looks true y n k = k (inl refl)
noted_looks false true n k = k (inr refl)
noted_looks false false n k = refl

-- a noted datum has both halves, and one with a half is noted
halves_noted : (a : ℕ) (mark : Mark) → is_actor a mark.pinner ≡ true → is_some mark.noted ≡ true → (is_some (half_noted 0 (noted_by a mark)) ≡ true) × (is_some (half_noted 1 (noted_by a mark)) ≡ true)
halves_noted a mark t n =
    let same : noted_by a mark ≡ mark.noted = ap (λ k. cond k mark.noted None) t in
    (ap (λ o. is_some (half_noted 0 o)) same ∙ half 0 mark.noted n refl, ap (λ o. is_some (half_noted 1 o)) same ∙ half 1 mark.noted n refl)
  where
    half : (h : ℕ) (o : Option Datum) → is_some o ≡ true → ltb h 2 ≡ true → is_some (half_noted h o) ≡ true
    half h None n l = absurd (true≢false (sym n))
    half h (Some d) n l = ap (λ k. is_some (cond k (Some (half_of h d)) None)) l

noted_half : (a : ℕ) (mark : Mark) → is_actor a mark.pinner ≡ true → is_some (half_noted 0 (noted_by a mark)) ≡ true → is_some mark.noted ≡ true
noted_half a mark t n = go mark.noted (ap (λ o. is_some (half_noted 0 o)) (sym (ap (λ k. cond k mark.noted None) t)) ∙ n)
  where
    go : (o : Option Datum) → is_some (half_noted 0 o) ≡ true → is_some o ≡ true
    go None n = absurd (true≢false (sym n))
    go (Some d) n = refl

module _ {A C : Type 0} (p : Program A C) (law : IsLawful p) (g : Multigraph) (s : Configuration) (b : Board A) (kept : IsKept p g s b) (a v : ℕ) where
  abbrev shape : Shape
  shape = shape_on g b

  abbrev c : Core A
  c = core_by p b

  abbrev seen : ℕ → Bool
  seen e = sees_over p.gather_edges p.scatter_edges g b.forks.items a v e

  abbrev mark : ℕ → Mark
  mark e = (fork_at (any_word p) b.forks.items e).mark

  seen_is : (e : ℕ) → e < length g.edges → seen e ≡ is_seen a (takes p.gather_edges (side_at g v e) || takes p.scatter_edges (side_at g v e)) (mark e)
  seen_is e i = ap (λ (f : Fork A). is_seen a (takes p.gather_edges (side_at g v e) || takes p.scatter_edges (side_at g v e)) f.mark) (fork_same p law g s b kept e i)

  -- the end of an edge at v
  side_is : (t : Side) (e : ℕ) → e < length g.edges → end_at g t e ≡ v → side_at g v e ≡ t
  side_is Source e i at = ap (λ k. cond k Source Target) ((Decides-eqb (end_at g Source e) v).1 at)
  side_is Target e i at = ap (λ k. cond k Source Target) (false_test (end_at g Source e) v (λ r. (plain p law (setting_of g s b) kept.setting).loopless e i (r ∙ sym at)))

  -- who sees each has all forks, and noted what it looks at
  pub may_prepare : (m : ℕ) → (actor_at b.actors.items a).vertex ≡ Some v → (actor_at b.actors.items a).committed ≡ false
      → SeesEach p.gather_edges p.scatter_edges g b.forks.items a v (edges_at g v) → (stands p shape c).message v ≡ Some m → MayPrepare p shape c a v m
  may_prepare m busy fresh each message =
      record { busy = busy; fresh = fresh; all = all; message = message; noted = noted }
    where
      at : (t : Side) (e : ℕ) → e < length g.edges → end_at g t e ≡ v → (is_actor a (mark e).pinner ≡ true) × ((not (takes p.gather_edges (side_at g v e) || takes p.scatter_edges (side_at g v e)) || is_some (mark e).noted) ≡ true)
      at t e i q = both_true _ _ (sym (seen_is e i) ∙ around_all (λ e. seen e ≡ true) g v each t e i q)

      all : (t : Side) (e : ℕ) → e < length g.edges → end_at g t e ≡ v → is_actor a (mark e).pinner ≡ true
      all t e i q = (at t e i q).0

      noted : (t : Side) (e : ℕ) → e < length g.edges → end_at g t e ≡ v → (takes p.gather_edges t ≡ true) ⊎ (takes p.scatter_edges t ≡ true) → IsNoted p shape c a e
      noted t e i q used =
          let k = at t e i q in
          let r : side_at g v e ≡ t = side_is t e i q in
          halves_noted a (mark e) k.0 (looks_noted _ _ _ (ap (λ t. not (takes p.gather_edges t || takes p.scatter_edges t) || is_some (mark e).noted) (sym r) ∙ k.1) used)

  -- who may prepare sees each
  pub sees_each : (m : ℕ) → MayPrepare p shape c a v m → (i : ℕ) → i < length (edges_at g v) → seen (slice_index_or (edges_at g v) i 0) ≡ true
  sees_each m may i l =
      let at = filter_numbers_each (λ f. is_at v (edge_at g f)) (length g.edges) i 0 l in
      here (slice_index_or (edges_at g v) i 0) at.0 (side_end g v (slice_index_or (edges_at g v) i 0) at.1)
    where
      here : (e : ℕ) → e < length g.edges → end_at g (side_at g v e) e ≡ v → seen e ≡ true
      here e i q =
          let k = may.all (side_at g v e) e i q in
          seen_is e i ∙ is_both _ _ k (noted_looks _ _ _ (λ used. noted_half a (mark e) k (may.noted (side_at g v e) e i q used).0))

  -- who sees each, by whatever directions, has pinned all forks
  pub sees_pins : (gathers scatters : Dir) → SeesEach gathers scatters g b.forks.items a v (edges_at g v) → (e : ℕ) → e < length g.edges → is_at v (edge_at g e) ≡ true → (c.words.grip a).pins e ≡ true
  sees_pins gathers scatters each e i at =
      let P : ℕ → Type 0 = λ d. sees_over gathers scatters g b.forks.items a v d ≡ true in
      let here : P e = any_passing P (λ d. is_at v (edge_at g d)) (length g.edges) (each_by_place P (edges_at g v) each) e i at in
      ap (λ (f : Fork A). is_actor a f.mark.pinner) (sym (fork_same p law g s b kept e i)) ∙ (both_true _ _ here).0

  -- the same by directions that are the program's
  module _ (gathers scatters : Dir) (gs : gathers ≡ p.gather_edges) (ss : scatters ≡ p.scatter_edges) where
    pub misses : (m : ℕ) → MissesOne gathers scatters g b.forks.items a v (edges_at g v) → MayPrepare p shape c a v m → ⊥
    misses m miss may =
        let e = slice_index_or (edges_at g v) miss.0 0 in
        true≢false (sym (sees_each m may miss.0 miss.1) ∙ ((λ j. sees_over (sym gs j) (sym ss j) g b.forks.items a v e) ∙ miss.2))

    pub may_with : (m : ℕ) → (actor_at b.actors.items a).vertex ≡ Some v → (actor_at b.actors.items a).committed ≡ false
        → SeesEach gathers scatters g b.forks.items a v (edges_at g v) → (stands p shape c).message v ≡ Some m → MayPrepare p shape c a v m
    may_with m busy fresh each message =
        may_prepare m busy fresh (λ i l. (λ j. sees_over (sym gs j) (sym ss j) g b.forks.items a v (slice_index_or (edges_at g v) i 0)) ∙ each i l) message
