-- A board whose core keeps its promise can act, and its acts keep the promise.
use Rattle.std.proofs.Common.{ℕ, ◌<◌, ◌≤◌, ◌≡◌, ◌⊎◌, ◌==◌, ◌||◌, List, [], ◌∷◌, cond, arith, length, slice_index_or, Bool, true, false, Option, Some, None, inl, inr, refl, sym, ap, subst, ◌∙◌, true≢false}
use Rattle.std.specs.Prelude.{MatchOption, IsTrue, is_some, Vec, ltb, filter, slice_index}
use Rattle.std.specs.List.{range_with_len, list_any}
use Rattle.std.proofs.lemmas.List.FromFn.{get_or-map-range_with_len}
use Rattle.std.specs.Vec.{vec_capacity}
use Rattle.std.specs.declared.alloc.Global.{Global}
use Rattle.std.proofs.lemmas.Bool.Decides.{Decides-eqb, nat_tests}
use Rattle.std.proofs.lemmas.List.{get_or_default, get_or_past}
use Rattle.pg_graph.specs.declared.edge.Side.{Side}
use Rattle.pg_graph.specs.Multigraph.{Multigraph, IsMultigraph, end_at, edges_at}
use Rattle.pg_law.specs.declared.values.Datum.{Datum}
use Rattle.pg_law.specs.Program.{Program}
use Rattle.pg_law.specs.Laws.{IsLawful}
use Rattle.pg_law.specs.Configuration.{Configuration}
use Rattle.pg_cut.specs.WorkerSet.{all_workers}
use Rattle.pg_cut.specs.Cut.{Division, IsCutOf, in_span, span_of, span_in}
use Rattle.pg_meals.specs.declared.fork.Mark.{Mark}
use Rattle.pg_meals.specs.declared.seat.Seat.{Seat}
use Rattle.pg_meals.specs.declared.actor.Ready.{Ready}
use Rattle.pg_meals.specs.declared.board.Board.{Board}
use Rattle.pg_meals.specs.Core.{Prepared, half_of}
use Rattle.pg_meals.specs.declared.act.Act.{Act as NamedAct}
use Rattle.pg_meals.specs.declared.act.Act.TheVariants.{Claim as NamedClaim, Drop as NamedDrop, Look as NamedLook, Pin as NamedPin, Ask as NamedAsk, Back as NamedBack}
use Rattle.pg_meals.specs.declared.act.Act.TheVariants.{ReadMirror as NamedRead, Turn as NamedTurn, Commit as NamedCommit, Give as NamedGive, WriteMirror as NamedWrite}
use Rattle.pg_meals.specs.declared.act.Outcome.{Outcome as Told}
use Rattle.pg_meals.specs.Steps.{MakesOn, told_of}
use Rattle.pg_meals.specs.Acts.{Claim, Drop, Look, Pin, Ask, Back, ReadMirror, Turn, Commit, Give, WriteMirror}
use Rattle.pg_meals.specs.Listed.{Cut, IsCut, any_word, any_datum, serial_of}
use Rattle.pg_meals.specs.Setting.{shape_in, IsSetting, Stands, AreReplicas, AreCells}
use Rattle.pg_meals.specs.StandsFor.{Invariant}
use Rattle.pg_meals.specs.Opened.{cut_in, copies_in, cells_in}
use Rattle.pg_meals.specs.Tables.{AreCaches}
use Rattle.pg_delta.specs.declared.cell.CacheCell.{CacheCell}
use Rattle.pg_meals.specs.Once.{is_among, Once}
use Rattle.pg_meals.specs.Entries.{is_actor, no_seat, fork_at, seat_at, actor_at, replicas_at, replica_in}
use Rattle.pg_meals.specs.Shown.{prepared_of}
use Rattle.pg_meals.specs.Tallies.{IsTallied}
use Rattle.pg_meals.specs.Boards.{IsBoard, Frame}
use Rattle.pg_meals.specs.Carrying.{setting_of, core_by, IsKept, KeptCanAct, ActsCarry, HalvesCarry, StartIsKept}
use Rattle.pg_meals.proofs.ListReads.{mark_same}
use Rattle.pg_meals.proofs.Gathers.{below_or_past}
use Rattle.pg_meals.proofs.Settings.{acts_keep, stands_of, opened_stands}
use Rattle.pg_meals.proofs.Distinct.{IsIn}
use Rattle.pg_meals.proofs.Around.{edges_have, numbers_have}
use Rattle.pg_meals.proofs.Holding.{end_in, in_among}

-- a worker in the span of a vertex is one of its edges'
in_numbers : (test : ℕ → Bool) (n k : ℕ) → k < n → test k ≡ true → is_among k (filter test (range_with_len 0 n)) ≡ true
in_numbers test n k i t = in_among k (filter test (range_with_len 0 n)) (numbers_have test n k i t)

span_has : (g : Multigraph) (workers : ℕ) (place : List ℕ) (v k : ℕ) → k < 64 → in_span g workers place v k ≡ true → is_among k (span_of g workers place v) ≡ true
unfolding all_workers
span_has g workers place v k i t = in_numbers (in_span g workers place v) 64 k i t

some_at : (f : ℕ → Bool) (xs : List ℕ) (e : ℕ) → IsIn e xs → f e ≡ true → ((length xs == 0) ≡ false) × (list_any f xs ≡ true)
some_at f [] e i t = absurd i
some_at f (x ∷ xs) e (inl q) t = (grind (arith, nat_tests), ap (λ b. b || list_any f xs) (ap f (sym q) ∙ t))
some_at f (x ∷ xs) e (inr m) t = (grind (arith, nat_tests), right (f x) (list_any f xs) (some_at f xs e m t).1)
  where
    right : (a b : Bool) → b ≡ true → (a || b) ≡ true
    right true b q = refl
    right false b q = q

in_span_of : (g : Multigraph) (cut : Division) → IsCutOf g cut → (side : Side) (e : ℕ) → end_at g side e < length g.ids → e < length g.edges → is_among (slice_index_or cut.place e 0) (span_in cut (end_at g side e)) ≡ true
in_span_of g cut is side e v_in i =
    let v = end_at g side e in
    let k = slice_index_or cut.place e 0 in
    let low : k < cut.workers = is.placed.each e (omega (arith, i, is.placed.count)) in
    let at = some_at (λ f. slice_index cut.place f == k) (edges_at g v) e (edges_have g v e i side refl) ((Decides-eqb k k).1 refl) in
    let inside : in_span g cut.workers cut.place v k ≡ true = rw (at.0) at.1 in
    let span_is : span_in cut v ≡ span_of g cut.workers cut.place v = ap (λ xs. slice_index_or xs v []) is.spans_are ∙ get_or-map-range_with_len (span_of g cut.workers cut.place) 0 (length g.ids) v v [] v_in (omega arith) in
    ap (is_among k) span_is ∙ span_has g cut.workers cut.place v k (omega (arith, low, is.placed.few)) inside

-- who holds a vertex doesn't depend on what stands beyond the list
holder_same : {A : Type 0} (d k : Datum) (seats : List (Seat A)) (v : ℕ) → (v < length seats) ⊎ (length seats ≤ v) → (seat_at d seats v).holder ≡ (seat_at k seats v).holder
holder_same d k seats v (inl i) = ap (λ (x : Seat _). x.holder) (get_or_default seats v (no_seat d) (no_seat k) i)
holder_same d k seats v (inr i) = ap (λ (x : Seat _). x.holder) (get_or_past seats v (no_seat d) i) ∙ sym (ap (λ (x : Seat _). x.holder) (get_or_past seats v (no_seat k) i))

module _ {A C : Type 0} (p : Program A C) where
  module _ (g : Multigraph) (s : Configuration) (b : Board A) (kept : IsKept p g s b) where
    mark_is : (w e : ℕ) → (fork_at w b.forks.items e).mark ≡ (fork_at (any_word p) b.forks.items e).mark
    mark_is w e = mark_same w (any_word p) b.forks.items e (below_or_past e (length b.forks.items))

    pins_of : (w a e : ℕ) → (fork_at w b.forks.items e).mark.pinner ≡ Some a → ((core_by p b).words.grip a).pins e ≡ true
    pins_of w a e q = ap (is_actor a) (sym (ap (λ (m : Mark). m.pinner) (mark_is w e)) ∙ q) ∙ (Decides-eqb a a).1 refl

    lone : (w e : ℕ) → (fork_at w b.forks.items e).mark.word.pinned ≡ false → (o : Option ℕ) → (fork_at w b.forks.items e).mark.pinner ≡ o → (fork_at w b.forks.items e).mark.pinner ≡ None
    lone w e n None q = q
    lone w e n (Some a) q = absurd (true≢false (sym (kept.stands.kept.clean.pin_word a e (pins_of w a e q)) ∙ (sym (ap (λ (m : Mark). m.word.pinned) (mark_is w e)) ∙ n)))

    held_at : (w a e : ℕ) → (fork_at w b.forks.items e).mark.pinner ≡ Some a → (e < length g.edges) × ((actor_at b.actors.items a).vertex ≡ Some (end_at g (fork_at w b.forks.items e).mark.word.side e))
    held_at w a e q =
        let pins = pins_of w a e q in
        (kept.stands.kept.clean.pin_inside a e pins, kept.stands.kept.clean.pin_holder a e pins ∙ ap (λ (m : Mark). Some (end_at g m.word.side e)) (sym (mark_is w e)))

    planned : (a v : ℕ) (x : Ready) (o : Option Ready) (u : Option ℕ) → o ≡ Some x → u ≡ Some v → (q : Prepared A) × (prepared_of a o u (seat_at (any_datum p) b.seats.items) (fork_at (any_word p) b.forks.items) ≡ Some q)
    planned a v x None u q r = absurd (cc)
    planned a v x (Some y) None q r = absurd (cc)
    planned a v x (Some y) (Some t) q r = (_, refl)

    all_pinned : (w a v e : ℕ) (t : Side) (x : Ready) → (actor_at b.actors.items a).ready ≡ Some x → (actor_at b.actors.items a).committed ≡ false → (actor_at b.actors.items a).vertex ≡ Some v
        → e < length g.edges → end_at g t e ≡ v → is_actor a (fork_at w b.forks.items e).mark.pinner ≡ true
    all_pinned w a v e t x q fresh busy i at =
        let z = planned a v x (actor_at b.actors.items a).ready (actor_at b.actors.items a).vertex q busy in
        ap (λ (m : Mark). is_actor a m.pinner) (mark_is w e) ∙ (kept.stands.kept.true_of.ready a v z.0 busy fresh z.1).all t e i at

    pub board_is : IsBoard g b
    board_is = record {
      few = kept.laid.few;
      seats = kept.laid.seats;
      forks = kept.laid.forks;
      workers = kept.laid.workers;
      replicas = kept.laid.replicas;
      once = kept.laid.once;
      room = kept.laid.room;
      tallied = kept.laid.tallied;
      free = λ w e n. lone w e n (fork_at w b.forks.items e).mark.pinner refl;
      held = held_at;
      ready = all_pinned;
      names = λ d a v q. holder_same d (any_datum p) b.seats.items v (below_or_past v (length b.seats.items)) ∙ kept.stands.kept.clean.names v a q;
      inside = λ a v q. kept.stands.kept.clean.inside a v q;
    }

  module _ (g : Multigraph) (s : Configuration) (b b' : Board A) (kept : IsKept p g s b) (frame : Frame b b') (tallied : IsTallied b') where
    setting_is : setting_of g s b' ≡ setting_of g s b
    setting_is = λ j. record {
      graph = g;
      cut = record { worker = λ e. slice_index_or (frame.workers j).items e 0; spans = λ v k. is_among k (frame.homes v j) };
      caches = frame.caches j;
      fuel = frame.fuel j;
      opening = s;
    }

    pub kept_by : Stands p (setting_of g s b) (core_by p b') → IsKept p g s b'
    kept_by stands = record {
      setting = subst (IsSetting p) (sym setting_is) kept.setting;
      laid = record {
        few = kept.laid.few;
        seats = frame.seats ∙ kept.laid.seats;
        forks = frame.forks ∙ kept.laid.forks;
        workers = ap (λ (x : Vec ℕ Global). length x.items) frame.workers ∙ kept.laid.workers;
        replicas = frame.replicas ∙ kept.laid.replicas;
        once = λ v. subst Once (sym (frame.homes v)) (kept.laid.once v);
        room = subst (λ n. n ≤ vec_capacity b'.journal) (sym frame.fuel) (subst (λ n. b.fuel ≤ n) (sym frame.room) kept.laid.room);
        tallied = tallied;
      };
      stands = subst (λ x. Stands p x (core_by p b')) (sym setting_is) stands;
    }

  pub kept_can_act : KeptCanAct p
  kept_can_act = board_is

  module _ (law : IsLawful p) where
    pub acts_carry : ActsCarry p
    acts_carry g s b a act b' out kept made frame tallied =
        kept_by g s b b' kept frame tallied (acts_keep p law (setting_of g s b) kept.setting (core_by p b) a act (core_by p b') out kept.stands (made (any_word p) (any_datum p)))

    pub halves_carry : HalvesCarry p
    halves_carry g s b a act b' out kept made frame tallied =
        let both = made (any_word p) (any_datum p) in
        let first = acts_keep p law (setting_of g s b) kept.setting (core_by p b) a (act 0) both.0 (out 0) kept.stands both.1 in
        kept_by g s b b' kept frame tallied (acts_keep p law (setting_of g s b) kept.setting both.0 a (act 1) (core_by p b') (out 1) first both.2)

    -- the ends of an edge have its worker in their spans
    cut_is : (g : Multigraph) (cut : Division) → IsMultigraph g → IsCutOf g cut → IsCut g (cut_in cut)
    cut_is g cut ok is side e i = in_span_of g cut is side e (end_in g ok side e i) i

    pub start_is_kept : StartIsKept p
    start_is_kept g cut s cells b ok is fit deltas own opened board =
        let x = setting_of g s b in
        let set : IsSetting p x = record { graph = ok; cut = subst (IsCut g) (sym opened.placed) (cut_is g cut ok is); fit = fit; deltas = deltas } in
        let shown : AreReplicas p x (copies_in b) = λ v k h t l. copied (any_datum p) v k h (subst (λ (c : Cut). c.spans v k ≡ true) opened.placed t) l in
        record {
          setting = set;
          laid = record { few = board.few; seats = board.seats; forks = board.forks; workers = board.workers; replicas = board.replicas; once = board.once; room = board.room; tallied = board.tallied };
          stands = stands_of p law x set (core_by p b) (subst (Invariant p (shape_in x) x.fuel (serial_of p s)) (sym (opened.core (any_word p) (any_datum p))) (opened_stands p law x set (copies_in b) shown cells own));
        }
      where
        copied : (d : Datum) (v k h : ℕ) → is_among k (span_in cut v) ≡ true → h < 2 → copies_in b v k h ≡ half_of h (slice_index_or s.values v d)
        copied d v k h t l =
            let few : ltb h 2 ≡ true = grind (arith, nat_tests, l) in
            ap (λ t. cond t (half_of h (replica_in (replicas_at b.replicas.items v) k).datum) 0) few ∙ ap (half_of h) (opened.copies d v k t)

    -- whatever act is made by name
    pub named_carry : (g : Multigraph) (s : Configuration) (b b' : Board A) (a : ℕ) (act : NamedAct) (out : Told) → IsKept p g s b → MakesOn g b a act b' out → Frame b b' → IsTallied b' → IsKept p g s b'
    named_carry g s b b' a (NamedClaim v) out kept made frame tallied = acts_carry g s b a (Claim v) b' (told_of out 0) kept made frame tallied
    named_carry g s b b' a NamedDrop out kept made frame tallied = acts_carry g s b a Drop b' (told_of out 0) kept made frame tallied
    named_carry g s b b' a (NamedLook e) out kept made frame tallied = acts_carry g s b a (Look e) b' (told_of out 0) kept made frame tallied
    named_carry g s b b' a (NamedPin e) out kept made frame tallied = acts_carry g s b a (Pin e) b' (told_of out 0) kept made frame tallied
    named_carry g s b b' a (NamedAsk e) out kept made frame tallied = acts_carry g s b a (Ask e) b' (told_of out 0) kept made frame tallied
    named_carry g s b b' a (NamedBack e) out kept made frame tallied = acts_carry g s b a (Back e) b' (told_of out 0) kept made frame tallied
    named_carry g s b b' a (NamedRead e) out kept made frame tallied = halves_carry g s b a (ReadMirror e) b' (told_of out) kept made frame tallied
    named_carry g s b b' a NamedTurn out kept made frame tallied = acts_carry g s b a Turn b' (told_of out 0) kept made frame tallied
    named_carry g s b b' a NamedCommit out kept made frame tallied = acts_carry g s b a Commit b' (told_of out 0) kept made frame tallied
    named_carry g s b b' a NamedGive out kept made frame tallied = acts_carry g s b a Give b' (told_of out 0) kept made frame tallied
    named_carry g s b b' a (NamedWrite k) out kept made frame tallied = halves_carry g s b a (WriteMirror k) b' (told_of out) kept made frame tallied

    -- made or not
    pub step_carries : (g : Multigraph) (s : Configuration) (b b' : Board A) (a : ℕ) (act : NamedAct) (o : Option Told) → IsKept p g s b → MatchOption o (b' ≡ b) (MakesOn g b a act b') → Frame b b' → IsTallied b' → IsKept p g s b'
    step_carries g s b b' a act None kept made frame tallied = subst (IsKept p g s) (sym made) kept
    step_carries g s b b' a act (Some out) kept made frame tallied = named_carry g s b b' a act out kept made frame tallied

  -- what caches that are handed in say
  pub deltas_of : (g : Multigraph) (cut : Division) (s : Configuration) (caches : Option (Vec (CacheCell A) Global)) → AreCaches p g cut s caches → is_some caches ≡ true → IsTrue p.keeps_deltas
  deltas_of g cut s None k t = absurd (true≢false (sym t))
  deltas_of g cut s (Some cells) k t = k.0

  pub cells_of : (g : Multigraph) (cut : Division) (s : Configuration) (b : Board A) (caches : Option (Vec (CacheCell A) Global)) → AreCaches p g cut s caches → b.caches ≡ is_some caches → AreCells p (setting_of g s b) (cells_in caches)
  cells_of g cut s b None k is = record { own = λ v. record { acc = tt; pending = tt }; kept = λ v a q. absurd (cc); true_of = λ v. tt }
  cells_of g cut s b (Some cells) k is = record { own = k.2.own; kept = λ v a q. is; true_of = k.2.true_of }
