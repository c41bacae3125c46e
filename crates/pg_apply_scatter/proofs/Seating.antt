-- The desks of a worker, and the signals that come to them.
use Rattle.std.proofs.Common.{◌≡◌, ℕ, zero, suc, ◌+◌, ◌<◌, ◌≤◌, true, false, cond, ◌==◌, Option, Some, None, List, [], ◌∷◌, ◌++◌, length, get_or, set, refl, sym, subst, ◌∙◌, ap, arith, ⊎_elim}
use Rattle.std.specs.Prelude.{Contains}
use Rattle.std.specs.List.{position_or_len}
use Rattle.std.specs.List.Sorted.{IsStrictlyIncreasing}
use Rattle.std.proofs.lemmas.Bool.{eq-eqb, ne_eqb, eqb-true, true≢false, cases_lt, cases_eq}
use Rattle.std.proofs.lemmas.List.{get_or_default, get_or_read, get_or_past, get_or_append_left, length-set, length_push}
use Rattle.std.proofs.lemmas.List.Sums.{fold-append, passes_at_first, position_or_len_is}
use Rattle.pg_graph.specs.declared.edge.Edge.{Edge}
use Rattle.pg_graph.specs.declared.edge.EdgeInfo.{EdgeInfo}
use Rattle.pg_graph.specs.declared.edge.Side.{Side}
use Rattle.pg_graph.specs.declared.edge.Side.TheVariants.{Source, Target}
use Rattle.pg_graph.specs.Multigraph.{Multigraph, IsMultigraph, end_of, end_at, opposite, edge_info}
use Rattle.pg_cut.proofs.Searching.{below_at}
use Rattle.pg_law.specs.declared.values.Datum.{Datum}
use Rattle.pg_law.specs.declared.values.Near.{Near}
use Rattle.pg_law.specs.declared.values.Scattered.{Scattered}
use Rattle.pg_law.specs.Values.{one}
use Rattle.pg_law.specs.Program.{Program}
use Rattle.pg_law.specs.Laws.{IsLawful, IsOptional}
use Rattle.pg_law.specs.Carries.{carry_at, AreCarries, IsCarried}
use Rattle.pg_law.specs.Round.{join, IsSent}
use Rattle.pg_law.proofs.Parts.{join_monoid}
use Rattle.pg_edge_store.specs.Store.{Store, local_at}
use Rattle.pg_mirrors.specs.Mirrors.{Mirrors, datum_at}
use Rattle.pg_gather.specs.Partials.{IsReadable, replica_of}
use Rattle.pg_gather.proofs.Reading.{place_is}
use Rattle.pg_apply_scatter.specs.declared.desk.Desk.{Desk}
use Rattle.pg_apply_scatter.specs.declared.sent.Sent.{Sent}
use Rattle.pg_apply_scatter.specs.declared.visit.Visits.{Visits}
use Rattle.pg_apply_scatter.specs.Sending.{IsBetweenReplicas, near_with, sent_to, sent_by, sent_at, source_here, target_here}
use Rattle.pg_apply_scatter.specs.Delivering.{with_signal, signals_of}
use Rattle.pg_apply_scatter.specs.Desks.{desk_at, signal_at, signal_of, AreDesks, AreSignalsOf, AreVisitsAt}
use Rattle.pg_apply_scatter.proofs.Reading.{end_datum, replicas_here}
use Rattle.pg_apply_scatter.proofs.Visiting.{set_keeps}

-- a write that a function cannot tell changes none of its values
set_same : {X Y : Type 0} (f : X → Y) (xs : List X) (i k : ℕ) (w d : X) → f w ≡ f (get_or xs k d) → f (get_or (set xs k w) i d) ≡ f (get_or xs i d)
set_same f [] i k w d same = refl
set_same f (x ∷ xs) zero zero w d same = same
set_same f (x ∷ xs) zero (suc k) w d same = refl
set_same f (x ∷ xs) (suc i) zero w d same = refl
set_same f (x ∷ xs) (suc i) (suc k) w d same = set_same f xs i k w d same

-- a desk without a signal more
pub none_pushed : {Carry : Type 0} (old new : List (Desk Carry)) (d : Desk Carry) → new ≡ old ++ d ∷ [] → d.signal ≡ None → ((i : ℕ) → signal_at old i ≡ None) → (i : ℕ) → signal_at new i ≡ None
none_pushed {Carry = Carry} old new d grown empty none = rw grown (at old none)
  where
    at : (xs : List (Desk Carry)) → ((i : ℕ) → signal_at xs i ≡ None) → (i : ℕ) → signal_at (xs ++ d ∷ []) i ≡ None
    at [] none zero = empty
    at [] none (suc i) = refl
    at (x ∷ xs) none zero = none 0
    at (x ∷ xs) none (suc i) = at xs (λ k. none (suc k)) i

module _ {Carry : Type 0} (m : Mirrors) (carries : List (Option Carry)) where
  -- there is no desk at first
  pub desks_none : AreDesks m carries 0 []
  desks_none = record { within = omega arith; first = λ i h. absurd (omega arith); others = λ i h k. omega arith; datum = λ i h. absurd (omega arith); carry = λ i h. absurd (omega arith) }

  -- a vertex without a replica
  pub desks_passed : (v : ℕ) (desks : List (Desk Carry)) → (Contains m.vertices v → false ≡ true) → AreDesks m carries v desks → AreDesks m carries (v + 1) desks
  desks_passed v desks none are = record {
    within = are.within;
    first = λ i h. omega (arith, are.first i h);
    others = λ i h k. ⊎_elim (λ lt. omega arith) (λ ge. let same : get_or m.vertices i 0 ≡ v = omega (arith, are.others i h k) in absurd (true≢false (sym (none (i, k, get_or_default m.vertices i v 0 k ∙ same))))) (cases_lt v (get_or m.vertices i 0));
    datum = are.datum;
    carry = are.carry;
  }

  -- the next replica is that behind the desks
  next_is : (v i : ℕ) (desks : List (Desk Carry)) → IsStrictlyIncreasing m.vertices → i < length m.vertices → get_or m.vertices i 0 ≡ v → AreDesks m carries v desks → i ≡ length desks
  next_is v i desks up h is are = ⊎_elim (λ lt. absurd (omega (arith, are.first i lt, is)))
      (λ ge. ⊎_elim (λ past. let n = length desks in absurd (omega (arith, are.others n (omega arith) (omega arith), is, up n (omega arith), below_at m.vertices up (n + 1) i (omega arith) h))) (λ upto. omega arith) (cases_lt (length desks) i))
      (cases_lt i (length desks))

  pub desks_pushed : (v i : ℕ) (desks new : List (Desk Carry)) (d : Desk Carry) → IsStrictlyIncreasing m.vertices → i < length m.vertices → get_or m.vertices i 0 ≡ v → d.datum ≡ datum_at m.values i → d.carry ≡ carry_at carries v
      → new ≡ desks ++ d ∷ [] → AreDesks m carries v desks → AreDesks m carries (v + 1) new
  desks_pushed v i desks new d up h is datum carry grown are = rw grown pushed
    where
      bare : Desk Carry
      bare = record { datum = one 0; carry = None; signal = None }

      next : i ≡ length desks
      next = next_is v i desks up h is are

      last : (k : ℕ) → k ≡ length desks → get_or (desks ++ d ∷ []) k bare ≡ d
      last k same = rw same (at desks)
        where
          at : (xs : List (Desk Carry)) → get_or (xs ++ d ∷ []) (length xs) bare ≡ d
          at [] = refl
          at (x ∷ xs) = at xs

      each : (P : ℕ → Desk Carry → Type 0) → ((k : ℕ) → k < length desks → P k (get_or desks k bare)) → P i d → (k : ℕ) → k < length (desks ++ d ∷ []) → P k (get_or (desks ++ d ∷ []) k bare)
      each P old new k below = ⊎_elim (λ lt. subst (P k) (sym (get_or_append_left desks (d ∷ []) bare k lt)) (old k lt))
          (λ ge. let same : k ≡ length desks = omega (arith, length_push desks d) in
          let here : i ≡ k = omega (arith, next) in
          subst (P k) (sym (last k same)) (let At : ℕ → Type 0 = λ j. P j d in subst At here new)) (cases_lt k (length desks))

      pushed : AreDesks m carries (v + 1) (desks ++ d ∷ [])
      pushed = record {
        within = omega (arith, length_push desks d, next);
        first = each (λ k x. get_or m.vertices k 0 < v + 1) (λ k lt. omega (arith, are.first k lt)) (omega (arith, is));
        others = λ k past inside. omega (arith, length_push desks d, next, is, up i (omega (arith, length_push desks d, next)), below_at m.vertices up (i + 1) k (omega (arith, length_push desks d, next)) inside);
        datum = each (λ k x. x.datum ≡ datum_at m.values k) are.datum datum;
        carry = each (λ k x. x.carry ≡ carry_at carries (get_or m.vertices k 0)) are.carry (carry ∙ ap (carry_at carries) (sym is));
      }

  -- the desks reach to each replica of a vertex below the number
  pub desks_reach : (below i : ℕ) (desks : List (Desk Carry)) → i < length m.vertices → get_or m.vertices i 0 < below → AreDesks m carries below desks → i < length desks
  desks_reach below i desks h small are = ⊎_elim (λ lt. lt) (λ ge. absurd (omega (arith, are.others i ge h, small))) (cases_lt i (length desks))

  -- a signal changes nothing else
  pub desks_set : (below i : ℕ) (desks : List (Desk Carry)) (d : Desk Carry) (signal : Option ℕ) → i < length desks → AreDesks m carries below desks
      → AreDesks m carries below (set desks i (record { datum = (get_or desks i d).datum; carry = (get_or desks i d).carry; signal = signal }))
  desks_set below i desks d signal h are = let written : Desk Carry = record { datum = (get_or desks i d).datum; carry = (get_or desks i d).carry; signal = signal } in
      let bare : Desk Carry = record { datum = one 0; carry = None; signal = None } in
      let count = length-set desks i written in
      let same = get_or_default desks i d bare h in
      record {
        within = omega (arith, count, are.within);
        first = λ k lt. are.first k (omega (arith, count));
        others = λ k past inside. are.others k (omega (arith, count)) inside;
        datum = λ k lt. set_same (λ (x : Desk Carry). x.datum) desks k i written bare (ap (λ (x : Desk Carry). x.datum) same) ∙ are.datum k (omega (arith, count));
        carry = λ k lt. set_same (λ (x : Desk Carry). x.carry) desks k i written bare (ap (λ (x : Desk Carry). x.carry) same) ∙ are.carry k (omega (arith, count));
      }

module _ {Acc Carry : Type 0} (p : Program Acc Carry) where
  -- signals stay the program's
  pub own_set : IsLawful p → (desks : List (Desk Carry)) (i : ℕ) (d written : Desk Carry) (o : Option (Scattered Acc)) (s : Scattered Acc) → i < length desks → o ≡ Some s → IsSent p o
      → written.signal ≡ join p.combine (get_or desks i d).signal s.signal → AreSignalsOf p desks → AreSignalsOf p (set desks i written)
  own_set law desks i d written o s h is sent joined own k below = set_keeps (λ (x : Desk Carry). IsOptional p.IsMessage x.signal) desks k i written bare (own k (omega (arith, length-set desks i written))) (rw joined ((join_monoid p law).closed (get_or desks i d).signal s.signal there here))
    where
      bare : Desk Carry
      bare = record { datum = one 0; carry = None; signal = None }

      there : IsOptional p.IsMessage (get_or desks i d).signal
      there = let Own : Desk Carry → Type 0 = λ x. IsOptional p.IsMessage x.signal in subst Own (get_or_default desks i bare d h) (own i h)

      here : IsOptional p.IsMessage s.signal
      here = let Own : Option (Scattered Acc) → Type 0 = IsSent p in (subst Own is sent).signal

  -- what comes to the place of a replica comes to its vertex
  module _ (m : Mirrors) (up : IsStrictlyIncreasing m.vertices) where
    abbrev place_of : ℕ → ℕ
    place_of v = position_or_len (λ u. u == v) m.vertices

    same_test : (r to v : ℕ) → r < length m.vertices → get_or m.vertices r 0 ≡ to → (r == place_of v) ≡ (to == v)
    same_test r to v h is = ⊎_elim (λ same. eq-eqb r (place_of v) (sym (place_is m.vertices v r up h (is ∙ same))) ∙ sym (eq-eqb to v same))
        (λ apart. ne_eqb r (place_of v) (λ at. let inside : place_of v < length m.vertices = omega (arith, h, at) in
        apart (sym is ∙ ap (λ k. get_or m.vertices k 0) at ∙ eqb-true (get_or m.vertices (place_of v) 0) v (passes_at_first (λ u. u == v) m.vertices 0 inside))) ∙ sym (ne_eqb to v apart)) (cases_eq to v)

    sent_same : (r to v : ℕ) (x : Option ℕ) (o : Option (Scattered Acc)) → r < length m.vertices → get_or m.vertices r 0 ≡ to → signals_of p (place_of v) x (sent_to r o) ≡ signals_of p v x (sent_to to o)
    sent_same r to v x None h is = refl
    sent_same r to v x (Some s) h is = ap (λ b. cond b (join p.combine x s.signal) x) (same_test r to v h is)

    -- the visits of an edge, between replicas and in the graph
    pub visits_same : (g : Multigraph) (carries : List (Option Carry)) (s : Store) (place v : ℕ) (x : Option ℕ) (visits : Visits Acc) → IsReadable p g s m → place < length s.numbers → AreVisitsAt p g m carries s place visits
        → signals_of p (place_of v) x (sent_by visits) ≡ signals_of p v x (sent_at p g m carries s place)
    visits_same g carries s place v x visits readable h at =
        let e = get_or s.numbers place 0 in
        let word = get_or s.words place 0 in
        let source = source_here p g m carries e word in
        let target = target_here p g m carries e word in
        let local = local_at s place in
        let between = replicas_here p g s m place readable h in
        rw (at.edge, at.source, at.target)
        (fold-append (with_signal p (place_of v)) x (sent_to local.dst source) (sent_to local.src target)
        ∙ ap (λ y. signals_of p (place_of v) y (sent_to local.src target)) (sent_same local.dst (end_at g Target e) v x source (between.within Target) (between.ends Target))
        ∙ sent_same local.src (end_at g Source e) v (signals_of p v x (sent_to (end_at g Target e) source)) target (between.within Source) (between.ends Source)
        ∙ sym (fold-append (with_signal p v) x (sent_to (end_at g Target e) source) (sent_to (end_at g Source e) target)))

    -- the desks so far, after the visits of one edge more
    pub desks_more : (old new : List (Desk Carry)) (sent more : List (Sent Acc)) → ((v : ℕ) → signal_of m old v ≡ signals_of p v None sent) → ((v : ℕ) → signal_of m new v ≡ signals_of p v (signal_of m old v) more)
        → (v : ℕ) → signal_of m new v ≡ signals_of p v None (sent ++ more)
    desks_more old new sent more before step v = step v ∙ ap (λ x. signals_of p v x more) (before v) ∙ sym (fold-append (with_signal p v) None sent more)

  -- each vertex's signal is the program's, or none
  pub each_own : (m : Mirrors) (desks : List (Desk Carry)) → AreSignalsOf p desks → (v : ℕ) → IsOptional p.IsMessage (signal_of m desks v)
  each_own m desks own v = let i = position_or_len (λ u. u == v) m.vertices in let bare : Desk Carry = record { datum = one 0; carry = None; signal = None } in
      let Own : Desk Carry → Type 0 = λ x. IsOptional p.IsMessage x.signal in
      ⊎_elim (λ lt. own i lt) (λ past. subst Own (sym (get_or_past desks i bare past)) tt) (cases_lt i (length desks))

-- the signal of a vertex stands at the desk of its replica
pub signal_there : {Carry : Type 0} (m : Mirrors) (desks : List (Desk Carry)) (v i : ℕ) (d : Desk Carry) (signal : Option ℕ) → IsStrictlyIncreasing m.vertices → i < length m.vertices → get_or m.vertices i 0 ≡ v → i < length desks
    → (get_or desks i d).signal ≡ signal → signal_of m desks v ≡ signal
signal_there m desks v i d signal up h is within same = ap (signal_at desks) (place_is m.vertices v i up h is)
    ∙ ap (λ (x : Desk _). x.signal) (get_or_default desks i (record { datum = one 0; carry = None; signal = None }) d within) ∙ same

-- and a vertex without a replica has none
pub signal_nowhere : {Carry : Type 0} (m : Mirrors) (desks : List (Desk Carry)) (v : ℕ) → (Contains m.vertices v → false ≡ true) → length desks ≤ length m.vertices → signal_of m desks v ≡ None
signal_nowhere m desks v none few = ap (λ (x : Desk _). x.signal) (get_or_past desks (position_or_len (λ u. u == v) m.vertices) (record { datum = one 0; carry = None; signal = None }) (omega (arith, nowhere, few)))
  where
    nowhere : position_or_len (λ u. u == v) m.vertices ≡ length m.vertices
    nowhere = position_or_len_is (λ u. u == v) m.vertices (length m.vertices) 0 (omega arith)
        (λ k h. ne_eqb (get_or m.vertices k 0) v (λ same. true≢false (sym (none (k, h, get_or_default m.vertices k v 0 h ∙ same))))) (λ h. absurd (omega arith))

-- what an edge reads at the desk of one of its ends
module _ {Acc Carry : Type 0} (p : Program Acc Carry) (g : Multigraph) (ok : IsMultigraph g) (s : Store) (m : Mirrors) (carries : List (Option Carry)) (desks : List (Desk Carry)) (readable : IsReadable p g s m) (are : AreDesks m carries (length g.ids) desks) (i : ℕ) (h : i < length s.numbers) (side : Side) where
  between_here : IsBetweenReplicas g m (get_or s.numbers i 0) (local_at s i)
  between_here = replicas_here p g s m i readable h

  pub vertex_within : end_at g side (get_or s.numbers i 0) < length g.ids
  vertex_within = at side
    where
      at : (side : Side) → end_at g side (get_or s.numbers i 0) < length g.ids
      at Source = (ok.edge (get_or s.numbers i 0) (readable.edges i 0 h).edge).src
      at Target = (ok.edge (get_or s.numbers i 0) (readable.edges i 0 h).edge).dst

  pub seat_within : end_of side (local_at s i) < length desks
  seat_within = ⊎_elim (λ lt. lt) (λ ge. absurd (omega (arith, are.others (end_of side (local_at s i)) ge (between_here.within side), between_here.ends side, vertex_within))) (cases_lt (end_of side (local_at s i)) (length desks))

  pub seat_datum : (desk_at desks (end_of side (local_at s i))).datum ≡ replica_of m (end_at g side (get_or s.numbers i 0))
  seat_datum = are.datum (end_of side (local_at s i)) seat_within
      ∙ end_datum p g m (get_or s.numbers i 0) (local_at s i) (record { ascending = readable.ascending; values = readable.values }) between_here side

  pub seat_carry : (desk_at desks (end_of side (local_at s i))).carry ≡ carry_at carries (end_at g side (get_or s.numbers i 0))
  seat_carry = are.carry (end_of side (local_at s i)) seat_within ∙ ap (carry_at carries) (between_here.ends side)

-- an edge from its parts
pub near_parts : (g : Multigraph) (m : Mirrors) (side : Side) (e word : ℕ) (edge : EdgeInfo) (centre other : Datum) → edge ≡ edge_info g e → centre ≡ replica_of m (end_at g side e) → other ≡ replica_of m (end_at g (opposite side) e)
    → ◌≡◌ {A = Near} (record { side = side; edge = edge; word = word; centre = centre; other = other }) (near_with g m side e word)
near_parts g m side e word edge centre other is_edge is_centre is_other = rw (is_edge, is_centre, is_other) refl

-- the same at desks that were read at the ends of the edge between replicas
module _ {Acc Carry : Type 0} (p : Program Acc Carry) (g : Multigraph) (ok : IsMultigraph g) (s : Store) (m : Mirrors) (carries : List (Option Carry)) (desks : List (Desk Carry)) (readable : IsReadable p g s m) (are : AreDesks m carries (length g.ids) desks) (i : ℕ) (h : i < length s.numbers)
    (e : ℕ) (local : Edge) (is_e : e ≡ get_or s.numbers i 0) (is_local : local ≡ local_at s i) where
  pub read_within : (side : Side) → end_of side local < length desks
  read_within side = rw is_local (seat_within p g ok s m carries desks readable are i h side)

  read_there : (side : Side) (d : Desk Carry) → d ≡ get_or desks (end_of side local) d → d ≡ desk_at desks (end_of side (local_at s i))
  read_there side d is = get_or_read desks (end_of side local) d (read_within side) is (record { datum = one 0; carry = None; signal = None }) ∙ ap (λ edge. desk_at desks (end_of side edge)) is_local

  read_datum : (side : Side) (d : Desk Carry) → d ≡ get_or desks (end_of side local) d → d.datum ≡ replica_of m (end_at g side e)
  read_datum side d is = ap (λ (x : Desk Carry). x.datum) (read_there side d is) ∙ seat_datum p g ok s m carries desks readable are i h side ∙ ap (λ k. replica_of m (end_at g side k)) (sym is_e)

  pub read_carry : (side : Side) (d : Desk Carry) → d ≡ get_or desks (end_of side local) d → d.carry ≡ carry_at carries (end_at g side e)
  read_carry side d is = ap (λ (x : Desk Carry). x.carry) (read_there side d is) ∙ seat_carry p g ok s m carries desks readable are i h side ∙ ap (λ k. carry_at carries (end_at g side k)) (sym is_e)

  pub read_near : (side : Side) (word : ℕ) (edge : EdgeInfo) (centre other : Desk Carry) → edge ≡ edge_info g e → centre ≡ get_or desks (end_of side local) centre → other ≡ get_or desks (end_of (opposite side) local) other
      → ◌≡◌ {A = Near} (record { side = side; edge = edge; word = word; centre = centre.datum; other = other.datum }) (near_with g m side e word)
  read_near side word edge centre other is_edge is_centre is_other = near_parts g m side e word edge centre.datum other.datum is_edge (read_datum side centre is_centre) (read_datum (opposite side) other is_other)

  pub read_carried : AreCarries p g carries → (side : Side) (d : Desk Carry) → d ≡ get_or desks (end_of side local) d → IsCarried p d.carry
  read_carried own side d is = rw (read_carry side d is) (rw is_e (own.each (end_at g side (get_or s.numbers i 0)) (vertex_within p g ok s m carries desks readable are i h side)))
