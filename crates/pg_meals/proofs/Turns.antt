-- Taking the turn, the entry and giving the turn keep the words clean.
use Rattle.std.proofs.Common.{ℕ, ◌+◌, ◌<◌, ◌≤◌, ◌≡◌, ◌≢◌, ◌⊎◌, ◌==◌, List, [], ◌∷◌, ◌++◌, length, Bool, true, false, cond, Some, None, inl, inr, arith, sym, subst, true≢false, ◌∙◌, length-append}
use Rattle.std.proofs.lemmas.Bool.Decides.{nat_tests}
use Rattle.pg_graph.specs.declared.edge.Side.{Side}
use Rattle.pg_graph.specs.declared.edge.Side.TheVariants.{Source, Target}
use Rattle.pg_graph.specs.Multigraph.{opposite}
use Rattle.pg_meals.proofs.At.{same_or_not}
use Rattle.pg_meals.specs.Shape.{Shape}
use Rattle.pg_meals.specs.Words.{Words, holder, waiter, PinsAll, turn_taken, entered, given}
use Rattle.pg_meals.specs.Ranks.{Before, last_from}
use Rattle.pg_law.specs.declared.values.JournalEntry.{JournalEntry}
use Rattle.pg_meals.proofs.Shapes.{Graphlike}
use Rattle.pg_meals.specs.Hygiene.{Hygiene}

ready_taken : (g : Shape) (w : Words) (a v : ℕ) → (w.grip a).vertex ≡ Some v → PinsAll g w a v → ((b : ℕ) → (w.grip b).turn ≡ true → (u : ℕ) × ((w.grip b).vertex ≡ Some u) × PinsAll g w b u)
    → (b : ℕ) → (b ≡ a) ⊎ (b ≢ a) → ((turn_taken w a).grip b).turn ≡ true → (u : ℕ) × (((turn_taken w a).grip b).vertex ≡ Some u) × PinsAll g (turn_taken w a) b u
ready_taken g w a v busy all old b (inl q) p = (v, grind (arith, nat_tests), λ s e i at. grind (arith, nat_tests, all s e i at))
ready_taken g w a v busy all old b (inr q) p =
    let k = old b (grind (arith, nat_tests)) in
    (k.0, grind (arith, nat_tests, k.1), λ s e i at. grind (arith, nat_tests, k.2 s e i at))

-- taking the turn keeps hygiene
pub turn_keeps : (g : Shape) (fuel : ℕ) (sig : ℕ → Bool) (w : Words) (a v : ℕ) → (w.grip a).vertex ≡ Some v → PinsAll g w a v → w.turn ≡ None
    → Hygiene g fuel sig w → Hygiene g fuel sig (turn_taken w a)
turn_keeps g fuel sig w a v busy all free h = record {
  named = λ u b p. grind (arith, nat_tests, h.named);
  names = λ u b p. grind (arith, nat_tests, h.names);
  inside = λ b u q. grind (arith, nat_tests, h.inside);
  turn_named = λ b p. grind (arith, nat_tests, h.turn_named);
  turn_names = λ b p. grind (arith, nat_tests, h.turn_names);
  turn_ready = λ b p. ready_taken g w a v busy all h.turn_ready b (same_or_not b a) p;
  pin_inside = λ b f p. grind (arith, nat_tests, h.pin_inside);
  pin_word = λ b f p. grind (arith, nat_tests, h.pin_word);
  pin_holder = λ b f p. grind (arith, nat_tests, h.pin_holder);
  pinner = λ f p. grind (arith, nat_tests, h.pinner);
  clean_lower = λ f i d k. grind (arith, nat_tests, h.clean_lower);
  dirty_higher = h.dirty_higher;
  committed_higher = λ b f p c. grind (arith, nat_tests, h.committed_higher);
  clean_signalled = h.clean_signalled;
  asked_signalled = h.asked_signalled;
  not_both = h.not_both;
  evidence_signalled = λ b p c. grind (arith, nat_tests, h.evidence_signalled);
  short = h.short;
  clean_marked = λ b f c p d. grind (arith, nat_tests, h.clean_marked);
  taken_clean = λ b f c p t. grind (arith, nat_tests, h.taken_clean);
}

-- so does giving it
pub give_keeps : (g : Shape) (fuel : ℕ) (sig : ℕ → Bool) (w : Words) (a : ℕ) → (w.grip a).turn ≡ true
    → Hygiene g fuel sig w → Hygiene g fuel sig (given w a)
give_keeps g fuel sig w a mine h = record {
  named = λ u b p. grind (arith, nat_tests, h.named);
  names = λ u b p. grind (arith, nat_tests, h.names);
  inside = λ b u q. grind (arith, nat_tests, h.inside);
  turn_named = λ b p. grind (arith, nat_tests, h.turn_named);
  turn_names = λ b p. grind (arith, nat_tests, h.turn_names);
  turn_ready = λ b p. grind (arith, nat_tests, h.turn_ready);
  pin_inside = λ b f p. grind (arith, nat_tests, h.pin_inside);
  pin_word = λ b f p. grind (arith, nat_tests, h.pin_word);
  pin_holder = λ b f p. grind (arith, nat_tests, h.pin_holder);
  pinner = λ f p. grind (arith, nat_tests, h.pinner);
  clean_lower = λ f i d k. grind (arith, nat_tests, h.clean_lower);
  dirty_higher = h.dirty_higher;
  committed_higher = λ b f p c. grind (arith, nat_tests, h.committed_higher);
  clean_signalled = h.clean_signalled;
  asked_signalled = h.asked_signalled;
  not_both = h.not_both;
  evidence_signalled = λ b p c. grind (arith, nat_tests, h.evidence_signalled);
  short = h.short;
  clean_marked = λ b f c p d. grind (arith, nat_tests, h.clean_marked);
  taken_clean = λ b f c p t. grind (arith, nat_tests, h.taken_clean);
}

-- the last entry after one more
pub last_from-append : (k last : ℕ) (journal : List JournalEntry) (y : JournalEntry) (u : ℕ) → last_from k last (journal ++ y ∷ []) u ≡ cond (y.vertex == u) (k + length journal + 1) (last_from k last journal u)
last_from-append k last [] y u = grind arith
last_from-append k last (x ∷ xs) y u = grind (arith, last_from-append (k + 1) (cond (x.vertex == u) (k + 1) last) xs y u)

last_from-le : (k last : ℕ) (journal : List JournalEntry) (u : ℕ) → last ≤ k → last_from k last journal u ≤ k + length journal
last_from-le k last [] u h = grind arith
last_from-le k last (x ∷ xs) u h = grind (arith, nat_tests, last_from-le (k + 1) (cond (x.vertex == u) (k + 1) last) xs u)

-- the vertex of a new entry has the largest rank
pub last_wins : (journal : List JournalEntry) (y : JournalEntry) (v u : ℕ) → y.vertex ≡ v → u ≢ v → Before (journal ++ y ∷ []) u v
last_wins journal y v u q h = inl (grind (arith, nat_tests, last_from-append 0 0 journal y u, last_from-append 0 0 journal y v, last_from-le 0 0 journal u))

-- the ranks of all others stay
pub others_stay : (journal : List JournalEntry) (y : JournalEntry) (v u x : ℕ) → y.vertex ≡ v → u ≢ v → x ≢ v → Before journal u x → Before (journal ++ y ∷ []) u x
others_stay journal y v u x q m n h = grind (arith, nat_tests, last_from-append 0 0 journal y u, last_from-append 0 0 journal y x)

-- the two ends of an edge are two vertices
pub ends_differ : (g : Shape) → Graphlike g → (s : Side) (e : ℕ) → e < g.edges → g.end s e ≢ g.end (opposite s) e
ends_differ g plain Source e i = plain.loopless e i
ends_differ g plain Target e i = λ q. plain.loopless e i (sym q)

-- where an actor has all forks of v, an edge has v at the fork's side and is pinned by the actor, or it isn't an edge of v
pub record Mine (g : Shape) (w : Words) (a v e : ℕ) : Type 0 where
  pub pins : (w.grip a).pins e ≡ true
  pub here : holder g w e ≡ v
  pub there : waiter g w e ≢ v

pub record Apart (g : Shape) (w : Words) (a v e : ℕ) : Type 0 where
  pub pins : (w.grip a).pins e ≡ false
  pub here : holder g w e ≢ v
  pub there : waiter g w e ≢ v

mine_at : (g : Shape) (w : Words) (a v : ℕ) → Graphlike g → PinsAll g w a v → (e : ℕ) → e < g.edges → holder g w e ≡ v → Mine g w a v e
mine_at g w a v plain all e i q = record { pins = all (w.fork e).side e i q; here = q; there = λ r. ends_differ g plain (w.fork e).side e i (cc) }

no_pin : (g : Shape) (w : Words) (a v : ℕ) → (w.grip a).vertex ≡ Some v → (e : ℕ) → ((w.grip a).pins e ≡ true → (w.grip a).vertex ≡ Some (holder g w e)) → holder g w e ≢ v → (w.grip a).pins e ≡ false
no_pin g w a v busy e held n = grind arith

apart_at : (g : Shape) (w : Words) (a v : ℕ) → (w.grip a).vertex ≡ Some v → PinsAll g w a v → (e : ℕ) → e < g.edges → ((w.grip a).pins e ≡ true → (w.grip a).vertex ≡ Some (holder g w e)) → holder g w e ≢ v → Apart g w a v e
apart_at g w a v busy all e i held n =
    let none : (w.grip a).pins e ≡ false = no_pin g w a v busy e held n in
    record { pins = none; here = n; there = λ r. true≢false (sym (all (opposite (w.fork e).side) e i r) ∙ none) }

-- an edge is one of v, and pinned by the actor, or neither
pub mine_or_apart : (g : Shape) (fuel : ℕ) (sig : ℕ → Bool) (w : Words) (a v : ℕ) → Graphlike g → (w.grip a).vertex ≡ Some v → PinsAll g w a v → Hygiene g fuel sig w → (e : ℕ) → e < g.edges → Mine g w a v e ⊎ Apart g w a v e
mine_or_apart g fuel sig w a v plain busy all h e i = go (same_or_not (holder g w e) v)
  where
    go : (holder g w e ≡ v) ⊎ (holder g w e ≢ v) → Mine g w a v e ⊎ Apart g w a v e
    go (inl q) = inl (mine_at g w a v plain all e i q)
    go (inr q) = inr (apart_at g w a v busy all e i (h.pin_holder a e) q)

evidence_entered : (sig sig' : ℕ → Bool) (w : Words) (a v : ℕ) (y : JournalEntry) → ((u : ℕ) → u ≢ v → sig u ≡ true → sig' u ≡ true)
    → ((u b : ℕ) → (w.grip b).vertex ≡ Some u → w.vertex u ≡ Some b) → (w.grip a).vertex ≡ Some v
    → ((b : ℕ) → (w.grip b).evidence ≡ true → (w.grip b).committed ≡ false → (u : ℕ) × ((w.grip b).vertex ≡ Some u) × (sig u ≡ true))
    → (b : ℕ) → (b ≡ a) ⊎ (b ≢ a) → ((entered w a y).grip b).evidence ≡ true → ((entered w a y).grip b).committed ≡ false → (u : ℕ) × (((entered w a y).grip b).vertex ≡ Some u) × (sig' u ≡ true)
evidence_entered sig sig' w a v y more names busy old b (inl q) p c = absurd (grind (arith, nat_tests))
evidence_entered sig sig' w a v y more names busy old b (inr q) p c =
    let k = old b (grind (arith, nat_tests)) (grind (arith, nat_tests)) in
    (k.0, grind (arith, nat_tests, k.1), more k.0 (grind (arith, names k.0 b k.1, names v a busy)) k.2)

lower_entered : (g : Shape) (w : Words) (a v e : ℕ) (y : JournalEntry) → y.vertex ≡ v → ((w.fork e).dirty ≡ false → ((b : ℕ) → (w.grip b).pins e ≡ true → (w.grip b).committed ≡ false) → Before w.journal (holder g w e) (waiter g w e))
    → Mine g w a v e ⊎ Apart g w a v e → (w.fork e).dirty ≡ false → ((b : ℕ) → ((entered w a y).grip b).pins e ≡ true → ((entered w a y).grip b).committed ≡ false) → Before (w.journal ++ y ∷ []) (holder g w e) (waiter g w e)
lower_entered g w a v e y is old (inl m) d k = absurd (grind (arith, nat_tests, k a, m.pins))
lower_entered g w a v e y is old (inr m) d k = others_stay w.journal y v _ _ is m.here m.there (old d (λ b p. grind (arith, nat_tests, k b, m.pins)))

higher_entered : (g : Shape) (w : Words) (a v e : ℕ) (y : JournalEntry) → y.vertex ≡ v → Before w.journal (waiter g w e) (holder g w e) → Mine g w a v e ⊎ Apart g w a v e → Before (w.journal ++ y ∷ []) (waiter g w e) (holder g w e)
higher_entered g w a v e y is old (inl m) = subst (λ x. Before (w.journal ++ y ∷ []) (waiter g w e) x) (sym m.here) (last_wins w.journal y v _ is m.there)
higher_entered g w a v e y is old (inr m) = others_stay w.journal y v _ _ is m.there m.here old

committed_entered : (g : Shape) (w : Words) (a v e b : ℕ) (y : JournalEntry) → y.vertex ≡ v → ((w.grip b).pins e ≡ true → (w.grip b).committed ≡ true → Before w.journal (waiter g w e) (holder g w e)) → Mine g w a v e ⊎ Apart g w a v e
    → (b ≡ a) ⊎ (b ≢ a) → ((entered w a y).grip b).pins e ≡ true → ((entered w a y).grip b).committed ≡ true → Before (w.journal ++ y ∷ []) (waiter g w e) (holder g w e)
committed_entered g w a v e b y is old (inl m) c p q = subst (λ x. Before (w.journal ++ y ∷ []) (waiter g w e) x) (sym m.here) (last_wins w.journal y v _ is m.there)
committed_entered g w a v e b y is old (inr m) (inl c) p q = absurd (grind (arith, nat_tests, m.pins))
committed_entered g w a v e b y is old (inr m) (inr c) p q = others_stay w.journal y v _ _ is m.there m.here (old (grind (arith, nat_tests)) (grind (arith, nat_tests)))

eager_entered : (g : Shape) (w : Words) (sig sig' : ℕ → Bool) (a v e : ℕ) → ((u : ℕ) → u ≢ v → sig u ≡ true → sig' u ≡ true) → ((w.grip a).pins e ≡ true → (w.fork e).pinned ≡ true) → sig (holder g w e) ≡ true
    → Mine g w a v e ⊎ Apart g w a v e → (w.fork e).pinned ≡ false → sig' (holder g w e) ≡ true
eager_entered g w sig sig' a v e more held old (inl m) p = absurd (true≢false (sym (held m.pins) ∙ p))
eager_entered g w sig sig' a v e more held old (inr m) p = more _ m.here old

wanted_entered : (g : Shape) (w : Words) (sig sig' : ℕ → Bool) (a v e : ℕ) → ((u : ℕ) → u ≢ v → sig u ≡ true → sig' u ≡ true) → sig (waiter g w e) ≡ true
    → Mine g w a v e ⊎ Apart g w a v e → sig' (waiter g w e) ≡ true
wanted_entered g w sig sig' a v e more old (inl m) = more _ m.there old
wanted_entered g w sig sig' a v e more old (inr m) = more _ m.there old

-- the entry of v, whose forks are all pinned by the actor. Each other vertex that was signalled still is
pub enter_keeps : (g : Shape) (fuel : ℕ) (sig sig' : ℕ → Bool) (w : Words) (a v : ℕ) (y : JournalEntry) → y.vertex ≡ v → Graphlike g → (w.grip a).vertex ≡ Some v → PinsAll g w a v → length w.journal < fuel
    → ((u : ℕ) → u ≢ v → sig u ≡ true → sig' u ≡ true) → Hygiene g fuel sig w → Hygiene g fuel sig' (entered w a y)
enter_keeps g fuel sig sig' w a v y is plain busy all room more h =
    let part : (e : ℕ) → e < g.edges → Mine g w a v e ⊎ Apart g w a v e = mine_or_apart g fuel sig w a v plain busy all h in
    record {
      named = λ u b p. grind (arith, nat_tests, h.named);
      names = λ u b p. grind (arith, nat_tests, h.names);
      inside = λ b u q. grind (arith, nat_tests, h.inside);
      turn_named = λ b p. grind (arith, nat_tests, h.turn_named);
      turn_names = λ b p. grind (arith, nat_tests, h.turn_names);
      turn_ready = λ b p. grind (arith, nat_tests, h.turn_ready);
      pin_inside = λ b f p. grind (arith, nat_tests, h.pin_inside);
      pin_word = λ b f p. grind (arith, nat_tests, h.pin_word);
      pin_holder = λ b f p. grind (arith, nat_tests, h.pin_holder);
      pinner = λ f p. grind (arith, nat_tests, h.pinner);
      clean_lower = λ e i d k. lower_entered g w a v e y is (h.clean_lower e i) (part e i) d k;
      dirty_higher = λ e i d. higher_entered g w a v e y is (h.dirty_higher e i d) (part e i);
      committed_higher = λ b e p c. committed_entered g w a v e b y is (h.committed_higher b e) (part e (grind (arith, nat_tests, h.pin_inside))) (same_or_not b a) p c;
      clean_signalled = λ e i d p. eager_entered g w sig sig' a v e more (h.pin_word a e) (h.clean_signalled e i d p) (part e i) p;
      asked_signalled = λ e i p. wanted_entered g w sig sig' a v e more (h.asked_signalled e i p) (part e i);
      not_both = h.not_both;
      evidence_signalled = λ b p c. evidence_entered sig sig' w a v y more h.names busy h.evidence_signalled b (same_or_not b a) p c;
      short = grind (arith, length-append {A = JournalEntry});
      clean_marked = λ b f c p d. grind (arith, nat_tests, h.clean_marked);
      taken_clean = λ b f c p t. grind (arith, nat_tests, h.taken_clean);
    }
