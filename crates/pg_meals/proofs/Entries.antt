-- An entry is one execution of the serial state.
use Rattle.std.proofs.Common.{ℕ, ◌<◌, ◌≤◌, ◌≡◌, ◌≢◌, ◌⊎◌, ◌==◌, ltb, Bool, true, false, cond, Option, None, inl, inr, arith, refl, sym, ap, subst, ◌∙◌}
use Rattle.std.proofs.lemmas.Bool.Decides.{nat_tests}
use Rattle.pg_graph.specs.declared.edge.Side.{Side}
use Rattle.pg_graph.specs.declared.edge.Side.TheVariants.{Source, Target}
use Rattle.pg_graph.specs.Multigraph.{opposite, takes}
use Rattle.pg_forks.specs.Transitions.{same_side}
use Rattle.pg_meals.specs.Shape.{Shape, at_end}
use Rattle.pg_meals.specs.Words.{waiter}
use Rattle.pg_meals.proofs.Shapes.{Graphlike}
use Rattle.pg_law.specs.Program.{Program}
use Rattle.pg_law.specs.declared.values.Applied.{Applied}
use Rattle.pg_law.specs.declared.values.Scattered.{Scattered}
use Rattle.pg_law.specs.declared.values.Delta.{Delta}
use Rattle.pg_law.specs.declared.values.Delta.TheVariants.{Nothing}
use Rattle.pg_delta.specs.Deltas.{joined}
use Rattle.pg_meals.specs.Families.{total}
use Rattle.pg_law.specs.Round.{join}
use Rattle.pg_law.specs.Laws.{IsOptional, IsLawful, IsScattered}
use Rattle.pg_meals.specs.Serial.{Serial, scattered, signal_to, exec_with}
use Rattle.pg_meals.specs.Core.{Core, Content, Prepared}
use Rattle.pg_meals.specs.Standing.{stands, message_at, delta_at}
use Rattle.pg_meals.specs.Preparing.{content_after, content_sent, content_kept}
use Rattle.pg_meals.specs.Acts.{entered_core}
use Rattle.pg_meals.proofs.At.{same_or_not}
use Rattle.pg_law.specs.Monoid.{IsCommutativeMonoid}
use Rattle.pg_meals.proofs.Totals.{total_like, total_unit, total_in, total_add, join-none}
use Rattle.pg_law.proofs.Parts.{join_monoid}
use Rattle.pg_delta.proofs.Joining.{joined-nothing}
use Rattle.pg_meals.proofs.Turns.{Mine, Apart}

-- what at_end gives at an end, and where v is no end
pub at_end_is : {X : Type 0} (g : Shape) → Graphlike g → (s : Side) (v e : ℕ) (f : Side → X) (none : X) → e < g.edges → g.end s e ≡ v → at_end g v e f none ≡ f s
at_end_is g plain Source v e f none i q = grind (arith, nat_tests)
at_end_is g plain Target v e f none i q = grind (arith, nat_tests, plain.loopless e i)

-- at neither end
pub at_end_none : {X : Type 0} (g : Shape) (s : Side) (v e : ℕ) (f : Side → X) (none : X) → g.end s e ≢ v → g.end (opposite s) e ≢ v → at_end g v e f none ≡ none
at_end_none g Source v e f none q r = grind (arith, nat_tests)
at_end_none g Target v e f none q r = grind (arith, nat_tests)

-- what holds at both ends and elsewhere holds
pub at_end_in : {X : Type 0} (P : X → Type 0) (g : Shape) (v e : ℕ) (f : Side → X) (none : X) → ((s : Side) → P (f s)) → P none → P (at_end g v e f none)
at_end_in P g v e f none each least = go (g.end Source e == v) (g.end Target e == v)
  where
    go : (b d : Bool) → P (cond b (f Source) (cond d (f Target) none))
    go true d = each Source
    go false true = each Target
    go false false = least

same_same : (s : Side) → same_side s s ≡ true
same_same Source = refl
same_same Target = refl

other_same : (s : Side) → same_side (opposite s) s ≡ false
other_same Source = refl
other_same Target = refl

module _ {A C : Type 0} (p : Program A C) (g : Shape) where
  pub after_word : (s : Side) (x : Content A) (sc : Scattered A) → (content_after p g s x sc).word ≡ cond (takes p.scatter_edges s) sc.edge x.word
  after_word s x sc = go (takes p.scatter_edges s)
    where
      go : (b : Bool) → (cond b (content_sent p g s x sc) (content_kept p g s x)).word ≡ cond b sc.edge x.word
      go true = refl
      go false = refl

  -- no message for s is left on it
  pub after_mine : (s : Side) (x : Content A) (sc : Scattered A) → (content_after p g s x sc).message s ≡ None
  after_mine s x sc = go (takes p.scatter_edges s)
    where
      go : (b : Bool) → (cond b (content_sent p g s x sc) (content_kept p g s x)).message s ≡ None
      go true = rw (same_same s) refl
      go false = rw (same_same s) refl

  -- a message for the other end is joined with the signal
  pub after_other : (s : Side) (x : Content A) (sc : Scattered A) → (content_after p g s x sc).message (opposite s) ≡ join p.combine (x.message (opposite s)) (cond (takes p.scatter_edges s) sc.signal None)
  after_other s x sc = go (takes p.scatter_edges s)
    where
      go : (b : Bool) → (cond b (content_sent p g s x sc) (content_kept p g s x)).message (opposite s) ≡ join p.combine (x.message (opposite s)) (cond b sc.signal None)
      go true = rw (other_same s) refl
      go false = rw (other_same s) (sym (join-none p.combine (x.message (opposite s))))

  -- the edge words after the entry
  word_mine : (c : Core A) (a v : ℕ) (q : Prepared A) (x : Applied C) (e : ℕ) → Graphlike g → e < g.edges → Mine g c.words a v e
      → q.content e ≡ content_after p g (c.words.fork e).side (c.content e) (scattered p g (stands p g c) x (c.words.fork e).side e)
      → (stands p g (entered_core g c a v q)).word e ≡ (exec_with p g (stands p g c) v x).word e
  word_mine c a v q x e plain i m ready =
      let s : Side = (c.words.fork e).side in
      let one : at_end g v e (λ t. cond (takes p.scatter_edges t) (scattered p g (stands p g c) x t e).edge (c.content e).word) (c.content e).word ≡ cond (takes p.scatter_edges s) (scattered p g (stands p g c) x s e).edge (c.content e).word
      = at_end_is g plain s v e (λ t. cond (takes p.scatter_edges t) (scattered p g (stands p g c) x t e).edge (c.content e).word) (c.content e).word i m.here in
      let two : (q.content e).word ≡ cond (takes p.scatter_edges s) (scattered p g (stands p g c) x s e).edge (c.content e).word
      = ap (λ (y : Content A). y.word) ready ∙ after_word s (c.content e) (scattered p g (stands p g c) x s e) in
      let three : ltb e g.edges ≡ true = grind (arith, nat_tests) in
      rw (m.pins, three) (two ∙ sym one)

  word_apart : (c : Core A) (a v : ℕ) (q : Prepared A) (x : Applied C) (e : ℕ) → Apart g c.words a v e
      → (stands p g (entered_core g c a v q)).word e ≡ (exec_with p g (stands p g c) v x).word e
  word_apart c a v q x e m =
      let s : Side = (c.words.fork e).side in
      let one : at_end g v e (λ t. cond (takes p.scatter_edges t) (scattered p g (stands p g c) x t e).edge (c.content e).word) (c.content e).word ≡ (c.content e).word
      = at_end_none g s v e (λ t. cond (takes p.scatter_edges t) (scattered p g (stands p g c) x t e).edge (c.content e).word) (c.content e).word m.here m.there in
      rw (m.pins) (go one (ltb e g.edges))
    where
      go : {y z : ℕ} → y ≡ z → (b : Bool) → z ≡ cond b y z
      go h true = sym h
      go h false = refl

  word_outside : (c : Core A) (a v : ℕ) (q : Prepared A) (x : Applied C) (e : ℕ) → (c.words.grip a).pins e ≡ false → g.edges ≤ e
      → (stands p g (entered_core g c a v q)).word e ≡ (exec_with p g (stands p g c) v x).word e
  word_outside c a v q x e free i =
      let three : ltb e g.edges ≡ false = grind (arith, nat_tests) in
      rw (free, three) refl

  -- what rides to u over e after the entry of v
  message_mine : (c : Core A) (a v : ℕ) (q : Prepared A) (x : Applied C) (u e : ℕ) → Graphlike g → e < g.edges → Mine g c.words a v e
      → q.content e ≡ content_after p g (c.words.fork e).side (c.content e) (scattered p g (stands p g c) x (c.words.fork e).side e)
      → u ≢ v → (waiter g c.words e ≡ u) ⊎ (waiter g c.words e ≢ u)
      → message_at g (entered_core g c a v q).content u e ≡ join p.combine (message_at g c.content u e) (signal_to p g (stands p g c) x v u e)
  message_mine c a v q x u e plain i m ready n (inl r) =
      let s : Side = (c.words.fork e).side in
      let now : at_end g u e (λ t. ((entered_core g c a v q).content e).message t) None ≡ ((entered_core g c a v q).content e).message (opposite s)
      = at_end_is g plain (opposite s) u e (λ t. ((entered_core g c a v q).content e).message t) None i r in
      let old : at_end g u e (λ t. (c.content e).message t) None ≡ (c.content e).message (opposite s)
      = at_end_is g plain (opposite s) u e (λ t. (c.content e).message t) None i r in
      let mine : ((entered_core g c a v q).content e).message (opposite s) ≡ (q.content e).message (opposite s)
      = ap (λ b. (cond b (q.content e) (c.content e)).message (opposite s)) m.pins in
      let next : (q.content e).message (opposite s) ≡ join p.combine ((c.content e).message (opposite s)) (cond (takes p.scatter_edges s) (scattered p g (stands p g c) x s e).signal None)
      = ap (λ (y : Content A). y.message (opposite s)) ready ∙ after_other s (c.content e) (scattered p g (stands p g c) x s e) in
      let f : Side → Option ℕ = λ t. cond (takes p.scatter_edges t) (cond (g.end (opposite t) e == u) (scattered p g (stands p g c) x t e).signal None) None in
      let sent : at_end g v e f None ≡ f s = at_end_is g plain s v e f None i m.here in
      let test : (g.end (opposite s) e == u) ≡ true = grind (arith, nat_tests) in
      let last : f s ≡ cond (takes p.scatter_edges s) (scattered p g (stands p g c) x s e).signal None
      = ap (λ b. cond (takes p.scatter_edges s) (cond b (scattered p g (stands p g c) x s e).signal None) None) test in
      now ∙ mine ∙ next ∙ ap (λ o. join p.combine ((c.content e).message (opposite s)) o) (sym last ∙ sym sent) ∙ ap (λ o. join p.combine o (at_end g v e f None)) (sym old)
  message_mine c a v q x u e plain i m ready n (inr r) =
      let s : Side = (c.words.fork e).side in
      let away : g.end s e ≢ u = λ h. n (sym h ∙ m.here) in
      let now : at_end g u e (λ t. ((entered_core g c a v q).content e).message t) None ≡ None = at_end_none g s u e (λ t. ((entered_core g c a v q).content e).message t) None away r in
      let old : at_end g u e (λ t. (c.content e).message t) None ≡ None = at_end_none g s u e (λ t. (c.content e).message t) None away r in
      let f : Side → Option ℕ = λ t. cond (takes p.scatter_edges t) (cond (g.end (opposite t) e == u) (scattered p g (stands p g c) x t e).signal None) None in
      let sent : at_end g v e f None ≡ f s = at_end_is g plain s v e f None i m.here in
      let test : (g.end (opposite s) e == u) ≡ false = grind (arith, nat_tests) in
      let last : f s ≡ cond (takes p.scatter_edges s) None None
      = ap (λ b. cond (takes p.scatter_edges s) (cond b (scattered p g (stands p g c) x s e).signal None) None) test in
      now ∙ sym (ap (λ o. join p.combine o (at_end g v e f None)) old ∙ (sent ∙ (last ∙ same None (takes p.scatter_edges s))))
    where
      same : {X : Type 0} (y : X) (b : Bool) → cond b y y ≡ y
      same y true = refl
      same y false = refl

  message_apart : (c : Core A) (a v : ℕ) (q : Prepared A) (x : Applied C) (u e : ℕ) → Apart g c.words a v e
      → message_at g (entered_core g c a v q).content u e ≡ join p.combine (message_at g c.content u e) (signal_to p g (stands p g c) x v u e)
  message_apart c a v q x u e m =
      let s : Side = (c.words.fork e).side in
      let f : Side → Option ℕ = λ t. cond (takes p.scatter_edges t) (cond (g.end (opposite t) e == u) (scattered p g (stands p g c) x t e).signal None) None in
      let sent : at_end g v e f None ≡ None = at_end_none g s v e f None m.here m.there in
      let now : message_at g (entered_core g c a v q).content u e ≡ message_at g c.content u e
      = ap (λ b. at_end g u e (λ t. (cond b (q.content e) (c.content e)).message t) None) m.pins in
      now ∙ sym (ap (λ o. join p.combine (message_at g c.content u e) o) sent ∙ join-none p.combine (message_at g c.content u e))

  -- nothing rides to v any more, and v signalled nothing to itself
  gone_mine : (c : Core A) (a v : ℕ) (q : Prepared A) (x : Applied C) (e : ℕ) → Graphlike g → e < g.edges → Mine g c.words a v e
      → q.content e ≡ content_after p g (c.words.fork e).side (c.content e) (scattered p g (stands p g c) x (c.words.fork e).side e)
      → message_at g (entered_core g c a v q).content v e ≡ None
  gone_mine c a v q x e plain i m ready =
      let s : Side = (c.words.fork e).side in
      at_end_is g plain s v e (λ t. ((entered_core g c a v q).content e).message t) None i m.here
      ∙ ap (λ b. (cond b (q.content e) (c.content e)).message s) m.pins
      ∙ ap (λ (y : Content A). y.message s) ready
      ∙ after_mine s (c.content e) (scattered p g (stands p g c) x s e)

  gone_apart : (c : Core A) (a v : ℕ) (q : Prepared A) (e : ℕ) → Apart g c.words a v e → message_at g (entered_core g c a v q).content v e ≡ None
  gone_apart c a v q e m = at_end_none g (c.words.fork e).side v e (λ t. ((entered_core g c a v q).content e).message t) None m.here m.there

  -- the same of deltas
  pub after_delta_mine : (s : Side) (x : Content A) (sc : Scattered A) → (content_after p g s x sc).delta s ≡ Nothing
  after_delta_mine s x sc = go (takes p.scatter_edges s)
    where
      go : (b : Bool) → (cond b (content_sent p g s x sc) (content_kept p g s x)).delta s ≡ Nothing
      go true = rw (same_same s) refl
      go false = rw (same_same s) refl

  -- a delta for the other end is joined with the one that s sends
  pub after_delta_other : (s : Side) (x : Content A) (sc : Scattered A) → (content_after p g s x sc).delta (opposite s) ≡ joined p.sum (x.delta (opposite s)) (cond (takes p.scatter_edges s) sc.delta Nothing)
  after_delta_other s x sc = go (takes p.scatter_edges s)
    where
      go : (b : Bool) → (cond b (content_sent p g s x sc) (content_kept p g s x)).delta (opposite s) ≡ joined p.sum (x.delta (opposite s)) (cond b sc.delta Nothing)
      go true = rw (other_same s) refl
      go false = rw (other_same s) (sym (joined-nothing p.sum (x.delta (opposite s))))

  -- the delta that the execution of v sends to u over e
  abbrev pub sent_delta : Serial → Applied C → ℕ → ℕ → ℕ → Delta A
  sent_delta st x v u e = at_end g v e (λ s. cond (takes p.scatter_edges s) (cond (g.end (opposite s) e == u) (scattered p g st x s e).delta Nothing) Nothing) Nothing

  -- what rides to u over e after the entry of v
  pub delta_mine : (c : Core A) (a v : ℕ) (q : Prepared A) (x : Applied C) (u e : ℕ) → Graphlike g → e < g.edges → Mine g c.words a v e
      → q.content e ≡ content_after p g (c.words.fork e).side (c.content e) (scattered p g (stands p g c) x (c.words.fork e).side e)
      → u ≢ v → (waiter g c.words e ≡ u) ⊎ (waiter g c.words e ≢ u)
      → delta_at g (entered_core g c a v q).content u e ≡ joined p.sum (delta_at g c.content u e) (sent_delta (stands p g c) x v u e)
  delta_mine c a v q x u e plain i m ready n (inl r) =
      let s : Side = (c.words.fork e).side in
      let now : at_end g u e (λ t. ((entered_core g c a v q).content e).delta t) Nothing ≡ ((entered_core g c a v q).content e).delta (opposite s)
      = at_end_is g plain (opposite s) u e (λ t. ((entered_core g c a v q).content e).delta t) Nothing i r in
      let old : at_end g u e (λ t. (c.content e).delta t) Nothing ≡ (c.content e).delta (opposite s)
      = at_end_is g plain (opposite s) u e (λ t. (c.content e).delta t) Nothing i r in
      let mine : ((entered_core g c a v q).content e).delta (opposite s) ≡ (q.content e).delta (opposite s)
      = ap (λ b. (cond b (q.content e) (c.content e)).delta (opposite s)) m.pins in
      let next : (q.content e).delta (opposite s) ≡ joined p.sum ((c.content e).delta (opposite s)) (cond (takes p.scatter_edges s) (scattered p g (stands p g c) x s e).delta Nothing)
      = ap (λ (y : Content A). y.delta (opposite s)) ready ∙ after_delta_other s (c.content e) (scattered p g (stands p g c) x s e) in
      let f : Side → Delta A = λ t. cond (takes p.scatter_edges t) (cond (g.end (opposite t) e == u) (scattered p g (stands p g c) x t e).delta Nothing) Nothing in
      let sent : at_end g v e f Nothing ≡ f s = at_end_is g plain s v e f Nothing i m.here in
      let test : (g.end (opposite s) e == u) ≡ true = grind (arith, nat_tests) in
      let last : f s ≡ cond (takes p.scatter_edges s) (scattered p g (stands p g c) x s e).delta Nothing
      = ap (λ b. cond (takes p.scatter_edges s) (cond b (scattered p g (stands p g c) x s e).delta Nothing) Nothing) test in
      now ∙ mine ∙ next ∙ ap (λ o. joined p.sum ((c.content e).delta (opposite s)) o) (sym last ∙ sym sent) ∙ ap (λ o. joined p.sum o (at_end g v e f Nothing)) (sym old)
  delta_mine c a v q x u e plain i m ready n (inr r) =
      let s : Side = (c.words.fork e).side in
      let away : g.end s e ≢ u = λ h. n (sym h ∙ m.here) in
      let now : at_end g u e (λ t. ((entered_core g c a v q).content e).delta t) Nothing ≡ Nothing = at_end_none g s u e (λ t. ((entered_core g c a v q).content e).delta t) Nothing away r in
      let old : at_end g u e (λ t. (c.content e).delta t) Nothing ≡ Nothing = at_end_none g s u e (λ t. (c.content e).delta t) Nothing away r in
      let f : Side → Delta A = λ t. cond (takes p.scatter_edges t) (cond (g.end (opposite t) e == u) (scattered p g (stands p g c) x t e).delta Nothing) Nothing in
      let sent : at_end g v e f Nothing ≡ f s = at_end_is g plain s v e f Nothing i m.here in
      let test : (g.end (opposite s) e == u) ≡ false = grind (arith, nat_tests) in
      let last : f s ≡ cond (takes p.scatter_edges s) Nothing Nothing
      = ap (λ b. cond (takes p.scatter_edges s) (cond b (scattered p g (stands p g c) x s e).delta Nothing) Nothing) test in
      now ∙ sym (ap (λ o. joined p.sum o (at_end g v e f Nothing)) old ∙ (sent ∙ (last ∙ same Nothing (takes p.scatter_edges s))))
    where
      same : {X : Type 0} (y : X) (b : Bool) → cond b y y ≡ y
      same y true = refl
      same y false = refl

  -- nothing is sent over an edge that is not at v
  pub delta_apart : (c : Core A) (a v : ℕ) (q : Prepared A) (x : Applied C) (u e : ℕ) → Apart g c.words a v e
      → delta_at g (entered_core g c a v q).content u e ≡ joined p.sum (delta_at g c.content u e) (sent_delta (stands p g c) x v u e)
  delta_apart c a v q x u e m =
      let s : Side = (c.words.fork e).side in
      let f : Side → Delta A = λ t. cond (takes p.scatter_edges t) (cond (g.end (opposite t) e == u) (scattered p g (stands p g c) x t e).delta Nothing) Nothing in
      let sent : at_end g v e f Nothing ≡ Nothing = at_end_none g s v e f Nothing m.here m.there in
      let now : delta_at g (entered_core g c a v q).content u e ≡ delta_at g c.content u e
      = ap (λ b. at_end g u e (λ t. (cond b (q.content e) (c.content e)).delta t) Nothing) m.pins in
      now ∙ sym (ap (λ o. joined p.sum (delta_at g c.content u e) o) sent ∙ joined-nothing p.sum (delta_at g c.content u e))

  -- nothing rides to v any more, and v signalled nothing to itself
  pub gone_delta_mine : (c : Core A) (a v : ℕ) (q : Prepared A) (x : Applied C) (e : ℕ) → Graphlike g → e < g.edges → Mine g c.words a v e
      → q.content e ≡ content_after p g (c.words.fork e).side (c.content e) (scattered p g (stands p g c) x (c.words.fork e).side e)
      → delta_at g (entered_core g c a v q).content v e ≡ Nothing
  gone_delta_mine c a v q x e plain i m ready =
      let s : Side = (c.words.fork e).side in
      at_end_is g plain s v e (λ t. ((entered_core g c a v q).content e).delta t) Nothing i m.here
      ∙ ap (λ b. (cond b (q.content e) (c.content e)).delta s) m.pins
      ∙ ap (λ (y : Content A). y.delta s) ready
      ∙ after_delta_mine s (c.content e) (scattered p g (stands p g c) x s e)

  -- no delta for v is on an edge that is not at v
  pub gone_delta_apart : (c : Core A) (a v : ℕ) (q : Prepared A) (e : ℕ) → Apart g c.words a v e → delta_at g (entered_core g c a v q).content v e ≡ Nothing
  gone_delta_apart c a v q e m = at_end_none g (c.words.fork e).side v e (λ t. ((entered_core g c a v q).content e).delta t) Nothing m.here m.there

  self_none : (st : Serial) (x : Applied C) (v e : ℕ) → Graphlike g → e < g.edges → (g.end Source e ≡ v) ⊎ (g.end Source e ≢ v) → (g.end Target e ≡ v) ⊎ (g.end Target e ≢ v) → signal_to p g st x v v e ≡ None
  self_none st x v e plain i (inl r) (inl t) = absurd (plain.loopless e i (r ∙ sym t))
  self_none st x v e plain i (inl r) (inr t) =
      let test : (g.end Target e == v) ≡ false = grind (arith, nat_tests) in
      at_end_is g plain Source v e (λ s. cond (takes p.scatter_edges s) (cond (g.end (opposite s) e == v) (scattered p g st x s e).signal None) None) None i r
      ∙ (ap (λ b. cond (takes p.scatter_edges Source) (cond b (scattered p g st x Source e).signal None) None) test ∙ same None (takes p.scatter_edges Source))
    where
      same : {X : Type 0} (y : X) (b : Bool) → cond b y y ≡ y
      same y true = refl
      same y false = refl
  self_none st x v e plain i (inr r) (inl t) =
      let test : (g.end Source e == v) ≡ false = grind (arith, nat_tests) in
      at_end_is g plain Target v e (λ s. cond (takes p.scatter_edges s) (cond (g.end (opposite s) e == v) (scattered p g st x s e).signal None) None) None i t
      ∙ (ap (λ b. cond (takes p.scatter_edges Target) (cond b (scattered p g st x Target e).signal None) None) test ∙ same None (takes p.scatter_edges Target))
    where
      same : {X : Type 0} (y : X) (b : Bool) → cond b y y ≡ y
      same y true = refl
      same y false = refl
  self_none st x v e plain i (inr r) (inr t) = at_end_none g Source v e (λ s. cond (takes p.scatter_edges s) (cond (g.end (opposite s) e == v) (scattered p g st x s e).signal None) None) None r t

  -- all that the entry of v changes, where all its forks are pinned and what is prepared is what its execution gives
  module _ (speaks : IsLawful p) (plain : Graphlike g) (c : Core A) (a v : ℕ) (q : Prepared A) (x : Applied C)
      (part : (e : ℕ) → e < g.edges → Mine g c.words a v e ⊎ Apart g c.words a v e)
      (inside : (e : ℕ) → (c.words.grip a).pins e ≡ true → e < g.edges)
      (content_is : (s : Side) (e : ℕ) → e < g.edges → g.end s e ≡ v → q.content e ≡ content_after p g s (c.content e) (scattered p g (stands p g c) x s e))
      (datum_is : q.datum ≡ x.datum) (again_is : q.again ≡ x.again) (again_in : IsOptional p.IsMessage x.again) (sends : (t : Side) (e : ℕ) → IsScattered p (scattered p g (stands p g c) x t e))
      (own_in : (u : ℕ) → IsOptional p.IsMessage (c.place u).message) (sent_in : (e : ℕ) (s : Side) → IsOptional p.IsMessage ((c.content e).message s)) where
    value_entered : (u : ℕ) → (stands p g (entered_core g c a v q)).value u ≡ (exec_with p g (stands p g c) v x).value u
    value_entered u = grind (arith, nat_tests)

    word_entered : (e : ℕ) → (stands p g (entered_core g c a v q)).word e ≡ (exec_with p g (stands p g c) v x).word e
    word_entered e = go (ltb e g.edges) refl
      where
        split : e < g.edges → Mine g c.words a v e ⊎ Apart g c.words a v e → (stands p g (entered_core g c a v q)).word e ≡ (exec_with p g (stands p g c) v x).word e
        split i (inl m) = word_mine c a v q x e plain i m (content_is (c.words.fork e).side e i m.here)
        split i (inr m) = word_apart c a v q x e m

        go : (b : Bool) → ltb e g.edges ≡ b → (stands p g (entered_core g c a v q)).word e ≡ (exec_with p g (stands p g c) v x).word e
        go true t = let i : e < g.edges = grind (arith, nat_tests) in split i (part e i)
        go false t = let i : g.edges ≤ e = grind (arith, nat_tests) in word_outside c a v q x e (free (inside e) i) i
          where
            free : ((c.words.grip a).pins e ≡ true → e < g.edges) → g.edges ≤ e → (c.words.grip a).pins e ≡ false
            free h i = grind arith

    ridden : (u e : ℕ) → u ≢ v → e < g.edges → message_at g (entered_core g c a v q).content u e ≡ join p.combine (message_at g c.content u e) (signal_to p g (stands p g c) x v u e)
    ridden u e n i = split (part e i)
      where
        split : Mine g c.words a v e ⊎ Apart g c.words a v e → message_at g (entered_core g c a v q).content u e ≡ join p.combine (message_at g c.content u e) (signal_to p g (stands p g c) x v u e)
        split (inl m) = message_mine c a v q x u e plain i m (content_is (c.words.fork e).side e i m.here) n (same_or_not _ u)
        split (inr m) = message_apart c a v q x u e m

    gone : (e : ℕ) → e < g.edges → message_at g (entered_core g c a v q).content v e ≡ None
    gone e i = split (part e i)
      where
        split : Mine g c.words a v e ⊎ Apart g c.words a v e → message_at g (entered_core g c a v q).content v e ≡ None
        split (inl m) = gone_mine c a v q x e plain i m (content_is (c.words.fork e).side e i m.here)
        split (inr m) = gone_apart c a v q e m

    signal_in : (u e : ℕ) → IsOptional p.IsMessage (signal_to p g (stands p g c) x v u e)
    signal_in u e = at_end_in (IsOptional p.IsMessage) g v e _ None (λ s. go (takes p.scatter_edges s) (g.end (opposite s) e == u) (scattered p g (stands p g c) x s e).signal (sends s e).signal) tt
      where
        go : (b d : Bool) (o : Option ℕ) → IsOptional p.IsMessage o → IsOptional p.IsMessage (cond b (cond d o None) None)
        go true true o h = h
        go true false o h = tt
        go false d o h = tt

    message_self : (stands p g (entered_core g c a v q)).message v ≡ (exec_with p g (stands p g c) v x).message v
    message_self =
        let test : (v == v) ≡ true = grind (arith, nat_tests) in
        let none_left : total (join p.combine) None (message_at g (entered_core g c a v q).content v) g.edges ≡ None
        = total_unit (join_monoid p speaks) (message_at g (entered_core g c a v q).content v) g.edges gone in
        let none_sent : total (join p.combine) None (signal_to p g (stands p g c) x v v) g.edges ≡ None
        = total_unit (join_monoid p speaks) (signal_to p g (stands p g c) x v v) g.edges (λ e i. self_none (stands p g c) x v e plain i (same_or_not _ v) (same_or_not _ v)) in
        rw (test, none_left, none_sent) (ap (λ o. join p.combine o None) again_is)

    message_else : (u : ℕ) → u ≢ v → (stands p g (entered_core g c a v q)).message u ≡ (exec_with p g (stands p g c) v x).message u
    message_else u n =
        let add = join p.combine in
        let test : (u == v) ≡ false = grind (arith, nat_tests) in
        let laws : IsCommutativeMonoid (IsOptional p.IsMessage) None add = join_monoid p speaks in
        let old : ℕ → Option ℕ = message_at g c.content u in
        let new : ℕ → Option ℕ = signal_to p g (stands p g c) x v u in
        let old_in : (e : ℕ) → IsOptional p.IsMessage (old e) = λ e. at_end_in (IsOptional p.IsMessage) g u e _ None (λ s. sent_in e s) tt in
        let one : total add None (message_at g (entered_core g c a v q).content u) g.edges ≡ total add None (λ e. add (old e) (new e)) g.edges
        = total_like add None (message_at g (entered_core g c a v q).content u) (λ e. add (old e) (new e)) g.edges (λ e i. ridden u e n i) in
        let two : total add None (λ e. add (old e) (new e)) g.edges ≡ add (total add None old g.edges) (total add None new g.edges)
        = total_add laws old new g.edges old_in (signal_in u) in
        let three : add (add (c.place u).message (total add None old g.edges)) (total add None new g.edges) ≡ add (c.place u).message (add (total add None old g.edges) (total add None new g.edges))
        = laws.assoc (c.place u).message (total add None old g.edges) (total add None new g.edges) (own_in u) (total_in laws old g.edges old_in) (total_in laws new g.edges (signal_in u)) in
        rw (test) (ap (λ o. add (c.place u).message o) (one ∙ two) ∙ sym three)

    message_entered : (u : ℕ) → (u ≡ v) ⊎ (u ≢ v) → (stands p g (entered_core g c a v q)).message u ≡ (exec_with p g (stands p g c) v x).message u
    message_entered u (inl r) = subst (λ t. (stands p g (entered_core g c a v q)).message t ≡ (exec_with p g (stands p g c) v x).message t) (sym r) message_self
    message_entered u (inr n) = message_else u n

    -- the core stands for the serial state after the execution
    pub entry_is_execution : stands p g (entered_core g c a v q) ≡ exec_with p g (stands p g c) v x
    entry_is_execution = λ j. record {
      value = λ u. value_entered u j;
      word = λ e. word_entered e j;
      message = λ u. message_entered u (same_or_not u v) j;
    }
