-- What the acts that end an attempt do to the core, where they are made and where they are refused.
use Rattle.std.proofs.Common.{ℕ, ◌<◌, ◌≡◌, ◌≢◌, ◌⊎◌, Bool, true, false, Option, Some, None, inl, inr, arith, refl, sym, ap, subst, ◌∙◌}
use Rattle.std.proofs.lemmas.Bool.Decides.{Decides-eqb}
use Rattle.pg_graph.specs.declared.edge.Side.{Side}
use Rattle.pg_graph.specs.declared.edge.Side.TheVariants.{Source, Target}
use Rattle.pg_forks.specs.declared.fork_word.ForkWord.{ForkWord}
use Rattle.pg_forks.specs.declared.fork_word.Why.{Why}
use Rattle.pg_forks.specs.Transitions.{back_of}
use Rattle.pg_meals.specs.Families.{set_at}
use Rattle.pg_meals.specs.Shape.{Shape}
use Rattle.pg_meals.specs.Words.{Grip, empty_grip, given}
use Rattle.pg_meals.specs.Hygiene.{Hygiene}
use Rattle.pg_meals.specs.Core.{Core}
use Rattle.pg_meals.specs.Acts.{Act, Outcome, Step, MayLeave, Drop, Back, Give, WriteMirror, Moved, why, written_core, backed_core, dropped_core}
use Rattle.pg_meals.proofs.At.{false_test, same_or_not, some_of}

here : {X : Type 0} (f : ℕ → X) (i : ℕ) (x : X) → set_at f i x i ≡ x
here f i x = rw ((Decides-eqb i i).1 refl) refl

there : {X : Type 0} (f : ℕ → X) (i : ℕ) (x : X) (j : ℕ) → j ≢ i → set_at f i x j ≡ f j
there f i x j n = rw (false_test j i n) refl

-- a mark that stands already stands when another is set
still : (f : ℕ → ℕ → Bool) (k n j h : ℕ) → f j h ≡ true → set_at f k (set_at (f k) n true) j h ≡ true
still f k n j h old = go (same_or_not j k) (same_or_not h n)
  where
    go : (j ≡ k) ⊎ (j ≢ k) → (h ≡ n) ⊎ (h ≢ n) → set_at f k (set_at (f k) n true) j h ≡ true
    go (inr d) s = ap (λ (z : ℕ → Bool). z h) (there f k (set_at (f k) n true) j d) ∙ old
    go (inl q) (inl r) = rw (q, r) (ap (λ (z : ℕ → Bool). z n) (here f k (set_at (f k) n true)) ∙ here (f k) n true)
    go (inl q) (inr d) = rw (q) (ap (λ (z : ℕ → Bool). z h) (here f k (set_at (f k) n true)) ∙ there (f k) n true h d ∙ subst (λ i. f i h ≡ true) q old)

marked : (f : ℕ → ℕ → Bool) (k n : ℕ) → set_at f k (set_at (f k) n true) k n ≡ true
marked f k n = ap (λ (z : ℕ → Bool). z n) (here f k (set_at (f k) n true)) ∙ here (f k) n true

-- both halves are marked
pub set_both : (f m l : ℕ → ℕ → Bool) (n k h : ℕ) → m ≡ set_at f n (set_at (f n) 0 true) → l ≡ set_at m n (set_at (m n) 1 true) → (k ≡ n) ⊎ (f k h ≡ true) → h < 2 → l k h ≡ true
set_both f m l n k h one two (inr old) low = ap (λ (z : ℕ → ℕ → Bool). z k h) two ∙ still m n 1 k h (ap (λ (z : ℕ → ℕ → Bool). z k h) one ∙ still f n 0 k h old)
set_both f m l n k h one two (inl q) low = ap (λ i. l i h) q ∙ go (same_or_not h 0)
  where
    go : (h ≡ 0) ⊎ (h ≢ 0) → l n h ≡ true
    go (inl r) = ap (λ (z : ℕ → ℕ → Bool). z n h) two ∙ still m n 1 n h (ap (λ i. m n i) r ∙ (ap (λ (z : ℕ → ℕ → Bool). z n 0) one ∙ marked f n 0))
    go (inr d) = let r : h ≡ 1 = omega (arith, low, d) in ap (λ i. l n i) r ∙ (ap (λ (z : ℕ → ℕ → Bool). z n 1) two ∙ marked m n 1)

-- what is given back isn't pinned
pub backed_pin : (pins : ℕ → Bool) (e f : ℕ) → (f ≡ e) ⊎ (pins f ≡ false) → set_at pins e false f ≡ false
backed_pin pins e f (inl q) = ap (set_at pins e false) q ∙ here pins e false
backed_pin pins e f (inr old) = go (same_or_not f e)
  where
    go : (f ≡ e) ⊎ (f ≢ e) → set_at pins e false f ≡ false
    go (inl q) = ap (set_at pins e false) q ∙ here pins e false
    go (inr d) = there pins e false f d ∙ old

-- a fork that is pinned can be given back at its side
abbrev IsThere : Option ForkWord → Type 0
IsThere o = (word : ForkWord) × (o ≡ Some word)

back_made : (side : Side) (dirty asked committed taken evidence : Bool)
    → IsThere (back_of (record { side = side; dirty = dirty; asked = asked; pinned = true }) side (record { committed = committed; taken = taken; evidence = evidence }))
back_made Source dirty true true taken evidence = (_, refl)
back_made Source dirty false true taken evidence = (_, refl)
back_made Source true true false taken evidence = (_, refl)
back_made Source true false false true true = (_, refl)
back_made Source true false false true false = (_, refl)
back_made Source true false false false evidence = (_, refl)
back_made Source false asked false true true = (_, refl)
back_made Source false asked false true false = (_, refl)
back_made Source false asked false false evidence = (_, refl)
back_made Target dirty true true taken evidence = (_, refl)
back_made Target dirty false true taken evidence = (_, refl)
back_made Target true true false taken evidence = (_, refl)
back_made Target true false false true true = (_, refl)
back_made Target true false false true false = (_, refl)
back_made Target true false false false evidence = (_, refl)
back_made Target false asked false true true = (_, refl)
back_made Target false asked false true false = (_, refl)
back_made Target false asked false false evidence = (_, refl)

pub back_can : (w : ForkWord) (y : Why) → w.pinned ≡ true → IsThere (back_of w w.side y)
back_can w y pinned = subst (λ b. IsThere (back_of (record { side = w.side; dirty = w.dirty; asked = w.asked; pinned = b }) w.side y)) (sym pinned) (back_made w.side w.dirty w.asked y.committed y.taken y.evidence)

module _ {A : Type 0} (g : Shape) (fuel : ℕ) (c c' : Core A) (a : ℕ) (out : Outcome) where
  -- the vertices of all other actors stay
  pub give_others : Step g fuel c a Give c' out → (x : ℕ) → x ≢ a → (c'.words.grip x).vertex ≡ (c.words.grip x).vertex
  give_others s x n = ap (λ (z : Core A). (z.words.grip x).vertex) s.1 ∙ ap (λ (z : Grip). z.vertex) (there c.words.grip a (record (c.words.grip a) { turn = false }) x n)

  pub write_others : (k h x : ℕ) → Step g fuel c a (WriteMirror k h) c' out → (c'.words.grip x).vertex ≡ (c.words.grip x).vertex
  write_others k h x s = ap (λ (z : Core A). (z.words.grip x).vertex) s.7

  pub back_others : (e : ℕ) → Step g fuel c a (Back e) c' out → (x : ℕ) → x ≢ a → (c'.words.grip x).vertex ≡ (c.words.grip x).vertex
  back_others e s x n = ap (λ (z : Core A). (z.words.grip x).vertex) s.9 ∙ ap (λ (z : Grip). z.vertex) (there c.words.grip a _ x n)

  pub drop_others : Step g fuel c a Drop c' out → (x : ℕ) → x ≢ a → (c'.words.grip x).vertex ≡ (c.words.grip x).vertex
  drop_others s x n = ap (λ (z : Core A). (z.words.grip x).vertex) s.5 ∙ ap (λ (z : Grip). z.vertex) (there c.words.grip a empty_grip x n)

  -- what the actor has after each act
  pub give_own : Step g fuel c a Give c' out → c'.words.grip a ≡ record (c.words.grip a) { turn = false }
  give_own s = ap (λ (z : Core A). z.words.grip a) s.1 ∙ here c.words.grip a (record (c.words.grip a) { turn = false })

  pub write_own : (k h : ℕ) → Step g fuel c a (WriteMirror k h) c' out → c'.words.grip a ≡ c.words.grip a
  write_own k h s = ap (λ (z : Core A). z.words.grip a) s.7

  pub write_marks : (k h : ℕ) → Step g fuel c a (WriteMirror k h) c' out → (c'.notes a).written ≡ set_at (c.notes a).written k (set_at ((c.notes a).written k) h true)
  write_marks k h s = ap (λ (z : Core A). (z.notes a).written) s.7 ∙ ap (λ z. z.written) (here c.notes a (record (c.notes a) { written = set_at (c.notes a).written k (set_at ((c.notes a).written k) h true) }))

  abbrev given_back : ℕ → Grip
  given_back e = record (c.words.grip a) { pins = set_at (c.words.grip a).pins e false; taken = set_at (c.words.grip a).taken e false }

  pub back_own : (e : ℕ) → Step g fuel c a (Back e) c' out → c'.words.grip a ≡ given_back e
  back_own e s = ap (λ (z : Core A). z.words.grip a) s.9 ∙ here c.words.grip a (given_back e)

  pub back_marks : (e : ℕ) → Step g fuel c a (Back e) c' out → (c'.notes a).written ≡ (c.notes a).written
  back_marks e s = ap (λ (z : Core A). (z.notes a).written) s.9
      ∙ ap (λ z. z.written) (here c.notes a (record (c.notes a) { noted = set_at (c.notes a).noted e (λ _. None); prepared = None }))

  pub drop_own : Step g fuel c a Drop c' out → (c'.words.grip a).vertex ≡ None
  drop_own s = ap (λ (z : Core A). (z.words.grip a).vertex) s.5 ∙ ap (λ (z : Grip). z.vertex) (here c.words.grip a empty_grip)

-- a guard that isn't met
abbrev Refused : {A : Type 0} → Shape → ℕ → Core A → ℕ → Act → Type 0
Refused {A} g fuel c a act = (c' : Core A) (out : Outcome) → Step g fuel c a act c' out → ⊥

module _ {A : Type 0} (g : Shape) (fuel : ℕ) (c : Core A) (a v : ℕ) where
  -- who can't give the turn hasn't got it
  pub give_refused : Refused g fuel c a Give → (c.words.grip a).turn ≡ false
  give_refused never = go (c.words.grip a).turn refl
    where
      go : (b : Bool) → (c.words.grip a).turn ≡ b → b ≡ false
      go false q = refl
      go true q = absurd (never (record c { words = given c.words a }) Moved (q, refl, refl))

  -- what can't be written is written
  pub write_refused : (k h : ℕ) → Refused g fuel c a (WriteMirror k h) → (c.words.grip a).vertex ≡ Some v → (c.words.grip a).turn ≡ false
      → (c.words.grip a).committed ≡ true → g.spans v k ≡ true → h < 2 → (c.notes a).written k h ≡ true
  write_refused k h never busy turn committed spans low = go ((c.notes a).written k h) refl
    where
      go : (b : Bool) → (c.notes a).written k h ≡ b → b ≡ true
      go true q = refl
      go false q = absurd (never (written_core g c a v k h) Moved (v, low, busy, committed, turn, spans, q, refl, refl))

  -- a fork that can't be given back isn't pinned
  pub back_refused : {sig : ℕ → Bool} (e : ℕ) → Hygiene g fuel sig c.words → Refused g fuel c a (Back e) → (c.words.grip a).vertex ≡ Some v → (c.words.grip a).turn ≡ false
      → MayLeave g c a v → (c.words.grip a).pins e ≡ false
  back_refused e clean never busy turn may = go ((c.words.grip a).pins e) refl
    where
      go : (b : Bool) → (c.words.grip a).pins e ≡ b → b ≡ false
      go false q = refl
      go true q =
          let me : Side = (c.words.fork e).side in
          let can = back_can (c.words.fork e) (why g c a e) (clean.pin_word a e q) in
          let at : g.end me e ≡ v = some_of (g.end me e) v (sym (clean.pin_holder a e q) ∙ busy) in
          absurd (never (backed_core g c a e can.0) Moved (v, me, can.0, busy, at, q, turn, may, can.1, refl, refl))

  -- who has given back each fork of its vertex has pinned none, and can drop it
  pub drop_can : {sig : ℕ → Bool} → Hygiene g fuel sig c.words → Refused g fuel c a Drop → (c.words.grip a).vertex ≡ Some v → (c.words.grip a).turn ≡ false
      → MayLeave g c a v → ((s : Side) (e : ℕ) → e < g.edges → g.end s e ≡ v → (c.words.grip a).pins e ≡ false) → ⊥
  drop_can clean never busy turn may around = never (dropped_core g c a v) Moved (v, busy, (λ e. go e ((c.words.grip a).pins e) refl), turn, may, refl, refl)
    where
      go : (e : ℕ) (b : Bool) → (c.words.grip a).pins e ≡ b → (c.words.grip a).pins e ≡ false
      go e false q = q
      go e true q =
          let me : Side = (c.words.fork e).side in
          around me e (clean.pin_inside a e q) (some_of (g.end me e) v (sym (clean.pin_holder a e q) ∙ busy))
