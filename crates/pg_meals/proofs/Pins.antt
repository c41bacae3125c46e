-- Pinning, asking and giving back keep the words clean.
use Rattle.pg_meals.specs.Ranks.{Before}
use Rattle.pg_law.specs.declared.values.JournalEntry.{JournalEntry}
use Rattle.std.proofs.Common.{List, ℕ, ◌<◌, ◌≡◌, ◌≢◌, ◌⊎◌, Bool, true, false, Some, inl, inr, arith, refl}
use Rattle.std.proofs.lemmas.Bool.Decides.{nat_tests}
use Rattle.pg_forks.specs.declared.fork_word.ForkWord.{ForkWord}
use Rattle.pg_graph.specs.declared.edge.Side.{Side}
use Rattle.pg_graph.specs.declared.edge.Side.TheVariants.{Source, Target}
use Rattle.pg_graph.specs.Multigraph.{opposite}
use Rattle.pg_meals.proofs.At.{same_or_not}
use Rattle.pg_meals.specs.Shape.{Shape}
use Rattle.pg_meals.specs.Words.{Words, holder, waiter, pinned, asked, backed}
use Rattle.pg_meals.specs.Hygiene.{Hygiene}

-- a fork word that may rest unpinned at the edge e
pub record Rests (g : Shape) (signalled : ℕ → Bool) (journal : List JournalEntry) (e : ℕ) (word : ForkWord) : Type 0 where
  pub free : word.pinned ≡ false
  pub lower : word.dirty ≡ false → Before journal (g.end word.side e) (g.end (opposite word.side) e)
  pub higher : word.dirty ≡ true → Before journal (g.end (opposite word.side) e) (g.end word.side e)
  pub eager : word.dirty ≡ false → signalled (g.end word.side e) ≡ true
  pub wanted : word.asked ≡ true → signalled (g.end (opposite word.side) e) ≡ true
  pub one : word.dirty ≡ true → word.asked ≡ false

-- the other end of the other end
pub other_other : (s : Side) → opposite (opposite s) ≡ s
other_other Source = refl
other_other Target = refl

pinner_pinned : (w : Words) (a e : ℕ) (word : ForkWord) (taken evidence : Bool) → ((f : ℕ) → (w.fork f).pinned ≡ true → (b : ℕ) × ((w.grip b).pins f ≡ true))
    → (f : ℕ) → (f ≡ e) ⊎ (f ≢ e) → ((pinned w a e word taken evidence).fork f).pinned ≡ true → (b : ℕ) × (((pinned w a e word taken evidence).grip b).pins f ≡ true)
pinner_pinned w a e word taken evidence old f (inl q) p = (a, grind (arith, nat_tests))
pinner_pinned w a e word taken evidence old f (inr q) p =
    let k = old f (grind (arith, nat_tests)) in
    (k.0, grind (arith, nat_tests, k.1))

-- a fork that stands at the acting end
pub pin_keeps : (g : Shape) (fuel : ℕ) (sig : ℕ → Bool) (w : Words) (a e : ℕ) (evidence : Bool) → e < g.edges → (w.grip a).vertex ≡ Some (holder g w e) → (w.grip a).committed ≡ false → (w.fork e).pinned ≡ false
    → (evidence ≡ true → ((w.grip a).evidence ≡ true) ⊎ (sig (holder g w e) ≡ true)) → ((w.grip a).evidence ≡ true → evidence ≡ true) → ((w.fork e).dirty ≡ false → evidence ≡ true)
    → Hygiene g fuel sig w → Hygiene g fuel sig (pinned w a e (record (w.fork e) { pinned = true }) false evidence)
pin_keeps g fuel sig w a e evidence inside busy fresh free known more noticed h = record {
  named = λ u b p. grind (arith, nat_tests, h.named);
  names = λ u b p. grind (arith, nat_tests, h.names);
  inside = λ b u q. grind (arith, nat_tests, h.inside);
  turn_named = λ b p. grind (arith, nat_tests, h.turn_named);
  turn_names = λ b p. grind (arith, nat_tests, h.turn_names);
  turn_ready = λ b p. grind (arith, nat_tests, h.turn_ready);
  pin_inside = λ b f p. grind (arith, nat_tests, h.pin_inside);
  pin_word = λ b f p. grind (arith, nat_tests, h.pin_word);
  pin_holder = λ b f p. grind (arith, nat_tests, h.pin_holder);
  pinner = λ f p. pinner_pinned w a e _ false evidence h.pinner f (same_or_not f e) p;
  clean_lower = λ f i d k. grind (arith, nat_tests, h.clean_lower, h.pin_word);
  dirty_higher = λ f i d. grind (arith, nat_tests, h.dirty_higher);
  committed_higher = λ b f p c. grind (arith, nat_tests, h.committed_higher, h.pin_word);
  clean_signalled = λ f i d p. grind (arith, nat_tests, h.clean_signalled);
  asked_signalled = λ f i p. grind (arith, nat_tests, h.asked_signalled);
  not_both = λ f p d. grind (arith, nat_tests, h.not_both);
  evidence_signalled = λ b p c. grind (arith, nat_tests, h.evidence_signalled, known);
  short = h.short;
  clean_marked = λ b f c p d. grind (arith, nat_tests, h.clean_marked, more, noticed);
  taken_clean = λ b f c p t. grind (arith, nat_tests, h.taken_clean);
}

-- a dirty fork that the acting end takes from the other end
pub take_keeps : (g : Shape) (fuel : ℕ) (sig : ℕ → Bool) (w : Words) (a e : ℕ) (me : Side) (evidence : Bool) → e < g.edges → (w.grip a).vertex ≡ Some (g.end me e) → (w.grip a).committed ≡ false → (w.fork e).pinned ≡ false
    → (w.fork e).side ≡ opposite me → (w.fork e).dirty ≡ true
    → (evidence ≡ true → ((w.grip a).evidence ≡ true) ⊎ (sig (g.end me e) ≡ true)) → ((w.grip a).evidence ≡ true → evidence ≡ true)
    → Hygiene g fuel sig w → Hygiene g fuel sig (pinned w a e (record { side = me; dirty = false; asked = false; pinned = true }) true evidence)
take_keeps g fuel sig w a e me evidence inside busy fresh free there dirty known more h = record {
  named = λ u b p. grind (arith, nat_tests, h.named);
  names = λ u b p. grind (arith, nat_tests, h.names);
  inside = λ b u q. grind (arith, nat_tests, h.inside);
  turn_named = λ b p. grind (arith, nat_tests, h.turn_named);
  turn_names = λ b p. grind (arith, nat_tests, h.turn_names);
  turn_ready = λ b p. grind (arith, nat_tests, h.turn_ready);
  pin_inside = λ b f p. grind (arith, nat_tests, h.pin_inside);
  pin_word = λ b f p. grind (arith, nat_tests, h.pin_word);
  pin_holder = λ b f p. grind (arith, nat_tests, h.pin_holder, h.pin_word);
  pinner = λ f p. pinner_pinned w a e _ true evidence h.pinner f (same_or_not f e) p;
  clean_lower = λ f i d k. grind (arith, nat_tests, h.clean_lower, h.dirty_higher, other_other);
  dirty_higher = λ f i d. grind (arith, nat_tests, h.dirty_higher);
  committed_higher = λ b f p c. grind (arith, nat_tests, h.committed_higher, h.pin_word);
  clean_signalled = λ f i d p. grind (arith, nat_tests, h.clean_signalled);
  asked_signalled = λ f i p. grind (arith, nat_tests, h.asked_signalled);
  not_both = λ f p d. grind (arith, nat_tests, h.not_both);
  evidence_signalled = λ b p c. grind (arith, nat_tests, h.evidence_signalled, known);
  short = h.short;
  clean_marked = λ b f c p d. grind (arith, nat_tests, h.clean_marked, more);
  taken_clean = λ b f c p t. grind (arith, nat_tests, h.taken_clean);
}

-- the end v that doesn't hold the fork asks for it
pub ask_keeps : (g : Shape) (fuel : ℕ) (sig : ℕ → Bool) (w : Words) (e : ℕ) → ((w.fork e).pinned ≡ false → (w.fork e).dirty ≡ false) → sig (waiter g w e) ≡ true
    → Hygiene g fuel sig w → Hygiene g fuel sig (asked w e (record (w.fork e) { asked = true }))
ask_keeps g fuel sig w e fits known h = record {
  named = h.named;
  names = h.names;
  inside = λ b u q. grind (arith, nat_tests, h.inside);
  turn_named = h.turn_named;
  turn_names = h.turn_names;
  turn_ready = h.turn_ready;
  pin_inside = h.pin_inside;
  pin_word = λ b f p. grind (arith, nat_tests, h.pin_word);
  pin_holder = λ b f p. grind (arith, nat_tests, h.pin_holder);
  pinner = λ f p. h.pinner f (grind (arith, nat_tests));
  clean_lower = λ f i d k. grind (arith, nat_tests, h.clean_lower);
  dirty_higher = λ f i d. grind (arith, nat_tests, h.dirty_higher);
  committed_higher = λ b f p c. grind (arith, nat_tests, h.committed_higher);
  clean_signalled = λ f i d p. grind (arith, nat_tests, h.clean_signalled);
  asked_signalled = λ f i p. grind (arith, nat_tests, h.asked_signalled);
  not_both = λ f p d. grind (arith, nat_tests, h.not_both);
  evidence_signalled = h.evidence_signalled;
  short = h.short;
  clean_marked = λ b f c p d. grind (arith, nat_tests, h.clean_marked);
  taken_clean = λ b f c p t. grind (arith, nat_tests, h.taken_clean);
}

-- a fork has one pinner
pub one_pinner : {g : Shape} {fuel : ℕ} {sig : ℕ → Bool} {w : Words} → Hygiene g fuel sig w → (a e : ℕ) → (w.grip a).pins e ≡ true → (b : ℕ) → (w.grip b).pins e ≡ true → b ≡ a
one_pinner {g} {fuel} {sig} {w} h a e p b q =
    let x = h.names _ a (h.pin_holder a e p) in
    let y = h.names _ b (h.pin_holder b e q) in
    cc

pinner_backed : (w : Words) (a e : ℕ) (word : ForkWord) → word.pinned ≡ false → ((b : ℕ) → (w.grip b).pins e ≡ true → b ≡ a) → ((f : ℕ) → (w.fork f).pinned ≡ true → (b : ℕ) × ((w.grip b).pins f ≡ true))
    → (f : ℕ) → (f ≡ e) ⊎ (f ≢ e) → ((backed w a e word).fork f).pinned ≡ true → (b : ℕ) × (((backed w a e word).grip b).pins f ≡ true)
pinner_backed w a e word free only old f (inl q) p = absurd (grind (arith, nat_tests))
pinner_backed w a e word free only old f (inr q) p =
    let k = old f (grind (arith, nat_tests)) in
    (k.0, grind (arith, nat_tests, k.1))

-- a pinned fork goes back, with a word that may rest
pub back_keeps : (g : Shape) (fuel : ℕ) (sig : ℕ → Bool) (w : Words) (a e : ℕ) (word : ForkWord) → (w.grip a).pins e ≡ true → (w.grip a).turn ≡ false → Rests g sig w.journal e word
    → Hygiene g fuel sig w → Hygiene g fuel sig (backed w a e word)
back_keeps g fuel sig w a e word mine idle rests h =
    let only : (b : ℕ) → (w.grip b).pins e ≡ true → b ≡ a = one_pinner h a e mine in
    record {
      named = λ u b p. grind (arith, nat_tests, h.named);
      names = λ u b p. grind (arith, nat_tests, h.names);
      inside = λ b u q. grind (arith, nat_tests, h.inside);
      turn_named = λ b p. grind (arith, nat_tests, h.turn_named);
      turn_names = λ b p. grind (arith, nat_tests, h.turn_names);
      turn_ready = λ b p. grind (arith, nat_tests, h.turn_ready);
      pin_inside = λ b f p. grind (arith, nat_tests, h.pin_inside);
      pin_word = λ b f p. grind (arith, nat_tests, h.pin_word, only);
      pin_holder = λ b f p. grind (arith, nat_tests, h.pin_holder, only);
      pinner = λ f p. pinner_backed w a e word rests.free only h.pinner f (same_or_not f e) p;
      clean_lower = λ f i d k. grind (arith, nat_tests, h.clean_lower, rests.lower);
      dirty_higher = λ f i d. grind (arith, nat_tests, h.dirty_higher, rests.higher);
      committed_higher = λ b f p c. grind (arith, nat_tests, h.committed_higher, only);
      clean_signalled = λ f i d p. grind (arith, nat_tests, h.clean_signalled, rests.eager);
      asked_signalled = λ f i p. grind (arith, nat_tests, h.asked_signalled, rests.wanted);
      not_both = λ f p d. grind (arith, nat_tests, h.not_both, rests.one);
      evidence_signalled = λ b p c. grind (arith, nat_tests, h.evidence_signalled);
      short = h.short;
      clean_marked = λ b f c p d. grind (arith, nat_tests, h.clean_marked, only);
      taken_clean = λ b f c p t. grind (arith, nat_tests, h.taken_clean, only);
    }
