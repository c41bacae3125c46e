-- While a fork is asked for, the other end commits at most once.
use Rattle.std.proofs.Common.{ℕ, ◌+◌, ◌<◌, ◌≤◌, ◌≡◌, ◌≢◌, ◌⊎◌, ◌==◌, List, [], ◌∷◌, ◌++◌, Bool, true, false, cond, ◌||◌, Some, inl, inr, arith, refl, sym, ap, subst, ◌∙◌, true≢false}
use Rattle.std.proofs.lemmas.Bool.Decides.{nat_tests}
use Rattle.pg_forks.specs.declared.fork_word.ForkWord.{ForkWord}
use Rattle.pg_graph.specs.declared.edge.Side.{Side}
use Rattle.pg_graph.specs.declared.edge.Side.TheVariants.{Source, Target}
use Rattle.pg_graph.specs.Multigraph.{opposite}
use Rattle.pg_forks.specs.Transitions.{pin_of, take_of}
use Rattle.pg_meals.specs.Shape.{Shape}
use Rattle.pg_meals.specs.Words.{Words, PinsAll, pinned, backed, entered}
use Rattle.pg_law.specs.declared.values.JournalEntry.{JournalEntry}
use Rattle.pg_meals.proofs.Shapes.{Graphlike}
use Rattle.pg_meals.specs.Hygiene.{Hygiene}
use Rattle.pg_law.specs.Program.{Program}
use Rattle.pg_law.specs.Laws.{KeepsGathers, IsLawful}
use Rattle.pg_meals.specs.Serial.{Serial}
use Rattle.pg_meals.specs.Core.{Core}
use Rattle.pg_meals.specs.Acts.{Act, Claim, Drop, Look, Pin, Ask, Back, ReadMirror, Turn, Commit, Give, WriteMirror, Outcome, Got, clean_at, got_of, why, Step}
use Rattle.pg_meals.specs.Standing.{signalled}
use Rattle.std.specs.Prelude.{is_some}
use Rattle.pg_meals.specs.StandsFor.{Invariant}
use Rattle.pg_meals.specs.Runs.{Deed, Acts, Prepares, Does, Runs}
use Rattle.pg_meals.specs.Ranks.{entries_of}
use Rattle.pg_meals.specs.Passes.{IsTakenForNothing, IsCalm, AllCalm}
use Rattle.pg_meals.proofs.At.{same_or_not}
use Rattle.pg_meals.proofs.Pins.{one_pinner}
use Rattle.pg_meals.proofs.Rows.{PinRow, pin_row, TakeRow, take_row, ask_row, got_row, BackRow, entered_asked, entered_rest, handed, untaken, kept, back_row, back_side}
use Rattle.pg_meals.proofs.Runs.{does_keeps}
use Rattle.pg_meals.proofs.Turns.{ends_differ}

entries-append : (v : ℕ) (xs : List JournalEntry) (y : JournalEntry) → entries_of v (xs ++ y ∷ []) ≡ entries_of v xs + cond (y.vertex == v) 1 0
entries-append v [] y = grind arith
entries-append v (x ∷ xs) y = grind (arith, entries-append v xs y)

-- how far the fork e has come since its end s asked for it, when the other end had n entries
data Phase (g : Shape) (w : Words) (e : ℕ) (s : Side) (n : ℕ) : Type 0 where
  waits : (w.fork e).side ≡ opposite s → (w.fork e).asked ≡ true → entries_of (g.end (opposite s) e) w.journal ≡ n → Phase g w e s n
  passes : (b : ℕ) → (w.fork e).side ≡ opposite s → (w.fork e).asked ≡ true → (w.grip b).pins e ≡ true → (w.grip b).committed ≡ true → entries_of (g.end (opposite s) e) w.journal ≤ n + 1 → Phase g w e s n
  has : (w.fork e).side ≡ s → (w.fork e).dirty ≡ false → ((b : ℕ) → (w.grip b).pins e ≡ true → (w.grip b).taken e ≡ false) → ((b : ℕ) → (w.grip b).pins e ≡ true → (w.grip b).committed ≡ false)
      → entries_of (g.end (opposite s) e) w.journal ≤ n + 1 → Phase g w e s n

-- what leaves the phase
record Leaves (w x : Words) (e : ℕ) : Type 0 where
  pub side : (x.fork e).side ≡ (w.fork e).side
  pub dirty : (x.fork e).dirty ≡ (w.fork e).dirty
  pub asks : (w.fork e).asked ≡ true → (x.fork e).asked ≡ true
  pub journal : x.journal ≡ w.journal
  pub kept_pins : (b : ℕ) → (w.grip b).pins e ≡ true → (x.grip b).pins e ≡ true
  pub old_pins : (b : ℕ) → (x.grip b).pins e ≡ true → (w.grip b).pins e ≡ true
  pub same_taken : (b : ℕ) → (w.grip b).pins e ≡ true → (x.grip b).taken e ≡ (w.grip b).taken e
  pub same_committed : (b : ℕ) → (w.grip b).pins e ≡ true → (x.grip b).committed ≡ (w.grip b).committed

phase_left : (g : Shape) (w x : Words) (e : ℕ) (s : Side) (n : ℕ) → Leaves w x e → Phase g w e s n → Phase g x e s n
phase_left g w x e s n l (waits a b k) = waits (l.side ∙ a) (l.asks b) (ap (entries_of (g.end (opposite s) e)) l.journal ∙ k)
phase_left g w x e s n l (passes b a q p c k) = passes b (l.side ∙ a) (l.asks q) (l.kept_pins b p) (l.same_committed b p ∙ c) (subst (λ j. entries_of (g.end (opposite s) e) j ≤ n + 1) (sym l.journal) k)
phase_left g w x e s n l (has a d t c k) =
    has (l.side ∙ a) (l.dirty ∙ d) (λ b p. l.same_taken b (l.old_pins b p) ∙ t b (l.old_pins b p)) (λ b p. l.same_committed b (l.old_pins b p) ∙ c b (l.old_pins b p))
    (subst (λ j. entries_of (g.end (opposite s) e) j ≤ n + 1) (sym l.journal) k)

flip : (t s : Side) → t ≡ opposite s → opposite t ≡ s
flip Source Target e = refl
flip Target Source e = refl
flip Source Source e = cc
flip Target Target e = cc

module _ (g : Shape) (fuel : ℕ) (sig : ℕ → Bool) (w : Words) (plain : Graphlike g) (h : Hygiene g fuel sig w) (e : ℕ) (i : e < g.edges) (s : Side) (n : ℕ) where
  -- the fork itself is pinned, by an actor whose vertex is the end me
  pinned_phase : (a : ℕ) (me : Side) (got : Got) (evidence : Bool) → (w.grip a).committed ≡ false → got_of (w.fork e) me ≡ Some got → Phase g w e s n → Phase g (pinned w a e got.word got.taken evidence) e s n
  pinned_phase a me got evidence fresh k ph = go (got_row (pin_of (w.fork e) me) (take_of (w.fork e) me) got k) ph
    where
      one : (w.fork e).pinned ≡ false → (b : ℕ) → (w.grip b).pins e ≡ true → ⊥
      one f b p = true≢false (sym (h.pin_word b e p) ∙ f)

      by_pin : PinRow (w.fork e) me got.word → got.taken ≡ false → Phase g w e s n → Phase g (pinned w a e got.word got.taken evidence) e s n
      by_pin r t (waits x y z) = waits (grind (arith, nat_tests, r.is)) (grind (arith, nat_tests, r.is)) z
      by_pin r t (passes b x y p c z) = absurd (one r.free b p)
      by_pin r t (has x d m c z) = has (grind (arith, nat_tests, r.is)) (grind (arith, nat_tests, r.is)) (λ b p. grind (arith, nat_tests, one r.free b)) (λ b p. grind (arith, nat_tests, one r.free b)) z

      by_take : TakeRow (w.fork e) me got.word → Phase g w e s n → Phase g (pinned w a e got.word got.taken evidence) e s n
      by_take r (waits x y z) = absurd (true≢false (sym y ∙ h.not_both e r.free r.dirty))
      by_take r (passes b x y p c z) = absurd (one r.free b p)
      by_take r (has x d m c z) = absurd (true≢false (sym r.dirty ∙ d))

      go : ((pin_of (w.fork e) me ≡ Some got.word) × (got.taken ≡ false)) ⊎ ((take_of (w.fork e) me ≡ Some got.word) × (got.taken ≡ true)) → Phase g w e s n → Phase g (pinned w a e got.word got.taken evidence) e s n
      go (inl t) = by_pin (pin_row _ me got.word t.0) t.1
      go (inr t) = by_take (take_row _ me got.word t.0)

  handed_phase : (a : ℕ) (word : ForkWord) → (w.grip a).pins e ≡ true → word ≡ record { side = opposite (w.fork e).side; dirty = false; asked = false; pinned = false } → (w.fork e).side ≡ opposite s
      → entries_of (g.end (opposite s) e) w.journal ≤ n + 1 → Phase g (backed w a e word) e s n
  handed_phase a word mine is there k =
      let t : (e == e) ≡ true = grind (arith, nat_tests) in
      let f : (backed w a e word).fork e ≡ record { side = opposite (w.fork e).side; dirty = false; asked = false; pinned = false } = ap (λ b. cond b word (w.fork e)) t ∙ is in
      has (ap (λ (x : ForkWord). x.side) f ∙ flip _ s there) (ap (λ (x : ForkWord). x.dirty) f) (λ b p. absurd (none b p)) (λ b p. absurd (none b p)) k
    where
      none : (b : ℕ) → ((backed w a e word).grip b).pins e ≡ true → ⊥
      none b p = grind (arith, nat_tests, one_pinner h a e mine b)

  kept_phase : (a : ℕ) (word : ForkWord) → word ≡ record (w.fork e) { pinned = false } → (w.grip a).pins e ≡ true → (w.grip a).committed ≡ false → Phase g w e s n → Phase g (backed w a e word) e s n
  kept_phase a word is mine fresh (waits x y z) = waits (grind (arith, nat_tests)) (grind (arith, nat_tests)) z
  kept_phase a word is mine fresh (passes b x y p c z) = absurd (true≢false (sym c ∙ (ap (λ d. (w.grip d).committed) (one_pinner h a e mine b p) ∙ fresh)))
  kept_phase a word is mine fresh (has x d m c z) = has (grind (arith, nat_tests)) (grind (arith, nat_tests)) (λ b p. grind (arith, nat_tests, m b)) (λ b p. grind (arith, nat_tests, c b)) z

  -- who pins the fork at the other end isn't the one that asks
  not_asker : (a : ℕ) → (w.grip a).pins e ≡ true → (w.fork e).side ≡ opposite s → (w.grip a).vertex ≢ Some (g.end s e)
  not_asker a mine there t =
      let k = h.pin_holder a e mine in
      let z : g.end s e ≡ g.end (w.fork e).side e = cc in
      ends_differ g plain s e i (z ∙ ap (λ f. g.end f e) there)

  -- the fork itself goes back
  backed_phase : (a : ℕ) (word : ForkWord) → (w.grip a).pins e ≡ true → (IsTakenForNothing (w.grip a) (g.end s e) e → ⊥)
      → BackRow (w.fork e) (w.fork e).side (record { committed = (w.grip a).committed; taken = (w.grip a).taken e; evidence = (w.grip a).evidence }) word → Phase g w e s n → Phase g (backed w a e word) e s n
  backed_phase a word mine calm (entered_asked c k r) (waits x y z) = handed_phase a word mine r.is x (omega arith)
  backed_phase a word mine calm (entered_asked c k r) (passes b x y p d z) = handed_phase a word mine r.is x z
  backed_phase a word mine calm (entered_asked c k r) (has x d m f z) = absurd (true≢false (sym c ∙ f a mine))
  backed_phase a word mine calm (entered_rest c k r) (waits x y z) = absurd (true≢false (sym y ∙ k))
  backed_phase a word mine calm (entered_rest c k r) (passes b x y p d z) = absurd (true≢false (sym y ∙ k))
  backed_phase a word mine calm (entered_rest c k r) (has x d m f z) = absurd (true≢false (sym c ∙ f a mine))
  backed_phase a word mine calm (handed c k l r) (waits x y z) = handed_phase a word mine r.is x (omega arith)
  backed_phase a word mine calm (handed c k l r) (passes b x y p d z) = handed_phase a word mine r.is x z
  backed_phase a word mine calm (handed c k l r) (has x d m f z) = absurd (true≢false (sym k ∙ d))
  backed_phase a word mine calm (untaken c k l r) (waits x y z) = absurd (calm (record { other = not_asker a mine x; uncommitted = c; taken = k; unknown = l }))
  backed_phase a word mine calm (untaken c k l r) (passes b x y p d z) = absurd (true≢false (sym d ∙ (ap (λ d. (w.grip d).committed) (one_pinner h a e mine b p) ∙ c)))
  backed_phase a word mine calm (untaken c k l r) (has x d m f z) = absurd (true≢false (sym k ∙ m a mine))
  backed_phase a word mine calm (kept c k l r) ph = kept_phase a word r mine c ph

  -- an entry of v, all of whose forks are pinned by the actor; v isn't the asking end
  entered_phase : (a v : ℕ) (y : JournalEntry) → y.vertex ≡ v → (w.grip a).vertex ≡ Some v → PinsAll g w a v → (w.grip a).committed ≡ false → v ≢ g.end s e → Phase g w e s n → Phase g (entered w a y) e s n
  entered_phase a v y is busy all fresh other ph = go (same_or_not (g.end (opposite s) e) v) ph
    where
      same_count : g.end (opposite s) e ≢ v → entries_of (g.end (opposite s) e) (w.journal ++ y ∷ []) ≡ entries_of (g.end (opposite s) e) w.journal
      same_count m = grind (arith, nat_tests, entries-append (g.end (opposite s) e) w.journal y)

      more_count : g.end (opposite s) e ≡ v → entries_of (g.end (opposite s) e) (w.journal ++ y ∷ []) ≡ entries_of (g.end (opposite s) e) w.journal + 1
      more_count m = grind (arith, nat_tests, entries-append (g.end (opposite s) e) w.journal y)

      not_mine : (t : Side) → g.end t e ≢ v → (w.fork e).side ≡ t → (w.grip a).pins e ≡ true → ⊥
      not_mine t m r p =
          let x = h.pin_holder a e p in
          let z : g.end (w.fork e).side e ≡ v = cc in
          m (ap (λ f. g.end f e) (sym r) ∙ z)

      go : (g.end (opposite s) e ≡ v) ⊎ (g.end (opposite s) e ≢ v) → Phase g w e s n → Phase g (entered w a y) e s n
      go (inl m) (waits x q z) = passes a x q (grind (arith, nat_tests, all (opposite s) e i m)) (grind (arith, nat_tests)) (let c = more_count m in omega arith)
      go (inl m) (passes b x q p c z) =
          let mine = all (opposite s) e i m in
          absurd (true≢false (sym c ∙ (ap (λ d. (w.grip d).committed) (one_pinner h a e mine b p) ∙ fresh)))
      go (inl m) (has x d t c z) = absurd (not_mine s (λ r. other (sym r)) x (all (opposite s) e i m))
      go (inr m) (waits x q z) = waits x q (same_count m ∙ z)
      go (inr m) (passes b x q p c z) = passes b x q (grind (arith, nat_tests)) (grind (arith, nat_tests)) (let k = same_count m in omega arith)
      go (inr m) (has x d t c z) = has x d (λ b p. grind (arith, nat_tests, t b)) (λ b p. grind (arith, nat_tests, c b, not_mine s (λ r. other (sym r)) x)) (let k = same_count m in omega arith)

module _ {A C : Type 0} (p : Program A C) (speaks : IsLawful p) (g : Shape) (fuel : ℕ) (opening : Serial) (plain : Graphlike g) (keeps : g.caches ≡ true → KeepsGathers p) (e : ℕ) (i : e < g.edges) (s : Side) (n : ℕ) where
  -- an act of another fork or of none leaves the phase
  phase_step : (c : Core A) (a : ℕ) (act : Act) (c' : Core A) (out : Outcome) → Invariant p g fuel opening c → Step g fuel c a act c' out → IsCalm p (g.end s e) e c a (Acts act) → Phase g c.words e s n → Phase g c'.words e s n
  phase_step c a (Claim v) c' out inv d calm ph =
      let h = inv.clean in
      let idle = d.1 in
      subst (λ x. Phase g x.words e s n) (sym d.3) (phase_left g c.words _ e s n (record {
        side = refl;
        dirty = refl;
        asks = λ t. t;
        journal = refl;
        kept_pins = λ b t. grind (arith, nat_tests, h.pin_holder b e t);
        old_pins = λ b t. grind (arith, nat_tests);
        same_taken = λ b t. grind (arith, nat_tests, h.pin_holder b e t);
        same_committed = λ b t. grind (arith, nat_tests, h.pin_holder b e t);
      }) ph)
  phase_step c a Drop c' out inv d calm ph =
      let none = d.2 in
      subst (λ x. Phase g x.words e s n) (sym d.5) (phase_left g c.words _ e s n (record {
        side = refl;
        dirty = refl;
        asks = λ t. t;
        journal = refl;
        kept_pins = λ b t. grind (arith, nat_tests, none e);
        old_pins = λ b t. grind (arith, nat_tests);
        same_taken = λ b t. grind (arith, nat_tests, none e);
        same_committed = λ b t. grind (arith, nat_tests, none e);
      }) ph)
  phase_step c a (Look f) c' out inv d calm ph =
      subst (λ x. Phase g x.words e s n) (sym d.5) (phase_left g c.words _ e s n (record {
        side = refl;
        dirty = refl;
        asks = λ t. t;
        journal = refl;
        kept_pins = λ b t. grind (arith, nat_tests);
        old_pins = λ b t. grind (arith, nat_tests);
        same_taken = λ b t. grind (arith, nat_tests);
        same_committed = λ b t. grind (arith, nat_tests);
      }) ph)
  phase_step c a (Pin f) c' out inv d calm ph = subst (λ x. Phase g x.words e s n) (sym d.9) (go (same_or_not e f))
    where
      there : e ≢ f → (word : ForkWord) (taken evidence : Bool) → Leaves c.words (pinned c.words a f word taken evidence) e
      there m word taken evidence = record {
        side = grind (arith, nat_tests);
        dirty = grind (arith, nat_tests);
        asks = λ t. grind (arith, nat_tests);
        journal = refl;
        kept_pins = λ b t. grind (arith, nat_tests);
        old_pins = λ b t. grind (arith, nat_tests);
        same_taken = λ b t. grind (arith, nat_tests);
        same_committed = λ b t. grind (arith, nat_tests);
      }

      go : (e ≡ f) ⊎ (e ≢ f) → Phase g (pinned c.words a f d.2.word d.2.taken ((c.words.grip a).evidence || is_some ((c.content f).message d.1) || clean_at (c.words.fork f) d.1)) e s n
      go (inl q) = subst (λ x. Phase g (pinned c.words a x d.2.word d.2.taken ((c.words.grip a).evidence || is_some ((c.content f).message d.1) || clean_at (c.words.fork f) d.1)) e s n) q
          (pinned_phase g fuel (signalled p g c) c.words plain inv.clean e i s n a d.1 d.2 _ d.7 (ap (λ x. got_of (c.words.fork x) d.1) q ∙ d.8) ph)
      go (inr m) = phase_left g c.words _ e s n (there m _ _ _) ph
  phase_step c a (Ask f) c' out inv d calm ph =
      let r = ask_row (c.words.fork f) d.1 d.2 d.8 in
      let is = r.is in
      subst (λ x. Phase g x.words e s n) (sym d.9) (phase_left g c.words _ e s n (record {
        side = grind (arith, nat_tests);
        dirty = grind (arith, nat_tests);
        asks = λ t. grind (arith, nat_tests);
        journal = refl;
        kept_pins = λ b t. t;
        old_pins = λ b t. t;
        same_taken = λ b t. refl;
        same_committed = λ b t. refl;
      }) ph)
  phase_step c a (Back f) c' out inv d calm ph = subst (λ x. Phase g x.words e s n) (sym d.9) (go (same_or_not e f))
    where
      there : e ≢ f → (word : ForkWord) → Leaves c.words (backed c.words a f word) e
      there m word = record {
        side = grind (arith, nat_tests);
        dirty = grind (arith, nat_tests);
        asks = λ t. grind (arith, nat_tests);
        journal = refl;
        kept_pins = λ b t. grind (arith, nat_tests);
        old_pins = λ b t. grind (arith, nat_tests);
        same_taken = λ b t. grind (arith, nat_tests);
        same_committed = λ b t. grind (arith, nat_tests);
      }

      row : BackRow (c.words.fork f) (c.words.fork f).side (why g c a f) d.2
      row = subst (λ t. BackRow (c.words.fork f) t (why g c a f) d.2) (sym (back_side (c.words.fork f) d.1 (why g c a f) d.2 d.8)) (back_row (c.words.fork f) d.1 (why g c a f) d.2 d.8)

      go : (e ≡ f) ⊎ (e ≢ f) → Phase g (backed c.words a f d.2) e s n
      go (inl q) = subst (λ x. Phase g (backed c.words a x d.2) e s n) q
          (backed_phase g fuel (signalled p g c) c.words plain inv.clean e i s n a d.2 (ap (c.words.grip a).pins q ∙ d.5) (calm (sym q))
          (subst (λ x. BackRow (c.words.fork x) (c.words.fork x).side (record { committed = (c.words.grip a).committed; taken = (c.words.grip a).taken x; evidence = (c.words.grip a).evidence }) d.2) (sym q) row) ph)
      go (inr m) = phase_left g c.words _ e s n (there m d.2) ph
  phase_step c a (ReadMirror f k) c' out inv d calm ph = subst (λ x. Phase g x.words e s n) (sym d.7) ph
  phase_step c a Turn c' out inv d calm ph =
      subst (λ x. Phase g x.words e s n) (sym d.5) (phase_left g c.words _ e s n (record {
        side = refl;
        dirty = refl;
        asks = λ t. t;
        journal = refl;
        kept_pins = λ b t. grind (arith, nat_tests);
        old_pins = λ b t. grind (arith, nat_tests);
        same_taken = λ b t. grind (arith, nat_tests);
        same_committed = λ b t. grind (arith, nat_tests);
      }) ph)
  phase_step c a Commit c' out inv d calm ph =
      subst (λ x. Phase g x.words e s n) (sym d.7)
      (entered_phase g fuel (signalled p g c) c.words plain inv.clean e i s n a d.0 (record { vertex = d.0; datum = d.1.datum }) refl d.2 ((inv.true_of.ready a d.0 d.1 d.2 d.4 d.5).all) d.4 (λ r. calm (d.2 ∙ ap Some r)) ph)
  phase_step c a Give c' out inv d calm ph =
      subst (λ x. Phase g x.words e s n) (sym d.1) (phase_left g c.words _ e s n (record {
        side = refl;
        dirty = refl;
        asks = λ t. t;
        journal = refl;
        kept_pins = λ b t. grind (arith, nat_tests);
        old_pins = λ b t. grind (arith, nat_tests);
        same_taken = λ b t. grind (arith, nat_tests);
        same_committed = λ b t. grind (arith, nat_tests);
      }) ph)
  phase_step c a (WriteMirror k m) c' out inv d calm ph = subst (λ x. Phase g x.words e s n) (sym d.7) ph

  phase_does : (c : Core A) (a : ℕ) (d : Deed) (c' : Core A) → Invariant p g fuel opening c → Does p g fuel c a d c' → IsCalm p (g.end s e) e c a d → Phase g c.words e s n → Phase g c'.words e s n
  phase_does c a (Acts act) c' inv k calm ph = phase_step c a act c' k.0 inv k.1 calm ph
  phase_does c a Prepares c' inv k calm ph = subst (λ x. Phase g x.words e s n) (sym k.3) ph

  phase_runs : (ds : List (ℕ × Deed)) (c c' : Core A) (r : Runs p g fuel c ds c') → Invariant p g fuel opening c → AllCalm p (g.end s e) e g fuel c ds c' r → Phase g c.words e s n → Phase g c'.words e s n
  phase_runs [] c c' r inv calm ph = subst (λ x. Phase g x.words e s n) (sym r) ph
  phase_runs (d ∷ ds) c c' r inv calm ph =
      phase_runs ds r.0 c' r.2 (does_keeps p speaks g fuel opening plain keeps c d.0 d.1 r.0 inv r.1) calm.1 (phase_does c d.0 d.1 r.0 inv r.1 calm.0 ph)

  phase_count : (w : Words) → Phase g w e s n → entries_of (g.end (opposite s) e) w.journal ≤ n + 1
  phase_count w (waits a b k) = omega arith
  phase_count w (passes b a q t c k) = k
  phase_count w (has a d t c k) = k

-- the law, over shapes and families
pub core_at_most_one_pass : {A C : Type 0} (p : Program A C) → IsLawful p → (g : Shape) (fuel : ℕ) (opening : Serial) → Graphlike g → (g.caches ≡ true → KeepsGathers p) → (c : Core A) (e : ℕ) (s : Side) → Invariant p g fuel opening c
    → e < g.edges → (c.words.fork e).side ≡ opposite s → (c.words.fork e).asked ≡ true
    → (ds : List (ℕ × Deed)) (c' : Core A) (r : Runs p g fuel c ds c') → AllCalm p (g.end s e) e g fuel c ds c' r
    → entries_of (g.end (opposite s) e) c'.words.journal ≤ entries_of (g.end (opposite s) e) c.words.journal + 1
core_at_most_one_pass p speaks g fuel opening plain keeps c e s inv i there wanted ds c' r calm =
    phase_count p speaks g fuel opening plain keeps e i s (entries_of (g.end (opposite s) e) c.words.journal) c'.words
    (phase_runs p speaks g fuel opening plain keeps e i s (entries_of (g.end (opposite s) e) c.words.journal) ds c c' r inv calm (waits there wanted refl))
