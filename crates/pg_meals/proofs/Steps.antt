-- Each act keeps the invariant.
use Rattle.std.proofs.Common.{ℕ, ◌<◌, ◌≡◌, ◌⊎◌, length, Bool, true, false, not, ◌&&◌, ◌||◌, Some, None, inl, inr, refl, sym, ap, subst, ◌∙◌, true≢false}
use Rattle.pg_forks.specs.declared.fork_word.ForkWord.{ForkWord}
use Rattle.pg_graph.specs.declared.edge.Side.{Side}
use Rattle.pg_graph.specs.declared.edge.Side.TheVariants.{Source, Target}
use Rattle.pg_graph.specs.Multigraph.{opposite}
use Rattle.pg_forks.specs.Transitions.{same_side, pin_of, take_of, ask_of, back_of}
use Rattle.pg_meals.specs.Families.{set_at}
use Rattle.pg_meals.specs.Shape.{Shape}
use Rattle.pg_meals.specs.Words.{Words, PinsAll, holder, waiter, claimed, dropped, marked, asked, backed, turn_taken, given}
use Rattle.pg_meals.proofs.Shapes.{Graphlike}
use Rattle.pg_meals.specs.Hygiene.{Hygiene}
use Rattle.pg_meals.proofs.Pins.{Rests, one_pinner, pin_keeps, take_keeps, ask_keeps, back_keeps, other_other}
use Rattle.pg_law.specs.Program.{Program}
use Rattle.pg_law.specs.Laws.{KeepsGathers, IsLawful}
use Rattle.pg_meals.specs.Serial.{Serial}
use Rattle.pg_meals.specs.Core.{Core, Content, Place, Prepared, Notes, half_of}
use Rattle.pg_meals.specs.Acts.{Act, Claim, Drop, Look, Pin, Ask, Back, ReadMirror, Turn, Commit, Give, WriteMirror, Outcome, Got, clean_at, got_of, why, MayLeave, pinned_core, entered_core, Step}
use Rattle.pg_meals.specs.Standing.{signalled}
use Rattle.std.specs.Prelude.{is_some}
use Rattle.pg_meals.specs.StandsFor.{StandsFor, Invariant}
use Rattle.pg_meals.proofs.Claims.{claim_keeps, drop_keeps, mark_keeps}
use Rattle.pg_meals.proofs.Turns.{turn_keeps, give_keeps, ends_differ}
use Rattle.pg_meals.proofs.Rows.{same_is, and_left, and_right, not_true, or_either, or_left, or_right, PinRow, pin_row, TakeRow, take_row, ask_row, got_row, BackRow, entered_asked, entered_rest, handed, untaken, kept, back_row, back_side}
use Rattle.pg_meals.proofs.Signals.{own_signals, ridden_signals}
use Rattle.pg_meals.proofs.Standing.{claim_stands, drop_stands, mark_stands, pin_stands, ask_stands, back_stands, read_stands, turn_stands, give_stands, write_stands}
use Rattle.pg_meals.proofs.Cells.{entry_keeps}

-- a fork that goes back may rest
back_rests : (g : Shape) (fuel : ℕ) (sig : ℕ → Bool) (w : Words) (a e : ℕ) (word : ForkWord) → Hygiene g fuel sig w → (w.grip a).pins e ≡ true
    → BackRow (w.fork e) (w.fork e).side (record { committed = (w.grip a).committed; taken = (w.grip a).taken e; evidence = (w.grip a).evidence }) word → Rests g sig w.journal e word
back_rests g fuel sig w a e word h mine (entered_asked c k r) =
    let i = h.pin_inside a e mine in
    let high = h.committed_higher a e mine c in
    let wanted = h.asked_signalled e i k in
    subst (Rests g sig w.journal e) (sym r.is) (record {
      free = refl;
      lower = λ d. rw other_other high;
      higher = λ d. absurd (cc);
      eager = λ d. wanted;
      wanted = λ d. absurd (cc);
      one = λ d. refl;
    })
back_rests g fuel sig w a e word h mine (entered_rest c k r) =
    subst (Rests g sig w.journal e) (sym r) (record {
      free = refl;
      lower = λ d. absurd (cc);
      higher = λ d. h.committed_higher a e mine c;
      eager = λ d. absurd (cc);
      wanted = λ d. absurd (true≢false (sym d ∙ k));
      one = λ d. k;
    })
back_rests g fuel sig w a e word h mine (handed c k l r) =
    let i = h.pin_inside a e mine in
    let high = h.dirty_higher e i k in
    let wanted = h.asked_signalled e i l in
    subst (Rests g sig w.journal e) (sym r.is) (record {
      free = refl;
      lower = λ d. rw other_other high;
      higher = λ d. absurd (cc);
      eager = λ d. wanted;
      wanted = λ d. absurd (cc);
      one = λ d. refl;
    })
back_rests g fuel sig w a e word h mine (untaken c k l r) =
    let i = h.pin_inside a e mine in
    let low = h.clean_lower e i (h.taken_clean a e c mine k) (λ b t. (ap (λ x. (w.grip x).committed) (one_pinner h a e mine b t) ∙ c)) in
    subst (Rests g sig w.journal e) (sym r) (record {
      free = refl;
      lower = λ d. absurd (cc);
      higher = λ d. rw other_other low;
      eager = λ d. absurd (cc);
      wanted = λ d. absurd (cc);
      one = λ d. refl;
    })
back_rests g fuel sig w a e word h mine (kept c k l r) =
    let i = h.pin_inside a e mine in
    subst (Rests g sig w.journal e) (sym r) (record {
      free = refl;
      lower = λ d. h.clean_lower e i d (λ b t. (ap (λ x. (w.grip x).committed) (one_pinner h a e mine b t) ∙ c));
      higher = λ d. h.dirty_higher e i d;
      eager = λ d. keen d (h.clean_marked a e c mine d);
      wanted = λ d. h.asked_signalled e i d;
      one = k;
    })
  where
    signal : (v : ℕ) → (w.grip a).vertex ≡ Some v → sig v ≡ true → sig (holder g w e) ≡ true
    signal v f t =
        let x = h.pin_holder a e mine in
        let y : v ≡ holder g w e = cc in
        subst (λ u. sig u ≡ true) y t

    shown : (w.grip a).evidence ≡ true → sig (holder g w e) ≡ true
    shown t = let k = h.evidence_signalled a t c in signal k.0 k.1 k.2

    keen : (w.fork e).dirty ≡ false → ((w.grip a).taken e ≡ true) ⊎ ((w.grip a).evidence ≡ true) → sig (holder g w e) ≡ true
    keen d (inl t) = shown (l t)
    keen d (inr t) = shown t

-- where a fork is pinned by the actor of v, an end of its edge that is v is the fork's side
side_is : (g : Shape) (fuel : ℕ) (sig : ℕ → Bool) (w : Words) (a v e : ℕ) (me : Side) → Graphlike g → Hygiene g fuel sig w → (w.grip a).vertex ≡ Some v → (w.grip a).pins e ≡ true → g.end me e ≡ v → me ≡ (w.fork e).side
side_is g fuel sig w a v e me plain h busy mine at = go me (w.fork e).side at held
  where
    held : g.end (w.fork e).side e ≡ v
    held = let x = h.pin_holder a e mine in cc

    i : e < g.edges
    i = h.pin_inside a e mine

    go : (t f : Side) → g.end t e ≡ v → g.end f e ≡ v → t ≡ f
    go Source Source x y = refl
    go Target Target x y = refl
    go Source Target x y = absurd (plain.loopless e i (x ∙ sym y))
    go Target Source x y = absurd (plain.loopless e i (y ∙ sym x))

clean_tells : (w : ForkWord) (me : Side) → clean_at w me ≡ true → (w.side ≡ me) × (w.dirty ≡ false) × (w.pinned ≡ false)
clean_tells w me t =
    let k = and_left (same_side w.side me && not w.dirty) (not w.pinned) t in
    (same_is w.side me (and_left _ _ k), not_true _ (and_right _ _ k), not_true _ (and_right _ _ t))

clean_shows : (w : ForkWord) (me : Side) → w.side ≡ me → w.dirty ≡ false → w.pinned ≡ false → clean_at w me ≡ true
clean_shows w me s d f =
    let x : same_side w.side me ≡ true = ap (same_side w.side) (sym s) ∙ same w.side in
    rw (x, d, f) refl
  where
    same : (t : Side) → same_side t t ≡ true
    same Source = refl
    same Target = refl

module _ {A C : Type 0} (p : Program A C) (g : Shape) (fuel : ℕ) (opening : Serial) (speaks : IsLawful p) (plain : Graphlike g) (keeps : g.caches ≡ true → KeepsGathers p) (c : Core A) (inv : Invariant p g fuel opening c) where
  abbrev h : Hygiene g fuel (signalled p g c) c.words
  h = inv.clean

  abbrev s : StandsFor p g opening c
  s = inv.true_of

  -- a fork that stands clean and unpinned at me shows that me's vertex is signalled
  clean_signals : (me : Side) (e v : ℕ) → e < g.edges → g.end me e ≡ v → clean_at (c.words.fork e) me ≡ true → signalled p g c v ≡ true
  clean_signals me e v i at t =
      let k = clean_tells (c.words.fork e) me t in
      subst (λ u. signalled p g c u ≡ true) (ap (λ f. g.end f e) k.0 ∙ at) (h.clean_signalled e i k.1 k.2)

  -- each act keeps the invariant, one by one
  pub claim_step : (a v : ℕ) → v < g.vertices → (c.words.grip a).vertex ≡ None → c.words.vertex v ≡ None
      → Invariant p g fuel opening (record c { words = claimed c.words a v (is_some (c.place v).message); notes = set_at c.notes a Rattle.pg_meals.specs.Core.empty_notes })
  claim_step a v i idle free = record {
    clean = claim_keeps g fuel (signalled p g c) c.words a v (is_some (c.place v).message) i idle free (own_signals p g c v) h;
    true_of = claim_stands p g opening c a v (is_some (c.place v).message) idle s;
  }

  pub drop_step : (a v : ℕ) → (c.words.grip a).vertex ≡ Some v → ((e : ℕ) → (c.words.grip a).pins e ≡ false) → (c.words.grip a).turn ≡ false → MayLeave g c a v
      → Invariant p g fuel opening (record c { words = dropped c.words a v; notes = set_at c.notes a Rattle.pg_meals.specs.Core.empty_notes })
  drop_step a v busy empty idle may = record {
    clean = drop_keeps g fuel (signalled p g c) c.words a v busy empty idle h;
    true_of = drop_stands p g opening c a v busy empty may s;
  }

  pub look_step : (a v e : ℕ) (me : Side) → e < g.edges → (c.words.grip a).vertex ≡ Some v → g.end me e ≡ v
      → Invariant p g fuel opening (record c { words = marked c.words a ((c.words.grip a).evidence || clean_at (c.words.fork e) me) })
  look_step a v e me i busy at = record {
    clean = mark_keeps g fuel (signalled p g c) c.words a v _ busy (λ t. known (or_either _ _ t)) (λ t. or_left _ _ t) h;
    true_of = mark_stands p g opening c a _ s;
  }
    where
      known : ((c.words.grip a).evidence ≡ true) ⊎ (clean_at (c.words.fork e) me ≡ true) → ((c.words.grip a).evidence ≡ true) ⊎ (signalled p g c v ≡ true)
      known (inl t) = inl t
      known (inr t) = inr (clean_signals me e v i at t)

  -- what makes evidence at a pin
  pin_known : (a v e : ℕ) (me : Side) → e < g.edges → g.end me e ≡ v → ((c.words.grip a).evidence || is_some ((c.content e).message me) || clean_at (c.words.fork e) me) ≡ true
      → ((c.words.grip a).evidence ≡ true) ⊎ (signalled p g c v ≡ true)
  pin_known a v e me i at t = go (or_either _ _ t)
    where
      inner : ((c.words.grip a).evidence ≡ true) ⊎ (is_some ((c.content e).message me) ≡ true) → ((c.words.grip a).evidence ≡ true) ⊎ (signalled p g c v ≡ true)
      inner (inl k) = inl k
      inner (inr k) = inr (ridden_signals p g c me v e plain i at k)

      go : (((c.words.grip a).evidence || is_some ((c.content e).message me)) ≡ true) ⊎ (clean_at (c.words.fork e) me ≡ true) → ((c.words.grip a).evidence ≡ true) ⊎ (signalled p g c v ≡ true)
      go (inl k) = inner (or_either _ _ k)
      go (inr k) = inr (clean_signals me e v i at k)

  pinned_here : (a v e : ℕ) (me : Side) (word : ForkWord) → e < g.edges → (c.words.grip a).vertex ≡ Some v → g.end me e ≡ v → (c.words.grip a).committed ≡ false → PinRow (c.words.fork e) me word
      → Invariant p g fuel opening (pinned_core g c a e me word false)
  pinned_here a v e me word i busy at fresh r =
      let held : holder g c.words e ≡ v = ap (λ f. g.end f e) r.side ∙ at in
      let evidence = (c.words.grip a).evidence || is_some ((c.content e).message me) || clean_at (c.words.fork e) me in
      subst (λ x. Invariant p g fuel opening (pinned_core g c a e me x false)) (sym r.is) (record {
        clean = pin_keeps g fuel (signalled p g c) c.words a e evidence i (busy ∙ ap Some (sym held)) fresh r.free
            (λ t. subst (λ u. ((c.words.grip a).evidence ≡ true) ⊎ (signalled p g c u ≡ true)) (sym held) (pin_known a v e me i at t))
            (λ t. or_left _ _ (or_left _ _ t))
            (λ d. or_right _ _ (clean_shows (c.words.fork e) me r.side d r.free)) h;
        true_of = pin_stands p g opening c a e (record (c.words.fork e) { pinned = true }) false evidence (λ b t. h.pin_word b e t) r.free s;
      })

  pinned_there : (a v e : ℕ) (me : Side) (word : ForkWord) → e < g.edges → (c.words.grip a).vertex ≡ Some v → g.end me e ≡ v → (c.words.grip a).committed ≡ false → TakeRow (c.words.fork e) me word
      → Invariant p g fuel opening (pinned_core g c a e me word true)
  pinned_there a v e me word i busy at fresh r =
      let evidence = (c.words.grip a).evidence || is_some ((c.content e).message me) || clean_at (c.words.fork e) me in
      subst (λ x. Invariant p g fuel opening (pinned_core g c a e me x true)) (sym r.is) (record {
        clean = take_keeps g fuel (signalled p g c) c.words a e me evidence i (busy ∙ ap Some (sym at)) fresh r.free r.side r.dirty
            (λ t. subst (λ u. ((c.words.grip a).evidence ≡ true) ⊎ (signalled p g c u ≡ true)) (sym at) (pin_known a v e me i at t))
            (λ t. or_left _ _ (or_left _ _ t)) h;
        true_of = pin_stands p g opening c a e (record { side = me; dirty = false; asked = false; pinned = true }) true evidence (λ b t. h.pin_word b e t) r.free s;
      })

  pub pin_step : (a v e : ℕ) (me : Side) (got : Got) → e < g.edges → (c.words.grip a).vertex ≡ Some v → g.end me e ≡ v → (c.words.grip a).committed ≡ false → got_of (c.words.fork e) me ≡ Some got
      → Invariant p g fuel opening (pinned_core g c a e me got.word got.taken)
  pin_step a v e me got i busy at fresh k = go (got_row (pin_of (c.words.fork e) me) (take_of (c.words.fork e) me) got k)
    where
      go : ((pin_of (c.words.fork e) me ≡ Some got.word) × (got.taken ≡ false)) ⊎ ((take_of (c.words.fork e) me ≡ Some got.word) × (got.taken ≡ true)) → Invariant p g fuel opening (pinned_core g c a e me got.word got.taken)
      go (inl t) = subst (λ b. Invariant p g fuel opening (pinned_core g c a e me got.word b)) (sym t.1) (pinned_here a v e me got.word i busy at fresh (pin_row _ me got.word t.0))
      go (inr t) = subst (λ b. Invariant p g fuel opening (pinned_core g c a e me got.word b)) (sym t.1) (pinned_there a v e me got.word i busy at fresh (take_row _ me got.word t.0))

  pub ask_step : (a v e : ℕ) (me : Side) (word : ForkWord) → e < g.edges → (c.words.grip a).vertex ≡ Some v → g.end me e ≡ v → (c.words.grip a).committed ≡ false → (c.words.grip a).evidence ≡ true → ask_of (c.words.fork e) me ≡ Some word
      → Invariant p g fuel opening (record c { words = asked c.words e word })
  ask_step a v e me word i busy at fresh shown k =
      let r = ask_row (c.words.fork e) me word k in
      let x = h.evidence_signalled a shown fresh in
      let here : waiter g c.words e ≡ v = ap (λ f. g.end (opposite f) e) r.side ∙ (ap (λ f. g.end f e) (other_other me) ∙ at) in
      let y : x.0 ≡ waiter g c.words e = same x.0 x.1 ∙ sym here in
      subst (λ z. Invariant p g fuel opening (record c { words = asked c.words e z })) (sym r.is) (record {
        clean = ask_keeps g fuel (signalled p g c) c.words e r.fits (subst (λ u. signalled p g c u ≡ true) y x.2) h;
        true_of = ask_stands p g opening c e s;
      })
    where
      same : (u : ℕ) → (c.words.grip a).vertex ≡ Some u → u ≡ v
      same u f = cc

  pub back_step : (a v e : ℕ) (me : Side) (word : ForkWord) → (c.words.grip a).vertex ≡ Some v → g.end me e ≡ v → (c.words.grip a).pins e ≡ true → (c.words.grip a).turn ≡ false → MayLeave g c a v → back_of (c.words.fork e) me (why g c a e) ≡ Some word
      → Invariant p g fuel opening (record c { words = backed c.words a e word; notes = set_at c.notes a (record (c.notes a) { noted = set_at (c.notes a).noted e (λ _. None); prepared = None }) })
  back_step a v e me word busy at mine idle may k =
      let side : (c.words.fork e).side ≡ me = back_side (c.words.fork e) me (why g c a e) word k in
      let row : BackRow (c.words.fork e) (c.words.fork e).side (why g c a e) word = subst (λ f. BackRow (c.words.fork e) f (why g c a e) word) (sym side) (back_row (c.words.fork e) me (why g c a e) word k) in
      record {
        clean = back_keeps g fuel (signalled p g c) c.words a e word mine idle (back_rests g fuel (signalled p g c) c.words a e word h mine row) h;
        true_of = back_stands p g opening c a e word mine (one_pinner h a e mine) leave s;
      }
    where
      leave : (u j n : ℕ) → (c.words.grip a).vertex ≡ Some u → (c.words.grip a).committed ≡ true → g.spans u j ≡ true → n < 2 → (c.notes a).written j n ≡ true
      leave u j n f m t i = let x : u ≡ v = cc in may m j n (ap (λ y. g.spans y j) (sym x) ∙ t) i

  -- a replica read over a pinned fork is the datum
  read_true : (a e n : ℕ) → (c.words.grip a).pins e ≡ true → n < 2 → c.replica (waiter g c.words e) (g.worker e) n ≡ half_of n (c.place (waiter g c.words e)).datum
  read_true a e n mine small = s.replica_is (waiter g c.words e) (g.worker e) n spans small (λ b f m. go b f m ((c.notes b).written (g.worker e) n) refl)
    where
      i : e < g.edges
      i = h.pin_inside a e mine

      spans : g.spans (waiter g c.words e) (g.worker e) ≡ true
      spans = plain.placed (opposite (c.words.fork e).side) e i

      clash : (b : ℕ) → (c.words.grip b).vertex ≡ Some (waiter g c.words e) → (c.words.grip b).committed ≡ true → (c.notes b).written (g.worker e) n ≡ false → ⊥
      clash b f m t =
          let theirs = s.unwritten_pins b (waiter g c.words e) (g.worker e) n f m spans small t (opposite (c.words.fork e).side) e i refl in
          let x : b ≡ a = one_pinner h a e mine b theirs in
          let y = h.pin_holder b e theirs in
          let z : holder g c.words e ≡ waiter g c.words e = cc in
          ends_differ g plain (c.words.fork e).side e i z

      go : (b : ℕ) → (c.words.grip b).vertex ≡ Some (waiter g c.words e) → (c.words.grip b).committed ≡ true → (d : Bool) → (c.notes b).written (g.worker e) n ≡ d → (c.notes b).written (g.worker e) n ≡ true
      go b f m true t = t
      go b f m false t = absurd (clash b f m t)

  pub read_step : (a v e n : ℕ) (me : Side) → n < 2 → (c.words.grip a).vertex ≡ Some v → g.end me e ≡ v → (c.words.grip a).pins e ≡ true
      → Invariant p g fuel opening (record c { notes = set_at c.notes a (record (c.notes a) { noted = set_at (c.notes a).noted e (set_at ((c.notes a).noted e) n (Some (c.replica (g.end (opposite me) e) (g.worker e) n))) }) })
  read_step a v e n me small busy at mine =
      let side : me ≡ (c.words.fork e).side = side_is g fuel (signalled p g c) c.words a v e me plain h busy mine at in
      subst (λ f. Invariant p g fuel opening (record c { notes = set_at c.notes a (record (c.notes a) { noted = set_at (c.notes a).noted e (set_at ((c.notes a).noted e) n (Some (c.replica (g.end (opposite f) e) (g.worker e) n))) }) })) (sym side) (record {
        clean = h;
        true_of = read_stands p g opening c a e n mine (read_true a e n mine small) s;
      })

  pub turn_step : (a v : ℕ) → (c.words.grip a).vertex ≡ Some v → PinsAll g c.words a v → c.words.turn ≡ None → Invariant p g fuel opening (record c { words = turn_taken c.words a })
  turn_step a v busy all free = record {
    clean = turn_keeps g fuel (signalled p g c) c.words a v busy all free h;
    true_of = turn_stands p g opening c a s;
  }

  pub commit_step : (a v : ℕ) (q : Prepared A) → (c.words.grip a).vertex ≡ Some v → (c.words.grip a).turn ≡ true → (c.words.grip a).committed ≡ false → (c.notes a).prepared ≡ Some q → length c.words.journal < fuel
      → Invariant p g fuel opening (entered_core g c a v q)
  commit_step a v q busy turn fresh prepared room =
      let ready = s.ready a v q busy fresh prepared in
      entry_keeps p g fuel opening speaks plain keeps c a v q busy ready.all fresh room h s ready

  pub give_step : (a : ℕ) → (c.words.grip a).turn ≡ true → Invariant p g fuel opening (record c { words = given c.words a })
  give_step a mine = record {
    clean = give_keeps g fuel (signalled p g c) c.words a mine h;
    true_of = give_stands p g opening c a s;
  }

  pub write_step : (a v k n : ℕ) → (c.words.grip a).vertex ≡ Some v → (c.words.grip a).committed ≡ true
      → Invariant p g fuel opening (record c {
        replica = set_at c.replica v (set_at (c.replica v) k (set_at (c.replica v k) n (half_of n (c.place v).datum)));
        notes = set_at c.notes a (record (c.notes a) { written = set_at (c.notes a).written k (set_at ((c.notes a).written k) n true) });
      })
  write_step a v k n busy done = record {
    clean = h;
    true_of = write_stands p g opening c a v k n busy done only s;
  }
    where
      only : (b : ℕ) → (c.words.grip b).vertex ≡ Some v → b ≡ a
      only b t =
          let x = h.names v a busy in
          let y = h.names v b t in
          cc

-- an act whose guard is met keeps the invariant
pub step_keeps : {A C : Type 0} (p : Program A C) (g : Shape) (fuel : ℕ) (opening : Serial) → IsLawful p → Graphlike g → (g.caches ≡ true → KeepsGathers p)
    → (c : Core A) (a : ℕ) (act : Act) (c' : Core A) (out : Outcome) → Invariant p g fuel opening c → Step g fuel c a act c' out → Invariant p g fuel opening c'
step_keeps p g fuel o sp pl ke c a (Claim v) c' out inv d = subst (Invariant p g fuel o) (sym d.3) (claim_step p g fuel o sp pl ke c inv a v d.0 d.1 d.2)
step_keeps p g fuel o sp pl ke c a Drop c' out inv d = subst (Invariant p g fuel o) (sym d.5) (drop_step p g fuel o sp pl ke c inv a d.0 d.1 d.2 d.3 d.4)
step_keeps p g fuel o sp pl ke c a (Look e) c' out inv d = subst (Invariant p g fuel o) (sym d.5) (look_step p g fuel o sp pl ke c inv a d.0 e d.1 d.2 d.3 d.4)
step_keeps p g fuel o sp pl ke c a (Pin e) c' out inv d = subst (Invariant p g fuel o) (sym d.9) (pin_step p g fuel o sp pl ke c inv a d.0 e d.1 d.2 d.3 d.4 d.5 d.7 d.8)
step_keeps p g fuel o sp pl ke c a (Ask e) c' out inv d = subst (Invariant p g fuel o) (sym d.9) (ask_step p g fuel o sp pl ke c inv a d.0 e d.1 d.2 d.3 d.4 d.5 d.6 d.7 d.8)
step_keeps p g fuel o sp pl ke c a (Back e) c' out inv d = subst (Invariant p g fuel o) (sym d.9) (back_step p g fuel o sp pl ke c inv a d.0 e d.1 d.2 d.3 d.4 d.5 d.6 d.7 d.8)
step_keeps p g fuel o sp pl ke c a (ReadMirror e n) c' out inv d = subst (Invariant p g fuel o) (sym d.7) (read_step p g fuel o sp pl ke c inv a d.0 e n d.1 d.2 d.3 d.4 d.5)
step_keeps p g fuel o sp pl ke c a Turn c' out inv d = subst (Invariant p g fuel o) (sym d.5) (turn_step p g fuel o sp pl ke c inv a d.0 d.1 d.2 d.4)
step_keeps p g fuel o sp pl ke c a Commit c' out inv d = subst (Invariant p g fuel o) (sym d.7) (commit_step p g fuel o sp pl ke c inv a d.0 d.1 d.2 d.3 d.4 d.5 d.6)
step_keeps p g fuel o sp pl ke c a Give c' out inv d = subst (Invariant p g fuel o) (sym d.1) (give_step p g fuel o sp pl ke c inv a d.0)
step_keeps p g fuel o sp pl ke c a (WriteMirror k n) c' out inv d = subst (Invariant p g fuel o) (sym d.7) (write_step p g fuel o sp pl ke c inv a d.0 k n d.2 d.3)
