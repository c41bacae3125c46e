-- What holds of the words at every moment, after Chandy and Misra. The ranks are this engine's own.
use Rattle.std.specs.Prelude.{ℕ, ◌<◌, ◌≤◌, ◌≡◌, ◌⊎◌, length, Bool, true, false, Some}
use Rattle.pg_meals.specs.Shape.{Shape}
use Rattle.pg_meals.specs.Words.{Words, holder, waiter, PinsAll}
use Rattle.pg_meals.specs.Ranks.{Before}

-- signalled says which vertices have a message
pub record Hygiene (g : Shape) (fuel : ℕ) (signalled : ℕ → Bool) (w : Words) : Type 0 where
  -- a vertex word names exactly the actor that has the vertex in hand
  pub named : (v a : ℕ) → w.vertex v ≡ Some a → (w.grip a).vertex ≡ Some v
  pub names : (v a : ℕ) → (w.grip a).vertex ≡ Some v → w.vertex v ≡ Some a
  pub inside : (a v : ℕ) → (w.grip a).vertex ≡ Some v → v < g.vertices
  -- so does the turn's word, and the holder of the turn has all forks of its vertex
  pub turn_named : (a : ℕ) → w.turn ≡ Some a → (w.grip a).turn ≡ true
  pub turn_names : (a : ℕ) → (w.grip a).turn ≡ true → w.turn ≡ Some a
  pub turn_ready : (a : ℕ) → (w.grip a).turn ≡ true
      → (v : ℕ) × ((w.grip a).vertex ≡ Some v) × PinsAll g w a v
  -- a fork is pinned exactly where an actor has it, which has the vertex at the fork's side in hand
  pub pin_inside : (a e : ℕ) → (w.grip a).pins e ≡ true → e < g.edges
  pub pin_word : (a e : ℕ) → (w.grip a).pins e ≡ true → (w.fork e).pinned ≡ true
  pub pin_holder : (a e : ℕ) → (w.grip a).pins e ≡ true → (w.grip a).vertex ≡ Some (holder g w e)
  pub pinner : (e : ℕ) → (w.fork e).pinned ≡ true → (a : ℕ) × ((w.grip a).pins e ≡ true)
  -- a fork is clean exactly where its holder has the smaller rank
  -- one that is pinned by an actor that has committed is read as dirty
  pub clean_lower : (e : ℕ) → e < g.edges → (w.fork e).dirty ≡ false
      → ((a : ℕ) → (w.grip a).pins e ≡ true → (w.grip a).committed ≡ false)
      → Before w.journal (holder g w e) (waiter g w e)
  pub dirty_higher : (e : ℕ) → e < g.edges → (w.fork e).dirty ≡ true
      → Before w.journal (waiter g w e) (holder g w e)
  pub committed_higher : (a e : ℕ) → (w.grip a).pins e ≡ true → (w.grip a).committed ≡ true
      → Before w.journal (waiter g w e) (holder g w e)
  -- who has a clean, unpinned fork is signalled
  pub clean_signalled : (e : ℕ) → e < g.edges → (w.fork e).dirty ≡ false
      → (w.fork e).pinned ≡ false → signalled (holder g w e) ≡ true
  -- so is who asks
  pub asked_signalled : (e : ℕ) → e < g.edges → (w.fork e).asked ≡ true
      → signalled (waiter g w e) ≡ true
  -- an unpinned fork isn't both dirty and asked
  pub not_both : (e : ℕ) → (w.fork e).pinned ≡ false → (w.fork e).dirty ≡ true
      → (w.fork e).asked ≡ false
  -- who has evidence, and hasn't committed, has a signalled vertex in hand
  pub evidence_signalled : (a : ℕ) → (w.grip a).evidence ≡ true → (w.grip a).committed ≡ false
      → (v : ℕ) × ((w.grip a).vertex ≡ Some v) × (signalled v ≡ true)
  pub short : length w.journal ≤ fuel
  -- a pinned fork that is clean was taken, or its actor has evidence; one that was taken is clean
  pub clean_marked : (a e : ℕ) → (w.grip a).committed ≡ false → (w.grip a).pins e ≡ true
      → (w.fork e).dirty ≡ false → ((w.grip a).taken e ≡ true) ⊎ ((w.grip a).evidence ≡ true)
  pub taken_clean : (a e : ℕ) → (w.grip a).committed ≡ false → (w.grip a).pins e ≡ true
      → (w.grip a).taken e ≡ true → (w.fork e).dirty ≡ false
