-- What forks carry, while actors and forks change.
use Rattle.std.proofs.Common.{ℕ, ◌<◌, ◌≤◌, ◌≡◌, ◌⊎◌, length, List, slice_set, Bool, true, false, cond, Option, Some, None, inl, inr, refl, sym, ap, ◌∙◌, true≢false}
use Rattle.std.specs.Prelude.{is_some}
use Rattle.std.proofs.lemmas.Bool.Decides.{Decides-eqb}
use Rattle.std.proofs.lemmas.List.{get_or-set_same, get_or-set_other, get_or_past}
use Rattle.pg_graph.specs.Multigraph.{Multigraph}
use Rattle.pg_meals.specs.declared.fork.Fork.{Fork}
use Rattle.pg_meals.specs.declared.actor.Actor.{Actor}
use Rattle.pg_meals.specs.declared.board.Board.{Board}
use Rattle.pg_meals.specs.Core.{empty_content}
use Rattle.pg_meals.specs.Entries.{is_actor, idle, fork_at, actor_at}
use Rattle.pg_meals.specs.Shown.{has_entered, carried, content_of, planned_by}
use Rattle.pg_meals.specs.Boards.{IsBoard}
use Rattle.pg_meals.specs.Closing.{AllFree}
use Rattle.pg_meals.proofs.Gathers.{below_or_past}
use Rattle.pg_meals.proofs.Holding.{is_actor_of}
use Rattle.pg_meals.proofs.ListReads.{read_like}

module _ {A : Type 0} where
  -- a fork that nobody has pinned carries its content
  pub lone_carries : (actors : ℕ → Actor) (x : Fork A) → x.mark.pinner ≡ None → carried actors x ≡ x.content
  lone_carries actors x lone = ap (λ o. cond (has_entered actors o) x.prepared x.content) lone

  -- one that is pinned carries what was prepared exactly where its pinner has made its entry
  pub held_carries : (actors : ℕ → Actor) (x : Fork A) (a : ℕ) (entered : Bool) → x.mark.pinner ≡ Some a → (actors a).committed ≡ entered → carried actors x ≡ cond entered x.prepared x.content
  held_carries actors x a entered mine is = ap (λ o. cond (has_entered actors o) x.prepared x.content) mine ∙ ap (λ t. cond t x.prepared x.content) is

module _ (actors : List Actor) (a : ℕ) (y : Actor) (a_in : a < length actors) where
  abbrev after : ℕ → Actor
  after = actor_at (slice_set actors a y)

  -- one actor changes, and has made its entry or not, as before
  pub carried_like : {A : Type 0} → y.committed ≡ (actor_at actors a).committed → (x : Fork A) → carried after x ≡ carried (actor_at actors) x
  carried_like same x = ap (λ t. cond t x.prepared x.content) (like x.mark.pinner)
    where
      like : (o : Option ℕ) → has_entered after o ≡ has_entered (actor_at actors) o
      like None = refl
      like (Some b) = read_like (λ (z : Actor). z.committed) actors a y b idle a_in same

  -- or it hasn't pinned the fork
  pub carried_other : {A : Type 0} (x : Fork A) → is_actor a x.mark.pinner ≡ false → carried after x ≡ carried (actor_at actors) x
  carried_other x other = ap (λ t. cond t x.prepared x.content) (like x.mark.pinner other)
    where
      like : (o : Option ℕ) → is_actor a o ≡ false → has_entered after o ≡ has_entered (actor_at actors) o
      like None t = refl
      like (Some b) t = ap (λ (z : Actor). z.committed) (get_or-set_other actors a b y idle (λ q. true≢false (sym ((Decides-eqb b a).1 q) ∙ t)))

  -- it makes its entry: its forks carry what it planned, and all others what they did
  pub carried_entered : {A : Type 0} → y.committed ≡ true → (x : Fork A) → content_of (carried after x) ≡ cond (is_actor a x.mark.pinner) (planned_by a x) (content_of (carried (actor_at actors) x))
  carried_entered is x = go (is_actor a x.mark.pinner) refl
    where
      go : (t : Bool) → is_actor a x.mark.pinner ≡ t → content_of (carried after x) ≡ cond t (cond t (content_of x.prepared) empty_content) (content_of (carried (actor_at actors) x))
      go true t = ap content_of (held_carries after x a true (is_actor_of a x.mark.pinner t) (ap (λ (z : Actor). z.committed) (get_or-set_same actors a y idle a_in) ∙ is))
      go false t = ap content_of (carried_other x t)

-- who pinned a fork is an actor of the board
pub pinner_in : {A : Type 0} (g : Multigraph) (b : Board A) → IsBoard g b → (w e a : ℕ) → (fork_at w b.forks.items e).mark.pinner ≡ Some a → a < length b.actors.items
pinner_in g b board w e a mine = go (below_or_past a (length b.actors.items))
  where
    go : (a < length b.actors.items) ⊎ (length b.actors.items ≤ a) → a < length b.actors.items
    go (inl i) = i
    go (inr l) = nowhere _ (sym (ap (λ (z : Actor). z.vertex) (get_or_past b.actors.items a idle l)) ∙ (board.held w a e mine).1)
      where
        nowhere : (v : ℕ) → ◌≡◌ {A = Option ℕ} None (Some v) → a < length b.actors.items
        nowhere v q = absurd (cc)

-- where no actor has a vertex in hand, nobody has pinned a fork
pub all_lone : {A : Type 0} (g : Multigraph) (b : Board A) → IsBoard g b → AllFree b.actors.items → (w e : ℕ) → (fork_at w b.forks.items e).mark.pinner ≡ None
all_lone g b board free w e = go (fork_at w b.forks.items e).mark.pinner refl
  where
    go : (o : Option ℕ) → (fork_at w b.forks.items e).mark.pinner ≡ o → (fork_at w b.forks.items e).mark.pinner ≡ None
    go None q = q
    go (Some a) q = absurd (true≢false (sym (ap is_some (board.held w a e q).1) ∙ free a (pinner_in g b board w e a q)))
