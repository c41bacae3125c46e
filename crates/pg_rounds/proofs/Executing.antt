-- Which vertices execute in rounds, round by round.
use Rattle.std.proofs.Common.{◌≡◌, ℕ, zero, suc, ◌+◌, ◌<◌, Bool, true, false, ◌==◌, ◌&&◌, ◌||◌, length, refl, sym, ◌∙◌, ap, add-one}
use Rattle.std.specs.List.{list_any}
use Rattle.pg_graph.specs.Multigraph.{Multigraph, vertices}
use Rattle.pg_law.specs.Configuration.{Configuration, is_signalled, is_quiet, signalled}
use Rattle.pg_law.specs.Program.{Program}
use Rattle.pg_law.specs.Round.{round}
use Rattle.pg_law.proofs.Lists.{stands_in_filter, stands_below}
use Rattle.pg_rounds.specs.Executed.{executes}

or_none : (b : Bool) → (b || false) ≡ b
or_none true = refl
or_none false = refl

-- a vertex is among the signalled ones where it is signalled
pub among_signalled : (g : Multigraph) (s : Configuration) (v : ℕ) → v < length g.ids → list_any (λ u. u == v) (signalled g s) ≡ is_signalled s v
among_signalled g s v inside = stands_in_filter (is_signalled s) v (vertices g)
    ∙ (ap (λ b. is_signalled s v && b) (stands_below v (length g.ids) inside) ∙ also (is_signalled s v))
  where
    also : (b : Bool) → (b && true) ≡ b
    also true = refl
    also false = refl

module _ {Acc Carry : Type 0} (p : Program Acc Carry) (g : Multigraph) where
  pub executes_none : (s : Configuration) (u : ℕ) → executes p g s 0 u ≡ false
  unfolding executes
  executes_none s u = refl

  pub executes_stop : (s : Configuration) (n u : ℕ) → is_quiet g s ≡ true → executes p g s n u ≡ false
  unfolding executes
  executes_stop s zero u quiet = refl
  executes_stop s (suc n) u quiet = rw quiet refl

  pub executes_go : (s : Configuration) (n m u : ℕ) → is_quiet g s ≡ false → n ≡ m + 1 → executes p g s n u ≡ (is_signalled s u || executes p g (round p g s) m u)
  unfolding executes
  executes_go s n m u busy e = rw (e, add-one, busy) refl

  -- what was noted, with what executes from here on
  abbrev pub noted_at_end : Bool → Configuration → ℕ → ℕ → Bool
  noted_at_end noted s limit v = noted || executes p g s limit v

  -- nothing executes any more
  pub noted_none : (noted : Bool) (s : Configuration) (n v : ℕ) → n ≡ 0 → noted_at_end noted s n v ≡ noted
  noted_none noted s n v none = ap (λ k. noted_at_end noted s k v) none ∙ (ap (λ b. noted || b) (executes_none s v) ∙ or_none noted)

  pub noted_stop : (noted : Bool) (s : Configuration) (n v : ℕ) → is_quiet g s ≡ true → noted_at_end noted s n v ≡ noted
  noted_stop noted s n v quiet = ap (λ b. noted || b) (executes_stop s n v quiet) ∙ or_none noted

  -- a round more: its signalled vertices are noted
  pub noted_go : (noted more : Bool) (s t : Configuration) (n m v : ℕ) → v < length g.ids → is_quiet g s ≡ false → n ≡ m + 1 → t ≡ round p g s
      → more ≡ (noted || list_any (λ u. u == v) (signalled g s))
      → noted_at_end noted s n v ≡ noted_at_end more t m v
  noted_go noted more s t n m v inside busy fewer now is = ap (λ b. noted || b) (executes_go s n m v busy fewer)
      ∙ (apart noted (is_signalled s v) (executes p g (round p g s) m v)
      ∙ (ap (λ b. b || executes p g (round p g s) m v) (ap (λ b. noted || b) (sym (among_signalled g s v inside)) ∙ sym is)
      ∙ ap (λ x. more || executes p g x m v) (sym now)))
    where
      apart : (a b c : Bool) → (a || (b || c)) ≡ ((a || b) || c)
      apart true b c = refl
      apart false b c = refl
