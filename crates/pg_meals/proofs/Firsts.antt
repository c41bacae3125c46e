-- The signalled vertex of least rank among those that were looked at.
use Rattle.std.proofs.Common.{ℕ, ◌+◌, ◌<◌, ◌≤◌, ◌≡◌, ◌⊎◌, ltb, Bool, true, false, cond, Option, Some, None, inl, inr, arith, refl, sym, ap, subst, ◌∙◌, true≢false}
use Rattle.std.specs.Prelude.{MatchOption}
use Rattle.std.proofs.lemmas.Bool.Decides.{nat_tests}
use Rattle.pg_meals.specs.declared.board.Board.{Board}
use Rattle.pg_meals.specs.declared.ranking.Ranked.{Ranked}
use Rattle.pg_graph.specs.Multigraph.{Multigraph}
use Rattle.pg_meals.specs.Ranks.{Before, last_entry}
use Rattle.pg_meals.specs.Least.{IsAwaited, IsQuiet, IsLeastBelow, AllQuiet, lesser}

below_more : (w n : ℕ) → w < n + 1 → (w < n) ⊎ (w ≡ n)
below_more w n i = grind arith

module _ {A : Type 0} (g : Multigraph) (b : Board A) where
  -- a vertex isn't both signalled and not
  pub not_both : (v : ℕ) → IsQuiet g b v → IsAwaited g b v → ⊥
  not_both v q (inl own) = true≢false (sym own ∙ q.0)
  not_both v q (inr ride) = true≢false (sym ride.2 ∙ q.1 ride.0 ride.1)

  abbrev pub IsFound : ℕ → Option Ranked → Type 0
  IsFound n o = MatchOption o (AllQuiet g b n) (IsLeastBelow g b n)

  -- one more vertex, which isn't signalled
  pub quiet_more : (n : ℕ) (o : Option Ranked) → IsFound n o → IsQuiet g b n → IsFound (n + 1) o
  quiet_more n None all quiet = λ w i. go w (below_more w n i)
    where
      go : (w : ℕ) → (w < n) ⊎ (w ≡ n) → IsQuiet g b w
      go w (inl i) = all w i
      go w (inr q) = subst (IsQuiet g b) (sym q) quiet
  quiet_more n (Some first) found quiet = record {
    below = omega (arith, found.below);
    last = found.last;
    awaited = found.awaited;
    least = λ w i t. go w (below_more w n i) t;
  }
    where
      go : (w : ℕ) → (w < n) ⊎ (w ≡ n) → IsAwaited g b w → (w ≡ first.vertex) ⊎ Before b.journal.items first.vertex w
      go w (inl i) t = found.least w i t
      go w (inr q) t = absurd (not_both n quiet (subst (IsAwaited g b) q t))

  module _ (n last : ℕ) (awaited : IsAwaited g b n) (last_is : last ≡ last_entry b.journal.items n) where
    abbrev next : Ranked
    next = record { vertex = n; last = last }

    replaced : (first : Ranked) → IsLeastBelow g b n first → last < first.last → (w : ℕ) → (w < n) ⊎ (w ≡ n) → IsAwaited g b w → (w ≡ n) ⊎ Before b.journal.items n w
    replaced first found l w (inr q) t = inl q
    replaced first found l w (inl i) t = go (found.least w i t)
      where
        go : (w ≡ first.vertex) ⊎ Before b.journal.items first.vertex w → (w ≡ n) ⊎ Before b.journal.items n w
        go (inl q) =
            let at : last_entry b.journal.items w ≡ last_entry b.journal.items first.vertex = ap (last_entry b.journal.items) q in
            inr (inl (omega (arith, l, last_is, found.last, at)))
        go (inr (inl less)) = inr (inl (omega (arith, l, last_is, found.last, less)))
        go (inr (inr same)) = inr (inl (omega (arith, l, last_is, found.last, same.0)))

    kept : (first : Ranked) → IsLeastBelow g b n first → first.last ≤ last → (w : ℕ) → (w < n) ⊎ (w ≡ n) → IsAwaited g b w → (w ≡ first.vertex) ⊎ Before b.journal.items first.vertex w
    kept first found l w (inl i) t = found.least w i t
    kept first found l w (inr q) t =
        let at : last_entry b.journal.items w ≡ last_entry b.journal.items n = ap (last_entry b.journal.items) q in
        inr (go at (less_or_same first.last last l))
      where
        less_or_same : (x y : ℕ) → x ≤ y → (x < y) ⊎ (x ≡ y)
        less_or_same x y h = grind arith

        go : last_entry b.journal.items w ≡ last_entry b.journal.items n → (first.last < last) ⊎ (first.last ≡ last) → Before b.journal.items first.vertex w
        go at (inl less) = inl (omega (arith, less, last_is, found.last, at))
        go at (inr same) = inr (omega (arith, same, last_is, found.last, at), omega (arith, found.below, q))

    -- one more vertex, which is signalled
    pub least_more : (o : Option Ranked) → IsFound n o → IsLeastBelow g b (n + 1) (lesser o next)
    least_more None all = record {
      below = omega arith;
      last = last_is;
      awaited = awaited;
      least = λ w i t. go w (below_more w n i) t;
    }
      where
        go : (w : ℕ) → (w < n) ⊎ (w ≡ n) → IsAwaited g b w → (w ≡ n) ⊎ Before b.journal.items n w
        go w (inl i) t = absurd (not_both w (all w i) t)
        go w (inr q) t = inl q
    least_more (Some first) found = go (ltb last first.last) refl
      where
        go : (s : Bool) → ltb last first.last ≡ s → IsLeastBelow g b (n + 1) (cond s next first)
        go true s = record {
          below = omega arith;
          last = last_is;
          awaited = awaited;
          least = λ w i t. replaced first found (grind (arith, nat_tests, s)) w (below_more w n i) t;
        }
        go false s = record {
          below = omega (arith, found.below);
          last = found.last;
          awaited = found.awaited;
          least = λ w i t. kept first found (grind (arith, nat_tests, s)) w (below_more w n i) t;
        }
