-- As many rounds of components as there are vertices leave nothing signalled.
use Rattle.std.proofs.Common.{◌≡◌, ℕ, zero, suc, ◌+◌, ◌<◌, ◌≤◌, ◌⊎◌, Bool, true, false, cond}
use Rattle.std.proofs.Common.{Option}
use Rattle.std.proofs.Common.{Some, None, List, [], ◌∷◌, length, refl, sym, ◌∙◌, ap, subst, arith}
use Rattle.std.proofs.Common.{inl, inr}
use Rattle.std.specs.Prelude.{filter, is_some, nat_lt, ◌==◌}
use Rattle.std.specs.List.{range_with_len}
use Rattle.std.proofs.lemmas.Bool.{eq-eqb, eqb-true, true≢false, cases_order, ltb-true}
use Rattle.pg_graph.specs.declared.edge.Side.{Side}
use Rattle.pg_graph.specs.Multigraph.{Multigraph, IsMultigraph, end_at, opposite}
use Rattle.pg_law.specs.declared.values.Applied.{Applied}
use Rattle.pg_law.specs.Laws.{IsOptional}
use Rattle.pg_law.specs.Configuration.{Configuration, message_in, is_signalled, is_quiet}
use Rattle.pg_law.specs.Round.{apply_to, outcome, message_after, round}
use Rattle.pg_law.specs.Rounds.{Run, rounds}
use Rattle.pg_law.proofs.Repeating.{rounds_stop, rounds_go}
use Rattle.pg_steps.specs.Step.{step, Executes, Turn}
use Rattle.pg_steps.proofs.Ends.{ends_within}
use Rattle.pg_steps.proofs.Resting.{busy_some}
use Rattle.pg_steps.proofs.Stepping.{turn_is, message_keeps}
use Rattle.pg_paths.specs.Components.{components}
use Rattle.pg_paths.specs.Weak.{Joins, AreJoined, IsIdNear}
use Rattle.pg_paths.proofs.Sums.{sum_below, sum_ones, sums_less, some_counted}
use Rattle.pg_paths.proofs.Hearing.{label, IsHeard, step_heard, label_falls, hears}
use Rattle.pg_paths.proofs.Labelling.{same_label, quiet_least}

-- a neighbour has a smaller label
abbrev HasLess : Multigraph → Configuration → ℕ → Type 0
HasLess g s v = (e : ℕ) × (side : Side) × (e < length g.edges) × (end_at g (opposite side) e ≡ v)
    × (label s (end_at g side e) < label s (end_at g (opposite side) e))

-- the state after a round, in which all execute
abbrev next : Multigraph → Configuration → Configuration
next g s = step components g s (λ v. true)

module _ (g : Multigraph) (graph : IsMultigraph g) where
  next_heard : (s : Configuration) → IsHeard g s → IsHeard g (next g s)
  next_heard s heard = step_heard g graph s heard (λ v. true)

  falls : (s : Configuration) → IsHeard g s → (v : ℕ) → v < length g.ids
      → label (next g s) v ≤ label s v
  falls s heard v h = label_falls g graph s heard (λ v. true) v h

  -- in a round each signalled vertex executes
  runs : (s : Configuration) (v : ℕ) → is_signalled s v ≡ true
      → Executes components g s (λ v. true) v
  runs s v some = by_turn (turn_is components g graph s (λ v. true) v)
    where
      idle : (waiting : Option ℕ) → is_some waiting ≡ true
          → apply_to components g s v waiting ≡ None → ⊥
      idle None some none = true≢false (sym some)
      idle (Some m) some none = true≢false (ap is_some none)

      by_turn : Turn components g s (λ v. true) v → Executes components g s (λ v. true) v
      by_turn (inl none) = absurd (idle (message_in s.messages v) some none)
      by_turn (inr executes) = executes

  -- after a round each signalled vertex has a neighbour of smaller label
  abbrev Less : Configuration → ℕ → Option ℕ → Type 0
  Less s v m = IsOptional (λ m. HasLess g (next g s) v) m

  signal_less : (s : Configuration) → (v : ℕ) → v < length g.ids
      → is_signalled (next g s) v ≡ true → HasLess g (next g s) v
  signal_less s v h some = from_message (message_in (next g s).messages v) some
      (message_keeps components g graph s (λ v. true) (λ m. HasLess g (next g s) v) v h
      (λ a b qa qb. qa) (taken (turn_is components g graph s (λ v. true) v))
      (λ side e word applied below is executes scatters. over side e below is
      (nat_lt (label (next g s) (end_at g side e)) (label (next g s) (end_at g (opposite side) e)))
      refl))
    where
      from_message : (m : Option ℕ) → is_some m ≡ true → Less s v m → HasLess g (next g s) v
      from_message None some q = absurd (true≢false (sym some))
      from_message (Some m) some q = q

      waited : (waiting : Option ℕ) → apply_to components g s v waiting ≡ None
          → Less s v (message_after waiting (apply_to components g s v waiting))
      waited None e = tt
      waited (Some m) e = tt

      taken : Turn components g s (λ v. true) v
          → Less s v (message_after (message_in s.messages v)
          (outcome components g s (λ v. true) v))
      taken (inl none) = waited (message_in s.messages v) none
      taken (inr (m, waits, is)) = let P : Option (Applied Bool) → Type 0 = λ o.
          Less s v (message_after (message_in s.messages v) o) in subst P (sym is) tt

      over : (side : Side) (e : ℕ) → e < length g.edges → end_at g (opposite side) e ≡ v
          → (b : Bool) → nat_lt (label (next g s) (end_at g side e))
          (label (next g s) (end_at g (opposite side) e)) ≡ b
          → Less s v (cond b (Some (label (next g s) (end_at g side e))) None)
      over side e below is true less = (e, side, below, is, ltb-true _ _ less)
      over side e below is false less = tt

  -- the state is heard, and each signalled vertex has a neighbour of smaller label
  record IsStirred (s : Configuration) : Type 0 where
    pub heard : IsHeard g s
    pub stirs : (v : ℕ) → v < length g.ids → is_signalled s v ≡ true → HasLess g s v

  next_stirred : (s : Configuration) → IsHeard g s → IsStirred (next g s)
  next_stirred s heard = record { heard = next_heard s heard; stirs = signal_less s }

  -- a round of a stirred state with signals lowers the sum of the labels
  sum_falls : (s : Configuration) → IsStirred s → is_quiet g s ≡ false
      → sum_below (label (next g s)) (length g.ids) < sum_below (label s) (length g.ids)
  sum_falls s stirred busy = by_some (busy_some g s busy)
    where
      lower : (v : ℕ) → is_signalled s v ≡ true → HasLess g s v → label (next g s) v < label s v
      lower v some (e, side, below, is, less) = let w = end_at g (opposite side) e in
          let here : label (next g s) w ≤ label s (end_at g side e) = hears g graph s stirred.heard
          (λ v. true) side e below (runs s w (ap (is_signalled s) is ∙ some)) in
          let there : label (next g s) w < label s w = omega (arith, here, less) in
          subst (λ (w : ℕ). label (next g s) w < label s w) is there

      by_some : (v : ℕ) × (v < length g.ids) × (is_signalled s v ≡ true)
          → sum_below (label (next g s)) (length g.ids) < sum_below (label s) (length g.ids)
      by_some (v, h, some) = sums_less (label (next g s)) (label s) (length g.ids) v
          (falls s stirred.heard) h (lower v some (stirred.stirs v h some))

  -- so there is a state at rest
  abbrev AtRest : Type 0
  AtRest = (t : Configuration) × IsHeard g t × (is_quiet g t ≡ true)

  rests : (n : ℕ) (s : Configuration) → IsStirred s → sum_below (label s) (length g.ids) < n
      → AtRest
  rests zero s stirred h = absurd (omega arith)
  rests (suc n) s stirred h = by_quiet (is_quiet g s) refl (λ busy. rests n (next g s)
      (next_stirred s stirred.heard) (omega (arith, sum_falls s stirred busy, h)))
    where
      by_quiet : (quiet : Bool) → is_quiet g s ≡ quiet → (is_quiet g s ≡ false → AtRest) → AtRest
      by_quiet true quiet later = (s, stirred.heard, quiet)
      by_quiet false busy later = later busy

  -- against a state at rest, whose labels are right
  module _ (t : Configuration) (rested : IsHeard g t) (quiet : is_quiet g t ≡ true) where
    abbrev is_right : Configuration → ℕ → Bool
    is_right s v = label s v == label t v

    abbrev wrong_at : Configuration → ℕ → ℕ
    wrong_at s v = cond (is_right s v) 0 1

    abbrev wrong : Configuration → ℕ
    wrong s = sum_below (wrong_at s) (length g.ids)

    right_below : (s : Configuration) → IsHeard g s → (v : ℕ) → v < length g.ids
        → label t v ≤ label s v
    right_below s heard v h = (quiet_least g graph t rested quiet v h).least (label s v)
        (heard.labels v h)

    -- the ends of an edge have one least id
    same_over : (e : ℕ) (side : Side) → e < length g.edges
        → label t (end_at g side e) ≡ label t (end_at g (opposite side) e)
    unfolding Joins
    same_over e side h = same_label g graph t rested quiet (e ∷ []) (end_at g side e)
        (end_at g (opposite side) e) (h, side, refl, refl)

    -- on the way from a right vertex to a wrong one an edge leads from a right one to a wrong one
    abbrev Turning : Configuration → Type 0
    Turning s = (e : ℕ) × (side : Side) × (e < length g.edges)
        × (label s (end_at g side e) ≡ label t (end_at g side e))
        × (is_right s (end_at g (opposite side) e) ≡ false)

    turning : (s : Configuration) (edges : List ℕ) (u v : ℕ) → Joins g edges u v
        → label s u ≡ label t u → is_right s v ≡ false → Turning s
    unfolding Joins
    turning s [] u v joins right wrong = absurd (true≢false (sym (eq-eqb (label s v) (label t v)
        (ap (label s) (sym joins) ∙ right ∙ ap (label t) joins)) ∙ wrong))
    turning s (e ∷ edges) u v (h, side, start, rest) right wrong = by_test
        (is_right s (end_at g (opposite side) e)) refl
        (λ right. turning s edges (end_at g (opposite side) e) v rest right wrong)
      where
        by_test : (b : Bool) → is_right s (end_at g (opposite side) e) ≡ b
            → (label s (end_at g (opposite side) e) ≡ label t (end_at g (opposite side) e)
            → Turning s) → Turning s
        by_test true same later = later (eqb-true _ _ same)
        by_test false differ later = (
          e,
          side,
          h,
          ap (label s) start ∙ right ∙ ap (label t) (sym start),
          differ,
        )

    -- the vertex that has the least id of its component is right in every heard state
    abbrev Root : Configuration → ℕ → Type 0
    Root s v = (u : ℕ) × (u < length g.ids) × (label s u ≡ label t u) × AreJoined g u v

    root : (s : Configuration) → IsHeard g s → (v : ℕ) → v < length g.ids → Root s v
    root s heard v h = by_member (quiet_least g graph t rested quiet v h).member
      where
        by_member : IsIdNear g v (label t v) → Root s v
        by_member (u, inside, is, (edges, joins)) = (
          u,
          inside,
          omega (
            arith,
            heard.own u inside,
            is,
            same_label g graph t rested quiet edges u v joins,
            right_below s heard u inside,
          ),
          (edges, joins),
        )

    -- no right label gets wrong
    wrong_within : (s : Configuration) → IsHeard g s → (v : ℕ) → v < length g.ids
        → wrong_at (next g s) v ≤ wrong_at s v
    wrong_within s heard v h = by_test (is_right s v) refl
      where
        small : (b : Bool) → cond b 0 1 ≤ 1
        small true = omega arith
        small false = omega arith

        by_test : (b : Bool) → is_right s v ≡ b → wrong_at (next g s) v ≤ cond b 0 1
        by_test true same = rw (eq-eqb (label (next g s) v) (label t v) (omega (
          arith,
          eqb-true _ _ same,
          falls s heard v h,
          right_below (next g s) (next_heard s heard) v h,
        )))
            (omega arith)
        by_test false differ = small (is_right (next g s) v)

    -- at a turning edge the wrong label gets right
    turns_right : (s : Configuration) → IsHeard g s → (e : ℕ) (side : Side) → e < length g.edges
        → label s (end_at g side e) ≡ label t (end_at g side e)
        → is_right s (end_at g (opposite side) e) ≡ false
        → label (next g s) (end_at g (opposite side) e) ≡ label t (end_at g (opposite side) e)
    turns_right s heard e side h right differ = omega (
      arith,
      heard_of,
      right,
      same_over e side h,
      right_below (next g s) (next_heard s heard) w inside,
    )
      where
        w : ℕ
        w = end_at g (opposite side) e

        inside : end_at g (opposite side) e < length g.ids
        inside = ends_within g graph (opposite side) e h

        less : label s (end_at g side e) < label s (end_at g (opposite side) e)
        less = by_order (cases_order (label s (end_at g side e))
            (label s (end_at g (opposite side) e)))
          where
            by_order : (label s (end_at g side e) ≡ label s (end_at g (opposite side) e))
                ⊎ ((label s (end_at g side e) < label s (end_at g (opposite side) e))
                ⊎ (label s (end_at g (opposite side) e) < label s (end_at g side e)))
                → label s (end_at g side e) < label s (end_at g (opposite side) e)
            by_order (inl same) = absurd (true≢false (sym (eq-eqb _ _
                (sym same ∙ right ∙ same_over e side h)) ∙ differ))
            by_order (inr (inl below)) = below
            by_order (inr (inr above)) = absurd (omega (
              arith,
              above,
              right,
              same_over e side h,
              right_below s heard (end_at g (opposite side) e) inside,
            ))

        heard_of : label (next g s) (end_at g (opposite side) e) ≤ label s (end_at g side e)
        heard_of = hears g graph s heard (λ v. true) side e h
            (runs s (end_at g (opposite side) e) (heard.greater e side h less))

    -- so each round makes some wrong label right
    wrong_falls : (s : Configuration) → IsHeard g s → 0 < wrong s → wrong (next g s) < wrong s
    wrong_falls s heard some = by_wrong (some_counted (wrong_at s) (length g.ids) some)
      where
        wrong_is : (b : Bool) → 0 < cond b 0 1 → b ≡ false
        wrong_is true h = absurd (omega arith)
        wrong_is false h = refl

        by_turning : Turning s → wrong (next g s) < wrong s
        by_turning (e, side, h, right, differ) = sums_less (wrong_at (next g s)) (wrong_at s)
            (length g.ids) (end_at g (opposite side) e) (wrong_within s heard)
            (ends_within g graph (opposite side) e h) (rw (
              differ,
              eq-eqb _ _ (turns_right s heard e side h right differ),
            ) (omega arith))

        by_root : (v : ℕ) → is_right s v ≡ false → Root s v → wrong (next g s) < wrong s
        by_root v differ (u, inside, right, (edges, joins)) =
            by_turning (turning s edges u v joins right differ)

        by_wrong : (v : ℕ) × (v < length g.ids) × (0 < wrong_at s v) → wrong (next g s) < wrong s
        by_wrong (v, h, positive) = by_root v (wrong_is (is_right s v) positive) (root s heard v h)

    none_wrong : (s : Configuration) → wrong s ≡ 0 → (v : ℕ) → v < length g.ids
        → label s v ≡ label t v
    none_wrong s none v h = by_test (is_right s v) refl
      where
        positive : (b : Bool) → b ≡ false → 0 < cond b 0 1
        positive true e = absurd (true≢false e)
        positive false e = omega arith

        by_test : (b : Bool) → is_right s v ≡ b → label s v ≡ label t v
        by_test true same = eqb-true _ _ same
        by_test false differ = absurd (omega (
          arith,
          none,
          sums_less (λ v. 0) (wrong_at s)
              (length g.ids) v (λ v h. omega arith) h (positive (is_right s v) differ),
        ))

    -- where no label is wrong, a round leaves nothing signalled
    rest_after : (s : Configuration) → IsHeard g s → wrong s ≡ 0 → is_quiet g (next g s) ≡ true
    rest_after s heard none = by_quiet (is_quiet g (next g s)) refl
      where
        right : (v : ℕ) → v < length g.ids → label (next g s) v ≡ label t v
        right v h = omega (
          arith,
          none_wrong s none v h,
          falls s heard v h,
          right_below (next g s) (next_heard s heard) v h,
        )

        still : (v : ℕ) → HasLess g (next g s) v → ⊥
        still v (e, side, h, is, less) = omega (
          arith,
          less,
          right _ (ends_within g graph side e h),
          right _ (ends_within g graph (opposite side) e h),
          same_over e side h,
        )

        stirs : (v : ℕ) × (v < length g.ids) × (is_signalled (next g s) v ≡ true) → ⊥
        stirs (v, h, some) = still v (signal_less s v h some)

        by_quiet : (b : Bool) → is_quiet g (next g s) ≡ b → is_quiet g (next g s) ≡ true
        by_quiet true e = e
        by_quiet false e = absurd (stirs (busy_some g (next g s) e))

    -- more rounds than there are wrong labels come to rest
    abbrev Later : Configuration → ℕ → Type 0
    Later s n = 0 < wrong s → is_quiet g (rounds components g (next g s) n).state ≡ true

    settles_after : (n : ℕ) (s : Configuration) → IsHeard g s → wrong s < n
        → is_quiet g (rounds components g s n).state ≡ true
    unfolding round
    settles_after zero s heard h = absurd (omega arith)
    settles_after (suc n) s heard h = by_quiet (is_quiet g s) refl (λ some. settles_after n
        (next g s) (next_heard s heard) (omega (arith, wrong_falls s heard some, h)))
      where
        by_wrong : (wrong s ≡ 0) ⊎ ((wrong s < 0) ⊎ (0 < wrong s)) → Later s n
            → is_quiet g (rounds components g (next g s) n).state ≡ true
        by_wrong (inl none) later = let quiet = rest_after s heard none in
            ap (λ (r : Run). is_quiet g r.state) (rounds_stop components g (next g s) n quiet)
            ∙ quiet
        by_wrong (inr (inl below)) later = absurd (omega arith)
        by_wrong (inr (inr some)) later = later some

        by_quiet : (b : Bool) → is_quiet g s ≡ b → Later s n
            → is_quiet g (rounds components g s (suc n)).state ≡ true
        by_quiet true e later = ap (λ (r : Run). is_quiet g r.state)
            (rounds_stop components g s (suc n) e) ∙ e
        by_quiet false e later = ap (λ (r : Run). is_quiet g r.state)
            (rounds_go components g s (suc n) n e (omega arith))
            ∙ by_wrong (cases_order (wrong s) 0) later

    -- some label is right
    few_wrong : (s : Configuration) → IsHeard g s → 0 < length g.ids → wrong s < length g.ids
    few_wrong s heard some = by_root (root s heard 0 some)
      where
        at_most : (b : Bool) → cond b 0 1 ≤ 1
        at_most true = omega arith
        at_most false = omega arith

        by_root : Root s 0 → wrong s < length g.ids
        by_root (u, inside, right, joined) = omega (
          arith,
          sum_ones (length g.ids),
          sums_less (wrong_at s) (λ v. 1) (length g.ids) u (λ v h. at_most (is_right s v)) inside
              (rw (eq-eqb (label s u) (label t u) right) (omega arith)),
        )

  pub settles : (s : Configuration) → IsHeard g s
      → is_quiet g (rounds components g s (length g.ids)).state ≡ true
  settles s heard = by_count (cases_order (length g.ids) 0)
      (rests (sum_below (label (next g s)) (length g.ids) + 1) (next g s) (next_stirred s heard)
      (omega arith))
    where
      empty : (t : Configuration) (n : ℕ) → n ≡ 0
          → (length (filter (is_signalled t) (range_with_len 0 n)) == 0) ≡ true
      empty t n e = rw e refl

      by_count : (length g.ids ≡ 0) ⊎ ((length g.ids < 0) ⊎ (0 < length g.ids)) → AtRest
          → is_quiet g (rounds components g s (length g.ids)).state ≡ true
      by_count (inl none) at_rest =
          empty (rounds components g s (length g.ids)).state (length g.ids) none
      by_count (inr (inl below)) at_rest = absurd (omega arith)
      by_count (inr (inr some)) (t, rested, quiet) = settles_after t rested quiet (length g.ids) s
          heard (few_wrong t rested quiet s heard some)
