-- What a step leaves at one vertex, for any program.
use Rattle.std.proofs.Common.{◌≡◌, ℕ, ◌<◌, ◌⊎◌, Bool, true, false, cond, Option, Some, None, length}
use Rattle.std.proofs.Common.{refl, sym, ◌∙◌, ap, subst, arith, inl, inr}
use Rattle.std.specs.Prelude.{is_some, slice_index}
use Rattle.std.proofs.lemmas.Bool.{true≢false}
use Rattle.std.proofs.lemmas.List.FromFn.{get_or-map-range_with_len}
use Rattle.pg_graph.specs.declared.edge.Side.{Side}
use Rattle.pg_graph.specs.declared.edge.Side.TheVariants.{Source, Target}
use Rattle.pg_graph.specs.Multigraph.{Multigraph, IsMultigraph, edge_at, edges_at, end_at, side_at}
use Rattle.pg_graph.specs.Multigraph.{is_at, opposite, takes}
use Rattle.pg_law.specs.declared.values.Applied.{Applied}
use Rattle.pg_law.specs.Values.{one}
use Rattle.pg_law.specs.Program.{Program}
use Rattle.pg_law.specs.Laws.{IsOptional}
use Rattle.pg_law.specs.Configuration.{Configuration, datum_in, message_in, is_signalled}
use Rattle.pg_law.specs.Round.{near_of, apply_to, outcome, outcomes, became_at, datum_after}
use Rattle.pg_law.specs.Round.{message_after, messages_after, word_between, scatter_by, signal_in}
use Rattle.pg_law.specs.Round.{signal_to, received, join, with_signals}
use Rattle.pg_steps.specs.Step.{step, applied_by, Turn, sent}
use Rattle.pg_steps.proofs.Ends.{ends_within, at_end, side_of_end, end_of_side}
use Rattle.pg_steps.proofs.Folds.{fold_over, fold_reaches}

join_left : (combine : ℕ → ℕ → ℕ) (a b : Option ℕ) → is_some a ≡ true
    → is_some (join combine a b) ≡ true
join_left combine None b h = absurd (true≢false (sym h))
join_left combine (Some a) None h = refl
join_left combine (Some a) (Some b) h = refl

join_right : (combine : ℕ → ℕ → ℕ) (a b : Option ℕ) → is_some b ≡ true
    → is_some (join combine a b) ≡ true
join_right combine None b h = h
join_right combine (Some a) None h = refl
join_right combine (Some a) (Some b) h = refl

join_keeps : (Q : ℕ → Type 0) (combine : ℕ → ℕ → ℕ)
    → ((a b : ℕ) → Q a → Q b → Q (combine a b)) → (a b : Option ℕ)
    → IsOptional Q a → IsOptional Q b → IsOptional Q (join combine a b)
join_keeps Q combine h None b qa qb = qb
join_keeps Q combine h (Some a) None qa qb = qa
join_keeps Q combine h (Some a) (Some b) qa qb = h a b qa qb

module _ {Acc Carry : Type 0} (p : Program Acc Carry) (g : Multigraph) (graph : IsMultigraph g)
    (s : Configuration) (executes : ℕ → Bool) where
  abbrev after : Configuration
  after = step p g s executes

  abbrev turn : ℕ → Option (Applied Carry)
  turn v = outcome p g s executes v

  -- a vertex does nothing, or executes by a message that it has
  pub turn_is : (v : ℕ) → Turn p g s executes v
  turn_is v = by_message (executes v) (message_in s.messages v) refl
    where
      by_message : (b : Bool) (waiting : Option ℕ) → message_in s.messages v ≡ waiting
          → (cond b (apply_to p g s v waiting) None ≡ None) ⊎ ((m : ℕ) × (waiting ≡ Some m)
          × (cond b (apply_to p g s v waiting) None ≡ Some (applied_by p g s v m)))
      by_message false waiting e = inl refl
      by_message true None e = inl refl
      by_message true (Some m) e = inr (m, refl, refl)

  became_is : (v : ℕ) → v < length g.ids → became_at (outcomes p g s executes) v ≡ turn v
  became_is v h = get_or-map-range_with_len turn 0 (length g.ids) v v None h (omega arith)

  datum_is : (v : ℕ) → v < length g.ids
      → datum_in after.values v ≡ datum_after (datum_in s.values v) (turn v)
  datum_is v h = get_or-map-range_with_len
      (λ v. datum_after (datum_in s.values v) (became_at (outcomes p g s executes) v))
      0 (length g.ids) v v (one 0) h (omega arith)
      ∙ ap (datum_after (datum_in s.values v)) (became_is v h)

  -- a vertex that does nothing keeps its datum
  pub datum_kept : (v : ℕ) → v < length g.ids → turn v ≡ None
      → datum_in after.values v ≡ datum_in s.values v
  datum_kept v h idle = datum_is v h ∙ ap (datum_after (datum_in s.values v)) idle

  -- one that executes has the new one
  pub datum_new : (v : ℕ) (applied : Applied Carry) → v < length g.ids → turn v ≡ Some applied
      → datum_in after.values v ≡ applied.datum
  datum_new v applied h is = datum_is v h ∙ ap (datum_after (datum_in s.values v)) is

  abbrev signal : ℕ → ℕ → Option ℕ
  signal v e = signal_to p g after.values s.edges (outcomes p g s executes) v e

  message_is : (v : ℕ) → v < length g.ids → message_in after.messages v
      ≡ with_signals p g after.values s.edges (outcomes p g s executes) v
      (message_after (message_in s.messages v) (turn v)) (edges_at g v)
  message_is v h = let became = outcomes p g s executes in
      let signals = λ (m : Option ℕ). λ (v : ℕ).
      with_signals p g after.values s.edges became v m (edges_at g v) in
      get_or-map-range_with_len
      (λ v. signals (message_in (messages_after p g s.messages became) v) v)
      0 (length g.ids) v v None h (omega arith)
      ∙ ap (λ m. signals m v) (get_or-map-range_with_len
      (λ v. message_after (message_in s.messages v) (became_at became v))
      0 (length g.ids) v v None h (omega arith)
      ∙ ap (message_after (message_in s.messages v)) (became_is v h))

  -- what messages that join keep holds of one that waits at a vertex that does nothing
  pub message_waits : (P : Option ℕ → Type 0) (v : ℕ) → v < length g.ids → turn v ≡ None
      → ((m more : Option ℕ) → P m → P (join p.combine m more)) → P (message_in s.messages v)
      → P (message_in after.messages v)
  message_waits P v h idle joins before =
      let Q : Option (Applied Carry) → Type 0 = λ o.
      P (message_after (message_in s.messages v) o) in
      subst P (sym (message_is v h)) (fold_over P (λ m e. join p.combine m (signal v e))
      (λ e. is_at v (edge_at g e)) (length g.edges) (λ m e below at kept. joins m _ kept) _
      (subst Q (sym idle) before))

  -- so it stays signalled
  pub stays_signalled : (v : ℕ) → v < length g.ids → turn v ≡ None → is_signalled s v ≡ true
      → is_signalled after v ≡ true
  stays_signalled v h idle some = message_waits (λ (m : Option ℕ). is_some m ≡ true) v h idle
      (λ m more kept. join_left p.combine m more kept) some

  -- a signal that is sent over an edge arrives
  arrives : (side : Side) (e : ℕ) → e < length g.edges
      → is_some (sent p g s executes side e) ≡ true
      → is_signalled after (end_at g (opposite side) e) ≡ true
  arrives side e h some = let v = end_at g (opposite side) e in
      ap is_some (message_is v (ends_within g graph (opposite side) e h))
      ∙ fold_reaches (λ (m : Option ℕ). is_some m ≡ true) (λ m e. join p.combine m (signal v e))
      (λ e. is_at v (edge_at g e)) e (λ m x kept. join_left p.combine m _ kept)
      (λ m. join_right p.combine m (signal v e) here) (at_end g graph (opposite side) e)
      (length g.edges) h _
    where
      at_side : (side : Side) → is_some (sent p g s executes side e) ≡ true
          → is_some (received (opposite side) (sent p g s executes Source e)
          (sent p g s executes Target e)) ≡ true
      at_side Source some = some
      at_side Target some = some

      here : is_some (signal (end_at g (opposite side) e) e) ≡ true
      here = ap (λ i. is_some (received i (sent p g s executes Source e)
          (sent p g s executes Target e))) (side_of_end g graph (opposite side) e h)
          ∙ at_side side some

  -- what is sent is what scatter says, over some word
  abbrev Scatters : Side → ℕ → Applied Carry → Type 0
  Scatters side e applied = (word : ℕ) × (sent p g s executes side e
      ≡ (p.scatter (near_of g after.values side e word) applied.carry).signal)

  sent_is : (side : Side) (e : ℕ) (applied : Applied Carry) → e < length g.edges
      → turn (end_at g side e) ≡ Some applied → takes p.scatter_edges side ≡ true
      → Scatters side e applied
  sent_is Source e applied h is scatters = (
    slice_index s.edges e,
    ap (λ o. signal_in (scatter_by p g after.values Source e (slice_index s.edges e) o))
        (became_is _ (ends_within g graph Source e h) ∙ is)
        ∙ ap (λ b. signal_in (cond b (Some (p.scatter
        (near_of g after.values Source e (slice_index s.edges e)) applied.carry)) None)) scatters,
  )
  sent_is Target e applied h is scatters =
      let word = word_between p g after.values s.edges (outcomes p g s executes) e in (
        word,
        ap (λ o. signal_in (scatter_by p g after.values Target e word o))
            (became_is _ (ends_within g graph Target e h) ∙ is)
            ∙ ap (λ b. signal_in (cond b (Some (p.scatter
            (near_of g after.values Target e word) applied.carry)) None)) scatters,
      )

  -- where scatter gives a signal, the other end is signalled
  pub scatter_wakes : (side : Side) (e : ℕ) (applied : Applied Carry) → e < length g.edges
      → turn (end_at g side e) ≡ Some applied → takes p.scatter_edges side ≡ true
      → ((word : ℕ) → is_some
      (p.scatter (near_of g after.values side e word) applied.carry).signal ≡ true)
      → is_signalled after (end_at g (opposite side) e) ≡ true
  scatter_wakes side e applied h is scatters signals = arrives side e h
      (by_word (sent_is side e applied h is scatters))
    where
      by_word : Scatters side e applied → is_some (sent p g s executes side e) ≡ true
      by_word (word, sends) = ap is_some sends ∙ signals word

  -- a fact of all that executing vertices scatter is one of all that is sent
  sent_keeps : (Q : ℕ → Type 0) (side : Side) (e : ℕ) → e < length g.edges
      → ((word : ℕ) (applied : Applied Carry) → turn (end_at g side e) ≡ Some applied
      → takes p.scatter_edges side ≡ true → IsOptional Q
      (p.scatter (near_of g after.values side e word) applied.carry).signal)
      → IsOptional Q (sent p g s executes side e)
  sent_keeps Q side e h scattered = by_side side (λ word. over_word word
      (became_at (outcomes p g s executes) (end_at g side e))
      (sym (became_is _ (ends_within g graph side e h))))
    where
      by_test : (word : ℕ) (applied : Applied Carry) → turn (end_at g side e) ≡ Some applied
          → (b : Bool) → takes p.scatter_edges side ≡ b → IsOptional Q (signal_in
          (cond b (Some (p.scatter (near_of g after.values side e word) applied.carry)) None))
      by_test word applied is true scatters = scattered word applied is scatters
      by_test word applied is false scatters = tt

      over_word : (word : ℕ) (o : Option (Applied Carry)) → turn (end_at g side e) ≡ o
          → IsOptional Q (signal_in (scatter_by p g after.values side e word o))
      over_word word None is = tt
      over_word word (Some applied) is = by_test word applied is (takes p.scatter_edges side) refl

      by_side : (side : Side) → ((word : ℕ) → IsOptional Q (signal_in (scatter_by p g after.values
          side e word (became_at (outcomes p g s executes) (end_at g side e)))))
          → IsOptional Q (sent p g s executes side e)
      by_side Source all = all (slice_index s.edges e)
      by_side Target all = all (word_between p g after.values s.edges (outcomes p g s executes) e)

  -- a fact of the message that apply leaves and of all that neighbours scatter is one of what waits
  pub message_keeps : (Q : ℕ → Type 0) (v : ℕ) → v < length g.ids
      → ((a b : ℕ) → Q a → Q b → Q (p.combine a b))
      → IsOptional Q (message_after (message_in s.messages v) (turn v))
      → ((side : Side) (e word : ℕ) (applied : Applied Carry) → e < length g.edges
      → end_at g (opposite side) e ≡ v → turn (end_at g side e) ≡ Some applied
      → takes p.scatter_edges side ≡ true → IsOptional Q
      (p.scatter (near_of g after.values side e word) applied.carry).signal)
      → IsOptional Q (message_in after.messages v)
  message_keeps Q v h combines own scattered = subst (IsOptional Q) (sym (message_is v h))
      (fold_over (IsOptional Q) (λ m e. join p.combine m (signal v e))
      (λ e. is_at v (edge_at g e)) (length g.edges)
      (λ m e below at kept. join_keeps Q p.combine combines m _ kept
      (by_side (side_at g v e) e below (end_of_side g graph v e at))) _ own)
    where
      by_side : (side : Side) (e : ℕ) → e < length g.edges → end_at g side e ≡ v → IsOptional Q
          (received side (sent p g s executes Source e) (sent p g s executes Target e))
      by_side Source e below is = sent_keeps Q Target e below
          (λ word applied. scattered Target e word applied below is)
      by_side Target e below is = sent_keeps Q Source e below
          (λ word applied. scattered Source e word applied below is)

  -- the same, where apply leaves a message with the fact, and the message before had it
  pub message_stays : (Q : ℕ → Type 0) (v : ℕ) → v < length g.ids
      → ((a b : ℕ) → Q a → Q b → Q (p.combine a b))
      → IsOptional Q (message_in s.messages v)
      → ((m : ℕ) → IsOptional Q (applied_by p g s v m).again)
      → ((side : Side) (e word : ℕ) (applied : Applied Carry) → e < length g.edges
      → end_at g (opposite side) e ≡ v → turn (end_at g side e) ≡ Some applied
      → takes p.scatter_edges side ≡ true → IsOptional Q
      (p.scatter (near_of g after.values side e word) applied.carry).signal)
      → IsOptional Q (message_in after.messages v)
  message_stays Q v h combines before again scattered = message_keeps Q v h combines
      (by_turn (turn_is v)) scattered
    where
      by_turn : Turn p g s executes v
          → IsOptional Q (message_after (message_in s.messages v) (turn v))
      by_turn (inl idle) = let P : Option (Applied Carry) → Type 0 = λ o.
          IsOptional Q (message_after (message_in s.messages v) o) in subst P (sym idle) before
      by_turn (inr (m, waits, is)) = let P : Option (Applied Carry) → Type 0 = λ o.
          IsOptional Q (message_after (message_in s.messages v) o) in subst P (sym is) (again m)
