-- Each step of components keeps what their meaning rests on.
use Rattle.std.proofs.Common.{◌≡◌, ℕ, ◌<◌, ◌≤◌, ◌⊎◌, Bool, true, Some, None, length, refl, sym}
use Rattle.std.proofs.Common.{◌∙◌, ap, subst, arith, inl, inr}
use Rattle.std.specs.Prelude.{slice_index, is_some, min, nat_lt, cond}
use Rattle.std.proofs.lemmas.Bool.{lt-ltb}
use Rattle.pg_graph.specs.declared.edge.Side.{Side}
use Rattle.pg_graph.specs.Multigraph.{Multigraph, IsMultigraph, end_at, opposite}
use Rattle.pg_law.specs.declared.values.Datum.{Datum}
use Rattle.pg_law.specs.Words.{greatest}
use Rattle.pg_law.specs.Laws.{IsOptional}
use Rattle.pg_law.specs.Configuration.{Configuration, datum_in, message_in, is_signalled}
use Rattle.pg_law.specs.Configuration.{start_state}
use Rattle.pg_law.specs.Round.{fresh, outcome}
use Rattle.pg_law.proofs.Choices.{sent_own}
use Rattle.pg_steps.specs.Step.{step, applied_by, Executes, Turn}
use Rattle.pg_steps.proofs.Ends.{opposite_twice, ends_within}
use Rattle.pg_steps.proofs.Gathering.{fresh_keeps, fresh_reaches}
use Rattle.pg_steps.proofs.Stepping.{turn_is, datum_kept, datum_new, stays_signalled}
use Rattle.pg_steps.proofs.Stepping.{scatter_wakes, message_stays}
use Rattle.pg_steps.proofs.Keeping.{start_datum, start_message}
use Rattle.pg_paths.specs.Components.{components}
use Rattle.pg_paths.specs.Weak.{IsIdNear}
use Rattle.pg_paths.proofs.Joining.{joined_self, near_more, near_small, min_either}

abbrev pub label : Configuration → ℕ → ℕ
label s v = (datum_in s.values v).first

-- labels and messages are ids of the component, no label is above the vertex's own id, and of an
-- edge the end with the greater label is signalled
pub record IsHeard (g : Multigraph) (s : Configuration) : Type 0 where
  pub labels : (v : ℕ) → v < length g.ids → IsIdNear g v (label s v)
  pub messages : (v : ℕ) → v < length g.ids → IsOptional (IsIdNear g v) (message_in s.messages v)
  pub own : (v : ℕ) → v < length g.ids → label s v ≤ slice_index g.ids v
  pub greater : (e : ℕ) (side : Side) → e < length g.edges
      → label s (end_at g side e) < label s (end_at g (opposite side) e)
      → is_signalled s (end_at g (opposite side) e) ≡ true

pub start_heard : (g : Multigraph) → IsMultigraph g → IsHeard g (start_state components g)
start_heard g graph = record {
  labels = λ v h. subst (IsIdNear g v) (sym (first v h)) (v, h, refl, joined_self g v);
  messages = λ v h. subst (IsOptional (IsIdNear g v)) (sym (start_message components g v h))
      (v, h, refl, joined_self g v);
  own = λ v h. omega (arith, first v h);
  greater = λ e side h less. ap is_some
      (start_message components g _ (ends_within g graph (opposite side) e h));
}
  where
    first : (v : ℕ) → v < length g.ids
        → label (start_state components g) v ≡ slice_index g.ids v
    first v h = ap (λ (d : Datum). d.first) (start_datum components g v h)

module _ (g : Multigraph) (graph : IsMultigraph g) (s : Configuration) (heard : IsHeard g s)
    (executes : ℕ → Bool) where
  abbrev after : Configuration
  after = step components g s executes

  abbrev Turns : ℕ → Type 0
  Turns v = Turn components g s executes v

  turns : (v : ℕ) → Turns v
  turns v = turn_is components g graph s executes v

  label_kept : (v : ℕ) → v < length g.ids → outcome components g s executes v ≡ None
      → label after v ≡ label s v
  label_kept v h idle = ap (λ (d : Datum). d.first)
      (datum_kept components g graph s executes v h idle)

  label_new : (v m : ℕ) → v < length g.ids
      → outcome components g s executes v ≡ Some (applied_by components g s v m)
      → label after v ≡ min (label s v) (min (fresh components g s v) m)
  label_new v m h is = ap (λ (d : Datum). d.first)
      (datum_new components g graph s executes v (applied_by components g s v m) h is)

  pub label_falls : (v : ℕ) → v < length g.ids → label after v ≤ label s v
  label_falls v h = by_turn (turns v)
    where
      by_turn : Turns v → label after v ≤ label s v
      by_turn (inl idle) = omega (arith, label_kept v h idle)
      by_turn (inr (m, waits, is)) = omega (arith, label_new v m h is)

  -- a vertex gathers no more than a neighbour's label
  fresh_below : (side : Side) (e : ℕ) → e < length g.edges
      → fresh components g s (end_at g side e) ≤ label s (end_at g (opposite side) e)
  fresh_below side e h = fresh_reaches components g graph s
      (λ (a : ℕ). a ≤ label s (end_at g (opposite side) e)) side e h refl
      (λ a b before. omega arith) (λ a. omega arith)

  -- and it hears of ids of its component alone
  fresh_near : (v : ℕ) → (fresh components g s v ≡ greatest) ⊎ IsIdNear g v (fresh components g s v)
  fresh_near v = fresh_keeps components g graph s (λ (a : ℕ). (a ≡ greatest) ⊎ IsIdNear g v a) v
      (inl refl) (λ a side e h is gathers before.
      min_either (λ (a : ℕ). (a ≡ greatest) ⊎ IsIdNear g v a) a
      (label s (end_at g (opposite side) e)) before (inr (over side e h is)))
    where
      over : (side : Side) (e : ℕ) → e < length g.edges → end_at g side e ≡ v
          → IsIdNear g v (label s (end_at g (opposite side) e))
      over side e h is = let id = label s (end_at g (opposite side) e) in
          subst (λ (w : ℕ). IsIdNear g w id) is
          (subst (λ (i : Side). IsIdNear g (end_at g i e) id) (opposite_twice side)
          (near_more g e (opposite side) id h
          (heard.labels _ (ends_within g graph (opposite side) e h))))

  labels_near : (v : ℕ) → v < length g.ids → IsIdNear g v (label after v)
  labels_near v h = by_turn (turns v)
    where
      with_fresh : (f n : ℕ) → IsIdNear g v n → (f ≡ greatest) ⊎ IsIdNear g v f
          → IsIdNear g v (min n f)
      with_fresh f n known (inl most) = let small = near_small g graph v n known in
          let e : min n f ≡ n = omega (arith, small, most) in subst (IsIdNear g v) (sym e) known
      with_fresh f n known (inr near) = min_either (IsIdNear g v) n f known near

      by_turn : Turns v → IsIdNear g v (label after v)
      by_turn (inl idle) = subst (IsIdNear g v) (sym (label_kept v h idle)) (heard.labels v h)
      by_turn (inr (m, waits, is)) = let n = min (label s v) m in let f = fresh components g s v in
          let known : IsIdNear g v n = min_either (IsIdNear g v) (label s v) m (heard.labels v h)
          (subst (IsOptional (IsIdNear g v)) waits (heard.messages v h)) in
          let same : min (label s v) (min f m) ≡ min n f = omega arith in
          subst (IsIdNear g v) (sym (label_new v m h is ∙ same))
          (with_fresh f n known (fresh_near v))

  messages_near : (v : ℕ) → v < length g.ids
      → IsOptional (IsIdNear g v) (message_in after.messages v)
  messages_near v h = message_stays components g graph s executes (IsIdNear g v) v h
      (min_either (IsIdNear g v)) (heard.messages v h) (λ m. tt)
      (λ side e word applied below is runs scatters. let id = label after (end_at g side e) in
      sent_own (IsIdNear g v) (nat_lt id (label after (end_at g (opposite side) e))) id
      (subst (λ (w : ℕ). IsIdNear g w id) is
      (near_more g e side id below (labels_near _ (ends_within g graph side e below)))))

  -- a vertex that executed signals a neighbour of greater label
  signals : (side : Side) (e : ℕ) → e < length g.edges
      → Executes components g s executes (end_at g side e)
      → label after (end_at g side e) < label after (end_at g (opposite side) e)
      → is_signalled after (end_at g (opposite side) e) ≡ true
  signals side e h (m, waits, is) less = scatter_wakes components g graph s executes side e
      (applied_by components g s (end_at g side e) m) h is refl (λ word. ap (λ (b : Bool).
      is_some (cond b (Some (label after (end_at g side e))) None)) (lt-ltb _ _ less))

  -- one that executed has no greater label than a neighbour had
  pub hears : (side : Side) (e : ℕ) → e < length g.edges
      → Executes components g s executes (end_at g (opposite side) e)
      → label after (end_at g (opposite side) e) ≤ label s (end_at g side e)
  hears side e h (m, waits, is) = let v = end_at g (opposite side) e in
      let below = subst (λ (i : Side). fresh components g s v ≤ label s (end_at g i e))
      (opposite_twice side) (fresh_below (opposite side) e h) in
      omega (arith, label_new v m (ends_within g graph (opposite side) e h) is, below)

  greater_signalled : (e : ℕ) (side : Side) → e < length g.edges
      → label after (end_at g side e) < label after (end_at g (opposite side) e)
      → is_signalled after (end_at g (opposite side) e) ≡ true
  greater_signalled e side h less = by_turns (turns (end_at g side e))
      (turns (end_at g (opposite side) e))
    where
      here : end_at g side e < length g.ids
      here = ends_within g graph side e h

      there : end_at g (opposite side) e < length g.ids
      there = ends_within g graph (opposite side) e h

      by_turns : Turns (end_at g side e) → Turns (end_at g (opposite side) e)
          → is_signalled after (end_at g (opposite side) e) ≡ true
      by_turns (inr runs) other = signals side e h runs less
      by_turns (inl idle) (inr runs) = absurd (omega (
        arith,
        less,
        label_kept (end_at g side e) here idle,
        hears side e h runs,
      ))
      by_turns (inl idle) (inl rests) =
          let before : label s (end_at g side e) < label s (end_at g (opposite side) e)
          = omega (arith, less, label_kept _ here idle, label_kept _ there rests) in
          stays_signalled components g graph s executes (end_at g (opposite side) e) there rests
          (heard.greater e side h before)

  pub step_heard : IsHeard g after
  step_heard = record {
    labels = labels_near;
    messages = messages_near;
    own = λ v h. omega (arith, label_falls v h, heard.own v h);
    greater = greater_signalled;
  }
