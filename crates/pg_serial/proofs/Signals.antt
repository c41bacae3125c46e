-- Who is signalled after an execution, and over how many edges it gathers.
use Rattle.std.proofs.Common.{◌≡◌, ℕ, ◌<◌, ◌≤◌, ◌^◌, Bool, true, false, cond, Option, Some, None, List, [], ◌∷◌, length}
use Rattle.std.proofs.Common.{refl, sym, ◌∙◌, ap, arith, ⊎_elim}
use Rattle.std.specs.Prelude.{◌==◌, ◌||◌, ◌&&◌, is_some, All}
use Rattle.std.specs.List.{AllByRecursion}
use Rattle.std.proofs.lemmas.Bool.{cases_lt, eqb-true, ne_eqb}
use Rattle.std.proofs.lemmas.List.{get_or_past}
use Rattle.std.proofs.lemmas.List.Elements.{recursion_from_All}
use Rattle.std.proofs.lemmas.List.FromFn.{get_or-map-range_with_len, length-range_with_len}
use Rattle.pg_graph.specs.Multigraph.{Multigraph, IsMultigraph, edges_at, edge_numbers, edge_at, is_at, side_at, takes}
use Rattle.pg_graph.proofs.Numbers.{length_filter_within}
use Rattle.pg_law.specs.declared.values.Applied.{Applied}
use Rattle.pg_law.specs.Program.{Program}
use Rattle.pg_law.specs.Configuration.{Configuration, IsFit, message_in, is_signalled}
use Rattle.pg_law.specs.Round.{outcome, outcomes, became_at, message_after, messages_after, values_after, with_signals, join, execution}
use Rattle.pg_serial.specs.declared.scatter.Sent.{Sent}
use Rattle.pg_serial.specs.Journals.{gather_degree}
use Rattle.pg_serial.specs.Sending.{sents_around, IsAddressed, message_with, reaches}
use Rattle.pg_serial.proofs.Touching.{became_elsewhere, messages_sent}

-- an execution gathers over edges of the graph
pub degree_few : {Acc Carry : Type 0} (p : Program Acc Carry) (g : Multigraph) → IsMultigraph g → (u : ℕ) → gather_degree p g u ≤ 2 ^ 24
degree_few p g graph u = omega (
  arith,
  length_filter_within (λ e. takes p.gather_edges (side_at g u e)) (edges_at g u),
  length_filter_within (λ e. is_at u (edge_at g e)) (edge_numbers g),
  length-range_with_len 0 (length g.edges),
  graph.edge_count,
)

join_some : (combine : ℕ → ℕ → ℕ) (a b : Option ℕ) → is_some (join combine a b) ≡ (is_some a || is_some b)
join_some combine None b = refl
join_some combine (Some a) None = refl
join_some combine (Some a) (Some b) = refl

or-assoc : (a b c : Bool) → ((a || b) || c) ≡ (a || (b || c))
or-assoc true b c = refl
or-assoc false b c = refl

or-again : (a b : Bool) → (a || b) ≡ ((a || b) || b)
or-again true b = refl
or-again false true = refl
or-again false false = refl

or-none : (a : Bool) → a ≡ (a || false)
or-none true = refl
or-none false = refl

-- a vertex is signalled where it was, or where a signal was sent to it
pub signalled_with : {Acc Carry : Type 0} (p : Program Acc Carry) (v : ℕ) (m : Option ℕ) (sents : List Sent) → is_some (message_with p v m sents) ≡ (is_some m || reaches v sents)
signalled_with p v m [] = or-none (is_some m)
signalled_with p v m (sent ∷ sents) = signalled_with p v (cond (sent.to == v) (join p.combine m sent.signal) m) sents
    ∙ ap (λ b. b || reaches v sents) (first (sent.to == v) sent.signal) ∙ or-assoc (is_some m) (is_some sent.signal && (sent.to == v)) (reaches v sents)
  where
    first : (to : Bool) (signal : Option ℕ) → is_some (cond to (join p.combine m signal) m) ≡ (is_some m || (is_some signal && to))
    first true None = join_some p.combine m None
    first true (Some x) = join_some p.combine m (Some x)
    first false None = or-none (is_some m)
    first false (Some x) = or-none (is_some m)

-- nothing goes past the vertices
reaches_past : (v n : ℕ) → n ≤ v → (sents : List Sent) → AllByRecursion (λ (sent : Sent). sent.to < n) sents → reaches v sents ≡ false
reaches_past v n past [] all = refl
reaches_past v n past (sent ∷ sents) all = ap (λ b. (is_some sent.signal && b) || reaches v sents) (ne_eqb sent.to v (λ e. absurd (omega (arith, e, past, all.0))))
    ∙ either sent.signal ∙ reaches_past v n past sents all.1
  where
    either : (signal : Option ℕ) → ((is_some signal && false) || reaches v sents) ≡ reaches v sents
    either None = refl
    either (Some m) = refl

module _ {Acc Carry : Type 0} (p : Program Acc Carry) (g : Multigraph) (graph : IsMultigraph g) (s : Configuration) (u : ℕ) (inside : u < length g.ids) (applied : Applied Carry) (is : outcome p g s (λ v. v == u) u ≡ Some applied) where
  abbrev became : List (Option (Applied Carry))
  became = outcomes p g s (λ v. v == u)

  abbrev sents : List Sent
  sents = sents_around p g s.values s.edges u applied

  abbrev before : ℕ → Option ℕ
  before v = message_in (messages_after p g s.messages became) v

  signalled_then : (v : ℕ) → v < length g.ids → is_signalled (execution p g s u) v ≡ (is_some (before v) || reaches v sents)
  unfolding execution
  signalled_then v h = ap is_some (get_or-map-range_with_len (λ v. with_signals p g (values_after p g s.values became) s.edges became v (before v) (edges_at g v)) 0 (length g.ids) v v None h (omega arith)
      ∙ sym (messages_sent p g graph s u inside applied is v (before v)))
      ∙ signalled_with p v (before v) sents

  -- after an execution those are signalled who were, and those to whom it sent; of its own vertex it decides
  pub signals_after : IsFit p g s → IsFit p g (execution p g s u) → All (IsAddressed p (length g.edges) (length g.ids)) sents
      → (v : ℕ) → is_signalled (execution p g s u) v ≡ (cond (v == u) (is_signalled (execution p g s u) u) (is_signalled s v) || reaches v sents)
  signals_after fit fits own v = ⊎_elim (λ h. by_vertex h (v == u) refl) past (cases_lt v (length g.ids))
    where
      by_vertex : v < length g.ids → (b : Bool) → (v == u) ≡ b → is_signalled (execution p g s u) v ≡ (cond b (is_signalled (execution p g s u) u) (is_signalled s v) || reaches v sents)
      by_vertex h true e = signalled_then v h ∙ or-again (is_some (before v)) (reaches v sents)
          ∙ ap (λ b. b || reaches v sents) (sym (signalled_then v h) ∙ ap (is_signalled (execution p g s u)) (eqb-true v u e))
      by_vertex h false e = signalled_then v h ∙ ap (λ o. is_some o || reaches v sents)
          (get_or-map-range_with_len (λ v. message_after (message_in s.messages v) (became_at became v)) 0 (length g.ids) v v None h (omega arith)
          ∙ ap (message_after (message_in s.messages v)) (became_elsewhere p g graph s u inside applied is v h e))

      past : length g.ids ≤ v → is_signalled (execution p g s u) v ≡ (cond (v == u) (is_signalled (execution p g s u) u) (is_signalled s v) || reaches v sents)
      past h = ap is_some (get_or_past (execution p g s u).messages v None (omega (arith, h, fits.messages.count)))
          ∙ ap is_some (sym (get_or_past s.messages v None (omega (arith, h, fit.messages.count))))
          ∙ ap (λ b. cond b (is_signalled (execution p g s u) u) (is_signalled s v)) (sym (ne_eqb v u (λ e. absurd (omega (arith, e, inside, h)))))
          ∙ or-none _
          ∙ ap (λ b. cond (v == u) (is_signalled (execution p g s u) u) (is_signalled s v) || b)
          (sym (reaches_past v (length g.ids) h sents (recursion_from_All (λ (sent : Sent). sent.to < length g.ids) sents (λ i d k. (own i d k).to))))
