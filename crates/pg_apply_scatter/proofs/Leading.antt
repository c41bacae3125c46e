-- What is sent over an edge leads from the old gather to the new one.
use Rattle.std.proofs.Common.{◌≡◌, ℕ, ◌<◌, Bool, true, false, cond, Option, Some, None, List, [], ◌∷◌, length, refl, sym, subst, ◌∙◌, ap, arith}
use Rattle.std.specs.Prelude.{slice_index, fold, filter}
use Rattle.std.specs.List.{AllByRecursion}
use Rattle.std.proofs.lemmas.List.FromFn.{get_or-map-range_with_len}
use Rattle.pg_graph.specs.declared.edge.Side.{Side}
use Rattle.pg_graph.specs.declared.edge.Side.TheVariants.{Source, Target}
use Rattle.pg_graph.specs.declared.edge.VertexInfo.{VertexInfo}
use Rattle.pg_graph.specs.Multigraph.{Multigraph, IsMultigraph, end_at, side_at, edges_at, opposite, takes, info}
use Rattle.pg_graph.proofs.Stored.{edges_at_below, edges_passing_below}
use Rattle.pg_law.specs.declared.values.Datum.{Datum}
use Rattle.pg_law.specs.declared.values.Near.{Near}
use Rattle.pg_law.specs.declared.values.Applied.{Applied}
use Rattle.pg_law.specs.declared.values.Scattered.{Scattered}
use Rattle.pg_law.specs.declared.values.Delta.{Delta}
use Rattle.pg_law.specs.declared.values.Delta.TheVariants.{Nothing, Add, Clear}
use Rattle.pg_law.specs.Values.{one}
use Rattle.pg_law.specs.Program.{Program}
use Rattle.pg_law.specs.Laws.{IsLawful, IsNear, IsOptional, IsDelta, LeadsTo, AddsNothing, KeepsGathers, with_centre, from_other_end, info_at}
use Rattle.pg_law.specs.Configuration.{Configuration, IsFit, AreData, datum_in, message_in}
use Rattle.pg_law.specs.Round.{near_of, gathered, edges_over, fresh, apply_to, outcome, outcomes, became_at, IsBecome, AreApplied, datum_after, IsSent, word_after, scatter_by, from_source, from_target, final_word, values_after, scatter_after}
use Rattle.pg_law.specs.Carries.{carry_in, IsCarried}
use Rattle.pg_law.proofs.Fitting.{near_own, end_within, fresh_own, outcomes_own, values_after_own, source_own, target_own}
use Rattle.pg_law.proofs.Lists.{every}
use Rattle.pg_delta.specs.Deltas.{joined_over, summed_over}
use Rattle.pg_delta.specs.Leading.{IsChange}
use Rattle.pg_delta.proofs.Joining.{deltas_lead_is}
use Rattle.pg_apply_scatter.specs.Sending.{scatter_near}
use Rattle.pg_apply_scatter.proofs.Taking.{from_other}
use Rattle.pg_apply_scatter.proofs.Scattering.{by_carry, folds_agree_on}

-- the delta of a visit
abbrev pub delta_in : {Acc : Type 0} → Option (Scattered Acc) → Delta Acc
delta_in None = Nothing
delta_in (Some scattered) = scattered.delta

-- what a vertex becomes by a message
abbrev applied_with : {Acc Carry : Type 0} → Program Acc Carry → VertexInfo → Datum → Acc → Option ℕ → Option (Applied Carry)
applied_with p v old acc None = None
applied_with p v old acc (Some message) = Some (p.apply v old acc message)

opposite_twice : (side : Side) → opposite (opposite side) ≡ side
opposite_twice Source = refl
opposite_twice Target = refl

module _ {Acc Carry : Type 0} (p : Program Acc Carry) (keeps : KeepsGathers p) where
  -- an edge from the vertex that changed, with its new datum: the other end's gather is led on
  lead : (near : Near) (old : Datum) (acc : Acc) (m : Option ℕ) → IsNear p near → p.IsDatum old → p.IsAcc acc → IsOptional p.IsMessage m → takes p.gather_edges (opposite near.side) ≡ true
      → near.centre ≡ datum_after old (applied_with p (info_at near.side near.edge) old acc m)
      → LeadsTo p.sum (p.gather (from_other_end (with_centre near old))) (delta_in (scatter_near p near (carry_in (applied_with p (info_at near.side near.edge) old acc m)))) (p.gather (from_other_end near))
  lead near old acc None n o a m gathers is = ap (λ d. p.gather (from_other_end (with_centre near d))) (sym is)
  lead near old acc (Some message) n o a m gathers is =
      let applied = p.apply (info_at near.side near.edge) old acc message in
      let covered : takes p.scatter_edges near.side ≡ true = keeps.covers near.side gathers in
      let Leads : Datum → Type 0 = λ d. LeadsTo p.sum (p.gather (from_other_end (with_centre near old))) (p.scatter (with_centre near d) applied.carry).delta (p.gather (from_other_end (with_centre near d))) in
      let led : Leads near.centre = subst Leads (sym is) (keeps.change near old acc message n o a m gathers).leads in
      let Sent : Bool → Type 0 = λ t. LeadsTo p.sum (p.gather (from_other_end (with_centre near old))) (delta_in (cond t (Some (p.scatter near applied.carry)) None)) (p.gather (from_other_end near)) in
      subst Sent (sym covered) led

  -- an end that doesn't gather over the edge is told nothing new
  quiet : (near : Near) (carry : Option Carry) → IsNear p near → IsCarried p carry → takes p.gather_edges (opposite near.side) ≡ false → LeadsTo p.sum p.empty (delta_in (scatter_near p near carry)) p.empty
  quiet near None n c silent = refl
  quiet near (Some carry) n c silent = chosen (takes p.scatter_edges near.side) refl
    where
      still : (d : Delta Acc) → AddsNothing d → LeadsTo p.sum p.empty d p.empty
      still Nothing h = refl
      still (Add d) h = absurd h
      still Clear h = tt

      chosen : (t : Bool) → takes p.scatter_edges near.side ≡ t → LeadsTo p.sum p.empty (delta_in (cond t (Some (p.scatter near carry)) None)) p.empty
      chosen true taken = still (p.scatter near carry).delta (keeps.idle near carry n c taken silent)
      chosen false taken = refl

module _ {Acc Carry : Type 0} (p : Program Acc Carry) (law : IsLawful p) where
  -- a sum over what passes, or of nothing for what doesn't
  sum_skips : (q : ℕ → Bool) (f : ℕ → Acc) (acc : Acc) (edges : List ℕ) → p.IsAcc acc → AllByRecursion (λ e. p.IsAcc (f e)) edges
      → fold (λ a e. p.sum a (cond (q e) (f e) p.empty)) acc edges ≡ fold (λ a e. p.sum a (f e)) acc (filter q edges)
  sum_skips q f acc [] own all = refl
  sum_skips q f acc (e ∷ edges) own all = chosen (q e) (sum_skips q f (p.sum acc (f e)) edges (law.closed.sum acc (f e) own all.0) all.1) (sum_skips q f acc edges own all.1)
    where
      chosen : (t : Bool) → fold (λ a e. p.sum a (cond (q e) (f e) p.empty)) (p.sum acc (f e)) edges ≡ fold (λ a e. p.sum a (f e)) (p.sum acc (f e)) (filter q edges)
          → fold (λ a e. p.sum a (cond (q e) (f e) p.empty)) acc edges ≡ fold (λ a e. p.sum a (f e)) acc (filter q edges)
          → fold (λ a e. p.sum a (cond (q e) (f e) p.empty)) (p.sum acc (cond t (f e) p.empty)) edges ≡ fold (λ a e. p.sum a (f e)) acc (cond t (e ∷ filter q edges) (filter q edges))
      chosen true added passed = added
      chosen false added passed = ap (λ a. fold (λ a e. p.sum a (cond (q e) (f e) p.empty)) a edges) (law.monoidal.sum_comm acc p.empty own law.closed.empty ∙ law.monoidal.sum_unit acc own) ∙ passed

  delta_own_in : (o : Option (Scattered Acc)) → IsSent p o → IsDelta p.IsAcc (delta_in o)
  delta_own_in None own = tt
  delta_own_in (Some scattered) own = own.delta

module _ {Acc Carry : Type 0} (p : Program Acc Carry) (law : IsLawful p) (keeps : KeepsGathers p) (g : Multigraph) (ok : IsMultigraph g) (s : Configuration) (fit : IsFit p g s) where
  abbrev became : List (Option (Applied Carry))
  became = outcomes p g s (λ v. true)

  abbrev values : List Datum
  values = values_after p g s.values became

  applied : AreApplied p g became
  applied = outcomes_own p g law ok s (λ v. true) fit

  own_values : AreData p g values
  own_values = values_after_own p g law ok s.values became fit.values applied

  abbrev word : ℕ → ℕ
  word e = slice_index s.edges e

  abbrev became_end : Side → ℕ → Option (Applied Carry)
  became_end side e = became_at became (end_at g side e)

  near_after : (side : Side) (e : ℕ) → e < length g.edges → IsNear p (near_of g values side e (word e))
  near_after side e h = near_own p g law ok values side e (word e) own_values h (fit.words.each e h)

  -- a scatter leaves the word
  word_stays : (side : Side) (e : ℕ) → e < length g.edges → word_after (word e) (scatter_by p g values side e (word e) (became_end side e)) ≡ word e
  word_stays side e h = stays (became_end side e) (applied.each (end_at g side e) (end_within p g law ok side e h))
    where
      chosen : (carry : Carry) → p.IsCarry carry → (t : Bool) → word_after (word e) (cond t (Some (p.scatter (near_of g values side e (word e)) carry)) None) ≡ word e
      chosen carry own true = keeps.word (near_of g values side e (word e)) carry (near_after side e h) own
      chosen carry own false = refl

      stays : (o : Option (Applied Carry)) → IsBecome p o → word_after (word e) (scatter_by p g values side e (word e) o) ≡ word e
      stays None own = refl
      stays (Some a) own = chosen a.carry own.carry (takes p.scatter_edges side)

  target_stays : (e : ℕ) → e < length g.edges → from_target p g values s.edges became e ≡ scatter_by p g values Target e (word e) (became_end Target e)
  target_stays e h = ap (λ w. scatter_by p g values Target e w (became_end Target e)) (word_stays Source e h)

  final_stays : (e : ℕ) → e < length g.edges → final_word p g values s.edges became e ≡ word e
  final_stays e h = ap (λ w. word_after w (from_target p g values s.edges became e)) (word_stays Source e h) ∙ ap (word_after (word e)) (target_stays e h) ∙ word_stays Target e h

  -- what an edge tells the end at this side
  abbrev pub delta_at : Side → ℕ → Delta Acc
  delta_at side e = from_other side (delta_in (from_source p g values s.edges became e)) (delta_in (from_target p g values s.edges became e))

  from_other_end_is : (side : Side) (e : ℕ) → e < length g.edges → delta_at side e ≡ delta_in (scatter_near p (near_of g values (opposite side) e (word e)) (carry_in (became_end (opposite side) e)))
  from_other_end_is Source e h = ap delta_in (target_stays e h ∙ sym (by_carry p g values Target e (word e) (became_end Target e)))
  from_other_end_is Target e h = ap delta_in (sym (by_carry p g values Source e (word e) (became_end Source e)))

  pub delta_own : (side : Side) (e : ℕ) → e < length g.edges → IsDelta p.IsAcc (delta_at side e)
  delta_own Source e h = delta_own_in p law _ (target_own p g law ok values s.edges became own_values fit.words applied e h)
  delta_own Target e h = delta_own_in p law _ (source_own p g law ok values s.edges became own_values fit.words applied e h)

  -- what an end of the edge became
  became_is : (side : Side) (e : ℕ) → e < length g.edges → let u = end_at g side e in became_end side e ≡ applied_with p (info g u) (datum_in s.values u) (fresh p g s u) (message_in s.messages u)
  became_is side e h = let u = end_at g side e in
      get_or-map-range_with_len (outcome p g s (λ v. true)) 0 (length g.ids) u u None (end_within p g law ok side e h) (omega arith) ∙ by_message u (message_in s.messages u)
    where
      by_message : (u : ℕ) (m : Option ℕ) → apply_to p g s u m ≡ applied_with p (info g u) (datum_in s.values u) (fresh p g s u) m
      by_message u None = refl
      by_message u (Some m) = refl

  value_is : (side : Side) (e : ℕ) → e < length g.edges → datum_in values (end_at g side e) ≡ datum_after (datum_in s.values (end_at g side e)) (became_end side e)
  value_is side e h = let u = end_at g side e in
      get_or-map-range_with_len (λ v. datum_after (datum_in s.values v) (became_at became v)) 0 (length g.ids) u u (one 0) (end_within p g law ok side e h) (omega arith)

  leads_from : (side : Side) (e : ℕ) → e < length g.edges → takes p.gather_edges (opposite side) ≡ true
      → LeadsTo p.sum (p.gather (from_other_end (with_centre (near_of g values side e (word e)) (datum_in s.values (end_at g side e))))) (delta_in (scatter_near p (near_of g values side e (word e)) (carry_in (became_end side e)))) (p.gather (from_other_end (near_of g values side e (word e))))
  leads_from side e h gathers = let u = end_at g side e in
      let below = end_within p g law ok side e h in
      let near = near_of g values side e (word e) in
      let now : became_end side e ≡ applied_with p (info_at side near.edge) (datum_in s.values u) (fresh p g s u) (message_in s.messages u) = became_is side e h ∙ ap (λ v. applied_with p v (datum_in s.values u) (fresh p g s u) (message_in s.messages u)) (sym (info_is side)) in
      let Leads : Option (Applied Carry) → Type 0 = λ o. LeadsTo p.sum (p.gather (from_other_end (with_centre near (datum_in s.values u)))) (delta_in (scatter_near p near (carry_in o))) (p.gather (from_other_end near)) in
      subst Leads (sym now) (lead p keeps near (datum_in s.values u) (fresh p g s u) (message_in s.messages u) (near_after side e h) (fit.values.each u below) (fresh_own p g law ok s u fit) (fit.messages.each u below) gathers
      (value_is side e h ∙ ap (datum_after (datum_in s.values u)) now))
    where
      info_is : (side : Side) → info_at side (near_of g values side e (word e)).edge ≡ info g (end_at g side e)
      info_is Source = refl
      info_is Target = refl

  -- the gather at an end is led on by what the other end sends
  leads_at : (side : Side) (e : ℕ) → e < length g.edges → takes p.gather_edges side ≡ true → LeadsTo p.sum (p.gather (near_of g s.values side e (word e))) (delta_at side e) (p.gather (near_of g values side e (word e)))
  leads_at side e h gathers = let Leads : Delta Acc → Type 0 = λ d. LeadsTo p.sum (p.gather (near_of g s.values side e (word e))) d (p.gather (near_of g values side e (word e))) in
      subst Leads (sym (from_other_end_is side e h)) (by_side side gathers)
    where
      own : (side : Side) → p.gather (with_centre (near_of g s.values side e (word e)) (datum_in values (end_at g side e))) ≡ p.gather (near_of g s.values side e (word e))
      own side = keeps.own (near_of g s.values side e (word e)) (datum_in values (end_at g side e)) (near_own p g law ok s.values side e (word e) fit.values h (fit.words.each e h)) (own_values.each (end_at g side e) (end_within p g law ok side e h))

      by_side : (side : Side) → takes p.gather_edges side ≡ true → LeadsTo p.sum (p.gather (near_of g s.values side e (word e))) (delta_in (scatter_near p (near_of g values (opposite side) e (word e)) (carry_in (became_end (opposite side) e)))) (p.gather (near_of g values side e (word e)))
      by_side Source t = let Leads : Acc → Type 0 = λ a. LeadsTo p.sum a (delta_in (scatter_near p (near_of g values Target e (word e)) (carry_in (became_end Target e)))) (p.gather (near_of g values Source e (word e))) in
          subst Leads (own Source) (leads_from Target e h t)
      by_side Target t = let Leads : Acc → Type 0 = λ a. LeadsTo p.sum a (delta_in (scatter_near p (near_of g values Source e (word e)) (carry_in (became_end Source e)))) (p.gather (near_of g values Target e (word e))) in
          subst Leads (own Target) (leads_from Source e h t)

  -- over each edge of a vertex its gather changes so; where it doesn't gather, it adds nothing
  abbrev before : ℕ → ℕ → Acc
  before v e = cond (takes p.gather_edges (side_at g v e)) (gathered p g s.values s.edges v e) p.empty

  abbrev after : ℕ → ℕ → Acc
  after v e = cond (takes p.gather_edges (side_at g v e)) (gathered p g values s.edges v e) p.empty

  abbrev pub delta_to : ℕ → ℕ → Delta Acc
  delta_to v e = delta_at (side_at g v e) e

  changes : (v e : ℕ) → e < length g.edges → IsChange p (before v e) (delta_to v e) (after v e)
  changes v e h = by_test (takes p.gather_edges side) refl
    where
      side : Side
      side = side_at g v e

      by_test : (t : Bool) → takes p.gather_edges (side_at g v e) ≡ t → IsChange p (cond t (gathered p g s.values s.edges v e) p.empty) (delta_to v e) (cond t (gathered p g values s.edges v e) p.empty)
      by_test true gathers = record {
        before_own = law.closed.gather _ (near_own p g law ok s.values (side_at g v e) e (word e) fit.values h (fit.words.each e h));
        delta_own = delta_own (side_at g v e) e h;
        after_own = law.closed.gather _ (near_after (side_at g v e) e h);
        leads = leads_at (side_at g v e) e h gathers;
      }
      by_test false silent = let Leads : Delta Acc → Type 0 = λ d. LeadsTo p.sum p.empty d p.empty in record {
        before_own = law.closed.empty;
        delta_own = delta_own (side_at g v e) e h;
        after_own = law.closed.empty;
        leads = subst Leads (sym (from_other_end_is (side_at g v e) e h))
            (quiet p keeps (near_of g values (opposite (side_at g v e)) e (word e)) (carry_in (became_end (opposite (side_at g v e)) e)) (near_after (opposite (side_at g v e)) e h)
            (carried (became_end (opposite (side_at g v e)) e) (applied.each (end_at g (opposite (side_at g v e)) e) (end_within p g law ok (opposite (side_at g v e)) e h)))
            (ap (takes p.gather_edges) (opposite_twice (side_at g v e)) ∙ silent));
      }
        where
          carried : (o : Option (Applied Carry)) → IsBecome p o → IsCarried p (carry_in o)
          carried None own = tt
          carried (Some a) own = own.carry

  gathered_own : (vs : List Datum) → AreData p g vs → (v e : ℕ) → e < length g.edges → p.IsAcc (gathered p g vs s.edges v e)
  gathered_own vs own v e h = law.closed.gather _ (near_own p g law ok vs (side_at g v e) e (word e) own h (fit.words.each e h))

  fresh_before : (v : ℕ) → summed_over p (before v) (edges_at g v) ≡ fresh p g s v
  fresh_before v = sum_skips p law (λ e. takes p.gather_edges (side_at g v e)) (gathered p g s.values s.edges v) p.empty (edges_at g v) law.closed.empty
      (every (λ e. e < length g.edges) (λ e. p.IsAcc (gathered p g s.values s.edges v e)) (gathered_own s.values fit.values v) (edges_at g v) (edges_at_below g v))

  fresh_after : (v : ℕ) → summed_over p (after v) (edges_at g v) ≡ fresh p g (scatter_after p g s became) v
  fresh_after v = sum_skips p law (λ e. takes p.gather_edges (side_at g v e)) (gathered p g values s.edges v) p.empty (edges_at g v) law.closed.empty
      (every (λ e. e < length g.edges) (λ e. p.IsAcc (gathered p g values s.edges v e)) (gathered_own values own_values v) (edges_at g v) (edges_at_below g v))
      ∙ folds_agree_on (λ a e. p.sum a (gathered p g values s.edges v e)) (λ a e. p.sum a (gathered p g values (scatter_after p g s became).edges v e)) (edges_over p.gather_edges g v)
      (every (λ e. e < length g.edges) (λ e. (a : Acc) → p.sum a (gathered p g values s.edges v e) ≡ p.sum a (gathered p g values (scatter_after p g s became).edges v e)) (λ e h a. ap (λ w. p.sum a (p.gather (near_of g values (side_at g v e) e w))) (word_after_is e h)) (edges_over p.gather_edges g v) (edges_passing_below g (λ e. takes p.gather_edges (side_at g v e)) v)) p.empty
    where
      word_after_is : (e : ℕ) → e < length g.edges → word e ≡ slice_index (scatter_after p g s became).edges e
      word_after_is e h = sym (final_stays e h) ∙ sym (get_or-map-range_with_len (final_word p g values s.edges became) 0 (length g.edges) e e 0 h (omega arith))

  -- all deltas of a round lead from the fresh gather before to the one after
  pub fresh_leads : (v : ℕ) → LeadsTo p.sum (fresh p g s v) (joined_over p (delta_to v) (edges_at g v)) (fresh p g (scatter_after p g s became) v)
  fresh_leads v = let led = deltas_lead_is p law (before v) (after v) (delta_to v) (edges_at g v) (every (λ e. e < length g.edges) (λ e. IsChange p (before v e) (delta_to v e) (after v e)) (changes v) (edges_at g v) (edges_at_below g v)) in
      let From : Acc → Type 0 = λ a. LeadsTo p.sum a (joined_over p (delta_to v) (edges_at g v)) (summed_over p (after v) (edges_at g v)) in
      let To : Acc → Type 0 = λ a. LeadsTo p.sum (fresh p g s v) (joined_over p (delta_to v) (edges_at g v)) a in
      subst To (fresh_after v) (subst From (fresh_before v) led)
