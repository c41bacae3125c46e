-- What a vertex takes of all that is sent: the part of each of its edges.
use Rattle.std.proofs.Common.{◌≡◌, ◌≢◌, ℕ, ◌<◌, Bool, true, false, cond, ◌==◌, ◌||◌, Option, Some, None, List, [], ◌∷◌, ◌++◌, length, refl, sym, ◌∙◌, ap}
use Rattle.std.specs.Prelude.{filter, fold}
use Rattle.std.specs.List.{flat_map, AllByRecursion}
use Rattle.std.proofs.lemmas.Bool.{eqb-true}
use Rattle.std.proofs.lemmas.List.Sums.{fold-append}
use Rattle.pg_graph.specs.declared.edge.Side.{Side}
use Rattle.pg_graph.specs.declared.edge.Side.TheVariants.{Source, Target}
use Rattle.pg_graph.specs.Multigraph.{Multigraph, IsMultigraph, edge_at, end_at, side_at, is_at}
use Rattle.pg_law.specs.declared.values.Scattered.{Scattered}
use Rattle.pg_law.specs.declared.values.Delta.{Delta}
use Rattle.pg_apply_scatter.specs.declared.sent.Sent.{Sent}
use Rattle.pg_apply_scatter.specs.Sending.{sent_to}

-- what is sent over an edge whose visits gave these
abbrev pub over_edge : {Acc : Type 0} → Multigraph → (ℕ → Option (Scattered Acc)) → (ℕ → Option (Scattered Acc)) → ℕ → List (Sent Acc)
over_edge g source target e = sent_to (end_at g Target e) (source e) ++ sent_to (end_at g Source e) (target e)

-- what an end gets, of what the source and the target send
abbrev pub from_other : {X : Type 0} → Side → X → X → X
from_other Source source target = target
from_other Target source target = source

-- a value that is taken on, one part after another; an end that sends nothing sends the empty part
module _ {Acc B X : Type 0} (op : B → X → B) (empty : X) (part_of : Option ℕ → Delta Acc → X) (idle : (b : B) → op b empty ≡ b) where
  abbrev pub told : Option (Scattered Acc) → X
  told None = empty
  told (Some scattered) = part_of scattered.signal scattered.delta

  abbrev pub taking : ℕ → B → Sent Acc → B
  taking v b sent = cond (sent.to == v) (op b (part_of sent.signal sent.delta)) b

  take_one : (v to : ℕ) (b : B) (o : Option (Scattered Acc)) → fold (taking v) b (sent_to to o) ≡ cond (to == v) (op b (told o)) b
  take_one v to b None = nothing (to == v)
    where
      nothing : (t : Bool) → b ≡ cond t (op b empty) b
      nothing true = sym (idle b)
      nothing false = refl
  take_one v to b (Some scattered) = refl

  -- an edge between two vertices
  take_two : (v src dst : ℕ) (b : B) (o t : Option (Scattered Acc)) → src ≢ dst → fold (taking v) b (sent_to dst o ++ sent_to src t) ≡ cond ((src == v) || (dst == v)) (op b (from_other (cond (src == v) Source Target) (told o) (told t))) b
  take_two v src dst b o t apart = fold-append (taking v) b (sent_to dst o) (sent_to src t) ∙ take_one v src (fold (taking v) b (sent_to dst o)) t
      ∙ ap (λ a. cond (src == v) (op a (told t)) a) (take_one v dst b o) ∙ by_ends (src == v) (dst == v) refl refl
    where
      by_ends : (x y : Bool) → (src == v) ≡ x → (dst == v) ≡ y
          → cond x (op (cond y (op b (told o)) b) (told t)) (cond y (op b (told o)) b) ≡ cond (x || y) (op b (from_other (cond x Source Target) (told o) (told t))) b
      by_ends true true is_src is_dst = absurd (apart (eqb-true src v is_src ∙ sym (eqb-true dst v is_dst)))
      by_ends true false is_src is_dst = refl
      by_ends false true is_src is_dst = refl
      by_ends false false is_src is_dst = refl

  module _ (g : Multigraph) (ok : IsMultigraph g) (source target : ℕ → Option (Scattered Acc)) (v : ℕ) where
    -- what a vertex takes over an edge at it
    abbrev pub part_over : ℕ → X
    part_over e = from_other (side_at g v e) (told (source e)) (told (target e))

    -- of all edges, the vertex takes its own
    pub take_edges : (b : B) (edges : List ℕ) → AllByRecursion (λ e. e < length g.edges) edges
        → fold (taking v) b (flat_map (over_edge g source target) edges) ≡ fold (λ a e. op a (part_over e)) b (filter (λ e. is_at v (edge_at g e)) edges)
    take_edges b [] below = refl
    take_edges b (e ∷ edges) below = fold-append (taking v) b (over_edge g source target e) (flat_map (over_edge g source target) edges)
        ∙ ap (λ a. fold (taking v) a (flat_map (over_edge g source target) edges)) (take_two v (end_at g Source e) (end_at g Target e) b (source e) (target e) (ok.edge e below.0).apart)
        ∙ by_test (is_at v (edge_at g e)) (take_edges (op b (part_over e)) edges below.1) (take_edges b edges below.1)
      where
        more : List ℕ
        more = filter (λ e. is_at v (edge_at g e)) edges

        by_test : (t : Bool) → fold (taking v) (op b (part_over e)) (flat_map (over_edge g source target) edges) ≡ fold (λ a e. op a (part_over e)) (op b (part_over e)) more
            → fold (taking v) b (flat_map (over_edge g source target) edges) ≡ fold (λ a e. op a (part_over e)) b more
            → fold (taking v) (cond t (op b (part_over e)) b) (flat_map (over_edge g source target) edges) ≡ fold (λ a e. op a (part_over e)) b (cond t (e ∷ more) more)
        by_test true taken passed = taken
        by_test false taken passed = passed
