-- Edges whose ends are ids: as ids are added, and as their ends become numbers.
use Rattle.std.proofs.Common.{◌≡◌, ℕ, ◌<◌, ◌≤◌, ◌^◌, List, [], ◌∷◌, ◌++◌, length, get_or, refl, sym, ◌∙◌, ap, inl, inr, arith}
use Rattle.std.specs.Prelude.{nat_eq, All, map}
use Rattle.std.specs.List.{list_any, IsDistinct}
use Rattle.std.specs.List.Sorted.{IsPermutation, IsStrictlyIncreasing}
use Rattle.std.proofs.lemmas.Bool.{cases_Bool}
use Rattle.std.proofs.lemmas.List.{length_push, length-map, get_or-map, map_push}
use Rattle.std.proofs.lemmas.List.Elements.{All-head, All-tail, All-map}
use Rattle.std.proofs.lemmas.List.Sorted.{list_any-IsPermutation}
use Rattle.pg_base.specs.declared.limits.Limits.{Limits}
use Rattle.pg_base.specs.Limits.{IsWithinStandard}
use Rattle.pg_graph.specs.declared.edge.Edge.{Edge}
use Rattle.pg_graph.specs.Multigraph.{IsMultigraph, multigraph}
use Rattle.pg_graph.specs.Sighted.{rank_among}
use Rattle.pg_graph.specs.Building.{Building, building, with_id, named_edge, named, spelled, ranked, IsBuilding, IsPlaced, AreEndsAmong}
use Rattle.pg_graph.proofs.Built.{distinct_with, all_with, named_still, among, numbered}
use Rattle.pg_graph.proofs.Sightings.{ranked_at}

-- the room in what is seen is that in what is kept
pub room_for : (b : Building) (limits : Limits) (ids : List ℕ) (edges : List Edge) (loops : ℕ) → building limits ids (map spelled edges) loops ≡ b → length b.edges < b.limits.edges → length edges < limits.edges
room_for b limits ids edges loops is below = omega (arith, ap (λ (x : Building). length x.edges) is, ap (λ (x : Building). x.limits.edges) is, length-map edges spelled, below)

-- nothing was added yet
pub nothing_built : (limits : Limits) → IsWithinStandard limits → IsBuilding (building limits [] [] 0)
unfolding IsDistinct
nothing_built limits within = record {
  limits = within;
  distinct = tt;
  id = λ k d h. absurd (omega (arith, h));
  edges = λ k d h. absurd (omega (arith, h));
  vertex_count = omega arith;
  edge_count = omega arith;
}

-- one more id
pub built_with : (limits : Limits) (ids : List ℕ) (id : ℕ) (edges : List Edge) (loops : ℕ) → IsBuilding (building limits ids (map spelled edges) loops) → id < 2 ^ 32 → length (with_id ids id) ≤ limits.vertices
    → IsBuilding (building limits (with_id ids id) (map spelled edges) loops)
built_with limits ids id edges loops old small fits =
    let Small : ℕ → Type 0 = λ id. id < 2 ^ 32 in
    record {
      limits = old.limits;
      distinct = distinct_with ids id old.distinct;
      id = all_with Small ids id old.id small;
      edges = λ k d h. named_still ids id (get_or (map spelled edges) k d) (old.edges k d h);
      vertex_count = fits;
      edge_count = old.edge_count;
    }

-- one more id below the limit
pub with_within : (ids : List ℕ) (id limit : ℕ) → length ids < limit → length (with_id ids id) ≤ limit
with_within ids id limit room = elim (cases_Bool (list_any (nat_eq id) ids)) [
  | inl here ↦ rw here (omega arith)
  | inr absent ↦ rw absent (omega (arith, length_push ids id))
]

-- one more edge, spelled
pub spelled_more : (edges room items : List Edge) (edge : Edge) → room ≡ edges → items ≡ room ++ edge ∷ [] → map spelled items ≡ map spelled edges ++ spelled edge ∷ []
spelled_more edges room items edge room_is items_are = ap (map spelled) (items_are ∙ ap (λ es. es ++ edge ∷ []) room_is) ∙ map_push spelled edges edge

-- edges that are numbered by where their ends stand keep their names
module _ (sorted : List ℕ) where
  pub names_sorted : (edges : List Edge) → All (AreEndsAmong sorted) edges → map (named sorted) (map (ranked sorted) edges) ≡ map spelled edges
  names_sorted [] each = refl
  names_sorted (edge ∷ edges) each =
      let ends = All-head (AreEndsAmong sorted) edge edges each in
      let src = (ranked_at sorted edge.src ends.src).1 in
      let dst = (ranked_at sorted edge.dst ends.dst).1 in
      let here = ap (λ n. named_edge n (get_or sorted (rank_among sorted edge.dst) 0) edge.weight) src ∙ ap (λ n. named_edge edge.src n edge.weight) dst in
      ap (λ x. x ∷ map (named sorted) (map (ranked sorted) edges)) here ∙ ap (λ xs. spelled edge ∷ xs) (names_sorted edges (All-tail (AreEndsAmong sorted) edge edges each))

  pub placed_sorted : (edges : List Edge) → All (AreEndsAmong sorted) edges → All (IsPlaced sorted) (map (ranked sorted) edges)
  placed_sorted edges each = All-map (IsPlaced sorted) (ranked sorted) edges (λ k d h.
      let edge = each k d h in
      record { src = (ranked_at sorted (get_or edges k d).src edge.src).0; dst = (ranked_at sorted (get_or edges k d).dst edge.dst).0 })

-- the ends of what was built are ids, in whatever order these stand
pub ends_built : (b : Building) (edges : List Edge) → IsBuilding b → map spelled edges ≡ b.edges → All (AreEndsAmong b.ids) edges
ends_built b edges built names k d h =
    let at = built.edges k (spelled d) (omega (arith, ap length names, length-map edges spelled)) in
    let read : get_or b.edges k (spelled d) ≡ spelled (get_or edges k d) = ap (λ xs. get_or xs k (spelled d)) (sym names) ∙ get_or-map spelled edges k d (spelled d) h in
    let known = rw read at at in
    record { src = known.src; dst = known.dst }

pub ends_then : (ids sorted : List ℕ) (edges : List Edge) → IsPermutation ids sorted → All (AreEndsAmong ids) edges → All (AreEndsAmong sorted) edges
ends_then ids sorted edges same each k d h =
    let edge = each k d h in
    record { src = sym (list_any-IsPermutation (nat_eq _) ids sorted same) ∙ edge.src; dst = sym (list_any-IsPermutation (nat_eq _) ids sorted same) ∙ edge.dst }

-- and they are the edges of a graph
pub finished : (b : Building) → IsBuilding b → (ids : List ℕ) (edges : List Edge) → IsPermutation b.ids ids → IsStrictlyIncreasing ids → map (named ids) edges ≡ b.edges → All (IsPlaced ids) edges → IsMultigraph (multigraph ids edges b.loops)
finished b kept ids edges same increases names placed =
    numbered b kept ids same increases edges names (λ k d h.
    let edge = placed k d h in
    let at = among b kept ids same k (named ids d) (omega (arith, ap length names, length-map edges (named ids))) in
    let read : get_or b.edges k (named ids d) ≡ named ids (get_or edges k d) = ap (λ xs. get_or xs k (named ids d)) (sym names) ∙ get_or-map (named ids) edges k d (named ids d) h in
    let known = rw read at at in
    record { src = edge.src; dst = edge.dst; apart = λ e. known.apart (ap (λ n. get_or ids n 0) e); weight = known.weight })
