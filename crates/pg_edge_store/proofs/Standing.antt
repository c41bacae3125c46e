-- Edges between the places of their ends among ascending vertices.
use Rattle.std.proofs.Common.{◌≡◌, ℕ, ◌+◌, ◌<◌, ◌≤◌, List, length, get_or, set, map, refl, sym, ◌∙◌, ap, arith, ⊎_elim}
use Rattle.std.specs.Prelude.{All, Contains, ◌==◌}
use Rattle.std.specs.List.{range_with_len}
use Rattle.std.specs.List.Sorted.{IsStrictlyIncreasing}
use Rattle.std.proofs.lemmas.Bool.{cases_eq}
use Rattle.std.proofs.lemmas.List.{get_or-map, length-map, get_or-set_same, get_or-set_other, get_or_default}
use Rattle.std.proofs.lemmas.List.FromFn.{length-range_with_len}
use Rattle.pg_graph.specs.declared.edge.Edge.{Edge}
use Rattle.pg_graph.specs.declared.edge.Side.{Side}
use Rattle.pg_graph.specs.declared.edge.Side.TheVariants.{Source, Target}
use Rattle.pg_graph.specs.Multigraph.{Multigraph, IsMultigraph, multigraph, edge_at, end_at, end_of, no_edge}
use Rattle.pg_graph.proofs.Numbers.{filter_numbers_each, length_filter_within}
use Rattle.pg_cut.specs.Cut.{Division, IsCutOf, edges_on, vertices_on}
use Rattle.pg_cut.proofs.Replicas.{end_replica, vertices_rise, vertices_inside, vertices_fewer}
use Rattle.pg_edge_store.specs.Store.{AreBetween, renumbered}
use Rattle.pg_edge_store.proofs.Replicas.{apart_from}

-- one vertex more has its place
pub places_more : (vertices places : List ℕ) (r : ℕ) → IsStrictlyIncreasing vertices → r < length vertices → get_or vertices r 0 < length places
    → ((k : ℕ) → k < r → get_or places (get_or vertices k 0) 0 ≡ k)
    → (k : ℕ) → k < r + 1 → get_or (set places (get_or vertices r 0) r) (get_or vertices k 0) 0 ≡ k
places_more vertices places r up h inside each k below = ⊎_elim
    (λ same. ap (λ j. get_or (set places (get_or vertices r 0) r) (get_or vertices j 0) 0) same ∙ get_or-set_same places (get_or vertices r 0) r 0 inside ∙ sym same)
    (λ apart. get_or-set_other places (get_or vertices r 0) (get_or vertices k 0) r 0 (apart_from vertices up k r (omega arith) h) ∙ each k (omega arith))
    (cases_eq k r)

-- edges whose ends have their places
module _ (g : Multigraph) (numbers vertices places : List ℕ) (each : (r : ℕ) → r < length vertices → get_or places (get_or vertices r 0) 0 ≡ r)
    (ends : (i : ℕ) → i < length numbers → (side : Side) → Contains vertices (end_at g side (get_or numbers i 0))) where
  abbrev placed : ℕ → Edge
  placed e = renumbered places (edge_at g e)

  read : (i : ℕ) → i < length numbers → get_or (map placed numbers) i no_edge ≡ placed (get_or numbers i 0)
  read i h = get_or-map placed numbers i 0 no_edge h

  end_placed : (side : Side) (edge : Edge) → end_of side (renumbered places edge) ≡ get_or places (end_of side edge) 0
  end_placed Source edge = refl
  end_placed Target edge = refl

  place_is : (i : ℕ) (h : i < length numbers) (side : Side) → end_of side (get_or (map placed numbers) i no_edge) ≡ (ends i h side).0
  place_is i h side =
      let there = ends i h side in
      ap (end_of side) (read i h) ∙ end_placed side (edge_at g (get_or numbers i 0))
      ∙ ap (λ v. get_or places v 0) (sym there.2 ∙ get_or_default vertices there.0 (end_at g side (get_or numbers i 0)) 0 there.1)
      ∙ each there.0 there.1

  pub between_found : AreBetween g numbers vertices (map placed numbers)
  between_found = record {
    count = length-map numbers placed;
    within = λ i h side. let there = ends i h side in omega (arith, place_is i h side, there.1);
    ends = λ i h side. let there = ends i h side in
        ap (λ r. get_or vertices r 0) (place_is i h side)
        ∙ get_or_default vertices there.0 0 (end_at g side (get_or numbers i 0)) there.1 ∙ there.2;
    weights = λ i h. ap (λ (edge : Edge). edge.weight) (read i h);
  }

-- vertices, and edges between their places, are a graph of their own
pub graph_between : (g : Multigraph) → IsMultigraph g → (numbers vertices : List ℕ) (edges : List Edge) → All (λ e. e < length g.edges) numbers → length numbers ≤ length g.edges
    → IsStrictlyIncreasing vertices → All (λ v. v < length g.ids) vertices → length vertices ≤ length g.ids → AreBetween g numbers vertices edges → IsMultigraph (multigraph vertices edges 0)
graph_between g ok numbers vertices edges known few up inside fewer are = record {
  ids = up;
  id = λ v h. omega (arith, inside v 0 h, ok.vertex_count);
  edge = λ e h.
      let here : e < length numbers = omega (arith, are.count) in
      let edge = ok.edge (get_or numbers e 0) (known e 0 here) in
      record {
        src = are.within e here Source;
        dst = are.within e here Target;
        apart = λ same. edge.apart (sym (are.ends e here Source) ∙ ap (λ r. get_or vertices r 0) same ∙ are.ends e here Target);
        weight = omega (arith, are.weights e here, edge.weight);
      };
  vertex_count = omega (arith, ok.vertex_count);
  edge_count = omega (arith, are.count, ok.edge_count);
}

-- the edges of a worker are edges of the graph, and their ends have replicas there
pub numbers_inside : (place : List ℕ) (worker : ℕ) → All (λ e. e < length place) (edges_on place worker)
numbers_inside place worker = λ i d h. (filter_numbers_each (λ e. get_or place e 0 == worker) (length place) i d h).0

pub numbers_fewer : (place : List ℕ) (worker : ℕ) → length (edges_on place worker) ≤ length place
numbers_fewer place worker = omega (arith, length_filter_within (λ e. get_or place e 0 == worker) (range_with_len 0 (length place)), length-range_with_len 0 (length place))

pub ends_inside : (g : Multigraph) → IsMultigraph g → (cut : Division) (worker : ℕ) → IsCutOf g cut → worker < cut.workers
    → (i : ℕ) → i < length (edges_on cut.place worker) → (side : Side) → Contains (vertices_on cut worker) (end_at g side (get_or (edges_on cut.place worker) i 0))
ends_inside g ok cut worker is within i h side =
    let each = filter_numbers_each (λ e. get_or cut.place e 0 == worker) (length cut.place) i 0 h in
    end_replica g cut worker is within ok (get_or (edges_on cut.place worker) i 0) side (omega (arith, each.0, is.placed.count)) each.1

-- so the replicas of a worker and its edges between them are a graph
pub graph_on : (g : Multigraph) → IsMultigraph g → (cut : Division) (worker : ℕ) → IsCutOf g cut → (numbers vertices : List ℕ) (edges : List Edge)
    → numbers ≡ edges_on cut.place worker → vertices ≡ vertices_on cut worker → AreBetween g numbers vertices edges → IsMultigraph (multigraph vertices edges 0)
graph_on g ok cut worker is numbers vertices edges numbers_are vertices_are are = graph_between g ok numbers vertices edges
    (λ i d h. let here = rw numbers_are at h in let inside = rw (sym numbers_are) at (numbers_inside cut.place worker i d here) in omega (arith, inside, is.placed.count))
    (omega (arith, ap length numbers_are, numbers_fewer cut.place worker, is.placed.count))
    (rw vertices_are (vertices_rise cut worker))
    (rw (vertices_are, sym is.count) (vertices_inside cut worker))
    (omega (arith, ap length vertices_are, vertices_fewer cut worker, is.count))
    are
