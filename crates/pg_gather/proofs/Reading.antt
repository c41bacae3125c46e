-- What a worker reads through its own store and replicas.
use Rattle.std.proofs.Common.{◌≡◌, ℕ, suc, ◌<◌, ◌+◌, Bool, true, false, cond, ◌||◌, ◌&&◌, ◌==◌, List, [], ◌∷◌, ◌++◌, length, get_or, take, map, refl, sym, subst, ◌∙◌, ap, arith}
use Rattle.std.specs.Prelude.{Contains, All, filter}
use Rattle.std.specs.List.{list_any, position_or_len}
use Rattle.std.specs.List.Sorted.{IsStrictlyIncreasing}
use Rattle.std.proofs.lemmas.Bool.{eq-eqb, ne_eqb, eqb-true}
use Rattle.std.proofs.lemmas.List.{map-append}
use Rattle.std.proofs.lemmas.List.Elements.{filter_more}
use Rattle.std.proofs.lemmas.List.Folds.{list_any_at}
use Rattle.std.proofs.lemmas.List.Sums.{position_or_len_is}
use Rattle.pg_graph.specs.declared.edge.Edge.{Edge}
use Rattle.pg_graph.specs.declared.edge.EdgeInfo.{EdgeInfo}
use Rattle.pg_graph.specs.declared.edge.Side.{Side}
use Rattle.pg_graph.specs.declared.edge.Dir.{Dir}
use Rattle.pg_graph.specs.Multigraph.{Multigraph, edge_at, end_of, end_at, side_of, side_at, is_at, takes, opposite, edge_info}
use Rattle.pg_graph.proofs.Numbers.{filter_numbers_each}
use Rattle.pg_cut.proofs.Searching.{below_at}
use Rattle.pg_law.specs.declared.values.Datum.{Datum}
use Rattle.pg_law.specs.declared.values.Near.{Near}
use Rattle.pg_law.specs.Program.{Program}
use Rattle.pg_edge_store.specs.Store.{Store, local_at, is_around, places_around}
use Rattle.pg_edge_store.proofs.Replicas.{none_around}
use Rattle.pg_mirrors.specs.Mirrors.{Mirrors, datum_at}
use Rattle.pg_gather.specs.Partials.{replica_of, near_at, IsReadable}

-- the place of a vertex among ascending ones
pub place_is : (vertices : List ℕ) (v i : ℕ) → IsStrictlyIncreasing vertices → i < length vertices → get_or vertices i 0 ≡ v → position_or_len (λ u. u == v) vertices ≡ i
place_is vertices v i up h is = position_or_len_is (λ u. u == v) vertices i 0 (omega arith)
    (λ k below. ne_eqb (get_or vertices k 0) v (λ same. absurd (omega (arith, same, is, up k (omega arith), below_at vertices up (k + 1) i (omega arith) h))))
    (λ inside. eq-eqb (get_or vertices i 0) v is)

pub replica_at : (m : Mirrors) (v i : ℕ) → IsStrictlyIncreasing m.vertices → i < length m.vertices → get_or m.vertices i 0 ≡ v → datum_at m.values i ≡ replica_of m v
replica_at m v i up h is = ap (datum_at m.values) (sym (place_is m.vertices v i up h is))

-- a test finds a vertex exactly where it is listed
pub listed_is_in : (xs : List ℕ) (v : ℕ) → Contains xs v → list_any (λ u. u == v) xs ≡ true
listed_is_in xs v h = list_any_at (λ u. u == v) xs h.0 v h.1 (eq-eqb _ v h.2)

pub in_is_listed : (xs : List ℕ) (v : ℕ) → list_any (λ u. u == v) xs ≡ true → Contains xs v
in_is_listed [] v h = absurd (cc)
in_is_listed (x ∷ xs) v h = by_first (x == v) refl h (in_is_listed xs v)
  where
    by_first : (b : Bool) → (x == v) ≡ b → (b || list_any (λ u. u == v) xs) ≡ true → (list_any (λ u. u == v) xs ≡ true → Contains xs v) → Contains (x ∷ xs) v
    by_first true is h rest = (0, omega arith, eqb-true x v is)
    by_first false is h rest = let later = rest h in (suc later.0, omega (arith, later.1), later.2)

-- a vertex stands at the end that its side names
pub end_is : (v : ℕ) (edge : Edge) → is_at v edge ≡ true → end_of (side_of v edge) edge ≡ v
end_is v edge h = by_source (edge.src == v) refl h
  where
    by_source : (b : Bool) → (edge.src == v) ≡ b → (b || (edge.dst == v)) ≡ true → end_of (side_of v edge) edge ≡ v
    by_source true is h = rw is (eqb-true edge.src v is)
    by_source false is h = rw is (eqb-true edge.dst v h)

both : (a b : Bool) → (a && b) ≡ true → a ≡ true
both true b h = refl
both false b h = h

-- each place around a vertex is one of the store, and its edge is at the vertex
pub around_each : (g : Multigraph) (numbers : List ℕ) (v : ℕ) (dir : Dir) → All (λ i. (i < length numbers) × (end_at g (side_at g v (get_or numbers i 0)) (get_or numbers i 0) ≡ v)) (places_around g numbers v dir)
around_each g numbers v dir i d h =
    let place = get_or (places_around g numbers v dir) i d in
    let edge = edge_at g (get_or numbers place 0) in
    let each = filter_numbers_each (λ i. is_around v dir (edge_at g (get_or numbers i 0))) (length numbers) i d h in
    (each.0, end_is v edge (both (is_at v edge) (takes dir (side_of v edge)) each.1))

-- a vertex without a replica has no edges here
pub nothing_here : {Acc Carry : Type 0} (p : Program Acc Carry) (g : Multigraph) (s : Store) (m : Mirrors) (v : ℕ) (dir : Dir) → IsReadable p g s m → (Contains m.vertices v → ⊥) → places_around g s.numbers v dir ≡ []
nothing_here p g s m v dir readable none =
    let None : List ℕ → Type 0 = λ vertices. Contains vertices v → ⊥ in
    none_around g s readable.over v (subst None (sym readable.vertices) none) dir

-- one more vertex that is wanted
pub parts_more : {B : Type 0} (f : ℕ → B) (q : ℕ → Bool) (xs : List ℕ) (i : ℕ) → i < length xs → map f (filter q (take (i + 1) xs)) ≡ map f (filter q (take i xs)) ++ cond (q (get_or xs i 0)) (f (get_or xs i 0) ∷ []) []
parts_more f q xs i h = let x = get_or xs i 0 in
    ap (map f) (filter_more q xs i 0 h) ∙ map-append f (filter q (take i xs)) (cond (q x) (x ∷ []) []) ∙ ap (λ ys. map f (filter q (take i xs)) ++ ys) (last (q x))
  where
    last : (b : Bool) → map f (cond b (get_or xs i 0 ∷ []) []) ≡ cond b (f (get_or xs i 0) ∷ []) []
    last true = refl
    last false = refl

-- an end of an edge of the store, read at the place of its replica
module _ {Acc Carry : Type 0} (p : Program Acc Carry) (g : Multigraph) (s : Store) (m : Mirrors) (readable : IsReadable p g s m) (i : ℕ) (h : i < length s.numbers) (side : Side) where
  pub end_within : end_of side (local_at s i) < length m.vertices
  end_within = omega (arith, readable.over.within i h side, ap length readable.vertices)

  -- the vertex there is that of the graph
  pub end_vertex : get_or m.vertices (end_of side (local_at s i)) 0 ≡ end_at g side (get_or s.numbers i 0)
  end_vertex = ap (λ vertices. get_or vertices (end_of side (local_at s i)) 0) (sym readable.vertices) ∙ readable.over.ends i h side

  pub end_datum : datum_at m.values (end_of side (local_at s i)) ≡ replica_of m (end_at g side (get_or s.numbers i 0))
  end_datum = replica_at m (end_at g side (get_or s.numbers i 0)) (end_of side (local_at s i)) readable.ascending end_within end_vertex

  -- and its datum is the program's
  pub end_own : p.IsDatum (datum_at m.values (end_of side (local_at s i)))
  end_own = readable.values (end_of side (local_at s i)) end_within

-- an edge from its parts
pub near_is : (g : Multigraph) (s : Store) (m : Mirrors) (side : Side) (place : ℕ) (edge : EdgeInfo) (word : ℕ) (centre other : Datum)
    → (let e = get_or s.numbers place 0 in (edge ≡ edge_info g e) × (word ≡ get_or s.words place 0) × (centre ≡ replica_of m (end_at g side e)) × (other ≡ replica_of m (end_at g (opposite side) e)))
    → ◌≡◌ {A = Near} (record { side = side; edge = edge; word = word; centre = centre; other = other }) (near_at g s m side place)
near_is g s m side place edge word centre other parts = rw (parts.0, parts.1, parts.2, parts.3) refl
