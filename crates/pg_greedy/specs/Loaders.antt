-- Greedy cuts by several loaders, each of which sees a part of what is placed.
use Rattle.std.specs.Prelude.{ℕ, ◌-◌, ◌*◌, ◌/◌, ◌%◌, ◌==◌, List, [], ◌∷◌, ◌++◌, slice_index, map, filter, fold, count_by}
use Rattle.std.specs.List.{range_with_len}
use Rattle.pg_graph.specs.Multigraph.{Multigraph, edge_at, edge_numbers}
use Rattle.pg_greedy.specs.Greedy.{Table, greedy, empty_table, with_edge}

-- the worker of each edge so far, and the case that put it there
pub record Placing : Type 0 where
  pub places : List ℕ
  pub cases : List ℕ

-- what the loader of an edge has seen before it: all edges before the start, where the tables were
-- merged, and its own from there on
abbrev pub seen : (loaders start e : ℕ) → List ℕ
seen loaders start e =
    range_with_len 0 start
    ++ filter (λ x. x % loaders == e % loaders) (range_with_len start (e - start))

-- the worker that the loader of an edge prefers
abbrev pub first_of : (workers loaders e : ℕ) → ℕ
first_of workers loaders e = e % loaders % workers

-- a table once it has seen edges go to their places
unfoldable pub table_after : Multigraph → (workers first : ℕ) → (places edges : List ℕ) → Table
table_after g workers first places edges =
    fold (λ table x. with_edge table (edge_at g x) (slice_index places x))
    (empty_table g workers first) edges

-- the table of the loader of an edge when it comes to it
abbrev pub table_at : Multigraph → (workers loaders start : ℕ) → List ℕ → ℕ → Table
table_at g workers loaders start places e =
    table_after g workers (first_of workers loaders e) places (seen loaders start e)

-- the next edge goes where the table of its loader sends it
unfoldable pub with_next : Multigraph → (workers loaders : ℕ) → (ℕ → ℕ) → Placing → ℕ → Placing
with_next g workers loaders start before e =
    let placed = greedy (table_at g workers loaders (start e) before.places e) (edge_at g e) in record {
      places = before.places ++ placed.worker ∷ [];
      cases = before.cases ++ placed.case ∷ [];
    }

-- edge after edge, where `start` says from where on the loader of an edge knows of its own alone
unfoldable pub placing : Multigraph → (workers loaders : ℕ) → (start : ℕ → ℕ) → Placing
placing g workers loaders start =
    fold (with_next g workers loaders start) (record { places = []; cases = [] }) (edge_numbers g)

-- loaders that never merge
abbrev pub never : ℕ → ℕ
never e = 0

-- loaders that merge after each batch, which has 1024 edges of each of them
abbrev pub batch_start : (loaders e : ℕ) → ℕ
batch_start loaders e = e / (1024 * loaders) * (1024 * loaders)

abbrev pub oblivious : Multigraph → (workers loaders : ℕ) → Placing
oblivious g workers loaders = placing g workers loaders never

abbrev pub coordinated : Multigraph → (workers loaders : ℕ) → Placing
coordinated g workers loaders = placing g workers loaders (batch_start loaders)

abbrev pub oblivious_places : Multigraph → (workers loaders : ℕ) → List ℕ
oblivious_places g workers loaders = (oblivious g workers loaders).places

abbrev pub oblivious_cases : Multigraph → (workers loaders : ℕ) → List ℕ
oblivious_cases g workers loaders = (oblivious g workers loaders).cases

abbrev pub coordinated_places : Multigraph → (workers loaders : ℕ) → List ℕ
coordinated_places g workers loaders = (coordinated g workers loaders).places

abbrev pub coordinated_cases : Multigraph → (workers loaders : ℕ) → List ℕ
coordinated_cases g workers loaders = (coordinated g workers loaders).cases

-- how many edges went by each of the cases 1 to 4
abbrev pub case_counts : List ℕ → List ℕ
case_counts cases = map (λ case. count_by (λ c. c == case) cases) (1 ∷ 2 ∷ 3 ∷ 4 ∷ [])
