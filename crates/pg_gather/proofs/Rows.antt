-- The row of a replica, and a list that is read item by item.
use Rattle.std.proofs.Common.{◌≡◌, ℕ, ◌+◌, ◌<◌, Bool, true, cond, List, [], ◌∷◌, ◌++◌, length, get_or, take, ◌∙◌, ap, length-append}
use Rattle.std.specs.Prelude.{All, filter, fold}
use Rattle.std.proofs.lemmas.List.Elements.{filter_more}
use Rattle.std.proofs.lemmas.List.Sums.{fold-append}
use Rattle.pg_graph.specs.Multigraph.{Multigraph, end_of, side_of, is_at}
use Rattle.pg_graph.proofs.Numbers.{filter_numbers_each}
use Rattle.pg_edge_store.specs.Store.{Store, IsOver, local_at}
use Rattle.pg_edge_store.proofs.Replicas.{row_is}
use Rattle.pg_gather.proofs.Reading.{end_is}

-- a replica stands at an end of each edge of its row
pub row_ends : (g : Multigraph) (s : Store) (r : ℕ) → IsOver g s → r < length s.vertices → All (λ i. end_of (side_of r (local_at s i)) (local_at s i) ≡ r) (get_or s.rows r [])
row_ends g s r over h = rw (row_is s.edges s.rows (length s.vertices) r over.rows_are h)
    (λ i d inside. end_is r (local_at s _) (filter_numbers_each (λ i. is_at r (local_at s i)) (length s.edges) i d inside).1)

-- one item more, which passes the test
module _ (q : ℕ → Bool) (xs : List ℕ) (i : ℕ) (h : i < length xs) (passes : q (get_or xs i 0) ≡ true) where
  pub passing_more : filter q (take (i + 1) xs) ≡ filter q (take i xs) ++ get_or xs i 0 ∷ []
  passing_more = filter_more q xs i 0 h ∙ ap (λ b. filter q (take i xs) ++ cond b (get_or xs i 0 ∷ []) []) passes

  pub passing_count : length (filter q (take (i + 1) xs)) ≡ length (filter q (take i xs)) + 1
  passing_count = ap length passing_more ∙ length-append (filter q (take i xs)) (get_or xs i 0 ∷ [])

  pub passing_fold : {B : Type 0} (f : B → ℕ → B) (start : B) → fold f start (filter q (take (i + 1) xs)) ≡ f (fold f start (filter q (take i xs))) (get_or xs i 0)
  passing_fold f start = ap (fold f start) passing_more ∙ fold-append f start (filter q (take i xs)) (get_or xs i 0 ∷ [])
