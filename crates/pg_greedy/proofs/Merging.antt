-- A batch: loader after loader from the merged table on, and then all of it merged.
use Rattle.std.proofs.Common.{◌≡◌, ℕ, ◌+◌, ◌-◌, ◌*◌, ◌/◌, ◌%◌, ◌<◌, ◌≤◌, List, length, get_or, refl, sym, subst, ◌∙◌, ap, arith, ⊎_elim}
use Rattle.std.specs.List.{range_with_len}
use Rattle.std.proofs.lemmas.Bool.{cases_lt}
use Rattle.std.proofs.lemmas.List.FromFn.{length-range_with_len, get_or-range_with_len}
use Rattle.std.proofs.lemmas.List.Elements.{recursion_from_All}
use Rattle.pg_graph.specs.Multigraph.{Multigraph}
use Rattle.pg_greedy.specs.Greedy.{Table}
use Rattle.pg_greedy.specs.Batches.{with_first}
use Rattle.pg_greedy.specs.Loaders.{coordinated, coordinated_places, batch_start, table_after, table_at}
use Rattle.pg_greedy.specs.Drafts.{StandsAs}
use Rattle.pg_greedy.proofs.Tables.{IsTableOf, is_after, with_first_after, table_after_agree}
use Rattle.pg_greedy.proofs.Turns.{batch_is, seen_start}
use Rattle.pg_greedy.proofs.Drafting.{first_table}

batch_turn : (q L : ℕ) → q * (1024 * L) ≡ q * 1024 * L
batch_turn q L = grind arith

module _ (g : Multigraph) (W L start end : ℕ) (some : 1 ≤ L) (begins : batch_start L start ≡ start) (batch : end ≤ start + 1024 * L) where
  start_turn : start ≡ start / (1024 * L) * 1024 * L
  start_turn = sym begins ∙ batch_turn (start / (1024 * L)) L

  -- the loader goes on from the merged table
  module _ (loader : ℕ) (turn : loader < L) (table next : Table) (merged : table ≡ table_after g W table.first (coordinated_places g W L) (range_with_len 0 start)) (is : next ≡ with_first table (loader % W)) where
    pub own_table : next ≡ table_after g W (loader % W) (coordinated_places g W L) (range_with_len 0 start)
    own_table = is ∙ ap (λ t. with_first t (loader % W)) merged ∙ with_first_after g W table.first (loader % W) (coordinated_places g W L) (range_with_len 0 start)

    pub own_of : IsTableOf g W (loader % W) (length (range_with_len 0 start)) next
    own_of = is_after g W (loader % W) (coordinated_places g W L) (range_with_len 0 start) next own_table

    pub first_apart : start + loader < end → next ≡ table_at g next.workers L (batch_start L (start + loader)) (coordinated_places g next.workers L) (start + loader)
    first_apart less = let same : batch_start L (start + loader) ≡ start = batch_is L (start / (1024 * L)) (start + loader) (omega (arith, begins)) (omega (arith, begins, batch)) ∙ begins in
        let at : ℕ → Table = λ s. table_at g W L s (coordinated_places g W L) (start + loader) in
        let P : ℕ → Type 0 = λ w. next ≡ table_at g w L (batch_start L (start + loader)) (coordinated_places g w L) (start + loader) in
        subst P (sym own_of.workers_are) (own_table ∙ sym (first_table g W L (start / (1024 * L) * 1024) start loader (start + loader) (coordinated_places g W L) turn start_turn refl) ∙ ap at (sym same))

    -- the merged table is there again
    pub merged_again : (back : Table) → back ≡ next → back ≡ table_after g W back.first (coordinated_places g W L) (range_with_len 0 start)
    merged_again back same = let first : back.first ≡ loader % W = ap (λ (t : Table). t.first) same ∙ own_of.first_is in
        same ∙ own_table ∙ ap (λ f. table_after g W f (coordinated_places g W L) (range_with_len 0 start)) (sym first)

    -- one more loader had its turn
    pub stand_more : (places cases places' cases' : List ℕ)
        → ((x : ℕ) → start + loader ≤ x → x < end → x % L ≡ (start + loader) % L → StandsAs (coordinated g next.workers L) places' cases' x)
        → ((x : ℕ) → StandsAs (coordinated g next.workers L) places cases x → StandsAs (coordinated g next.workers L) places' cases' x)
        → ((x : ℕ) → x < start → StandsAs (coordinated g W L) places cases x)
        → ((x : ℕ) → x < end → x % L < loader → StandsAs (coordinated g W L) places cases x)
        → (x : ℕ) → x < end → x % L < loader + 1 → StandsAs (coordinated g W L) places' cases' x
    stand_more places cases places' cases' placed still before stand x high less =
        let P : ℕ → Type 0 = λ w. StandsAs (coordinated g w L) places' cases' x in
        let S : ℕ → Type 0 = λ w. (x : ℕ) → StandsAs (coordinated g w L) places cases x → StandsAs (coordinated g w L) places' cases' x in
        let goes_on = subst S own_of.workers_are still in
        let turn_at = (seen_start L (start / (1024 * L) * 1024) start loader (start + loader) turn start_turn refl).1 in
        ⊎_elim (λ old. goes_on x (before x old))
        (λ new. ⊎_elim (λ earlier. goes_on x (stand x high earlier))
        (λ own. let mine : x % L ≡ loader = omega arith in
        let behind : start + loader ≤ x = ⊎_elim (λ low. let up : x ≡ start + (x - start) = omega arith in
        let r = (seen_start L (start / (1024 * L) * 1024) start (x - start) x (omega arith) start_turn up).1 in omega arith) (λ h. h) (cases_lt x (start + loader)) in
        subst P own_of.workers_are (placed x behind high (mine ∙ sym turn_at))) (cases_lt (x % L) loader)) (cases_lt x start)

-- a table that has seen a batch by its draft has seen it as it is placed
pub by_draft : (g : Multigraph) (W first n : ℕ) (all places : List ℕ) → ((x : ℕ) → x < n → get_or places x 0 ≡ get_or all x 0) → table_after g W first places (range_with_len 0 n) ≡ table_after g W first all (range_with_len 0 n)
by_draft g W first n all places agree = let P : ℕ → Type 0 = λ x. get_or places x 0 ≡ get_or all x 0 in
    table_after_agree g W first places all (range_with_len 0 n) (recursion_from_All P (range_with_len 0 n) (λ i d inside. let below : i < n = rw (length-range_with_len 0 n) at inside in
    rw (get_or-range_with_len 0 n i d below) (agree (0 + i) (omega arith))))
