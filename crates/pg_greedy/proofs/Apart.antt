-- One edge of a loader in a batch: it is placed, the later ones are placed and taken back, and then it is taken back.
use Rattle.std.proofs.Common.{◌≡◌, ℕ, ◌+◌, ◌*◌, ◌/◌, ◌%◌, ◌<◌, ◌≤◌, List, length, get_or, set, sym, subst, ◌∙◌, ap, arith, ⊎_elim}
use Rattle.std.proofs.lemmas.Bool.{cases_lt}
use Rattle.std.proofs.lemmas.List.{get_or_read}
use Rattle.pg_graph.specs.declared.edge.Edge.{Edge}
use Rattle.pg_graph.specs.Multigraph.{Multigraph, IsMultigraph, IsEdge, edge_at}
use Rattle.pg_cut.specs.WorkerSet.{workers_in}
use Rattle.pg_greedy.specs.Greedy.{Table, HasRoom, greedy, with_edge, set_at}
use Rattle.pg_greedy.specs.Batches.{IsCounted, without_edge}
use Rattle.pg_greedy.specs.Loaders.{coordinated, coordinated_places, batch_start, table_at, seen, first_of}
use Rattle.pg_greedy.specs.Drafts.{IsDraft, StandsAs}
use Rattle.pg_greedy.proofs.Tables.{IsTableOf, more_table_of, taken_back, counted}
use Rattle.pg_greedy.proofs.Turns.{batch_is, batch_below, own_before, next_mod}
use Rattle.pg_greedy.proofs.Placings.{IsSent, placing_sent}
use Rattle.pg_greedy.proofs.Drafting.{of_graph, edge_same, room_for, place_is, next_table, stands_here, stands_still}

pub sent_together : (g : Multigraph) (workers loaders : ℕ) → IsSent g workers loaders (batch_start loaders) (coordinated g workers loaders)
sent_together g workers loaders = placing_sent g workers loaders (batch_start loaders) (batch_below loaders)

module _ (g : Multigraph) (L e end : ℕ) (table : Table) (places cases : List ℕ) (some : 1 ≤ L) (end_in : end ≤ length g.edges) (batch : end ≤ batch_start L e + 1024 * L) (here : e < end)
    (at : table ≡ table_at g table.workers L (batch_start L e) (coordinated_places g table.workers L) e) (draft : IsDraft (length g.edges) table.workers places cases) where
  inside : e < length g.edges
  inside = omega arith

  -- what the table knows of the graph
  pub apart_of : IsTableOf g table.workers (first_of table.workers L e) (length (seen L (batch_start L e) e)) table
  apart_of = of_graph g table.workers L (batch_start L) (coordinated g table.workers L) (sent_together g table.workers L) e inside table at

  pub apart_room : HasRoom table
  apart_room = room_for g table.workers L (batch_start L) (coordinated g table.workers L) (sent_together g table.workers L) e inside table at (batch_below L e)

  worker_is : (greedy table (edge_at table.graph e)).worker ≡ get_or (coordinated_places g table.workers L) e 0
  worker_is = place_is g table.workers L (batch_start L) (coordinated g table.workers L) (sent_together g table.workers L) e inside table at

  pub stands_apart : StandsAs (coordinated g table.workers L) (set places e (greedy table (edge_at table.graph e)).worker) (set cases e (greedy table (edge_at table.graph e)).case) e
  stands_apart = stands_here g table.workers L (batch_start L) (coordinated g table.workers L) (sent_together g table.workers L) e inside table at places cases draft

  pub still_apart : (x : ℕ) → StandsAs (coordinated g table.workers L) places cases x → StandsAs (coordinated g table.workers L) (set places e (greedy table (edge_at table.graph e)).worker) (set cases e (greedy table (edge_at table.graph e)).case) x
  still_apart = stands_still g table.workers L (batch_start L) (coordinated g table.workers L) (sent_together g table.workers L) e inside table at places cases draft

  -- the table that has seen the edge too
  module _ (next : Table) (is : next ≡ with_edge table (edge_at table.graph e) (greedy table (edge_at table.graph e)).worker) where
    next_of : IsTableOf g table.workers (first_of table.workers L e) (length (seen L (batch_start L e) e) + 1) next
    next_of = let P : Table → Type 0 = λ t. IsTableOf g table.workers (first_of table.workers L e) (length (seen L (batch_start L e) e) + 1) t in
        subst P (sym is) (more_table_of g table.workers (first_of table.workers L e) (length (seen L (batch_start L e) e)) table (edge_at table.graph e) (greedy table (edge_at table.graph e)).worker apart_of)

    pub next_workers : next.workers ≡ table.workers
    next_workers = next_of.workers_are

    pub next_graph : next.graph ≡ g
    next_graph = next_of.graph

    pub next_apart : e + L < end → next ≡ table_at g next.workers L (batch_start L (e + L)) (coordinated_places g next.workers L) (e + L)
    next_apart more = let low = batch_below L e in
        let same : batch_start L (e + L) ≡ batch_start L e = batch_is L (e / (1024 * L)) (e + L) (omega arith) (omega arith) in
        let start : ℕ → Table = λ s. table_at g table.workers L s (coordinated_places g table.workers L) (e + L) in
        let P : ℕ → Type 0 = λ w. next ≡ table_at g w L (batch_start L (e + L)) (coordinated_places g w L) (e + L) in
        subst P (sym next_workers) (is ∙ next_table g table.workers L (batch_start L) (coordinated g table.workers L) (sent_together g table.workers L) e inside table at some low ∙ ap start (sym same))

    pub next_batch : e + L < end → end ≤ batch_start L (e + L) + 1024 * L
    next_batch more = let low = batch_below L e in let same : batch_start L (e + L) ≡ batch_start L e = batch_is L (e / (1024 * L)) (e + L) (omega arith) (omega arith) in omega arith

    -- what stands once the later edges are placed too
    module _ (places' cases' places'' cases'' : List ℕ) (places_are : places' ≡ set places e (greedy table (edge_at table.graph e)).worker) (cases_are : cases' ≡ set cases e (greedy table (edge_at table.graph e)).case)
        (still : (x : ℕ) → StandsAs (coordinated g next.workers L) places' cases' x → StandsAs (coordinated g next.workers L) places'' cases'' x) where
      goes_on : (x : ℕ) → StandsAs (coordinated g table.workers L) places' cases' x → StandsAs (coordinated g table.workers L) places'' cases'' x
      goes_on = let P : ℕ → Type 0 = λ w. (x : ℕ) → StandsAs (coordinated g w L) places' cases' x → StandsAs (coordinated g w L) places'' cases'' x in subst P next_workers still

      pub still_all : (x : ℕ) → StandsAs (coordinated g table.workers L) places cases x → StandsAs (coordinated g table.workers L) places'' cases'' x
      still_all x old = goes_on x (rw (places_are, cases_are) (still_apart x old))

      pub here_all : StandsAs (coordinated g table.workers L) places'' cases'' e
      here_all = goes_on e (rw (places_are, cases_are) stands_apart)

      pub read_again : (x : ℕ) → length places'' ≡ length g.edges → x ≡ get_or places'' e x → x ≡ get_or (coordinated_places g table.workers L) e 0
      read_again x count is = get_or_read places'' e x (omega (arith, inside)) is 0 ∙ here_all.place

      pub all_from : ((x : ℕ) → e + L ≤ x → x < end → x % L ≡ (e + L) % L → StandsAs (coordinated g next.workers L) places'' cases'' x)
          → (x : ℕ) → e ≤ x → x < end → x % L ≡ e % L → StandsAs (coordinated g table.workers L) places'' cases'' x
      all_from later x low high same = let P : ℕ → Type 0 = λ w. StandsAs (coordinated g w L) places'' cases'' x in
          let Q : ℕ → Type 0 = λ k. StandsAs (coordinated g table.workers L) places'' cases'' k in
          ⊎_elim (λ less. let at_most = own_before L e x less same in let is : e ≡ x = omega arith in subst Q is here_all)
          (λ more. subst P next_workers (later x more high (same ∙ sym (next_mod L e (omega (arith, some)))))) (cases_lt x (e + L))

    module _ (edge : Edge) (edge_is : edge ≡ edge_at g e) where
      same_edge : edge_at table.graph e ≡ edge
      same_edge = edge_same g table.workers L (batch_start L) (coordinated g table.workers L) (sent_together g table.workers L) e inside table at ∙ sym edge_is

      pub own_edge : IsMultigraph g → IsEdge (length g.ids) edge
      own_edge graph = rw edge_is (graph.edge e inside)

      pub next_edge : IsMultigraph g → IsEdge (length next.graph.ids) edge
      next_edge graph = rw next_graph (own_edge graph)

      module _ (worker : ℕ) (worker_at : worker ≡ get_or (coordinated_places g table.workers L) e 0) where
        noted : next ≡ with_edge table edge worker
        noted = is ∙ ap (λ w. with_edge table (edge_at table.graph e) w) (worker_is ∙ sym worker_at) ∙ ap (λ x. with_edge table x worker) same_edge

        pub next_counted : IsMultigraph g → worker < table.workers → IsCounted next edge worker
        next_counted graph below = let P : Table → Type 0 = λ t. IsCounted t edge worker in
            subst P (sym noted) (counted g table.workers (first_of table.workers L e) (length (seen L (batch_start L e) e)) table apart_of edge (own_edge graph) worker below)

        pub back_again : (us vs : ℕ) → workers_in us ≡ set_at table edge.src → workers_in vs ≡ set_at table edge.dst → without_edge next edge worker (workers_in us) (workers_in vs) ≡ table
        back_again us vs us_is vs_is = ap (λ t. without_edge t edge worker (workers_in us) (workers_in vs)) noted ∙ ap (λ xs. without_edge (with_edge table edge worker) edge worker xs (workers_in vs)) us_is
            ∙ ap (λ ys. without_edge (with_edge table edge worker) edge worker (set_at table edge.src) ys) vs_is
            ∙ taken_back g table.workers (first_of table.workers L e) (length (seen L (batch_start L e) e)) table apart_of edge worker
