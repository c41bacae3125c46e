-- What is posted to a cell by all workers keeps it true.
use Rattle.std.proofs.Common.{◌≡◌, ℕ, ◌<◌, true, Option, Some, None, List, [], ◌∷◌, length, get_or, refl, sym, subst, ◌∙◌, ap}
use Rattle.std.specs.Prelude.{filter, fold, slice_index}
use Rattle.std.specs.List.{range_with_len, AllByRecursion}
use Rattle.std.proofs.lemmas.List.Elements.{recursion_from_All}
use Rattle.std.proofs.lemmas.List.Folds.{fold-map}
use Rattle.pg_graph.specs.Multigraph.{Multigraph, IsMultigraph, edge_at, edges_at, side_at, is_at}
use Rattle.pg_graph.proofs.Numbers.{numbers_below}
use Rattle.pg_graph.proofs.Stored.{edges_at_below}
use Rattle.pg_law.specs.declared.values.Delta.{Delta}
use Rattle.pg_law.specs.declared.values.Delta.TheVariants.{Nothing}
use Rattle.pg_law.specs.declared.values.Applied.{Applied}
use Rattle.pg_law.specs.declared.values.Scattered.{Scattered}
use Rattle.pg_law.specs.Program.{Program}
use Rattle.pg_law.specs.Laws.{IsLawful, IsDelta, KeepsGathers}
use Rattle.pg_law.specs.Monoid.{part}
use Rattle.pg_law.specs.Configuration.{Configuration, IsFit}
use Rattle.pg_law.specs.Round.{from_source, from_target, fresh, outcomes, values_after, scatter_after, round}
use Rattle.pg_law.proofs.Fitting.{fold_keeps, fresh_own}
use Rattle.pg_law.proofs.Lists.{every}
use Rattle.pg_law.proofs.Parts.{parts_in_turn, fold_from}
use Rattle.pg_cut.specs.Cut.{Division, IsCutOf, edges_on}
use Rattle.pg_edge_store.specs.Store.{Store}
use Rattle.pg_mirrors.specs.Mirrors.{Mirrors}
use Rattle.pg_gather.specs.Shares.{IsShareOf}
use Rattle.pg_delta.specs.declared.cell.CacheCell.{CacheCell}
use Rattle.pg_delta.specs.Deltas.{joined, joined_over}
use Rattle.pg_delta.specs.Cell.{posted}
use Rattle.pg_delta.specs.Truth.{IsTrueOf, PostingKeepsTruth}
use Rattle.pg_delta.proofs.Joining.{joined-nothing, joined_own, delta_monoid}
use Rattle.pg_apply_scatter.specs.Sending.{sent_from}
use Rattle.pg_apply_scatter.specs.Delivering.{deltas_of, cell_in, cell_from}
use Rattle.pg_apply_scatter.specs.Halves.{AreCarriesOf, applied_state, sent_by_all}
use Rattle.pg_apply_scatter.specs.Caches.{CellsFollow}
use Rattle.pg_apply_scatter.proofs.Taking.{told, from_other, part_over, take_edges}
use Rattle.pg_apply_scatter.proofs.Scattering.{folds_agree, folds_agree_on, own_edges, own_below, sent_same, edges_placed}
use Rattle.pg_apply_scatter.proofs.Leading.{delta_in, delta_to, delta_own, fresh_leads}

abbrev cell_of : {A : Type 0} → Option A → Delta A → CacheCell A
cell_of acc pending = record { acc = acc; pending = pending }

module _ {Acc Carry : Type 0} (p : Program Acc Carry) (delta : ℕ → Delta Acc) where
  -- deltas posted over edges, one after another, and over the parts of all workers
  abbrev post_edges : CacheCell Acc → List ℕ → CacheCell Acc
  post_edges cell edges = fold (λ c e. posted p.sum c (delta e)) cell edges

  abbrev join_edges : Delta Acc → List ℕ → Delta Acc
  join_edges pending edges = fold (λ x e. joined p.sum x (delta e)) pending edges

  posts : (acc : Acc) (pending : Delta Acc) (edges : List ℕ) → post_edges (cell_of (Some acc) pending) edges ≡ cell_of (Some acc) (join_edges pending edges)
  posts acc pending [] = refl
  posts acc pending (e ∷ edges) = posts acc (joined p.sum pending (delta e)) edges

  posts_nowhere : (pending : Delta Acc) (edges : List ℕ) → post_edges (cell_of None pending) edges ≡ cell_of None pending
  posts_nowhere pending [] = refl
  posts_nowhere pending (e ∷ edges) = posts_nowhere pending edges

  posts_in_turn : (parts : ℕ → List ℕ) (acc : Acc) (pending : Delta Acc) (ws : List ℕ) → fold (λ c w. post_edges c (parts w)) (cell_of (Some acc) pending) ws ≡ cell_of (Some acc) (fold (λ x w. join_edges x (parts w)) pending ws)
  posts_in_turn parts acc pending [] = refl
  posts_in_turn parts acc pending (w ∷ ws) = ap (λ c. fold (λ c w. post_edges c (parts w)) c ws) (posts acc pending (parts w)) ∙ posts_in_turn parts acc (join_edges pending (parts w)) ws

  posts_nowhere_in_turn : (parts : ℕ → List ℕ) (pending : Delta Acc) (ws : List ℕ) → fold (λ c w. post_edges c (parts w)) (cell_of None pending) ws ≡ cell_of None pending
  posts_nowhere_in_turn parts pending [] = refl
  posts_nowhere_in_turn parts pending (w ∷ ws) = ap (λ c. fold (λ c w. post_edges c (parts w)) c ws) (posts_nowhere pending (parts w)) ∙ posts_nowhere_in_turn parts pending ws

  -- what all workers post is what all edges send
  all_posted : IsLawful p → (place : ℕ → ℕ) (n : ℕ) (cell : CacheCell Acc) (edges : List ℕ) → IsDelta p.IsAcc cell.pending → AllByRecursion (λ e. place e < n) edges → AllByRecursion (λ e. IsDelta p.IsAcc (delta e)) edges
      → fold (λ c w. post_edges c (part place w edges)) cell (range_with_len 0 n) ≡ posted p.sum cell (joined_over p delta edges)
  all_posted law place n cell edges own below each = by_acc cell.acc cell.pending own
    where
      by_acc : (acc : Option Acc) (pending : Delta Acc) → IsDelta p.IsAcc pending → fold (λ c w. post_edges c (part place w edges)) (cell_of acc pending) (range_with_len 0 n) ≡ posted p.sum (cell_of acc pending) (joined_over p delta edges)
      by_acc None pending own = posts_nowhere_in_turn (λ w. part place w edges) pending (range_with_len 0 n)
      by_acc (Some acc) pending own = posts_in_turn (λ w. part place w edges) acc pending (range_with_len 0 n)
          ∙ ap (cell_of (Some acc)) (parts_in_turn (IsDelta p.IsAcc) Nothing (joined p.sum) (delta_monoid p law) delta place n pending edges own below each
          ∙ fold_from (IsDelta p.IsAcc) Nothing (joined p.sum) (delta_monoid p law) delta pending edges own each)

module _ {Acc Carry : Type 0} (p : Program Acc Carry) where
  posts_nothing : (cell : CacheCell Acc) → posted p.sum cell Nothing ≡ cell
  posts_nothing cell = by_acc cell.acc cell.pending
    where
      by_acc : (acc : Option Acc) (pending : Delta Acc) → posted p.sum (cell_of acc pending) Nothing ≡ cell_of acc pending
      by_acc None pending = refl
      by_acc (Some acc) pending = ap (cell_of (Some acc)) (joined-nothing p.sum pending)

  delta_told : (o : Option (Scattered Acc)) → told (posted p.sum) Nothing (λ signal delta. delta) posts_nothing o ≡ delta_in o
  delta_told None = refl
  delta_told (Some scattered) = refl

  module _ (g : Multigraph) (cut : Division) (s : Configuration) (became : List (Option (Applied Carry))) (carries : List (Option Carry)) (worker : ℕ) (store : Store) (mirrors : Mirrors)
      (ok : IsMultigraph g) (is : IsCutOf g cut) (within : worker < cut.workers) (carried : AreCarriesOf carries became) (share : IsShareOf g cut worker (applied_state p g s became) store mirrors) where
    abbrev source : ℕ → Option (Scattered Acc)
    source e = from_source p g (values_after p g s.values became) s.edges became e

    abbrev target : ℕ → Option (Scattered Acc)
    target e = from_target p g (values_after p g s.values became) s.edges became e

    -- a cell hears from this worker over the edges of its vertex here
    deltas_here : (v : ℕ) (cell : CacheCell Acc) → deltas_of p v cell (sent_from p g mirrors carries store)
        ≡ fold (λ c e. posted p.sum c (from_other (side_at g v e) (delta_in (source e)) (delta_in (target e)))) cell (part (slice_index cut.place) worker (edges_at g v))
    deltas_here v cell = ap (deltas_of p v cell) (sent_same p g cut s became carries worker store mirrors ok is within carried share)
        ∙ take_edges (posted p.sum) Nothing (λ signal delta. delta) posts_nothing g ok source target v cell (edges_on cut.place worker) (own_below p g cut s became carries worker store mirrors ok is within carried share)
        ∙ folds_agree (λ c e. posted p.sum c (part_over (posted p.sum) Nothing (λ signal delta. delta) posts_nothing g ok source target v e)) (λ c e. posted p.sum c (from_other (side_at g v e) (delta_in (source e)) (delta_in (target e))))
        (λ c e. ap (λ d. posted p.sum c (from_other (side_at g v e) d (told (posted p.sum) Nothing (λ signal delta. delta) posts_nothing (target e)))) (delta_told (source e))
        ∙ ap (λ d. posted p.sum c (from_other (side_at g v e) (delta_in (source e)) d)) (delta_told (target e))) cell (filter (λ e. is_at v (edge_at g e)) (edges_on cut.place worker))
        ∙ ap (fold (λ c e. posted p.sum c (from_other (side_at g v e) (delta_in (source e)) (delta_in (target e)))) cell) (own_edges g cut worker v is)

module _ {Acc Carry : Type 0} (p : Program Acc Carry) (law : IsLawful p) (keeps : KeepsGathers p) (g : Multigraph) (ok : IsMultigraph g) (s : Configuration) (fit : IsFit p g s) where
  each_own : (v : ℕ) → AllByRecursion (λ e. IsDelta p.IsAcc (delta_to p law keeps g ok s fit v e)) (edges_at g v)
  each_own v = every (λ e. e < length g.edges) (λ e. IsDelta p.IsAcc (delta_to p law keeps g ok s fit v e)) (λ e below. delta_own p law keeps g ok s fit (side_at g v e) e below) (edges_at g v) (edges_at_below g v)

  pub joined_to_own : (v : ℕ) → IsDelta p.IsAcc (joined_over p (delta_to p law keeps g ok s fit v) (edges_at g v))
  joined_to_own v = fold_keeps (IsDelta p.IsAcc) (λ e. IsDelta p.IsAcc (delta_to p law keeps g ok s fit v e)) (λ x e. joined p.sum x (delta_to p law keeps g ok s fit v e)) (λ x e ox oe. joined_own p law x (delta_to p law keeps g ok s fit v e) ox oe) Nothing (edges_at g v) tt (each_own v)

  -- what all workers send to a vertex is posted as what all its edges tell it
  pub cell_posted : (cut : Division) (carries : List (Option Carry)) (stores : ℕ → Store) (mirrors : ℕ → Mirrors) (cell : CacheCell Acc) → IsCutOf g cut → AreCarriesOf carries (outcomes p g s (λ v. true))
      → ((w : ℕ) → w < cut.workers → IsShareOf g cut w (applied_state p g s (outcomes p g s (λ v. true))) (stores w) (mirrors w)) → IsDelta p.IsAcc cell.pending → (v : ℕ)
      → cell_from p v cell (sent_by_all p g cut carries stores mirrors) ≡ posted p.sum cell (joined_over p (delta_to p law keeps g ok s fit v) (edges_at g v))
  cell_posted cut carries stores mirrors cell is carried shares own v =
      let became = outcomes p g s (λ v. true) in
      let delta = delta_to p law keeps g ok s fit v in
      let Same : ℕ → Type 0 = λ w. (c : CacheCell Acc) → deltas_of p v c (sent_from p g (mirrors w) carries (stores w)) ≡ fold (λ c e. posted p.sum c (delta e)) c (part (slice_index cut.place) w (edges_at g v)) in
      fold-map (deltas_of p v) (λ w. sent_from p g (mirrors w) carries (stores w)) cell (range_with_len 0 cut.workers)
      ∙ folds_agree_on (λ c w. deltas_of p v c (sent_from p g (mirrors w) carries (stores w))) (λ c w. fold (λ c e. posted p.sum c (delta e)) c (part (slice_index cut.place) w (edges_at g v))) (range_with_len 0 cut.workers)
      (recursion_from_All Same (range_with_len 0 cut.workers) (λ i d inside. let w = get_or (range_with_len 0 cut.workers) i d in let below = numbers_below cut.workers i d inside in
      deltas_here p g cut s became carries w (stores w) (mirrors w) ok is below carried (shares w below) v)) cell
      ∙ all_posted p delta law (slice_index cut.place) cut.workers cell (edges_at g v) own (edges_placed p law g cut is v) (each_own v)

module _ {Acc Carry : Type 0} (p : Program Acc Carry) (law : IsLawful p) (keeps_truth : PostingKeepsTruth p) where
  pub cells_follow : CellsFollow p
  unfolding round
  cells_follow g cut s carries stores mirrors cells ok is fit speaks carried shares kept v h =
      let keeps = law.deltas speaks in
      let delta = joined_over p (delta_to p law keeps g ok s fit v) (edges_at g v) in
      let after = scatter_after p g s (outcomes p g s (λ v. true)) in
      let True : CacheCell Acc → Type 0 = λ c. IsTrueOf p.sum c (fresh p g after v) in
      subst True (sym (cell_posted p law keeps g ok s fit cut carries stores mirrors (cell_in cells v) is carried shares (kept.own v h).pending v))
      (keeps_truth (cell_in cells v) delta (fresh p g s v) (fresh p g after v) (kept.own v h) (joined_to_own p law keeps g ok s fit v) (fresh_own p g law ok s v fit) (kept.true_of v h) (fresh_leads p law keeps g ok s fit v))
