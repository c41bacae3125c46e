use Rattle.std.proofs.Common.{◌≡◌, ℕ, ◌+◌, ◌*◌, ◌/◌, ◌<◌, ◌≤◌, List, [], length, sym, subst, ◌∙◌, ap, arith, IfOk}
use Rattle.pg_graph.specs.Multigraph.{Multigraph}
use Rattle.pg_cut.specs.Cut.{cut_of}
use Rattle.pg_greedy.specs.Greedy.{Table, empty_table}
use Rattle.pg_greedy.specs.Loaders.{coordinated, coordinated_places, coordinated_cases, case_counts, batch_start, table_after}
use Rattle.pg_greedy.specs.Drafts.{IsDraft, StandsAs}
use Rattle.pg_greedy.proofs.Tables.{table_after_none}
use Rattle.pg_greedy.proofs.Turns.{batch_is}
use Rattle.pg_greedy.proofs.Apart.{sent_together}
use Rattle.pg_greedy.proofs.Drafting.{places_all, cases_all, blank_draft}
use Rattle.pg_greedy.proofs.loaders.coordinated.Goals as goal

-- a batch ends where the next one starts
next_batch : (L start : ℕ) → 1 ≤ L → batch_start L start ≡ start → batch_start L (start + 1024 * L) ≡ start + 1024 * L
next_batch L start some begins = let q = start / (1024 * L) in
    let up : (q + 1) * (1024 * L) ≡ q * (1024 * L) + 1024 * L = grind arith in
    batch_is L (q + 1) (start + 1024 * L) (omega (arith, begins)) (omega (arith, begins)) ∙ up ∙ ap (λ s. s + 1024 * L) begins

-- no batch comes before the first one
first_batch : (L : ℕ) → 1 ≤ L → batch_start L 0 ≡ 0
first_batch L some = let none : 0 * (1024 * L) ≡ 0 = omega arith in batch_is L 0 0 (omega arith) (omega arith) ∙ none

pub loop-start-init : goal.loop-start-init
loop-start-init c = let g = c.args.graph.now in
    let places = coordinated_places g c.args.workers c.args.loaders in
    let made : c.in_ok-table.table ≡ empty_table g c.args.workers 0 = c.in_ok-table.ensures in
    record {
      low = omega arith;
      aligned = λ h. first_batch c.args.loaders c.requires.some_loaders;
      workers = ap (λ (t : Table). t.workers) made;
      table = made ∙ table_after_none g c.args.workers 0 places ∙ ap (λ f. table_after g c.args.workers f places []) (sym (ap (λ (t : Table). t.first) made));
      draft = blank_draft (length g.edges) (length c.edges-2.result.now) c.args.workers c.in_ok-draft.draft.place.items c.in_ok-draft.draft.cases.items c.requires.some (ap length c.edges-2.ensures.value) c.in_ok-draft.ensures.place c.in_ok-draft.ensures.cases;
      stand = λ x h. absurd (omega arith);
    }

pub loop-start-preserved : goal.loop-start-preserved
loop-start-preserved c = record {
  low = omega (arith, ap length c.edges.ensures.value);
  aligned = λ h. let begins = c.loop-start.invariant.aligned (omega (arith, ap length c.edges.ensures.value)) in
      let next = next_batch c.args.loaders c.loop-start.start c.requires.some_loaders begins in
      let at : c.min-end.result ≡ c.loop-start.start + 1024 * c.args.loaders = omega (arith, c.min-end.ensures, ap length c.edges.ensures.value) in
      ap (batch_start c.args.loaders) at ∙ next ∙ sym at;
  workers = c.place_batch.ensures.workers;
  table = c.place_batch.ensures.table;
  draft = c.place_batch.ensures.draft;
  stand = c.place_batch.ensures.stand;
}

-- all edges stand after the last batch
module _ (g : Multigraph) (workers loaders : ℕ) (places cases : List ℕ) (draft : IsDraft (length g.edges) workers places cases)
    (stand : (x : ℕ) → x < length g.edges → StandsAs (coordinated g workers loaders) places cases x) where
  whole_places : places ≡ coordinated_places g workers loaders
  whole_places = let sent = sent_together g workers loaders in
      places_all (length g.edges) workers (coordinated g workers loaders) places cases draft sent.places_count sent.cases_count stand

  whole_cases : cases ≡ coordinated_cases g workers loaders
  whole_cases = let sent = sent_together g workers loaders in
      cases_all (length g.edges) workers (coordinated g workers loaders) places cases draft sent.places_count sent.cases_count stand

pub returns-clause-value : goal.returns-clause-value
returns-clause-value c = let g = c.args.graph.now in
    let P : List ℕ → Type 0 = λ places. IfOk c.finish.result (λ made. made.cut ≡ cut_of g c.args.workers places) in
    subst P (whole_places g c.args.workers c.args.loaders c.loop-start.draft.place.items c.loop-start.draft.cases.items c.loop-start.invariant.draft
    (λ x h. c.loop-start.invariant.stand x (omega (arith, ap length c.edges.ensures.value)))) c.finish.ensures.value

pub returns-clause-cases : goal.returns-clause-cases
returns-clause-cases c = let g = c.args.graph.now in
    let P : List ℕ → Type 0 = λ cases. IfOk c.finish.result (λ made. made.cases ≡ case_counts cases) in
    subst P (whole_cases g c.args.workers c.args.loaders c.loop-start.draft.place.items c.loop-start.draft.cases.items c.loop-start.invariant.draft
    (λ x h. c.loop-start.invariant.stand x (omega (arith, ap length c.edges.ensures.value)))) c.finish.ensures.cases
