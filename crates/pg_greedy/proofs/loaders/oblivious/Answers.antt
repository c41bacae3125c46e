use Rattle.std.proofs.Common.{◌≡◌, ℕ, ◌%◌, ◌<◌, List, length, subst, arith, IfOk}
use Rattle.pg_graph.specs.Multigraph.{Multigraph}
use Rattle.pg_cut.specs.Cut.{cut_of}
use Rattle.pg_greedy.specs.Loaders.{oblivious, oblivious_places, oblivious_cases, case_counts, never}
use Rattle.pg_greedy.specs.Drafts.{IsDraft, StandsAs}
use Rattle.std.proofs.lemmas.Nat.{mod_below}
use Rattle.pg_greedy.proofs.Placings.{placing_sent}
use Rattle.pg_greedy.proofs.Drafting.{places_all, cases_all}
use Rattle.pg_greedy.proofs.loaders.oblivious.Goals as goal

-- all edges stand once each loader had its turn
module _ (g : Multigraph) (workers loaders : ℕ) (some : 0 < loaders) (places cases : List ℕ) (draft : IsDraft (length g.edges) workers places cases)
    (stand : (x : ℕ) → x < length g.edges → x % loaders < loaders → StandsAs (oblivious g workers loaders) places cases x) where
  whole_places : places ≡ oblivious_places g workers loaders
  whole_places = let sent = placing_sent g workers loaders never (λ e. omega arith) in
      places_all (length g.edges) workers (oblivious g workers loaders) places cases draft sent.places_count sent.cases_count (λ x h. stand x h (mod_below x loaders some))

  whole_cases : cases ≡ oblivious_cases g workers loaders
  whole_cases = let sent = placing_sent g workers loaders never (λ e. omega arith) in
      cases_all (length g.edges) workers (oblivious g workers loaders) places cases draft sent.places_count sent.cases_count (λ x h. stand x h (mod_below x loaders some))

pub returns-clause-value : goal.returns-clause-value
returns-clause-value c = let g = c.args.graph.now in
    let P : List ℕ → Type 0 = λ places. IfOk c.finish.result (λ made. made.cut ≡ cut_of g c.args.workers places) in
    subst P (whole_places g c.args.workers c.args.loaders (omega arith) c.loop-loader.draft.place.items c.loop-loader.draft.cases.items c.loop-loader.invariant.draft
    (λ x h l. c.loop-loader.invariant.stand x h (omega arith))) c.finish.ensures.value

pub returns-clause-cases : goal.returns-clause-cases
returns-clause-cases c = let g = c.args.graph.now in
    let P : List ℕ → Type 0 = λ cases. IfOk c.finish.result (λ made. made.cases ≡ case_counts cases) in
    subst P (whole_cases g c.args.workers c.args.loaders (omega arith) c.loop-loader.draft.place.items c.loop-loader.draft.cases.items c.loop-loader.invariant.draft
    (λ x h l. c.loop-loader.invariant.stand x h (omega arith))) c.finish.ensures.cases
