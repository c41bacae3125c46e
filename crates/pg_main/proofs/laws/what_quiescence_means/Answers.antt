use Rattle.std.proofs.Common.{◌≡◌, ℕ, List, Bool, true, false, cond, refl, sym, subst}
use Rattle.pg_graph.specs.Multigraph.{Multigraph, IsMultigraph}
use Rattle.pg_law.specs.declared.values.Datum.{Datum}
use Rattle.pg_law.specs.declared.values.JournalEntry.{JournalEntry}
use Rattle.pg_law.specs.declared.values.End.TheVariants.{Quiescent, Spent}
use Rattle.pg_law.specs.Configuration.{is_quiet}
use Rattle.pg_law.specs.Rounds.{end_of}
use Rattle.pg_colour.specs.Colouring.{colouring}
use Rattle.pg_paths.specs.Components.{components}
use Rattle.pg_paths.specs.ShortestPaths.{shortest_paths}
use Rattle.pg_paths.specs.Tight.{HasTree, HasNoZeroWeight, AllLeadBack}
use Rattle.pg_paths.specs.Trees.{tree}
use Rattle.pg_rank.specs.PageRank.{page_rank}
use Rattle.pg_rank.specs.RankEquation.{MeetEquations}
use Rattle.pg_words.specs.declared.job.Engine.{Engine}
use Rattle.pg_words.specs.declared.job.Engine.TheVariants.{Sync, Serial, Virtual}
use Rattle.pg_words.specs.declared.job.ProgramName.{ProgramName}
use Rattle.pg_words.specs.declared.job.ProgramName.TheVariants.{Components, Colour, Sssp, Rank, Tree}
use Rattle.pg_check.specs.Outcomes.{Outcome, outcome_by, outcome_of}
use Rattle.pg_main.specs.Meanings.{Means}
use Rattle.pg_main.proofs.laws.what_quiescence_means.Goals as goal

-- it ends quiescent where nothing is signalled
quiet_at : (b : Bool) → cond b Quiescent Spent ≡ Quiescent → b ≡ true
quiet_at true e = refl
quiet_at false e = absurd (cc)

quiet_in : (g : Multigraph) (o : Outcome) → end_of g o.state ≡ Quiescent → is_quiet g o.state ≡ true
quiet_in g o ended = quiet_at (is_quiet g o.state) ended

-- what holds of ranks at tolerance 0 holds where the tolerance is 0
at_zero : (g : Multigraph) (engine : Engine) (journal : List JournalEntry)
    → ((outcome_by (page_rank 0) g engine journal).last.end ≡ Quiescent → MeetEquations g (outcome_by (page_rank 0) g engine journal).state.values)
    → (tolerance : ℕ) → (outcome_by (page_rank tolerance) g engine journal).last.end ≡ Quiescent → tolerance ≡ 0
    → MeetEquations g (outcome_by (page_rank tolerance) g engine journal).state.values
at_zero g engine journal at tolerance ended is =
    let Q : ℕ → Type 0 = λ t. MeetEquations g (outcome_by (page_rank t) g engine journal).state.values in
    let R : ℕ → Type 0 = λ t. (outcome_by (page_rank t) g engine journal).last.end ≡ Quiescent in
    subst Q (sym is) (at (subst R is ended))

pub returns : goal.returns
returns c = λ job g journal graph ended. by_name job.program job.engine g journal graph ended
  where
    led : (g : Multigraph) (source : ℕ) (values : List Datum) → IsMultigraph g → HasTree g source values → HasTree g source values × (HasNoZeroWeight g → AllLeadBack g source values)
    led g source values graph grown = (grown, (λ weights. c.trees_lead_to_their_source.ensures.back g source values graph weights grown))

    by_name : (name : ProgramName) (engine : Engine) (g : Multigraph) (journal : List JournalEntry) → IsMultigraph g
        → (outcome_of name engine g journal).last.end ≡ Quiescent → Means name g (outcome_of name engine g journal).state.values
    by_name Components (Sync limit) g journal graph ended = c.components_find_least_ids.ensures.rounds g limit graph (quiet_in g (outcome_by components g (Sync limit) journal) ended)
    by_name Components (Serial fuel) g journal graph ended = c.components_find_least_ids.ensures.executions g journal graph (quiet_in g (outcome_by components g (Serial fuel) journal) ended)
    by_name Components (Virtual fuel seed) g journal graph ended = c.components_find_least_ids.ensures.executions g journal graph (quiet_in g (outcome_by components g (Virtual fuel seed) journal) ended)
    by_name Colour (Sync limit) g journal graph ended = c.colourings_are_proper.ensures.rounds g limit graph (quiet_in g (outcome_by colouring g (Sync limit) journal) ended)
    by_name Colour (Serial fuel) g journal graph ended = c.colourings_are_proper.ensures.executions g journal graph (quiet_in g (outcome_by colouring g (Serial fuel) journal) ended)
    by_name Colour (Virtual fuel seed) g journal graph ended = c.colourings_are_proper.ensures.executions g journal graph (quiet_in g (outcome_by colouring g (Virtual fuel seed) journal) ended)
    by_name (Sssp source) (Sync limit) g journal graph ended = c.shortest_paths_find_least_weights.ensures.rounds g source limit graph (quiet_in g (outcome_by (shortest_paths source) g (Sync limit) journal) ended)
    by_name (Sssp source) (Serial fuel) g journal graph ended = c.shortest_paths_find_least_weights.ensures.executions g source journal graph (quiet_in g (outcome_by (shortest_paths source) g (Serial fuel) journal) ended)
    by_name (Sssp source) (Virtual fuel seed) g journal graph ended = c.shortest_paths_find_least_weights.ensures.executions g source journal graph (quiet_in g (outcome_by (shortest_paths source) g (Virtual fuel seed) journal) ended)
    by_name (Rank tolerance) (Sync limit) g journal graph ended = at_zero g (Sync limit) journal (λ at. c.ranks_meet_their_equations.ensures.rounds g limit graph (quiet_in g (outcome_by (page_rank 0) g (Sync limit) journal) at)) tolerance ended
    by_name (Rank tolerance) (Serial fuel) g journal graph ended = at_zero g (Serial fuel) journal (λ at. c.ranks_meet_their_equations.ensures.executions g journal graph (quiet_in g (outcome_by (page_rank 0) g (Serial fuel) journal) at)) tolerance ended
    by_name (Rank tolerance) (Virtual fuel seed) g journal graph ended = at_zero g (Virtual fuel seed) journal (λ at. c.ranks_meet_their_equations.ensures.executions g journal graph (quiet_in g (outcome_by (page_rank 0) g (Virtual fuel seed) journal) at)) tolerance ended
    by_name (Tree source) (Sync limit) g journal graph ended = led g source (outcome_by (tree source) g (Sync limit) journal).state.values graph (c.trees_grow_along_tight_edges.ensures.rounds g source limit graph (quiet_in g (outcome_by (tree source) g (Sync limit) journal) ended))
    by_name (Tree source) (Serial fuel) g journal graph ended = led g source (outcome_by (tree source) g (Serial fuel) journal).state.values graph (c.trees_grow_along_tight_edges.ensures.executions g source journal graph (quiet_in g (outcome_by (tree source) g (Serial fuel) journal) ended))
    by_name (Tree source) (Virtual fuel seed) g journal graph ended = led g source (outcome_by (tree source) g (Virtual fuel seed) journal).state.values graph (c.trees_grow_along_tight_edges.ensures.executions g source journal graph (quiet_in g (outcome_by (tree source) g (Virtual fuel seed) journal) ended))
