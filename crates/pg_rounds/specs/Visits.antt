-- In what order a round visits its edges, and what it notes of their words.
use Rattle.std.specs.Prelude.{◌≡◌, ℕ, ◌<◌, ◌==◌, Bool, Option, None, is_some, cond, List, [], ◌∷◌, ◌++◌, length, slice_index, slice_index_or, filter, All}
use Rattle.std.specs.List.{list_any, flat_map}
use Rattle.pg_graph.specs.declared.edge.Edge.{Edge}
use Rattle.pg_graph.specs.Multigraph.{Multigraph, edges_at, edge_at, is_at}
use Rattle.pg_law.specs.declared.values.Datum.{Datum}
use Rattle.pg_law.specs.declared.values.Applied.{Applied}
use Rattle.pg_law.specs.Program.{Program}
use Rattle.pg_law.specs.Monoid.{part}
use Rattle.pg_law.specs.Configuration.{Configuration, message_in}
use Rattle.pg_law.specs.Round.{final_word, with_signals}
use Rattle.pg_law.specs.declared.edge_words.Change.{Change}
use Rattle.pg_law.specs.EdgeWords.{written}

-- whether a vertex executes, by what it became or by its carry
abbrev pub executes_in : {X : Type 0} → List (Option X) → ℕ → Bool
executes_in became v = is_some (slice_index_or became v None)

-- the vertex that visits an edge: its source where that executes, and otherwise its target
abbrev pub visitor_of : {X : Type 0} → List (Option X) → Edge → ℕ
visitor_of became edge = cond (executes_in became edge.src) edge.src edge.dst

abbrev pub visitor : {X : Type 0} → Multigraph → List (Option X) → ℕ → ℕ
visitor g became e = visitor_of became (edge_at g e)

-- the edges that a vertex visits, ascending
abbrev pub visits_of : {Carry : Type 0} → Multigraph → List (Option (Applied Carry)) → ℕ → List ℕ
visits_of g became v = part (visitor g became) v (edges_at g v)

-- the edges that these vertices visit, one vertex after another
abbrev pub visits : {Carry : Type 0} → Multigraph → List (Option (Applied Carry)) → List ℕ → List ℕ
visits g became vertices = flat_map (visits_of g became) vertices

abbrev pub another_word : ℕ → ℕ → Change
another_word edge word = record { edge = edge; word = word }

-- the changes with one more, where the new word is not the old one
abbrev pub with_change : List Change → ℕ → ℕ → ℕ → List Change
with_change changes edge old new = cond (old == new) changes (changes ++ another_word edge new ∷ [])

-- a state with these data and messages, and these changes of its words
abbrev pub drafted : Configuration → List Datum → List (Option ℕ) → List Change → Configuration
drafted s values messages changes = record { values = values; edges = written s.edges changes; messages = messages }

abbrev pub AreInside : Multigraph → List Change → Type 0
AreInside g changes = All (λ change. change.edge < length g.edges) changes

module _ {Acc Carry : Type 0} (p : Program Acc Carry) (g : Multigraph) (values : List Datum) (words : List ℕ) (became : List (Option (Applied Carry))) where
  -- with these changes the words of these edges are final, and the others are as they were
  abbrev pub AreWritten : List Change → List ℕ → Type 0
  AreWritten changes edges = (e : ℕ) → e < length words → slice_index (written words changes) e ≡ cond (list_any (λ k. k == e) edges) (final_word p g values words became e) (slice_index words e)

-- visits to these edges: the vertices at them receive their signals, in this order, and their words become final
pub record IsVisited {Acc Carry : Type 0} (p : Program Acc Carry) (g : Multigraph) (values : List Datum) (words : List ℕ) (became : List (Option (Applied Carry))) (edges : List ℕ) (before after : List (Option ℕ)) (old new : List Change) : Type 0 where
  pub received : (u : ℕ) → u < length g.ids → message_in after u ≡ with_signals p g values words became u (message_in before u) (filter (λ e. is_at u (edge_at g e)) edges)
  pub settled : (done : List ℕ) → AreWritten p g values words became old done → AreWritten p g values words became new (done ++ edges)
  pub inside : AreInside g old → AreInside g new
