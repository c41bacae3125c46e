-- Visits to all edges in order do what a round does.
use Rattle.std.proofs.Common.{◌≡◌, ℕ, ◌<◌, List, [], length, refl, ◌∙◌, arith}
use Rattle.std.specs.Prelude.{Option, None, map, slice_index}
use Rattle.std.proofs.lemmas.Bool.{cond-true}
use Rattle.std.proofs.lemmas.List.FromFn.{fill_by_all}
use Rattle.pg_graph.specs.Multigraph.{Multigraph, edges_at, vertices, edge_numbers}
use Rattle.pg_law.specs.declared.values.Datum.{Datum}
use Rattle.pg_law.specs.declared.values.Applied.{Applied}
use Rattle.pg_law.specs.Program.{Program}
use Rattle.pg_law.specs.Configuration.{message_in}
use Rattle.pg_law.specs.Round.{final_word, with_signals}
use Rattle.pg_law.specs.declared.edge_words.Change.{Change}
use Rattle.pg_law.specs.EdgeWords.{written}
use Rattle.pg_rounds.specs.Visits.{IsVisited}
use Rattle.pg_law.proofs.Lists.{stands_below}
use Rattle.pg_rounds.proofs.Visiting.{length-written}

module _ {Acc Carry : Type 0} (p : Program Acc Carry) (g : Multigraph) (values : List Datum) (words : List ℕ) (became : List (Option (Applied Carry))) (before after : List (Option ℕ)) (changes : List Change)
    (visited : IsVisited p g values words became (edge_numbers g) before after [] changes) where
  word_final : length words ≡ length g.edges → (e : ℕ) → e < length g.edges → slice_index (written words changes) e ≡ final_word p g values words became e
  word_final count e h = let here : e < length words = omega arith in
      visited.settled [] (λ k inside. refl) e here ∙ cond-true _ _ _ (stands_below e (length g.edges) h)

  pub swept_words : length words ≡ length g.edges → written words changes ≡ map (final_word p g values words became) (edge_numbers g)
  swept_words count = fill_by_all (final_word p g values words became) (written words changes) (length g.edges) 0 (length-written words changes ∙ count) (word_final count)

  pub swept_messages : length after ≡ length g.ids → after ≡ map (λ v. with_signals p g values words became v (message_in before v) (edges_at g v)) (vertices g)
  swept_messages count = fill_by_all (λ v. with_signals p g values words became v (message_in before v) (edges_at g v)) after (length g.ids) None count visited.received
