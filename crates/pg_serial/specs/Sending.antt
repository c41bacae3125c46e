-- What a serial execution writes at the edges of its vertex.
use Rattle.std.specs.Prelude.{ℕ, ◌<◌, ◌==◌, ◌||◌, ◌&&◌, Bool, not, cond, Option, Some, None}
use Rattle.std.specs.Prelude.{is_some, List}
use Rattle.std.specs.Prelude.{slice_index, map, filter, fold}
use Rattle.std.specs.List.{list_any}
use Rattle.pg_graph.specs.Multigraph.{Multigraph, edges_at, end_at, side_at, opposite, takes}
use Rattle.pg_law.specs.declared.values.Datum.{Datum}
use Rattle.pg_law.specs.declared.values.Near.{Near}
use Rattle.pg_law.specs.declared.values.Applied.{Applied}
use Rattle.pg_law.specs.declared.values.Scattered.{Scattered}
use Rattle.pg_law.specs.declared.edge_words.Change.{Change}
use Rattle.pg_law.specs.Program.{Program}
use Rattle.pg_law.specs.Laws.{IsOptional, with_centre}
use Rattle.pg_law.specs.Round.{near_of, word_after, signal_in, join}
use Rattle.pg_serial.specs.declared.scatter.Sent.{Sent}

-- the vertex at the other end of an edge
abbrev pub other_end : Multigraph → ℕ → ℕ → ℕ
other_end g u e = end_at g (opposite (side_at g u e)) e

-- an edge as the executing vertex sees it once it has its new datum
abbrev pub near_after : Multigraph → List Datum → ℕ → ℕ → ℕ → Datum → Near
near_after g values u e word datum = with_centre (near_of g values (side_at g u e) e word) datum

-- it says something: another word, or a signal
abbrev pub is_news : ℕ → Sent → Bool
is_news word sent = not (sent.word == word) || is_some sent.signal

module _ {Acc Carry : Type 0} (p : Program Acc Carry) (g : Multigraph) (values : List Datum)
    (words : List ℕ) (u : ℕ) (applied : Applied Carry) where
  -- what an edge scatters for the executing vertex
  abbrev pub scattered_over : ℕ → Option (Scattered Acc)
  scattered_over e = cond (takes p.scatter_edges (side_at g u e))
      (Some (p.scatter (near_after g values u e (slice_index words e) applied.datum)
      applied.carry)) None

  -- what that makes of the edge's word, and what it sends to the other end
  abbrev pub sent_over : ℕ → Sent
  sent_over e = record {
    edge = e;
    word = word_after (slice_index words e) (scattered_over e);
    to = other_end g u e;
    signal = signal_in (scattered_over e);
  }

  abbrev pub tells : ℕ → Bool
  tells e = is_news (slice_index words e) (sent_over e)

  -- all that is sent and says something, ascending by edge
  abbrev pub sents_over : List ℕ → List Sent
  sents_over edges = map sent_over (filter tells edges)

  abbrev pub sents_around : List Sent
  sents_around = sents_over (edges_at g u)

-- it names an edge and a vertex that are there, and its signal is a message of the program
pub record IsAddressed {Acc Carry : Type 0} (p : Program Acc Carry) (edges vertices : ℕ)
    (sent : Sent) : Type 0 where
  pub edge : sent.edge < edges
  pub to : sent.to < vertices
  pub signal : IsOptional p.IsMessage sent.signal

-- what was sent, as a change of its edge's word
abbrev pub change_of : Sent → Change
change_of sent = record { edge = sent.edge; word = sent.word }

-- the word of an edge, and the message of a vertex, after all that was sent
abbrev pub word_with : ℕ → ℕ → List Sent → ℕ
word_with e word sents = fold (λ w sent. cond (sent.edge == e) sent.word w) word sents

abbrev pub message_with : {Acc Carry : Type 0} → Program Acc Carry → ℕ → Option ℕ → List Sent
    → Option ℕ
message_with p v message sents =
    fold (λ m sent. cond (sent.to == v) (join p.combine m sent.signal) m) message sents

-- a signal was sent to the vertex
abbrev pub reaches : ℕ → List Sent → Bool
reaches v sents = list_any (λ sent. is_some sent.signal && (sent.to == v)) sents
