-- What one worker scatters: over the edges of its own store, through its own replicas.
use Rattle.std.specs.Prelude.{◌≡◌, ℕ, ◌<◌, Bool, cond, is_some, filter, Option, Some, None, List, [], ◌∷◌, ◌++◌, length, slice_index, map}
use Rattle.std.specs.List.{range_with_len, flat_map}
use Rattle.std.specs.List.Sorted.{IsStrictlyIncreasing}
use Rattle.pg_graph.specs.declared.edge.Edge.{Edge}
use Rattle.pg_graph.specs.declared.edge.Side.{Side}
use Rattle.pg_graph.specs.declared.edge.Side.TheVariants.{Source, Target}
use Rattle.pg_graph.specs.Multigraph.{Multigraph, end_of, end_at, opposite, takes, edge_info}
use Rattle.pg_law.specs.declared.values.Near.{Near}
use Rattle.pg_law.specs.declared.values.Scattered.{Scattered}
use Rattle.pg_law.specs.declared.values.Delta.TheVariants.{Nothing}
use Rattle.pg_law.specs.Program.{Program}
use Rattle.pg_law.specs.Laws.{IsOptional, IsDelta}
use Rattle.pg_law.specs.Carries.{carry_at}
use Rattle.pg_law.specs.Round.{word_after}
use Rattle.pg_edge_store.specs.Store.{Store}
use Rattle.pg_mirrors.specs.Mirrors.{Mirrors, datum_at}
use Rattle.pg_gather.specs.Partials.{replica_of}
use Rattle.pg_apply_scatter.specs.declared.sent.Sent.{Sent}
use Rattle.pg_apply_scatter.specs.declared.visit.Visits.{Visits}

-- an edge with this word, as its end at this side sees it from here
abbrev pub near_with : Multigraph → Mirrors → Side → ℕ → ℕ → Near
near_with g m side e word = record {
  side = side;
  edge = edge_info g e;
  word = word;
  centre = replica_of m (end_at g side e);
  other = replica_of m (end_at g (opposite side) e);
}

-- replicas, each once, with data of the program
pub record AreReplicas {Acc Carry : Type 0} (p : Program Acc Carry) (m : Mirrors) : Type 0 where
  pub ascending : IsStrictlyIncreasing m.vertices
  pub values : (i : ℕ) → i < length m.vertices → p.IsDatum (datum_at m.values i)

-- an edge whose ends are the replicas of the ends of an edge of the graph
pub record IsBetweenReplicas (g : Multigraph) (m : Mirrors) (e : ℕ) (local : Edge) : Type 0 where
  pub within : (side : Side) → end_of side local < length m.vertices
  pub ends : (side : Side) → slice_index m.vertices (end_of side local) ≡ end_at g side e

-- what the centre scatters over an edge, where it has a carry and the edge is one of its own
abbrev pub scatter_near : {Acc Carry : Type 0} → Program Acc Carry → Near → Option Carry → Option (Scattered Acc)
scatter_near p near None = None
scatter_near p near (Some carry) =
    cond (takes p.scatter_edges near.side) (Some (p.scatter near carry)) None

-- what a vertex is sent by a visit
abbrev pub sent_to : {Acc : Type 0} → ℕ → Option (Scattered Acc) → List (Sent Acc)
sent_to v None = []
sent_to v (Some scattered) = record {
  to = v;
  signal = scattered.signal;
  delta = scattered.delta;
} ∷ []

-- what the visits of an edge send: that for its source to its target, and the other way
abbrev pub sent_by : {Acc : Type 0} → Visits Acc → List (Sent Acc)
sent_by visits = sent_to visits.edge.dst visits.source ++ sent_to visits.edge.src visits.target

-- it goes to a vertex of the graph, and its values are the program's
pub record IsSentIn {Acc Carry : Type 0} (p : Program Acc Carry) (count : ℕ) (sent : Sent Acc) : Type 0 where
  pub to : sent.to < count
  pub signal : IsOptional p.IsMessage sent.signal
  pub delta : IsDelta p.IsAcc sent.delta

-- what is sent with a signal, and no delta
abbrev pub without_delta : {Acc : Type 0} → Sent Acc → Sent Acc
without_delta sent = record { to = sent.to; signal = sent.signal; delta = Nothing }

abbrev pub signals_in : {Acc : Type 0} → List (Sent Acc) → List (Sent Acc)
signals_in list = map without_delta (filter (λ sent. is_some sent.signal) list)

-- a message for a vertex as a signal, where there is one
abbrev pub signal_for : {Acc : Type 0} → ℕ → Option ℕ → List (Sent Acc)
signal_for v None = []
signal_for v (Some message) = record { to = v; signal = Some message; delta = Nothing } ∷ []

-- one signal for each vertex below a number that has a message, ascending
abbrev pub one_each : {Acc : Type 0} → (ℕ → Option ℕ) → ℕ → List (Sent Acc)
one_each message count = flat_map (λ v. signal_for v (message v)) (range_with_len 0 count)

-- what is listed of all that is sent: the whole, or the signals alone
abbrev pub listing : {Acc : Type 0} → Bool → List (Sent Acc) → List (Sent Acc)
listing with_deltas list = cond with_deltas list (signals_in list)

module _ {Acc Carry : Type 0} (p : Program Acc Carry) (g : Multigraph) (m : Mirrors) (carries : List (Option Carry)) where
  -- what an end of an edge with this word scatters, by its carry
  abbrev pub scattered_here : Side → ℕ → ℕ → Option (Scattered Acc)
  scattered_here side e word = scatter_near p (near_with g m side e word) (carry_at carries (end_at g side e))

  -- an edge with this word is visited for its source first, and then for its target
  abbrev pub source_here : ℕ → ℕ → Option (Scattered Acc)
  source_here e word = scattered_here Source e word

  abbrev pub between_here : ℕ → ℕ → ℕ
  between_here e word = word_after word (source_here e word)

  abbrev pub target_here : ℕ → ℕ → Option (Scattered Acc)
  target_here e word = scattered_here Target e (between_here e word)

  abbrev pub final_here : ℕ → ℕ → ℕ
  final_here e word = word_after (between_here e word) (target_here e word)

  -- what these visits send
  abbrev pub sent_over : ℕ → ℕ → List (Sent Acc)
  sent_over e word = sent_to (end_at g Target e) (source_here e word) ++ sent_to (end_at g Source e) (target_here e word)

  module _ (s : Store) where
    -- the same for the edge at a place of the store
    abbrev pub final_at : ℕ → ℕ
    final_at i = final_here (slice_index s.numbers i) (slice_index s.words i)

    abbrev pub sent_at : ℕ → List (Sent Acc)
    sent_at i = sent_over (slice_index s.numbers i) (slice_index s.words i)

    -- the words after all visits, and what all visits send, in ascending order of the edges
    abbrev pub words_after : List ℕ
    words_after = map final_at (range_with_len 0 (length s.numbers))

    abbrev pub sent_from : List (Sent Acc)
    sent_from = flat_map sent_at (range_with_len 0 (length s.numbers))
