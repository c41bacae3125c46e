-- What the core sees of lists: the shape of a graph and its cut, and the families of a state.
use Rattle.std.specs.Prelude.{ℕ, ◌≡◌, ◌<◌, ltb, length, map, slice_index_or, Bool, true, cond}
use Rattle.std.specs.List.{range_with_len}
use Rattle.pg_graph.specs.declared.edge.Side.{Side}
use Rattle.pg_graph.specs.declared.edge.VertexInfo.{VertexInfo}
use Rattle.pg_graph.specs.declared.edge.EdgeInfo.{EdgeInfo}
use Rattle.pg_graph.specs.Multigraph.{Multigraph, end_at, info, edge_info}
use Rattle.pg_law.specs.declared.values.Datum.{Datum}
use Rattle.pg_law.specs.Program.{Program}
use Rattle.pg_law.specs.Configuration.{Configuration, message_in}
use Rattle.pg_meals.specs.Shape.{Shape}
use Rattle.pg_meals.specs.Serial.{Serial}

-- the worker of each edge, and which workers a vertex spans
pub record Cut : Type 0 where
  pub worker : ℕ → ℕ
  pub spans : ℕ → ℕ → Bool

-- both ends of an edge span its worker
abbrev pub IsCut : Multigraph → Cut → Type 0
IsCut g cut = (side : Side) (e : ℕ) → e < length g.edges
    → cut.spans (end_at g side e) (cut.worker e) ≡ true

-- infos that some graph gives, and values that the program makes of them
-- they stand beyond the ends of lists, so that no clause needs a bound
abbrev pub any_vertex : VertexInfo
any_vertex = record { id = 0; in_degree = 0; out_degree = 0 }

abbrev pub any_edge : EdgeInfo
any_edge = record {
  src = record { id = 0; in_degree = 0; out_degree = 1 };
  dst = record { id = 0; in_degree = 1; out_degree = 0 };
  weight = 0;
}

abbrev pub any_datum : {Acc Carry : Type 0} → Program Acc Carry → Datum
any_datum p = (p.start any_vertex).datum

abbrev pub any_word : {Acc Carry : Type 0} → Program Acc Carry → ℕ
any_word p = p.start_edge any_edge

-- a graph with a cut, as the core sees it
abbrev pub shape_of : Multigraph → Cut → Bool → Shape
shape_of g cut caches =
    record {
      vertices = length g.ids;
      edges = length g.edges;
      end = λ side e. end_at g side e;
      info = info g;
      edge_info = λ e. cond (ltb e (length g.edges)) (edge_info g e) any_edge;
      worker = cut.worker;
      spans = cut.spans;
      caches = caches;
    }

-- a configuration as the core sees it, and back
abbrev pub serial_of : {Acc Carry : Type 0} → Program Acc Carry → Configuration → Serial
serial_of p s =
    record {
      value = λ v. slice_index_or s.values v (any_datum p);
      word = λ e. slice_index_or s.edges e (any_word p);
      message = λ v. message_in s.messages v;
    }

abbrev pub configuration_of : Multigraph → Serial → Configuration
configuration_of g st =
    record {
      values = map st.value (range_with_len 0 (length g.ids));
      edges = map st.word (range_with_len 0 (length g.edges));
      messages = map st.message (range_with_len 0 (length g.ids));
    }
