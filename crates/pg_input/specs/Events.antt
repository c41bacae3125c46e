-- What lines add to a graph, and the events that refuse them.
use Rattle.std.specs.Prelude.{◌≡◌, ℕ, ◌==◌, ◌&&◌, not, nat_lt, nat_le, List, [], ◌∷◌, length, map, Option, None, Some, Result, Ok, Err, if◌then◌else◌}
use Rattle.std.specs.Option.{option_or}
use Rattle.pg_graph.specs.Building.{Building, with_id, ids_with, with_vertex, with_edge}
use Rattle.pg_readers.specs.declared.line.BadLine.{BadLine}
use Rattle.pg_readers.specs.declared.line.Line.{Line}
use Rattle.pg_readers.specs.declared.line.Line.TheVariants.{Nothing, Edge, Star}
use Rattle.pg_input.specs.declared.error.InputError.{InputError}
use Rattle.pg_input.specs.declared.error.InputError.TheVariants as error
use Rattle.pg_input.specs.declared.error.Which.TheVariants as which

-- a vertex by its id, or an edge by the ids of its ends and its weight
pub data Element : Type 0 where
  Vertex : ℕ → Element
  Arc : ℕ → ℕ → ℕ → Element

-- the edges of weight 1 from a vertex to these targets
abbrev pub star_edges : ℕ → List ℕ → List Element
star_edges id targets = map (λ target. Arc id target 1) targets

-- what a line adds, from left to right
abbrev pub elements_of : Line → List Element
elements_of Nothing = []
elements_of (Edge src dst weight) = Arc src dst weight ∷ []
elements_of (Star id targets) = Vertex id ∷ star_edges id targets

abbrev pub with_element : Building → Element → Building
with_element b (Vertex id) = with_vertex b id
with_element b (Arc src dst weight) = with_edge b src dst weight

abbrev pub with_elements : Building → List Element → Building
with_elements b [] = b
with_elements b (element ∷ elements) = with_elements (with_element b element) elements

-- the vertices pass their limit, where these would be the ids
abbrev pub event_of_ids : Building → List ℕ → Option InputError
event_of_ids b ids =
    if nat_lt b.limits.vertices (length ids) then Some (error.Limit which.Vertices b.limits.vertices)
    else None

-- the edges pass theirs by one more; a loop is none
abbrev pub event_of_ends : Building → ℕ → ℕ → Option InputError
event_of_ends b src dst =
    if not (src == dst) && nat_le b.limits.edges (length b.edges)
    then Some (error.Limit which.Edges b.limits.edges)
    else None

-- the first limit that one more element passes
abbrev pub event_of_element : Building → Element → Option InputError
event_of_element b (Vertex id) = event_of_ids b (with_id b.ids id)
event_of_element b (Arc src dst weight) =
    option_or (event_of_ids b (ids_with b.ids src dst)) (event_of_ends b src dst)

-- and the first that one of these elements passes, behind those before it
abbrev pub event_of_elements : Building → List Element → Option InputError
event_of_elements b [] = None
event_of_elements b (element ∷ elements) =
    option_or (event_of_element b element) (event_of_elements (with_element b element) elements)

-- a line that says this; a bad one adds nothing
abbrev pub with_said : Building → Result Line BadLine → Building
with_said b (Err kind) = b
with_said b (Ok line) = with_elements b (elements_of line)

abbrev pub event_of_said : Building → ℕ → Result Line BadLine → Option InputError
event_of_said b number (Err kind) = Some (error.Line number kind)
event_of_said b number (Ok line) = event_of_elements b (elements_of line)

-- an error that tells of the text tells this event
abbrev pub IsEventOf : Option InputError → InputError → Type 0
IsEventOf event (error.Line number kind) = event ≡ Some (error.Line number kind)
IsEventOf event (error.Limit which limit) = event ≡ Some (error.Limit which limit)
IsEventOf event error.ReadFault = Unit {0}
IsEventOf event error.Memory = Unit {0}
