use Rattle.std.proofs.Common.{◌≡◌, ◌<◌, length}
use Rattle.std.specs.Prelude.{All}
use Rattle.pg_edge_store.specs.Store.{places_taken}
use Rattle.pg_edge_store.proofs.around.AroundIterator.next.Given as goal

-- what was passed over is not taken
abbrev pub invariant-loop-place : goal.invariant-loop-place
invariant-loop-place l =
    (places_taken l.self-inside.edges.now l.self-inside.replica l.self-inside.dir l.self-inside.places.now
    ≡ places_taken l.initial.self-inside.edges.now l.initial.self-inside.replica l.initial.self-inside.dir l.initial.self-inside.places.now)
    × All (λ i. i < length l.self-inside.edges.now) l.self-inside.places.now

abbrev pub decreases-loop-place : goal.decreases-loop-place
decreases-loop-place l = length l.self-inside.places.now
