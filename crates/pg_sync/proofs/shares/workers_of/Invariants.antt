use Rattle.std.specs.Vec.Iter.{into_iter_items}
use Rattle.pg_sync.proofs.Sharing.{AreTaken}
use Rattle.pg_sync.proofs.shares.workers_of.Given as goal

-- the workers so far have their edges, and what is left is made for the next ones
abbrev pub invariant-loop-one : goal.invariant-loop-one
invariant-loop-one g l = AreTaken l.graph l.cut l.words l.workers.items (into_iter_items l.one-iterator)
