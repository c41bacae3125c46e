use Rattle.std.specs.Vec.Iter.{into_iter_items}
use Rattle.pg_sync.proofs.Sharing.{AreTablesTaken}
use Rattle.pg_sync.proofs.shares.replicas_of.Given as goal

-- the tables so far are made, and what is left is made for the next workers
abbrev pub invariant-loop-one : goal.invariant-loop-one
invariant-loop-one g l = AreTablesTaken l.cut l.values l.tables.items (into_iter_items l.one-iterator)
