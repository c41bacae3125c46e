use Rattle.std.proofs.Common.{◌≡◌, ◌+◌, ◌*◌, ◌≤◌, true, false}
use Rattle.std.specs.Prelude.{slice_index}
use Rattle.pg_cut.specs.WorkerSet.{has}
use Rattle.pg_greedy.specs.Greedy.{turn_of}
use Rattle.pg_greedy.proofs.best.best.Given as goal

-- the best of those that were looked at
abbrev pub invariant-loop-rest : goal.invariant-loop-rest
invariant-loop-rest l = record {
  member : has l.set l.best ≡ true;
  key_is : l.best_key ≡ 64 * slice_index l.loads l.best + turn_of l.workers l.first l.best;
  part : (w : _) → has l.rest w ≡ true → has l.set w ≡ true;
  least : (w : _) → has l.set w ≡ true → has l.rest w ≡ false → l.best_key ≤ 64 * slice_index l.loads w + turn_of l.workers l.first w;
}

abbrev pub decreases-loop-rest : goal.decreases-loop-rest
decreases-loop-rest l = l.rest
