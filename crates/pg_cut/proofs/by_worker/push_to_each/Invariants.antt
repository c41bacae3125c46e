use Rattle.std.proofs.Common.{◌≡◌, true, cond, ◌&&◌, not, [], ◌∷◌}
use Rattle.pg_cut.specs.WorkerSet.{has}
use Rattle.pg_cut.specs.ByWorker.{lists_in, Appends}
use Rattle.pg_cut.proofs.by_worker.push_to_each.Given as goal

-- the workers that are no longer among the rest have the item
abbrev pub invariant-loop-rest : goal.invariant-loop-rest
invariant-loop-rest l = record {
  among : (w : _) → has l.rest w ≡ true → has l.set w ≡ true;
  pushed : Appends (lists_in l.initial.lists.items) (lists_in l.lists.items) (λ w. cond (has l.set w && not (has l.rest w)) (l.item ∷ []) []);
}

abbrev pub decreases-loop-rest : goal.decreases-loop-rest
decreases-loop-rest l = l.rest
