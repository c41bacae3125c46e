use Rattle.std.proofs.Common.{◌≡◌, [], map, take}
use Rattle.pg_cut.specs.ByWorker.{lists_in}
use Rattle.pg_cut.proofs.by_worker.empty_lists.Given as goal

abbrev pub invariant-loop-room : goal.invariant-loop-room
invariant-loop-room l = lists_in l.lists.items ≡ map (λ _. []) (take l.room-index l.rooms)
