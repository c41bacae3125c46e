use Rattle.std.proofs.Common.{◌≡◌, ◌≤◌, ◌*◌, ◌^◌, length}
use Rattle.std.specs.Prelude.{All, IsSome}
use Rattle.pg_law.specs.Configuration.{Configuration}
use Rattle.pg_sync.specs.Held.{IsHeld}
use Rattle.pg_sync.specs.Counting.{counters_of}
use Rattle.pg_sync.specs.Going.{IsGoing}
use Rattle.pg_sync.proofs.run.run_parts.Given as goal

-- the rounds so far are made, and the rest goes on from what is held
abbrev pub invariant-loop-round : goal.invariant-loop-round
invariant-loop-round g l = let p = g.P.VertexProgram.meaning l.program in
    record {
      going : (s : Configuration) → IsHeld p l.graph l.cut s l.initial.workers l.initial.mirrors l.initial.masters.values.items l.initial.masters.messages.items
          → IsGoing p l.graph l.cut l.cache s l.limit l.round l.executions l.gathers l.workers l.mirrors l.masters.values.items l.masters.messages.items l.kept (counters_of l.initial.seats) (counters_of l.seats);
      carries : length l.masters.carries.items ≡ length l.graph.ids;
      seats : length l.seats ≡ l.cut.workers;
      present : All (λ seat. IsSome seat.0) l.seats;
      few : l.executions ≤ l.round * 2 ^ 22;
      few_gathers : l.gathers ≤ l.round * 2 ^ 25;
    }
