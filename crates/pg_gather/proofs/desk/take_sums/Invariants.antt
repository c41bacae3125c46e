use Rattle.std.proofs.Common.{◌≡◌, ◌<◌, ◌≤◌, ℕ, Some, length, get_or, take}
use Rattle.pg_gather.specs.Partials.{partial_sum, partial_sums}
use Rattle.pg_gather.specs.Desks.{desk_at}
use Rattle.pg_gather.proofs.desk.take_sums.Given as goal

-- the sums so far are taken, and those of the wanted vertices behind them still lie at their desks
abbrev pub invariant-loop-u : goal.invariant-loop-u
invariant-loop-u g l = let p = g.P.VertexProgram.meaning l._program in
    record {
      sums : l.sums.items ≡ partial_sums p l._graph l._store l.mirrors (take l.u-index l.wanted);
      count : length l.desks ≡ length l.mirrors.vertices;
      left : (r j : ℕ) → r < length l.mirrors.vertices → l.u-index ≤ j → j < length l.wanted → get_or l.mirrors.vertices r 0 ≡ get_or l.wanted j 0
          → (desk_at l.desks r).sum ≡ Some (partial_sum p l._graph l._store l.mirrors (get_or l.wanted j 0));
    }
