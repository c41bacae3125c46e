use Rattle.std.proofs.Common.{◌≡◌, ◌*◌, ◌^◌, ◌≤◌, false, length, get_or}
use Rattle.std.specs.Prelude.{sum_by, filter}
use Rattle.std.specs.List.{range_with_len}
use Rattle.pg_law.specs.Round.{edges_over}
use Rattle.pg_serial.proofs.noted.noted_gathers.Given as goal

-- the gathers of the vertices so far
abbrev pub invariant-loop-v : goal.invariant-loop-v
invariant-loop-v l = record {
  sum : l.sum ≡ sum_by (λ v. length (edges_over l.dir l.graph v))
      (filter (λ v. get_or l.noted v false) (range_with_len 0 l.v));
  few : l.sum ≤ l.v * 2 ^ 24;
}
