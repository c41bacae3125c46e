use Rattle.std.proofs.Common.{◌≡◌, ◌*◌, ◌≤◌, map}
use Rattle.std.specs.List.{range_with_len}
use Rattle.pg_cut.specs.Directory.{keys_below}
use Rattle.pg_cut.proofs.directory.directory_of.Given as goal

-- the blocks so far have their starts, and no key before the place is at or above the next block
abbrev pub invariant-loop-block : goal.invariant-loop-block
invariant-loop-block l = record {
  starts : l.starts.items ≡ map (λ b. keys_below l.keys (b * 64)) (range_with_len 0 l.block);
  place : l.place ≤ keys_below l.keys (l.block * 64);
}
