use Rattle.std.proofs.Common.{◌≡◌, ℕ, ◌+◌, ◌*◌, ◌<◌, length, get_or, take}
use Rattle.pg_cut.specs.WorkerSet.{has}
use Rattle.pg_cut.specs.Directory.{blocks_of, is_key}
use Rattle.pg_cut.proofs.directory.masks_of.Given as goal

-- the keys so far have their bits, and no other number has one
abbrev pub invariant-loop-i : goal.invariant-loop-i
invariant-loop-i l = record {
  count : length l.masks.items ≡ blocks_of l.keys;
  each : (b j : ℕ) → b < blocks_of l.keys → j < 64 → has (get_or l.masks.items b 0) j ≡ is_key (take l.i l.keys) (b * 64 + j);
}
