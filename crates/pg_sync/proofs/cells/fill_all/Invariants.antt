use Rattle.std.proofs.Common.{◌≡◌, ℕ, ◌<◌, length}
use Rattle.std.specs.Prelude.{All, fold}
use Rattle.std.specs.Vec.Iter.{into_iter_items}
use Rattle.pg_apply_scatter.specs.Delivering.{cell_in}
use Rattle.pg_sync.proofs.Filling.{fill_step}
use Rattle.pg_sync.proofs.cells.fill_all.Given as goal

-- what is left of the sums, filled from here on, comes to all sums
abbrev pub invariant-loop-entry : goal.invariant-loop-entry
invariant-loop-entry g l = let left = into_iter_items l.entry-iterator in
    record {
      fills : (v : ℕ) → fold (fill_step v) (cell_in l.cells v) left ≡ fold (fill_step v) (cell_in l.initial.cells v) l.fn.sums.items;
      below : All (λ sum. sum.0 < length l.cells) left;
    }
