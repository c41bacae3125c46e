use Rattle.std.proofs.Common.{ℕ, ◌<◌, length, set, sym, subst, ◌∙◌}
use Rattle.std.specs.Prelude.{All, fold}
use Rattle.std.specs.Vec.Iter.{into_iter_items}
use Rattle.std.proofs.lemmas.List.{length-set}
use Rattle.pg_apply_scatter.specs.Delivering.{cell_in}
use Rattle.pg_apply_scatter.proofs.Receiving.{at_end, after_first, first_one, received_more, received_all}
use Rattle.pg_sync.proofs.Filling.{fill_step, filled_once, set_step}
use Rattle.pg_sync.proofs.cells.fill_all.Goals as goal

pub loop-entry-preserved : goal.loop-entry-preserved
loop-entry-preserved g c =
    let left = into_iter_items c.next.new.self in
    let items = into_iter_items c.loop-entry.entry-iterator in
    let step = c.in-Some.ensures.steps.0 in
    let entry = c.in-Some.entry in
    let cells = c.loop-entry.cells in
    let Below : ℕ → Type 0 = λ n. All (λ sum. sum.0 < n) left in
    record {
      fills = λ v. received_more (fill_step v) (fold (fill_step v) (cell_in c.args.cells.now v) c.args.sums.items) (cell_in cells v) (cell_in (set cells entry.0 c.fill.new.self) v) entry left items step (c.loop-entry.invariant.fills v)
          (set_step cells entry c.fill.new.self v (first_one (λ sum. sum.0 < length cells) entry left items step c.loop-entry.invariant.below) c.fill.ensures);
      below = subst Below (sym (length-set cells entry.0 c.fill.new.self)) (after_first (λ sum. sum.0 < length cells) entry left items step c.loop-entry.invariant.below);
    }

pub returns : goal.returns
returns g c = λ v. received_all (fill_step v) (fold (fill_step v) (cell_in c.args.cells.now v) c.args.sums.items) (cell_in c.loop-entry.cells v) (into_iter_items c.loop-entry.entry-iterator)
    (at_end c.loop-entry.entry-iterator c.in-None.ensures.steps.0) (c.loop-entry.invariant.fills v) ∙ filled_once c.args.sums.items v (cell_in c.args.cells.now v) c.requires.apart
