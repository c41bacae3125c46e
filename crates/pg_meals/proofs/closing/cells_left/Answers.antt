use Rattle.std.proofs.Common.{ℕ, ◌<◌, ◌≡◌, length, cond, arith, ap, ◌∙◌}
use Rattle.std.proofs.lemmas.List.FromFn.{fill_by_all, get_or-map-range_with_len, length-map-range_with_len}
use Rattle.pg_law.specs.Values.{two}
use Rattle.pg_delta.specs.Cell.{cleared}
use Rattle.pg_meals.specs.Setting.{cell_at}
use Rattle.pg_meals.specs.Entries.{seat_at}
use Rattle.pg_meals.specs.Closing.{waits_below, cell_left}
use Rattle.pg_meals.proofs.closing.cells_left.Goals as goal

pub clear_waiting-requires-clause-len : goal.clear_waiting-requires-clause-len
clear_waiting-requires-clause-len g c =
    ap length c.put_cells.ensures ∙ (length-map-range_with_len (λ v. (seat_at (two 0 0) c.args.board.now.seats.items v).cell) 0 (length c.args.board.now.seats.items) ∙ c.requires.board.seats)

pub returns-clause-left : goal.returns-clause-left
returns-clause-left g c =
    let b = c.args.board.now in
    let graph = c.args.graph.now in
    let each : (k : ℕ) → k < length graph.ids → cell_at c.clear_waiting.new.cells.items k ≡ cell_left graph b k
    = λ k i. c.clear_waiting.ensures.cleared k i
    ∙ (λ j. cond (waits_below graph (c.as_slice.ensures.value j) k (length graph.edges)) cleared
    ((ap (λ xs. cell_at xs k) c.put_cells.ensures ∙ get_or-map-range_with_len (λ v. (seat_at (two 0 0) b.seats.items v).cell) 0 (length b.seats.items) k k cleared (omega (arith, i, c.requires.board.seats)) (omega arith)) j)) in
    (c.if-not-board.false, fill_by_all (cell_left graph b) c.clear_waiting.new.cells.items (length graph.ids) cleared c.clear_waiting.ensures.len each)
