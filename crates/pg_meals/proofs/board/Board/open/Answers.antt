use Rattle.std.proofs.Common.{◌≡◌, length, None, refl, ap, ◌∙◌}
use Rattle.std.specs.Prelude.{map, slice_index, replicate}
use Rattle.std.specs.List.{range_with_len}
use Rattle.pg_law.specs.Configuration.{Configuration}
use Rattle.pg_meals.specs.Opening.{fork_on, seat_on, row_on}
use Rattle.pg_meals.specs.Opened.{cells_in}
use Rattle.pg_meals.proofs.Initial.{is_opened, is_board}
use Rattle.pg_meals.proofs.board.Board.open.Goals as goal

pub returns-clause-opened : goal.returns-clause-opened
returns-clause-opened g c =
    let graph = c.args.graph.now in
    let s = c.args.state.now in
    let values_are : c.as_slice.result.now ≡ s.values = c.as_slice.ensures.value ∙ ap (λ (x : Configuration). x.values) c.state.view_is in
    let words_are : c.state.inside.edges ≡ s.edges = ap (λ (x : Configuration). x.edges) c.state.view_is in
    is_opened graph c.args.cut.now s (cells_in c.args.caches)
    (record { seats = c.in_ok-seats_of.field-0; forks = c.in_ok-forks_of.field-0; workers = c.in_ok-workers_of.field-0; replicas = c.in_ok-rows_of.field-0; actors = c.in_ok-vec.field-0; turn = None; journal = c.in_ok-with_capacity.field-0; fuel = c.args.fuel; caches = c.is_some-keeps.result })
    c.edges.ensures.graph c.requires.cut c.requires.values c.requires.messages c.requires.words c.requires.cells
    (c.in_ok-seats_of.ensures ∙ ap (λ cells. map (seat_on s cells) (range_with_len 0 (length s.values))) c.cells_of-cells.ensures)
    (c.in_ok-forks_of.ensures ∙ ap (λ ws. map (fork_on graph ws) (range_with_len 0 (length graph.edges))) words_are)
    (c.in_ok-workers_of.ensures ∙ ap (λ es. map (slice_index c.args.cut.now.place) (range_with_len 0 (length es))) c.edges.ensures.value)
    (c.in_ok-rows_of.ensures ∙ ap (λ vs. map (row_on c.args.cut.now vs) (range_with_len 0 (length vs))) values_are)
    c.args.actors (c.in_ok-vec.ensures.items_if_clones_equal (λ y q. q) ∙ ap (replicate c.args.actors) c.idle.ensures) refl c.in_ok-with_capacity.ensures.items c.in_ok-with_capacity.ensures.capacity

pub returns-clause-board : goal.returns-clause-board
returns-clause-board g c =
    let graph = c.args.graph.now in
    let s = c.args.state.now in
    let values_are : c.as_slice.result.now ≡ s.values = c.as_slice.ensures.value ∙ ap (λ (x : Configuration). x.values) c.state.view_is in
    let words_are : c.state.inside.edges ≡ s.edges = ap (λ (x : Configuration). x.edges) c.state.view_is in
    is_board graph c.args.cut.now s (cells_in c.args.caches)
    (record { seats = c.in_ok-seats_of.field-0; forks = c.in_ok-forks_of.field-0; workers = c.in_ok-workers_of.field-0; replicas = c.in_ok-rows_of.field-0; actors = c.in_ok-vec.field-0; turn = None; journal = c.in_ok-with_capacity.field-0; fuel = c.args.fuel; caches = c.is_some-keeps.result })
    c.edges.ensures.graph c.requires.cut c.requires.values c.requires.messages c.requires.words c.requires.cells
    (c.in_ok-seats_of.ensures ∙ ap (λ cells. map (seat_on s cells) (range_with_len 0 (length s.values))) c.cells_of-cells.ensures)
    (c.in_ok-forks_of.ensures ∙ ap (λ ws. map (fork_on graph ws) (range_with_len 0 (length graph.edges))) words_are)
    (c.in_ok-workers_of.ensures ∙ ap (λ es. map (slice_index c.args.cut.now.place) (range_with_len 0 (length es))) c.edges.ensures.value)
    (c.in_ok-rows_of.ensures ∙ ap (λ vs. map (row_on c.args.cut.now vs) (range_with_len 0 (length vs))) values_are)
    c.args.actors (c.in_ok-vec.ensures.items_if_clones_equal (λ y q. q) ∙ ap (replicate c.args.actors) c.idle.ensures) refl c.in_ok-with_capacity.ensures.items c.in_ok-with_capacity.ensures.capacity
