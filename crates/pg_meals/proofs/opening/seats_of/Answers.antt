use Rattle.std.proofs.Common.{ℕ, ◌<◌, ◌≡◌, length, ap, ◌∙◌, arith}
use Rattle.std.specs.Prelude.{slice_index_or, None}
use Rattle.pg_graph.proofs.Numbers.{grown, grown_all}
use Rattle.pg_law.specs.Values.{two}
use Rattle.pg_law.specs.Configuration.{Configuration, message_in}
use Rattle.pg_meals.specs.Setting.{cell_at}
use Rattle.pg_meals.specs.Opening.{seat_on}
use Rattle.pg_meals.proofs.ListReads.{read_any}
use Rattle.pg_meals.proofs.opening.seats_of.Goals as goal

pub loop-v-preserved : goal.loop-v-preserved
loop-v-preserved g c =
    let s = c.args.state.now in
    let v : ℕ = c.loop-v.v in
    let inside = c.state.inside in
    let values_are : inside.values.items ≡ s.values = ap (λ (x : Configuration). x.values) c.state.view_is in
    let messages_are : inside.messages.items ≡ s.messages = ap (λ (x : Configuration). x.messages) c.state.view_is in
    let v_in : v < length inside.values.items = omega (arith, c.loop-v-test.true, c.len-v-end.ensures) in
    let m_in : v < length inside.messages.items = omega (arith, v_in, ap length values_are, ap length messages_are, c.requires) in
    let datum : c.index.result.now ≡ slice_index_or s.values v (two 0 0) = c.index.ensures ∙ (read_any inside.values.items v c.index.result.now (two 0 0) v_in ∙ ap (λ xs. slice_index_or xs v (two 0 0)) values_are) in
    let message : c.index-in-loop-v.result.now ≡ message_in s.messages v = c.index-in-loop-v.ensures ∙ (read_any inside.messages.items v c.index-in-loop-v.result.now None m_in ∙ ap (λ xs. message_in xs v) messages_are) in
    let cell : c.take_cell-cell.result ≡ cell_at c.args.cells.items v = c.take_cell-cell.ensures.cell ∙ c.loop-v.invariant.rest v (omega arith) in
    record {
      done = c.in_ok-push.ensures.items ∙ grown (seat_on s c.args.cells.items) v _ _ c.loop-v.invariant.done (λ j. record { holder = None; datum = datum j; message = message j; cell = cell j; prepared = c.new.ensures j; last = 0 });
      rest = λ u l. c.take_cell-cell.ensures.rest u (λ q. omega (arith, l, q)) ∙ c.loop-v.invariant.rest u (omega (arith, l));
    }

pub returns : goal.returns
returns g c =
    let s = c.args.state.now in
    let values_are : c.state.inside.values.items ≡ s.values = ap (λ (x : Configuration). x.values) c.state.view_is in
    let all : c.loop-v.v ≡ length s.values = omega (arith, c.len-v-end.ensures, ap length values_are) in
    grown_all (seat_on s c.args.cells.items) c.loop-v.v (length s.values) c.loop-v.seats.items c.loop-v.invariant.done all
