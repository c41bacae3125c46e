use Rattle.std.proofs.Common.{ℕ, length, List, ap, subst, sym, ◌∙◌}
use Rattle.std.specs.Prelude.{map}
use Rattle.std.specs.List.{range_with_len}
use Rattle.pg_graph.specs.declared.edge.Side.{Side}
use Rattle.pg_law.specs.Laws.{IsOptional}
use Rattle.pg_law.specs.Values.{two}
use Rattle.pg_law.specs.Configuration.{message_in}
use Rattle.pg_meals.specs.declared.fork.Fork.{Fork}
use Rattle.pg_meals.specs.declared.seat.Seat.{Seat}
use Rattle.pg_meals.specs.Entries.{at_side, fork_at, seat_at}
use Rattle.pg_meals.specs.Closing.{delivered}
use Rattle.pg_meals.proofs.Closed.{state_left, own_fits, rides_fit}
use Rattle.pg_meals.proofs.closing.state_left.Goals as goal

pub deliver-requires-clause-own : goal.deliver-requires-clause-own
deliver-requires-clause-own g c κs within =
    own_fits (g.P.VertexProgram.meaning c.args.program.now) c.laws_of.ensures c.args.graph.now c.args.opening c.args.board.now c.requires.kept c.requires.free c.write_messages.new.messages.items
    (c.write_messages.ensures ∙ ap (λ (seats : List (Seat _)). map (λ v. (seat_at (two 0 0) seats v).message) (range_with_len 0 (length seats))) c.as_slice-2.ensures.value)

pub deliver-requires-clause-rides : goal.deliver-requires-clause-rides
deliver-requires-clause-rides g c κs within =
    let p = g.P.VertexProgram.meaning c.args.program.now in
    subst (λ (forks : List (Fork _)). (s : Side) (e : ℕ) → IsOptional p.IsMessage (at_side s (fork_at 0 forks e).content).message) (sym c.as_slice-3.ensures.value)
    (rides_fit p c.laws_of.ensures c.args.graph.now c.args.opening c.args.board.now c.requires.kept c.requires.free)

pub returns : goal.returns
returns g c =
    let p = g.P.VertexProgram.meaning c.args.program.now in
    let graph = c.args.graph.now in
    let own = c.write_messages.new.messages.items in
    (λ j. record { values = c.write_data.new.values.items; edges = c.from.ensures j; messages = c.deliver.new.messages.items })
    ∙ state_left p c.laws_of.ensures graph c.args.opening c.args.board.now c.requires.kept c.requires.free c.write_data.new.values.items c.put_words.new.words.items own c.deliver.new.messages.items
    (c.write_data.ensures ∙ ap (λ (seats : List (Seat _)). map (λ v. (seat_at (two 0 0) seats v).datum) (range_with_len 0 (length seats))) c.as_slice.ensures.value)
    (c.put_words.ensures ∙ ap (map (λ (x : Fork _). x.content.word)) c.as_slice-4.ensures.value)
    (c.write_messages.ensures ∙ ap (λ (seats : List (Seat _)). map (λ v. (seat_at (two 0 0) seats v).message) (range_with_len 0 (length seats))) c.as_slice-2.ensures.value)
    c.deliver.ensures.len
    (λ v i. c.deliver.ensures.joined v i ∙ ap (λ (forks : List (Fork _)). delivered p.combine graph forks v (length graph.edges) (message_in own v)) c.as_slice-3.ensures.value)
