use Rattle.std.proofs.Common.{◌≡◌, ◌+◌, ◌<◌, ℕ, ◌++◌, None, length, sym, ap, arith, ◌∙◌, slice_index}
use Rattle.std.specs.Prelude.{Option}
use Rattle.std.proofs.lemmas.List.{get_or_read}
use Rattle.pg_law.specs.Configuration.{Configuration, message_in}
use Rattle.pg_check.specs.Course.{signals_from}
use Rattle.pg_check.specs.Reports.{message_lines}
use Rattle.pg_check.proofs.TailLemmas.{signals_more, signals_end}
use Rattle.pg_check.proofs.tail.signal_from.Goals as goal

pub returns-in-Some-clause-lines : goal.returns-in-Some-clause-lines
returns-in-Some-clause-lines c = λ name last.
    (let g = c.args.graph.now in
    let v = c.loop-v.v in
    let same = ap (λ (s : Configuration). s.messages) c.state.view_is in
    let inside : v < length g.ids = omega (arith, c.vertices-v-end.ensures.value) in
    let held : v < length c.state.inside.messages.items = omega (arith, ap length same, c.requires.messages, inside) in
    let message = get_or_read c.state.inside.messages.items v c.index.result.now held c.index.ensures None ∙ ap (λ xs. message_in xs v) same in
    let rest = signals_from g c.args.state.now last (v + 1) in
    let line_is = ap (λ (m : Option ℕ). message_lines (slice_index g.ids v) m ++ rest) (sym message ∙ c.in-Some.is) in
    sym (c.loop-v.invariant last ∙ (signals_more g c.args.state.now last v inside ∙ line_is)))

pub loop-v-preserved : goal.loop-v-preserved
loop-v-preserved c = λ last.
    (let g = c.args.graph.now in
    let v = c.loop-v.v in
    let same = ap (λ (s : Configuration). s.messages) c.state.view_is in
    let inside : v < length g.ids = omega (arith, c.vertices-v-end.ensures.value) in
    let held : v < length c.state.inside.messages.items = omega (arith, ap length same, c.requires.messages, inside) in
    let message = get_or_read c.state.inside.messages.items v c.index.result.now held c.index.ensures None ∙ ap (λ xs. message_in xs v) same in
    let rest = signals_from g c.args.state.now last (v + 1) in
    let none = ap (λ (m : Option ℕ). message_lines (slice_index g.ids v) m ++ rest) (sym message ∙ c.in_default.is) in
    c.loop-v.invariant last ∙ (signals_more g c.args.state.now last v inside ∙ none))

pub returns-clause-lines : goal.returns-clause-lines
returns-clause-lines c = λ name last.
    (let all : length c.args.graph.now.ids ≡ c.loop-v.v = omega arith in
    sym (c.loop-v.invariant last ∙ signals_end c.args.graph.now c.args.state.now last c.loop-v.v all))
