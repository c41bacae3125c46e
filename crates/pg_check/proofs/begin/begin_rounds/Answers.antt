use Rattle.std.proofs.Common.{◌≡◌, ℕ, ◌<◌, ◌||◌, Bool, true, false, List, length, get_or, ◌∙◌, ap, arith}
use Rattle.std.proofs.lemmas.List.{with_items_is}
use Rattle.pg_law.specs.Configuration.{Configuration, start_state}
use Rattle.pg_rounds.specs.Executed.{executes}
use Rattle.pg_check.proofs.Courses.{told_rounds, last_told}
use Rattle.pg_check.proofs.begin.begin_rounds.Goals as goal

pub returns-clause-last : goal.returns-clause-last
returns-clause-last g c =
    let p = g.P.VertexProgram.meaning c.args.program.now in
    let graph = c.args.graph.now in
    let start = start_state p graph in
    let limit = c.args.limit in
    let kept = c.args.kept in
    let whole : c.as_slice.result.now ≡ c.run_noted_rounds.new.noted = c.as_slice.ensures.value
    ∙ with_items_is c.in_ok-noted.noted c.run_noted_rounds.new.noted (omega (arith, c.run_noted_rounds.auto.noted, c.as_mut_slice-marks.ensures.len)) in
    let marked : kept ≡ true → (v : ℕ) → v < length graph.ids → get_or c.as_slice.result.now v false ≡ executes p graph start limit v = λ is v inside.
    (ap (λ (xs : List Bool). get_or xs v false) whole
    ∙ (c.in_ok-end.ensures.noted v inside (omega (arith, inside, c.as_mut_slice-marks.ensures.len, ap length c.as_mut_slice-marks.ensures.value, c.in_ok-noted.ensures.len is))
    ∙ (ap (λ (b : Bool). b || executes p graph c.in_ok-state.state limit v) (ap (λ (xs : List Bool). get_or xs v false) c.as_mut_slice-marks.ensures.value ∙ c.in_ok-noted.ensures.blank v)
    ∙ ap (λ (t : Configuration). executes p graph t limit v) c.in_ok-state.ensures.value))) in
    let told = c.told-gathers.ensures ∙ (told_rounds p graph kept c.as_slice.result.now start limit c.in_ok-end.end.gathers marked) in
    let done = c.in_ok-end.ensures in
    last_told p graph kept limit c.in_ok-state.state c.run_noted_rounds.new.state c.in_ok-end.end.end c.in_ok-end.end.rounds c.in_ok-end.end.executions c.in_ok-end.end.gathers c.told-gathers.result
    c.in_ok-state.ensures.value done.state done.end done.rounds done.executions done.gathers told
