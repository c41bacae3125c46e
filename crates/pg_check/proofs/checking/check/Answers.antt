use Rattle.std.proofs.Common.{◌≡◌, ℕ, ◌+◌, ◌<◌, ◌≤◌, List, [], length, sym, ◌∙◌, ap, subst, arith}
use Rattle.std.specs.Prelude.{Option, Some, None, IfSome, OnSome, IsSome}
use Rattle.std.proofs.lemmas.Option.{IfSome_then}
use Rattle.pg_base.specs.Cutting.{ahead, IsFirstLine, width_given}
use Rattle.pg_base.specs.Lines.{first_width, later_lines}
use Rattle.pg_base.specs.Shown.{shown}
use Rattle.pg_base.specs.declared.line_cutter.RawLine.{RawLine}
use Rattle.std.proofs.lemmas.Bool.{false≢true}
use Rattle.pg_check.specs.declared.place.Place.{Place}
use Rattle.pg_input.specs.declared.error.InputError.TheVariants.{Limit}
use Rattle.pg_input.specs.declared.error.Which.TheVariants.{Bytes}
use Rattle.pg_input.proofs.TextLemmas.{BothTold, told, told_later, told_behind, told_at_start, none_told, cut_told}
use Rattle.pg_check.specs.Course.{gathers_made}
use Rattle.pg_check.specs.Reports.{ReadLine, read_report}
use Rattle.pg_check.specs.Verdicts.{verdict_by, gathers_by, counts_once, event_for}
use Rattle.pg_check.specs.declared.verdict.Verdict.TheVariants.{Confirmed}
use Rattle.pg_check.proofs.Reading.{IsRest, IsDone, begun, over, done, over_with, goes_on_with, both_some, nothing_left, steps_later, steps_same}
use Rattle.pg_check.proofs.checking.check.Given
use Rattle.pg_check.proofs.checking.check.Goals as goal

-- a line that was read has some width
width_some : (raw : Option RawLine) (given limit : ℕ) → OnSome raw ((0 < width_given (shown raw)) × (given + width_given (shown raw) ≤ limit)) → IsSome (shown raw)
    → (0 < width_given (shown raw)) × (given + width_given (shown raw) ≤ limit)
width_some None given limit within there = absurd (false≢true there)
width_some (Some raw) given limit within there = within

pub loop-line-init : goal.loop-line-init
loop-line-init g c =
    let p = g.P.VertexProgram.meaning c.args.program.now in
    let name = c.args.job.now.program in
    let engine = c.args.job.now.engine in
    let kept = counts_once c.args.job.now in
    let header : ReadLine = (c.in-Some.header.bytes.now, c.in-Some.header.ended) in
    let made = c.in_ok-course.ensures.made in
    record {
      rest = told_at_start (IsRest p name c.args.graph.now engine kept c.args.limits.bytes c.args.cutter.now.given (shown c.args.first) c.in_ok-course.course 1 c.args.cutter.now.given)
          (λ text. begun p name c.args.graph.now engine kept c.args.limits.bytes c.args.cutter.now.given (shown c.args.first) c.in_ok-course.course header text
          (ap shown c.in-Some.is) (sym c.is_head.ensures ∙ c.if-not-is_head.false) c.in_ok-course.ensures.place c.in_ok-course.ensures.judge c.in_ok-course.ensures.gathers)
          (ahead c.args.cutter.now (g.S.Source.left c.args.source.now));
      course = c.in_ok-course.ensures.course;
      lines = omega arith;
      limit = c.requires.limits.bytes;
      few = omega arith;
      refusal = c.requires.fresh;
      counted = omega arith;
      steps = made ∙ ap (λ (at : Place). c.args.steps.now + gathers_made p name c.args.graph.now engine c.in_ok-course.course at) (sym c.in_ok-course.ensures.place);
    }

pub returns-in-Err-clause-event : goal.returns-in-Err-clause-event
returns-in-Err-clause-event g c =
    let p = g.P.VertexProgram.meaning c.args.program.now in
    let name = c.args.job.now.program in
    let engine = c.args.job.now.engine in
    let kept = counts_once c.args.job.now in
    let limit = c.args.limits.bytes in
    let start = c.args.cutter.now.given in
    let first = shown c.args.first in
    let cutter = c.loop-line.cutter in
    let left = ahead c.args.cutter.now (g.S.Source.left c.args.source.now) in
    let text_ahead = ahead cutter (g.S.Source.left c.loop-line.source) in
    let R = IsRest p name c.args.graph.now engine kept limit start first c.loop-line.course c.loop-line.number cutter.given in
    rw c.from_cut.ensures (cut_told c.in-Err.refusal left (λ text. event_for limit start (verdict_by p name c.args.graph.now engine kept (read_report first text)) text) limit
    (λ is. told R (λ rest. (0 < length rest) × (limit < cutter.given + first_width rest))
    (λ text. event_for limit start (verdict_by p name c.args.graph.now engine kept (read_report first text)) text ≡ Some (Limit Bytes limit)) left text_ahead c.loop-line.invariant.rest
    (both_some (λ rest. 0 < length rest) (λ rest. limit < cutter.given + first_width rest) text_ahead
    (none_told _ cutter.refusal c.loop-line.invariant.refusal c.in-Err.ensures.over_some is)
    (none_told _ cutter.refusal c.loop-line.invariant.refusal c.in-Err.ensures.over is))
    (λ text rest so_far far. over p name c.args.graph.now engine kept limit start first c.loop-line.course c.loop-line.number cutter.given text rest so_far far.0 far.1)))

-- what is answered of the text
abbrev Done : (g : Given.Over) → goal.After-drop-course-in-Some-2-4 g → List ℕ → Type 0
Done g c = IsDone (g.P.VertexProgram.meaning c.args.program.now) c.args.job.now.program c.args.graph.now c.args.job.now.engine (counts_once c.args.job.now) c.args.limits.bytes c.args.cutter.now.given
    (shown c.args.first) c.in-Some-2.verdict

answered : (g : Given.Over) (c : goal.After-drop-course-in-Some-2-4 g) → IfSome (ahead c.args.cutter.now (g.S.Source.left c.args.source.now)) (Done g c)
answered g c =
    let p = g.P.VertexProgram.meaning c.args.program.now in
    let name = c.args.job.now.program in
    let engine = c.args.job.now.engine in
    let kept = counts_once c.args.job.now in
    let limit = c.args.limits.bytes in
    let start = c.args.cutter.now.given in
    let first = shown c.args.first in
    let cutter = c.loop-line.cutter in
    let taken = rw c.in-Some-2.is at c.in_ok-verdict.ensures in
    told (IsRest p name c.args.graph.now engine kept limit start first c.loop-line.course c.loop-line.number cutter.given) (λ text. IsFirstLine text (shown c.in-Ok.line))
    (IsDone p name c.args.graph.now engine kept limit start first c.in-Some-2.verdict)
    (ahead c.args.cutter.now (g.S.Source.left c.args.source.now)) (ahead cutter (g.S.Source.left c.loop-line.source)) c.loop-line.invariant.rest c.in-Ok.ensures.line
    (λ text rest so_far cut. done p name c.args.graph.now engine kept limit start first c.loop-line.course c.loop-line.number cutter.given text rest so_far
    c.in-Ok.line c.take.new.course c.loop-line.steps c.take.new.steps c.in-Some-2.verdict cut c.in-Ok.ensures.within taken)

pub returns-in-Some-2-clause-verdict : goal.returns-in-Some-2-clause-verdict
returns-in-Some-2-clause-verdict g c = IfSome_then _ (answered g c) (λ (text : List ℕ) (d : Done g c text). d.is)

pub returns-in-Some-2-clause-accepted : goal.returns-in-Some-2-clause-accepted
returns-in-Some-2-clause-accepted g c = IfSome_then _ (answered g c) (λ (text : List ℕ) (d : Done g c text). d.accepted)

-- a confirmed report is over, and its gathers were made
confirmed_end : (g : Given.Over) (c : goal.After-drop-course-in-Some-2-4 g) → c.in-Some-2.verdict ≡ Confirmed
    → IfSome (ahead c.args.cutter.now (g.S.Source.left c.args.source.now)) (λ text. g.S.Source.left c.line.new.source ≡ Some [])
confirmed_end g c confirmed =
    let p = g.P.VertexProgram.meaning c.args.program.now in
    let name = c.args.job.now.program in
    let graph = c.args.graph.now in
    let engine = c.args.job.now.engine in
    let kept = counts_once c.args.job.now in
    let limit = c.args.limits.bytes in
    let start = c.args.cutter.now.given in
    let first = shown c.args.first in
    let cutter = c.loop-line.cutter in
    let taken = rw c.in-Some-2.is at c.in_ok-verdict.ensures in
    let cut = rw c.in-Ok.is at c.line.follows.holds-at-none in
    let new = ahead c.line.follows.lender-at-none (g.S.Source.left c.line.new.source) in
    told_behind (IsRest p name graph engine kept limit start first c.loop-line.course c.loop-line.number cutter.given) (λ text. IsFirstLine text (shown c.in-Ok.line))
    (λ text. g.S.Source.left c.line.new.source ≡ Some [])
    (ahead c.args.cutter.now (g.S.Source.left c.args.source.now)) (ahead cutter (g.S.Source.left c.loop-line.source)) new c.loop-line.invariant.rest c.in-Ok.ensures.line cut.2
    (λ text rest so_far first_line behind.
    (let is_over = over_with p name graph engine kept limit start first c.loop-line.course c.loop-line.number cutter.given text rest so_far
    c.in-Ok.line c.take.new.course c.loop-line.steps c.take.new.steps c.in-Some-2.verdict first_line c.in-Ok.ensures.within taken confirmed in
    nothing_left c.line.follows.lender-at-none.held (g.S.Source.left c.line.new.source) (behind ∙ ap (λ (bytes : List ℕ). Some (later_lines bytes)) is_over.0)))

confirmed_steps : (g : Given.Over) (c : goal.After-drop-course-in-Some-2-4 g) → c.in-Some-2.verdict ≡ Confirmed
    → IfSome (ahead c.args.cutter.now (g.S.Source.left c.args.source.now))
    (λ text. c.take.new.steps ≡ c.args.steps.now + gathers_by (g.P.VertexProgram.meaning c.args.program.now) c.args.job.now.program c.args.graph.now c.args.job.now.engine (read_report (shown c.args.first) text))
confirmed_steps g c confirmed =
    let p = g.P.VertexProgram.meaning c.args.program.now in
    let name = c.args.job.now.program in
    let graph = c.args.graph.now in
    let engine = c.args.job.now.engine in
    let kept = counts_once c.args.job.now in
    let limit = c.args.limits.bytes in
    let start = c.args.cutter.now.given in
    let first = shown c.args.first in
    let cutter = c.loop-line.cutter in
    let taken = rw c.in-Some-2.is at c.in_ok-verdict.ensures in
    let same = steps_same p name graph engine kept c.loop-line.course c.take.new.course
    c.loop-line.steps c.take.new.steps (c.loop-line.number + 1) (shown c.in-Ok.line) c.in-Some-2.verdict taken confirmed in
    told (IsRest p name graph engine kept limit start first c.loop-line.course c.loop-line.number cutter.given) (λ text. IsFirstLine text (shown c.in-Ok.line))
    (λ text. c.take.new.steps ≡ c.args.steps.now + gathers_by p name graph engine (read_report first text))
    (ahead c.args.cutter.now (g.S.Source.left c.args.source.now)) (ahead cutter (g.S.Source.left c.loop-line.source)) c.loop-line.invariant.rest c.in-Ok.ensures.line
    (λ text rest so_far first_line.
    (let is_over = over_with p name graph engine kept limit start first c.loop-line.course c.loop-line.number cutter.given text rest so_far
    c.in-Ok.line c.take.new.course c.loop-line.steps c.take.new.steps c.in-Some-2.verdict first_line c.in-Ok.ensures.within taken confirmed in
    omega (arith, same, c.loop-line.invariant.steps, is_over.1)))

pub returns-in-Some-2-clause-end : goal.returns-in-Some-2-clause-end
returns-in-Some-2-clause-end g c = confirmed_end g c

pub returns-in-Some-2-clause-gathered : goal.returns-in-Some-2-clause-gathered
returns-in-Some-2-clause-gathered g c = confirmed_steps g c

pub returns-in-Some-2-clause-steps : goal.returns-in-Some-2-clause-steps
returns-in-Some-2-clause-steps g c =
    let taken = rw c.in-Some-2.is at c.in_ok-verdict.ensures in
    let later = steps_later (g.P.VertexProgram.meaning c.args.program.now) c.args.job.now.program c.args.graph.now c.args.job.now.engine (counts_once c.args.job.now) c.loop-line.course c.take.new.course
    c.loop-line.steps c.take.new.steps (c.loop-line.number + 1) (shown c.in-Ok.line) c.in-Some-2.verdict taken in
    omega (arith, c.loop-line.invariant.steps, later)

pub loop-line-preserved : goal.loop-line-preserved
loop-line-preserved g c =
    let p = g.P.VertexProgram.meaning c.args.program.now in
    let name = c.args.job.now.program in
    let graph = c.args.graph.now in
    let engine = c.args.job.now.engine in
    let kept = counts_once c.args.job.now in
    let limit = c.args.limits.bytes in
    let start = c.args.cutter.now.given in
    let first = shown c.args.first in
    let cutter = c.loop-line.cutter in
    let on = rw c.in_default-2.is at c.in_ok-verdict.ensures in
    let cut = rw c.in-Ok.is at c.line.follows.holds-at-none in
    let new = ahead c.line.follows.lender-at-none (g.S.Source.left c.line.new.source) in
    let left = ahead c.args.cutter.now (g.S.Source.left c.args.source.now) in
    let far = cutter.given + width_given (shown c.in-Ok.line) in
    let rest = told_later (IsRest p name graph engine kept limit start first c.loop-line.course c.loop-line.number cutter.given)
    (IsRest p name graph engine kept limit start first c.take.new.course (c.loop-line.number + 1) far)
    (λ text. IsFirstLine text (shown c.in-Ok.line)) left (ahead cutter (g.S.Source.left c.loop-line.source)) new c.loop-line.invariant.rest c.in-Ok.ensures.line cut.2
    (λ text rest so_far first_line. goes_on_with p name graph engine kept limit start first c.loop-line.course c.loop-line.number cutter.given text rest so_far
    c.in-Ok.line c.take.new.course c.loop-line.steps c.take.new.steps first_line c.in-Ok.ensures.within on) in
    let P : ℕ → Type 0 = λ n. BothTold (IsRest p name graph engine kept limit start first c.take.new.course (c.loop-line.number + 1) n) left new in
    let width = width_some c.in-Ok.line cutter.given limit c.in-Ok.ensures.within on.there in
    record {
      rest = subst P (sym cut.1) rest;
      course = on.course;
      lines = omega (arith, cut.1, width.0, c.loop-line.invariant.lines);
      limit = c.loop-line.invariant.limit;
      few = omega (arith, cut.1, width.0, width.1, c.loop-line.invariant.lines);
      refusal = cut.0;
      counted = omega (arith, c.line.ensures.counted, c.loop-line.invariant.counted);
      steps = omega (arith, c.loop-line.invariant.steps, on.steps);
    }
