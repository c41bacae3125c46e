use Rattle.std.proofs.Common.{◌≡◌, Bool, true, false, ◌==◌, ◌||◌, cond, List, [], refl, sym, ◌∙◌, ap, arith}
use Rattle.std.specs.Prelude.{Option, Some, None}
use Rattle.std.proofs.lemmas.Option.{none-some, same_Some}
use Rattle.pg_base.specs.Shown.{shown}
use Rattle.pg_law.specs.Configuration.{is_quiet}
use Rattle.pg_report.specs.declared.line.LastLine.{LastLine}
use Rattle.pg_report.specs.declared.line.ReportLine.{ReportLine}
use Rattle.pg_check.specs.Course.{last_of, told_gathers, with_line, at_place, expects_from, gathers_from, gathers_made}
use Rattle.pg_check.specs.Reports.{tail_lines}
use Rattle.pg_check.specs.Verdicts.{ends, expects, counts_once}
use Rattle.pg_check.specs.declared.course.Course.{Course}
use Rattle.pg_check.specs.declared.place.Place.{Place}
use Rattle.pg_check.specs.declared.place.Place.TheVariants.{Tail}
use Rattle.pg_check.proofs.Courses.{replays_none, gathers_none, taken_as}
use Rattle.pg_check.proofs.course.take_behind.Goals as goal

-- what was answered of a test
not_closed : (b : Bool) (last : LastLine) (result : Option LastLine) → result ≡ cond b (Some last) None → result ≡ None → b ≡ false
not_closed true last result is none = absurd (none-some last (sym none ∙ is))
not_closed false last result is none = refl

closed : (b : Bool) (last found : LastLine) (result : Option LastLine) → result ≡ cond b (Some last) None → result ≡ Some found → (b ≡ true) × (last ≡ found)
closed true last found result is some = (refl, same_Some last found (sym is ∙ some))
closed false last found result is some = absurd (none-some found (sym is ∙ some))

pub returns-in_default : goal.returns-in_default
returns-in_default g c =
    let p = g.P.VertexProgram.meaning c.args.program.now in
    let name = c.args.job.now.program in
    let graph = c.args.graph.now in
    let s = c.args.course.now.state in
    let kept = counts_once c.args.job.now in
    let told = told_gathers p graph kept c.args.course.now.noted.items c.args.tally.gathers [] in
    let open_is = not_closed (is_quiet graph s || (c.args.tally.left == 0)) (last_of graph s c.args.tally.executions told) c.close.result (rw (c.counts_once-kept.ensures, c.as_slice-noted.ensures.value) at c.close.ensures) c.in_default.is in
    record {
      steps = omega arith;
      here = refl;
      verdict = λ lines. (ap (λ (place : Place). expects_from p name graph c.args.job.now.engine kept c.args.course.now place c.args.number (with_line (shown c.args.line) lines)) c.requires.place
          ∙ (replays_none p name graph kept c.args.course.now.noted.items s c.args.tally c.args.number (with_line (shown c.args.line) lines) (c.requires.none.none lines)
          ∙ rw open_is refl));
    }

pub returns : goal.returns
returns g c =
    let p = g.P.VertexProgram.meaning c.args.program.now in
    let name = c.args.job.now.program in
    let graph = c.args.graph.now in
    let engine = c.args.job.now.engine in
    let old = c.args.course.now in
    let s = old.state in
    let tally = c.args.tally in
    let line = shown c.args.line in
    let number = c.args.number in
    let kept = counts_once c.args.job.now in
    let told = told_gathers p graph kept old.noted.items tally.gathers [] in
    let is = closed (is_quiet graph s || (tally.left == 0)) (last_of graph s tally.executions told) c.in-Some.last c.close.result (rw (c.counts_once-kept.ensures, c.as_slice-noted.ensures.value) at c.close.ensures) c.in-Some.is in
    let behind : Course = record { place = old.place; state = s; last = c.in-Some.last; noted = old.noted; made = tally.gathers } in
    let at = c.value_from-at.result in
    taken_as p name graph engine kept old (at_place behind (Tail at)) c.take_tail.new.course 0 0 number line c.take_tail.result
    (λ lines. (ap (λ (place : Place). expects_from p name graph engine kept old place number (with_line line lines)) c.requires.place
    ∙ (replays_none p name graph kept old.noted.items s tally number (with_line line lines) (c.requires.none.none lines)
    ∙ (rw is.0 refl
    ∙ (ap (λ (last : LastLine). expects (tail_lines name graph s last) ends number (with_line line lines)) is.1
    ∙ ap (λ (tail : List ReportLine). expects tail ends number (with_line line lines)) (sym (c.value_from-at.ensures.lines name c.in-Some.last)))))))
    (λ lines. (ap (λ (place : Place). gathers_from p name graph engine old place (with_line line lines)) c.requires.place
    ∙ gathers_none p name graph s tally (with_line line lines) (c.requires.none.none lines)))
    (ap (λ (place : Place). gathers_made p name graph engine old place) c.requires.place)
    c.take_tail.ensures
