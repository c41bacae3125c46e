use Rattle.std.proofs.Common.{ℕ, ◌+◌, [], List, length, sym, ◌∙◌, ap, subst, arith}
use Rattle.std.specs.Prelude.{Some, IfSome}
use Rattle.std.proofs.lemmas.Option.{IfSome_then}
use Rattle.std.proofs.lemmas.Result.{err_from_is_err_and}
use Rattle.pg_base.specs.Cutting.{ahead}
use Rattle.pg_base.specs.Lines.{width_of}
use Rattle.pg_graph.specs.Building.{building}
use Rattle.pg_input.specs.Reading.{stop_bytes, event_until, stop_of, behind_stop}
use Rattle.pg_input.proofs.TextLemmas.{standing, BothTold, IsRest, IsDone, over_told, stop_told, refused_told, rest_told, cut_told, none_told}
use Rattle.pg_input.proofs.lines.read_lines.Given
use Rattle.pg_input.proofs.lines.read_lines.Goals as goal

pub returns-in-Err-clause-event : goal.returns-in-Err-clause-event
returns-in-Err-clause-event g c =
    let cutter = c.loop-line.cutter in
    let limit = c.args.limits.bytes in
    let text_ahead = ahead cutter (g.S.Source.left c.loop-line.source) in
    rw c.from_cut.ensures (cut_told c.in-Err.refusal (ahead c.args.cutter.now (g.S.Source.left c.args.source.now)) (event_until c.args.format (stop_bytes c.args.stop) c.args.limits c.args.cutter.now.given) limit
    (λ is. over_told c.args.format (stop_bytes c.args.stop) limit (standing (building c.args.limits [] [] 0) 1 c.args.cutter.now.given) (standing c.loop-line.builder (c.loop-line.number + 1) cutter.given)
    _ text_ahead c.loop-line.invariant.rest
    (none_told _ cutter.refusal c.loop-line.invariant.refusal c.in-Err.ensures.over_some is)
    (none_told _ cutter.refusal c.loop-line.invariant.refusal c.in-Err.ensures.over is)))

-- what is answered at a stop line
abbrev IsStopped : (g : Given.Over) → goal.After-cutter-then-is_stop-1 g → List ℕ → Type 0
IsStopped g c = IsDone c.args.format (stop_bytes c.args.stop) c.args.limits.bytes (standing (building c.args.limits [] [] 0) 1 c.args.cutter.now.given) c.loop-line.builder
    (c.loop-line.cutter.given + width_of (length c.in-Ok-Some.line.bytes.now) c.in-Ok-Some.line.ended) (Some c.in-Ok-Some.line.bytes.now) c.in-Ok-Some.line.ended
    (ahead c.line.follows.lender-at-none (g.S.Source.left c.line.new.source))

done : (g : Given.Over) (c : goal.After-cutter-then-is_stop-1 g) → IfSome (ahead c.args.cutter.now (g.S.Source.left c.args.source.now)) (IsStopped g c)
done g c =
    let cut = rw (c.in-Ok-Some.is, c.in-Ok-Some.field-0-is) at c.line.follows.holds-at-none in
    let first = rw c.in-Ok-Some.field-0-is at c.in-Ok-Some.ensures.line in
    let within = rw c.in-Ok-Some.field-0-is at c.in-Ok-Some.ensures.within in
    stop_told c.args.format (stop_bytes c.args.stop) c.args.limits.bytes (standing (building c.args.limits [] [] 0) 1 c.args.cutter.now.given) (standing c.loop-line.builder (c.loop-line.number + 1) c.loop-line.cutter.given)
    _ (ahead c.loop-line.cutter (g.S.Source.left c.loop-line.source)) c.loop-line.invariant.rest c.in-Ok-Some.line.bytes.now c.in-Ok-Some.line.ended first within.1 _ (sym c.is_stop.ensures ∙ c.if-is_stop.true) cut.2

pub returns-then-is_stop-clause-built : goal.returns-then-is_stop-clause-built
returns-then-is_stop-clause-built g c = IfSome_then _ (done g c) (λ (text : List ℕ) (d : IsStopped g c text). c.builder-in-loop-line.view_is ∙ d.built_is)

pub returns-then-is_stop-clause-accepted : goal.returns-then-is_stop-clause-accepted
returns-then-is_stop-clause-accepted g c = IfSome_then _ (done g c) (λ (text : List ℕ) (d : IsStopped g c text). d.no_event)

pub returns-then-is_stop-clause-stop : goal.returns-then-is_stop-clause-stop
returns-then-is_stop-clause-stop g c = IfSome_then _ (done g c) (λ (text : List ℕ) (d : IsStopped g c text). ap (λ (bytes : List ℕ). Some bytes) c.in_ok-from_slice.ensures.items ∙ d.stop_is)

pub returns-then-is_stop-clause-stop_ended : goal.returns-then-is_stop-clause-stop_ended
returns-then-is_stop-clause-stop_ended g c = IfSome_then _ (done g c) (λ (text : List ℕ) (d : IsStopped g c text). d.ended_is)

pub returns-then-is_stop-clause-behind : goal.returns-then-is_stop-clause-behind
returns-then-is_stop-clause-behind g c = IfSome_then _ (done g c) (λ (text : List ℕ) (d : IsStopped g c text). d.behind)

pub returns-then-is_stop-clause-given : goal.returns-then-is_stop-clause-given
returns-then-is_stop-clause-given g c =
    let cut = rw (c.in-Ok-Some.is, c.in-Ok-Some.field-0-is) at c.line.follows.holds-at-none in
    IfSome_then _ (done g c) (λ (text : List ℕ) (d : IsStopped g c text). ap (λ (n : ℕ). n + length (behind_stop (stop_of (stop_bytes c.args.stop) text))) cut.1 ∙ d.bytes)

pub loop-line-preserved : goal.loop-line-preserved
loop-line-preserved g c =
    let cut = rw (c.in-Ok-Some.is, c.in-Ok-Some.field-0-is) at c.line.follows.holds-at-none in
    let first = rw c.in-Ok-Some.field-0-is at c.in-Ok-Some.ensures.line in
    let within = rw c.in-Ok-Some.field-0-is at c.in-Ok-Some.ensures.within in
    let new = ahead c.line.follows.lender-at-none (g.S.Source.left c.line.new.source) in
    let start = standing (building c.args.limits [] [] 0) 1 c.args.cutter.now.given in
    let rest = rest_told c.args.format (stop_bytes c.args.stop) c.args.limits.bytes start (standing c.loop-line.builder (c.loop-line.number + 1) c.loop-line.cutter.given)
    (ahead c.args.cutter.now (g.S.Source.left c.args.source.now)) (ahead c.loop-line.cutter (g.S.Source.left c.loop-line.source)) c.loop-line.invariant.rest c.in-Ok-Some.line.bytes.now c.in-Ok-Some.line.ended first within.1
    (sym c.is_stop.ensures ∙ c.if-is_stop.false) c.add_line.new.builder c.in_ok-add_line.ensures.built c.in_ok-add_line.ensures.ok new cut.2 in
    let P : ℕ → Type 0 = λ n. BothTold (IsRest c.args.format (stop_bytes c.args.stop) c.args.limits.bytes start (standing c.add_line.new.builder (c.loop-line.number + 1 + 1) n))
    (ahead c.args.cutter.now (g.S.Source.left c.args.source.now)) new in
    record {
      rest = subst P (sym cut.1) rest;
      lines = omega (arith, cut.1, within.0);
      loops = omega (arith, cut.1, c.in_ok-add_line.ensures.loops);
      limit = c.loop-line.invariant.limit;
      refusal = cut.0;
      counted = omega (arith, c.line.ensures.counted);
    }

pub returns-in_err-add_line-clause-event : goal.returns-in_err-add_line-clause-event
returns-in_err-add_line-clause-event g c =
    let p = err_from_is_err_and c.from_residual-in_err-add_line.result c.from_residual-in_err-add_line.ensures.1 in
    let first = rw c.in-Ok-Some.field-0-is at c.in-Ok-Some.ensures.line in
    let within = rw c.in-Ok-Some.field-0-is at c.in-Ok-Some.ensures.within in
    rw (p.1, p.2) (refused_told c.args.format (stop_bytes c.args.stop) c.args.limits.bytes (standing (building c.args.limits [] [] 0) 1 c.args.cutter.now.given) (standing c.loop-line.builder (c.loop-line.number + 1) c.loop-line.cutter.given)
    (ahead c.args.cutter.now (g.S.Source.left c.args.source.now)) (ahead c.loop-line.cutter (g.S.Source.left c.loop-line.source)) c.loop-line.invariant.rest c.in-Ok-Some.line.bytes.now c.in-Ok-Some.line.ended first within.1
    (sym c.is_stop.ensures ∙ c.if-is_stop.false) _ c.in_err-add_line.ensures.event)
