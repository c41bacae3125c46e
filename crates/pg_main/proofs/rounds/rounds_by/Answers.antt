use Rattle.std.proofs.Common.{◌≡◌, ℕ, Bool, true, false, refl, sym, ap, ◌∙◌}
use Rattle.pg_check.specs.Outcomes.{Outcome}
use Rattle.pg_main.specs.Cuts.{is_alone}
use Rattle.pg_main.proofs.Lone.{with_none, take_alone}
use Rattle.pg_main.proofs.Settled.{if_both_ok}
use Rattle.pg_main.proofs.rounds.rounds_by.Goals as goal

-- a worker that is alone keeps no gathers
keeps_none : (kept : Bool) (workers : ℕ) → is_alone kept workers ≡ true → kept ≡ false
keeps_none true workers is = cc
keeps_none false workers is = refl

pub returns-then-alone-clause-outcome : goal.returns-then-alone-clause-outcome
returns-then-alone-clause-outcome g c =
    let none = keeps_none c.args.cache c.args.workers (sym c.alone.ensures ∙ c.if-alone.true) in
    if_both_ok c.rounds_alone.result (λ ended outcome counted. outcome ∙ sym (with_none c.args.cache _ _ none))
    c.rounds_alone.ensures.outcome c.rounds_alone.ensures.counted

pub returns-then-alone-clause-counted : goal.returns-then-alone-clause-counted
returns-then-alone-clause-counted g c =
    let p = g.P.VertexProgram.meaning c.args.program.now in
    if_both_ok c.rounds_alone.result (λ ended outcome counted. take_alone p c.args.kind c.args.workers c.args.graph.now c.args.cache c.args.limit (sym c.alone.ensures ∙ c.if-alone.true) (ap (λ (o : Outcome). o.last.gathers) outcome) counted)
    c.rounds_alone.ensures.outcome c.rounds_alone.ensures.counted
