use Rattle.std.proofs.Common.{ℕ, List, ◌++◌, length, sym, ◌∙◌, ap, subst}
use Rattle.std.specs.Prelude.{Option}
use Rattle.pg_cut.specs.Cut.{Division}
use Rattle.pg_law.specs.Configuration.{Configuration, start_state}
use Rattle.pg_words.specs.declared.job.Engine.TheVariants.{Sync}
use Rattle.pg_main.specs.Counters.{ArePresent, Take}
use Rattle.pg_main.specs.Cuts.{cut_by, gathers_by}
use Rattle.pg_sync.specs.Counting.{AreCounted}
use Rattle.pg_main.proofs.Taking.{back_present, take_by, take_over, rounds_fit, cut_workers}
use Rattle.pg_main.proofs.Lone.{left_is, gathers_shared}
use Rattle.pg_main.proofs.rounds.rounds_over.Goals as goal

pub returns-in_err-end-clause-present : goal.returns-in_err-end-clause-present
returns-in_err-end-clause-present g c =
    let parts = c.split_at_mut-own.ensures in
    let There : List (Option ℕ) → Type 0 = ArePresent in
    back_present c.split_at_mut-own.result.0.now c.run.new.steps c.split_at_mut-own.result.1.now c.run.auto.steps c.run.ensures.present (subst There parts.value c.requires.present)

pub returns-clause-present : goal.returns-clause-present
returns-clause-present g c =
    let parts = c.split_at_mut-own.ensures in
    let There : List (Option ℕ) → Type 0 = ArePresent in
    back_present c.split_at_mut-own.result.0.now c.run.new.steps c.split_at_mut-own.result.1.now c.run.auto.steps c.run.ensures.present (subst There parts.value c.requires.present)

pub returns-clause-outcome : goal.returns-clause-outcome
returns-clause-outcome g c =
    let p = g.P.VertexProgram.meaning c.args.program.now in
    let end = c.in_ok-end.end in
    let made = c.in_ok-end.ensures in
    left_is p c.args.graph.now c.args.limit c.args.cache c.requires.never c.distinct_gathers.ensures c.in_ok-state.state c.in_ok-state.ensures.value
    end.state end.end end.rounds end.executions end.gathers made.state made.end made.rounds made.executions made.gathers

pub returns-clause-values : goal.returns-clause-values
returns-clause-values g c =
    let p = g.P.VertexProgram.meaning c.args.program.now in
    let fit = rounds_fit p c.args.graph.now c.laws_of.ensures c.vertices.ensures.graph c.in_ok-state.state c.args.limit c.in_ok-state.ensures.fit in
    ap (λ (s : Configuration). length s.values) c.in_ok-end.ensures.state ∙ fit.values.count

pub returns-clause-messages : goal.returns-clause-messages
returns-clause-messages g c =
    let p = g.P.VertexProgram.meaning c.args.program.now in
    let fit = rounds_fit p c.args.graph.now c.laws_of.ensures c.vertices.ensures.graph c.in_ok-state.state c.args.limit c.in_ok-state.ensures.fit in
    ap (λ (s : Configuration). length s.messages) c.in_ok-end.ensures.state ∙ fit.messages.count

pub returns-clause-counted : goal.returns-clause-counted
returns-clause-counted g c =
    let p = g.P.VertexProgram.meaning c.args.program.now in
    let graph = c.args.graph.now in
    let parts = c.split_at_mut-own.ensures in
    let front = c.split_at_mut-own.result.0.now in
    let back = c.split_at_mut-own.result.1.now in
    let made = cut_by c.args.kind c.args.workers graph in
    let There : List (Option ℕ) → Type 0 = ArePresent in
    let Taken : List (Option ℕ) → Type 0 = λ before. Take before (c.run.new.steps ++ back) (gathers_by p (Sync c.args.limit) c.args.cache graph made) in
    let Started : Configuration → Type 0 = λ s. AreCounted p graph made c.args.cache s c.args.limit front c.run.new.steps in
    let Cutted : Division → Type 0 = λ cut. AreCounted p graph cut c.args.cache c.in_ok-state.state c.args.limit front c.run.new.steps in
    let counted = subst Started c.in_ok-state.ensures.value (subst Cutted c.in_ok-cut.ensures.value c.in_ok-end.ensures.counted) in
    let own : Take (front ++ back) (c.run.new.steps ++ back) _ = record {
      each = take_over front c.run.new.steps back c.run.auto.steps p graph made c.args.cache (start_state p graph) c.args.limit (parts.front_len ∙ sym (cut_workers c.args.kind c.args.workers graph)) counted (subst There parts.value c.requires.present);
    } in
    subst Taken (sym parts.value) (take_by own (gathers_shared p c.args.kind c.args.workers graph c.args.cache c.args.limit c.requires.shared))
