use Rattle.std.proofs.Common.{[], refl, sym, ◌∙◌, arith}
use Rattle.std.proofs.lemmas.Result.{err_from_is_err_and}
use Rattle.pg_base.proofs.Sending.{append_known-nil}
use Rattle.pg_words.specs.declared.job.Engine.TheVariants.{Sync}
use Rattle.pg_main.specs.Answers.{Reports}
use Rattle.pg_main.specs.Cuts.{cut_by, worker_gathers}
use Rattle.pg_main.proofs.Taking.{take_by}
use Rattle.pg_main.proofs.Reporting.{by_error, no_memory, failed, nothing_sent, head_front, journal_sent, tail_front, tail_whole, done, no_journal}
use Rattle.pg_main.proofs.rounds.report_rounds.Goals as goal

pub returns-in_err-ended : goal.returns-in_err-ended
returns-in_err-ended g c =
    let graph = c.args.graph.now in
    let name = c.args.name in
    let kept = c.args.cache in
    let engine = Sync c.args.limit in
    let has = no_journal name c.args.limit graph in
    let gathers = worker_gathers name engine kept graph (cut_by c.args.kind c.args.workers graph) in
    let before = g.K.Sink.written c.args.out.now in
    let faults = g.K.Sink.faults c.args.out.now in
    let steps = c.args.steps.now in
    by_error (Reports name engine kept graph _ _ _ _ _ _ _) c.from_residual.result (err_from_is_err_and c.from_residual.result c.from_residual.ensures.1)
    (no_memory name engine kept graph [] has gathers before faults steps (nothing_sent name engine kept graph [] has gathers before faults steps) (omega arith) c.rounds_by.ensures.present)

pub returns-in_err-write_head : goal.returns-in_err-write_head
returns-in_err-write_head g c =
    let graph = c.args.graph.now in
    let name = c.args.name in
    let kept = c.args.cache in
    let engine = Sync c.args.limit in
    let has = no_journal name c.args.limit graph in
    let gathers = worker_gathers name engine kept graph (cut_by c.args.kind c.args.workers graph) in
    let before = g.K.Sink.written c.args.out.now in
    let faults = g.K.Sink.faults c.args.out.now in
    let steps = c.args.steps.now in
    let ended = c.in_ok-ended.ended in
    let is = c.in_ok-ended.ensures.outcome ∙ c.requires.named engine kept graph [] in
    by_error (Reports name engine kept graph _ _ _ _ _ _ _) c.from_residual-in_err-write_head.result (err_from_is_err_and c.from_residual-in_err-write_head.result c.from_residual-in_err-write_head.ensures.1)
    (failed name engine kept graph [] has gathers before faults steps (head_front name engine kept graph [] has gathers before faults steps ended.state ended.last is c.in_err-write_head.ensures.front)
    (c.in_err-write_head.ensures.cause refl) c.write_head.ensures.later c.rounds_by.ensures.present)

pub returns-in_err-write_tail : goal.returns-in_err-write_tail
returns-in_err-write_tail g c =
    let graph = c.args.graph.now in
    let name = c.args.name in
    let kept = c.args.cache in
    let engine = Sync c.args.limit in
    let has = no_journal name c.args.limit graph in
    let gathers = worker_gathers name engine kept graph (cut_by c.args.kind c.args.workers graph) in
    let before = g.K.Sink.written c.args.out.now in
    let faults = g.K.Sink.faults c.args.out.now in
    let steps = c.args.steps.now in
    let ended = c.in_ok-ended.ended in
    let is = c.in_ok-ended.ensures.outcome ∙ c.requires.named engine kept graph [] in
    let sent = journal_sent name engine kept graph [] has gathers before faults steps ended.state ended.last is c.in_ok-write_head.ensures.whole (sym (append_known-nil _)) in
    by_error (Reports name engine kept graph _ _ _ _ _ _ _) c.from_residual-in_err-write_tail.result (err_from_is_err_and c.from_residual-in_err-write_tail.result c.from_residual-in_err-write_tail.ensures.1)
    (failed name engine kept graph [] has gathers before faults steps (tail_front name engine kept graph [] has gathers before faults steps ended.state ended.last is sent c.write_head.ensures.later _ c.in_err-write_tail.ensures)
    (omega (arith, c.write_head.ensures.later, c.in_err-write_tail.ensures.cause refl)) (omega (arith, c.write_head.ensures.later, c.write_tail.ensures.later)) c.rounds_by.ensures.present)

pub returns : goal.returns
returns g c =
    let graph = c.args.graph.now in
    let name = c.args.name in
    let kept = c.args.cache in
    let engine = Sync c.args.limit in
    let has = no_journal name c.args.limit graph in
    let gathers = worker_gathers name engine kept graph (cut_by c.args.kind c.args.workers graph) in
    let before = g.K.Sink.written c.args.out.now in
    let faults = g.K.Sink.faults c.args.out.now in
    let steps = c.args.steps.now in
    let ended = c.in_ok-ended.ended in
    let is = c.in_ok-ended.ensures.outcome ∙ c.requires.named engine kept graph [] in
    let sent = journal_sent name engine kept graph [] has gathers before faults steps ended.state ended.last is c.in_ok-write_head.ensures.whole (sym (append_known-nil _)) in
    done name engine kept graph [] has gathers before faults steps ended.state ended.last is
    (tail_whole name engine kept graph [] has gathers before faults steps ended.state ended.last is sent c.write_head.ensures.later _ c.in_ok-write_tail.ensures)
    (take_by c.in_ok-ended.ensures.counted (λ worker. c.requires.counts engine kept graph (cut_by c.args.kind c.args.workers graph) worker))
    (omega (arith, c.write_head.ensures.later, c.write_tail.ensures.later)) c.rounds_by.ensures.present
