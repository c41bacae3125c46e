use Rattle.pg_main.proofs.Interleaving.{on_success, first_rises}
use Rattle.pg_main.proofs.interleaved.execute_beside.Goals as goal

pub returns-clause-counted : goal.returns-clause-counted
returns-clause-counted g c =
    on_success c.run_virtual-ended.result
    (first_rises c.args.steps.now c.index-steps-0.result c.take.new.self c.unwrap-counter.result c.run_virtual-ended.new.steps c.requires.some c.index-steps-0.is
    (let taken = c.take.ensures.value in let there = c.unwrap-counter.ensures in cc))
    c.run_virtual-ended.ensures.counted
