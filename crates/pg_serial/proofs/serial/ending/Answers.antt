use Rattle.std.proofs.Common.{None, Some}
use Rattle.pg_serial.proofs.Queues.{end_is}
use Rattle.pg_serial.proofs.serial.ending.Goals as goal

pub returns-in-None : goal.returns-in-None
returns-in-None c = end_is c.args._graph.now c.args._state.now c.requires.messages c.args.queue.now c.requires.queue None c.in-None.ensures

pub returns-in-Some : goal.returns-in-Some
returns-in-Some c = end_is c.args._graph.now c.args._state.now c.requires.messages c.args.queue.now c.requires.queue (Some _) c.in-Some.ensures
