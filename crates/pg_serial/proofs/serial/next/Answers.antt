use Rattle.std.proofs.Common.{arith}
use Rattle.pg_serial.proofs.Queues.{next_is}
use Rattle.pg_serial.proofs.serial.next.Goals as goal

pub returns-else-left-eq0 : goal.returns-else-left-eq0
returns-else-left-eq0 c = next_is c.args._graph.now c.args._state.now c.requires.messages c.args.queue.now c.requires.queue c.args.left (omega arith) c.least.result c.least.ensures
