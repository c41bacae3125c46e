use Rattle.std.proofs.Common.{[]}
use Rattle.pg_mirrors.specs.Mirrors.{mirrors}
use Rattle.pg_sync.proofs.phases.push_phase.Goals as goal

pub returns : goal.returns
returns g c = record {
  count = c.for_each_mut.auto.s;
  each = λ w h. let at = (c.for_each_mut.ensures w (mirrors [] []) h).1 in rw (← at.argument_is, ← at.left) at.call;
}
