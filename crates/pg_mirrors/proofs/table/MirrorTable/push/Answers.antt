use Rattle.std.proofs.Common.{◌≢◌, ◌<◌, get_or, take, ◌∙◌, ap, arith}
use Rattle.std.specs.Prelude.{All}
use Rattle.std.proofs.lemmas.List.{take_more, get_or-take, get_or_default, length-take}
use Rattle.pg_law.specs.Values.{one}
use Rattle.pg_mirrors.proofs.Pushing.{pushes_more}
use Rattle.pg_mirrors.proofs.table.MirrorTable.push.Goals as goal

pub loop-master-preserved : goal.loop-master-preserved
loop-master-preserved c =
    let masters = c.args.masters.now in
    let k = c.loop-master.master-index in
    let master = get_or masters k (0, one 0) in
    let apart : All (λ m. m.0 ≢ master.0) (take k masters) = λ i d h.
    let below : i < k = omega (arith, length-take k masters) in
    rw (get_or-take k masters i d below) (λ same. c.requires i k d below c.loop-master-test.true (same ∙ ap (λ m. m.0) (get_or_default masters k (0, one 0) d c.loop-master-test.true))) in
    rw (take_more masters k (0, one 0) c.loop-master-test.true) (pushes_more c.args.self.now c.loop-master.self c.set.new.self (take k masters) master.0 master.1 apart c.loop-master.invariant c.set.ensures)
