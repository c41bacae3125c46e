use Rattle.std.proofs.Common.{ℕ, get_or, subst}
use Rattle.std.proofs.lemmas.List.{get_or_default}
use Rattle.pg_law.specs.declared.values.Applied.{Applied}
use Rattle.pg_sync.specs.Masters.{WritesOne}
use Rattle.pg_sync.proofs.Writing.{written_none, written_more}
use Rattle.pg_sync.proofs.masters.Masters.write.Goals as goal

pub loop-i-init : goal.loop-i-init
loop-i-init g c = written_none c.args.self.now c.clear.new.self c.clear.ensures

pub loop-i-preserved : goal.loop-i-preserved
loop-i-preserved g c =
    let i = c.loop-i.i in
    let first = c.index-applied-i.result in
    let second = c.index-applied-i-in-loop-i.result in
    let entry = get_or c.args.applied.now i first in
    let One : ℕ × Applied g.row.C.Denot → Type 0 = λ b. WritesOne entry.0 b.1 c.loop-i.self c.write_one.new.self in
    written_more c.args.applied.now i entry c.args.self.now c.loop-i.self c.write_one.new.self c.requires.apart c.loop-i-test.true (get_or_default c.args.applied.now i entry first c.loop-i-test.true)
    c.loop-i.invariant (subst One (get_or_default c.args.applied.now i second first c.loop-i-test.true) c.write_one.ensures)
