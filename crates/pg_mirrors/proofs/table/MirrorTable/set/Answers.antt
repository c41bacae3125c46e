use Rattle.pg_mirrors.proofs.Pushing.{set_one}
use Rattle.pg_mirrors.proofs.table.MirrorTable.set.Goals as goal

pub returns-in-Some : goal.returns-in-Some
returns-in-Some c = let inside = c.self.inside in
    rw (← c.self.view_is) (set_one inside.vertices inside.values.items c.args.v c.in-Some.place c.args.datum c.len.ensures.keys.ascending c.self.invariant c.in-Some.ensures.within c.in-Some.ensures.key)
