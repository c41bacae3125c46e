use Rattle.std.proofs.Common.{arith}
use Rattle.pg_cut.specs.Cut.{division, load_of}
use Rattle.pg_cut.proofs.Kept.{made_read, made_length}
use Rattle.pg_cut.proofs.cut.Cut.load.Goals as goal

pub index-requires : goal.index-requires
index-requires c = let within = rw (← c.self.view_is) at c.requires in
    let cut = division c.self.inside.workers c.self.inside.place.items c.self.inside.spans.items in
    omega (arith, made_length (load_of cut) cut.workers c.self.inside.loads.items c.self.invariant.loads_are)

pub returns : goal.returns
returns c = let within = rw (← c.self.view_is) at c.requires in
    let cut = division c.self.inside.workers c.self.inside.place.items c.self.inside.spans.items in
    rw (← c.self.view_is) (made_read (load_of cut) cut.workers c.self.inside.loads.items c.args.worker _ c.self.invariant.loads_are within c.index.ensures)
