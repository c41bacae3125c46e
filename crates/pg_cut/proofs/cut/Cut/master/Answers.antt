use Rattle.std.proofs.Common.{length, arith}
use Rattle.pg_cut.specs.Cut.{division, master_of, span_in}
use Rattle.pg_cut.proofs.Kept.{made_read, made_length}
use Rattle.pg_cut.proofs.cut.Cut.master.Goals as goal

pub index-requires : goal.index-requires
index-requires c = let within = rw (← c.self.view_is) at c.requires in
    let cut = division c.self.inside.workers c.self.inside.place.items c.self.inside.spans.items in
    omega (arith, made_length (λ v. master_of (span_in cut v) v) (length cut.spans) c.self.inside.masters.items c.self.invariant.masters_are)

pub returns : goal.returns
returns c = let within = rw (← c.self.view_is) at c.requires in
    let cut = division c.self.inside.workers c.self.inside.place.items c.self.inside.spans.items in
    rw (← c.self.view_is) (made_read (λ v. master_of (span_in cut v) v) (length cut.spans) c.self.inside.masters.items c.args.v _ c.self.invariant.masters_are within c.index.ensures)
