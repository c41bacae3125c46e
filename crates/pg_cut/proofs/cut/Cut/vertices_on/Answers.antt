use Rattle.std.proofs.Common.{ℕ, Vec, Global, ◌∙◌, arith}
use Rattle.std.proofs.lemmas.List.{length-map}
use Rattle.pg_cut.specs.ByWorker.{lists_in}
use Rattle.pg_cut.specs.Cut.{division, vertices_on}
use Rattle.pg_cut.proofs.Kept.{made_length}
use Rattle.pg_cut.proofs.Appending.{list_read}
use Rattle.pg_cut.proofs.cut.Cut.vertices_on.Goals as goal

pub index-requires : goal.index-requires
index-requires c = let within = rw (← c.self.view_is) at c.requires in
    let inside = c.self.inside in
    let cut = division inside.workers inside.place.items inside.spans.items in
    omega (arith, made_length (vertices_on cut) cut.workers (lists_in inside.vertices.items) c.self.invariant.vertices_are, length-map inside.vertices.items (λ (list : Vec ℕ Global). list.items))

pub returns : goal.returns
returns c = let within = rw (← c.self.view_is) at c.requires in
    let inside = c.self.inside in
    let cut = division inside.workers inside.place.items inside.spans.items in
    rw (← c.self.view_is) (c.as_slice.ensures.value ∙ list_read (vertices_on cut) cut.workers inside.vertices.items c.args.worker c.index.result.now c.self.invariant.vertices_are within c.index.ensures)
