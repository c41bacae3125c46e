use Rattle.std.proofs.Common.{ℕ, Vec, Global, ◌∙◌, arith}
use Rattle.std.proofs.lemmas.List.{length-map}
use Rattle.pg_cut.specs.ByWorker.{lists_in}
use Rattle.pg_cut.specs.Cut.{division, edges_on}
use Rattle.pg_cut.proofs.Kept.{made_length}
use Rattle.pg_cut.proofs.Appending.{list_read}
use Rattle.pg_cut.proofs.cut.Cut.edges_on.Goals as goal

pub index-requires : goal.index-requires
index-requires c = let within = rw (← c.self.view_is) at c.requires in
    let inside = c.self.inside in
    let cut = division inside.workers inside.place.items inside.spans.items in
    omega (arith, made_length (edges_on cut.place) cut.workers (lists_in inside.edges.items) c.self.invariant.edges_are, length-map inside.edges.items (λ (list : Vec ℕ Global). list.items))

pub returns : goal.returns
returns c = let within = rw (← c.self.view_is) at c.requires in
    let inside = c.self.inside in
    let cut = division inside.workers inside.place.items inside.spans.items in
    rw (← c.self.view_is) (c.as_slice.ensures.value ∙ list_read (edges_on cut.place) cut.workers inside.edges.items c.args.worker c.index.result.now c.self.invariant.edges_are within c.index.ensures)
