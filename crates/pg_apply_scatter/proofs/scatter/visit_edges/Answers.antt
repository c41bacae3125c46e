use Rattle.std.proofs.Common.{length}
use Rattle.std.proofs.lemmas.Result.{IfOk-weaker}
use Rattle.pg_apply_scatter.proofs.Listing.{listing_own, listing_stands}
use Rattle.pg_apply_scatter.proofs.Visiting.{sent_own}
use Rattle.pg_apply_scatter.proofs.scatter.visit_edges.Goals as goal

pub returns-in-Some-clause-sent : goal.returns-in-Some-clause-sent
returns-in-Some-clause-sent g c = IfOk-weaker c.scatter_places.result _ _ (λ sent is. rw is (listing_stands (g.P.VertexProgram.meaning c.args.program.now) c.args.with_deltas _)) c.scatter_places.ensures.sent

pub returns-in-Some-clause-own : goal.returns-in-Some-clause-own
returns-in-Some-clause-own g c = IfOk-weaker c.scatter_places.result _ _ (λ sent is. rw is (listing_own (g.P.VertexProgram.meaning c.args.program.now) (length c.args.graph.now.ids) c.args.with_deltas _ (sent_own (g.P.VertexProgram.meaning c.args.program.now) c.args.graph.now c.laws_of.ensures c.vertices.ensures.graph c.args.mirrors.now c.args.carries.now
    (record { ascending = c.requires.readable.ascending; values = c.requires.readable.values }) c.requires.carries c.args.store.now c.requires.readable))) c.scatter_places.ensures.sent

pub returns-then-with_deltas-clause-own : goal.returns-then-with_deltas-clause-own
returns-then-with_deltas-clause-own g c = IfOk-weaker c.scatter_all.result _ _ (λ sent is. rw is (sent_own (g.P.VertexProgram.meaning c.args.program.now) c.args.graph.now c.laws_of.ensures c.vertices.ensures.graph c.args.mirrors.now c.args.carries.now
    (record { ascending = c.requires.readable.ascending; values = c.requires.readable.values }) c.requires.carries c.args.store.now c.requires.readable)) c.scatter_all.ensures.sent
