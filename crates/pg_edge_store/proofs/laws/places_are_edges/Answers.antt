use Rattle.pg_edge_store.proofs.Places.{around_is}
use Rattle.pg_edge_store.proofs.laws.places_are_edges.Goals as goal

pub returns : goal.returns
returns c = λ g place worker v dir count. around_is g place worker v dir count
