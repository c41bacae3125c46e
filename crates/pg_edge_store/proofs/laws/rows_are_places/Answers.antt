use Rattle.pg_edge_store.proofs.Replicas.{row_around}
use Rattle.pg_edge_store.proofs.laws.rows_are_places.Goals as goal

pub returns : goal.returns
returns c = λ g s r over h. row_around g s over r h
