use Rattle.pg_edge_store.proofs.Replicas.{taken_is}
use Rattle.pg_edge_store.proofs.laws.rows_in_a_direction.Goals as goal

pub returns : goal.returns
returns c = λ g s r dir over h. taken_is g s over r h dir
