use Rattle.pg_law.specs.Configuration.{datum_in}
use Rattle.pg_paths.proofs.Agreeing.{id_unique, least_unique, branch_unique}
use Rattle.pg_paths.proofs.laws.values_at_rest_agree.Goals as goal

pub returns-clause-ids : goal.returns-clause-ids
returns-clause-ids c = λ g a b la lb v h. id_unique g v (datum_in a v).first (datum_in b v).first
    (la v h) (lb v h)

pub returns-clause-weights : goal.returns-clause-weights
returns-clause-weights c = λ g source a b la lb v h. least_unique g source v
    (datum_in a v).first (datum_in b v).first (la v h) (lb v h)

pub returns-clause-trees : goal.returns-clause-trees
returns-clause-trees c = λ g source a b la lb v h. branch_unique g source v (datum_in a v)
    (datum_in b v) (la v h) (lb v h)
