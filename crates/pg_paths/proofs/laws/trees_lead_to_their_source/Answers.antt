use Rattle.pg_paths.proofs.Branching.{leads_back}
use Rattle.pg_paths.proofs.laws.trees_lead_to_their_source.Goals as goal

pub returns : goal.returns
returns c = record {
  back = λ g source values graph some grows. leads_back g graph source values some grows;
}
