use Rattle.pg_mirrors.proofs.Pushing.{replicas_in_spans}
use Rattle.pg_mirrors.proofs.laws.replicas_are_in_spans.Goals as goal

pub returns : goal.returns
returns c = replicas_in_spans
