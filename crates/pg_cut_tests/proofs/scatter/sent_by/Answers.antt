use Rattle.std.proofs.Common.{Bool, Option, Some, None}
use Rattle.pg_law.specs.Carries.{IsCarried}
use Rattle.pg_paths.specs.Components.{components}
use Rattle.pg_cut_tests.proofs.scatter.sent_by.Goals as goal

-- any carry is one of the program
carried : (carry : Option Bool) → IsCarried components carry
carried None = tt
carried (Some changed) = tt

pub scatter_worker-requires-clause-carries : goal.scatter_worker-requires-clause-carries
scatter_worker-requires-clause-carries c κs = record { count = c.requires.carries; each = λ v h. carried _ }

pub scatter_signals-requires-clause-carries : goal.scatter_signals-requires-clause-carries
scatter_signals-requires-clause-carries c κs = record { count = c.requires.carries; each = λ v h. carried _ }
