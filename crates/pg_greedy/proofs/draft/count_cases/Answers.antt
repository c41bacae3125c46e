use Rattle.std.proofs.Common.{arith}
use Rattle.pg_greedy.proofs.FourCases.{four_few}
use Rattle.pg_greedy.proofs.draft.count_cases.Goals as goal

pub returns-clause-total : goal.returns-clause-total
returns-clause-total c = omega (arith, four_few c.args.cases.now, c.count_case.ensures, c.count_case-2.ensures, c.count_case-3.ensures, c.count_case-4.ensures)
