use Rattle.std.proofs.Common.{◌≡◌, ◌+◌, ◌≤◌, length, ◌&&◌}
use Rattle.std.specs.Option.{is_some}
use Rattle.pg_readers.specs.Tokens.{numbers, all_numbers}
use Rattle.pg_readers.proofs.line.count_numbers.Given as goal

abbrev pub decreases-loop-number : goal.decreases-loop-number
decreases-loop-number l = length l.rest

-- the tokens so far and those that are left are all
abbrev pub invariant-loop-number : goal.invariant-loop-number
invariant-loop-number l = record {
  space : l.count + length l.rest ≤ length l.fn.bytes;
  count : l.count + length (numbers l.rest) ≡ length (numbers l.fn.bytes);
  are_numbers : (l.are_numbers && is_some (all_numbers (numbers l.rest))) ≡ is_some (all_numbers (numbers l.fn.bytes));
}
