use Rattle.std.proofs.Common.{◌≡◌, drop}
use Rattle.pg_colour.specs.Colours.{gap_from}
use Rattle.pg_colour.proofs.colours.first_gap.Given as goal

-- the colours so far are all numbers from 0 on
abbrev pub invariant-loop-colour : goal.invariant-loop-colour
invariant-loop-colour l = record {
  place : l.free ≡ l.colour-index;
  rest : gap_from 0 l.colours ≡ gap_from l.colour-index (drop l.colour-index l.colours);
}
