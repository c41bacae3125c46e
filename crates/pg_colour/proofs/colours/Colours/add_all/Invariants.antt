use Rattle.std.proofs.Common.{◌≡◌, take}
use Rattle.pg_colour.specs.Colours.{AreColours, union}
use Rattle.pg_colour.proofs.colours.Colours.add_all.Given as goal

-- the colours so far are in
abbrev pub invariant-loop-colour : goal.invariant-loop-colour
invariant-loop-colour l = record {
  own : AreColours l.self;
  so_far : l.self ≡ union l.fn.self (take l.colour-index l.colour-items);
}
