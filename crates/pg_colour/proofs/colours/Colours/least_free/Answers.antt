use Rattle.std.proofs.Common.{ap, ◌∙◌, arith}
use Rattle.pg_colour.specs.Colours.{has, gap_from}
use Rattle.pg_colour.proofs.Gaps.{gap_free, gap_least}
use Rattle.pg_colour.proofs.colours.Colours.least_free.Goals as goal

pub returns-clause-free : goal.returns-clause-free
returns-clause-free c = let set = c.args.self.now in
    let same = c.as_slice.ensures in
    let gap = c.first_gap.ensures ∙ ap (λ xs. gap_from 0 xs) same in
    ap (λ g. has set g) gap ∙ gap_free set c.requires

pub returns-clause-least : goal.returns-clause-least
returns-clause-least c = let same = c.as_slice.ensures in
    let gap = c.first_gap.ensures ∙ ap (λ xs. gap_from 0 xs) same in
    λ colour lt. gap_least c.args.self.now colour (omega (arith, gap, lt))
