use Rattle.std.proofs.Common.{◌∙◌}
use Rattle.pg_colour.proofs.Searching.{found_in, is_there}
use Rattle.pg_colour.proofs.colours.Colours.contains.Goals as goal

pub returns : goal.returns
returns c = let set = c.args.self.now in
    let colour = c.args.colour in
    let r = c.binary_search.result in
    let same = c.as_slice.ensures in
    let found = found_in c.as_slice.result.now set colour r same c.binary_search.ensures.position in
    c.is_ok.ensures.value ∙ is_there set colour r c.requires found
