use Rattle.std.proofs.Common.{Ok, Err, sym, ◌∙◌}
use Rattle.std.proofs.lemmas.Bool.{true≢false}
use Rattle.pg_colour.proofs.Searching.{found_in, placed, missing, known}
use Rattle.pg_colour.proofs.colours.insert.Goals as goal

pub returns-in_err-insert-clause-known : goal.returns-in_err-insert-clause-known
returns-in_err-insert-clause-known c = let set = c.args.colours.now.items in
    let colour = c.args.colour in
    let place = c.in-Err.at in
    let same = c.deref.ensures.value in
    let found = found_in c.deref.result.now set colour (Err place) same c.in-Err.ensures.position in
    λ h. absurd (true≢false (sym h ∙ missing set colour place c.requires found))

pub returns-in_ok-insert-clause-ok : goal.returns-in_ok-insert-clause-ok
returns-in_ok-insert-clause-ok c = let set = c.args.colours.now.items in
    let colour = c.args.colour in
    let place = c.in-Err.at in
    let same = c.deref.ensures.value in
    let found = found_in c.deref.result.now set colour (Err place) same c.in-Err.ensures.position in
    c.in_ok-insert.ensures.items
    ∙ placed set colour place c.requires found

pub returns-in_default-clause-ok : goal.returns-in_default-clause-ok
returns-in_default-clause-ok c = let set = c.args.colours.now.items in
    let colour = c.args.colour in
    let place = c.in_default.field-0 in
    let same = c.deref.ensures.value in
    let answer = c.in_default.ensures.position in
    let found = found_in c.deref.result.now set colour (Ok place) same answer in
    known set colour place c.requires found
