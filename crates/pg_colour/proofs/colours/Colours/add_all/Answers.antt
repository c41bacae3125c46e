use Rattle.std.proofs.Common.{get_or, take, sym, ap, ◌∙◌, arith}
use Rattle.std.specs.Prelude.{◌||◌}
use Rattle.std.proofs.lemmas.Bool.{true≢false}
use Rattle.pg_colour.specs.Colours.{has, with_colour}
use Rattle.pg_colour.specs.ColoursLaws.{with_own, has_union}
use Rattle.pg_colour.proofs.Searching.{union_more, has_at}
use Rattle.pg_colour.proofs.colours.Colours.add_all.Goals as goal

pub loop-colour-preserved : goal.loop-colour-preserved
loop-colour-preserved c = let colours = c.as_slice-colour-items.result.now in
    let i = c.loop-colour.colour-index in
    let set = c.loop-colour.self in
    let colour = get_or colours i 0 in
    let more = union_more c.args.self.now colours i c.loop-colour-test.true in
    record {
      own = rw c.in_ok-add.ensures.ok
          (with_own 0 set colour c.loop-colour.invariant.own (omega arith)
          (omega (arith, c.type_inv.colour-items i)));
      so_far = c.in_ok-add.ensures.ok
          ∙ ap (λ xs. with_colour xs colour) c.loop-colour.invariant.so_far ∙ sym more;
    }

-- a colour that is in is in the union so far, so its add has succeeded
pub returns-in_err-add-clause-known : goal.returns-in_err-add-clause-known
returns-in_err-add-clause-known c = let colours = c.as_slice-colour-items.result.now in
    let i = c.loop-colour.colour-index in
    let colour = get_or colours i 0 in
    let front = take i colours in
    let same = sym c.as_slice-colour-items.ensures in
    let there = ap (λ xs. has xs colour) same ∙ has_at colours i c.loop-colour-test.true in
    let united = ap (λ xs. has xs colour) c.loop-colour.invariant.so_far
    ∙ has_union c.args.self.now front colour in
    λ all. absurd (true≢false (sym (c.in_err-add.ensures.known
    (united ∙ ap (λ b. b || has front colour) (all colour there)))))
