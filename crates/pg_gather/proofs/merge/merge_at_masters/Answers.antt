use Rattle.std.proofs.Common.{◌<◌, [], length, take, sym, ◌∙◌, ap, arith}
use Rattle.std.proofs.lemmas.List.{with_items_is, get_or-map, length-map}
use Rattle.pg_cut.specs.ByWorker.{lists_in}
use Rattle.pg_gather.specs.Merging.{with_list}
use Rattle.pg_gather.proofs.Merging.{empties_own, firsts_of, merged_more}
use Rattle.pg_gather.proofs.merge.merge_at_masters.Goals as goal

pub loop-i-init : goal.loop-i-init
loop-i-init g c = record {
  sums = c.in_ok-sums.ensures;
  own = rw c.in_ok-sums.ensures (empties_own (g.P.VertexProgram.meaning c.args.program.now) c.laws_of.ensures c.args.wanted.now);
}

pub add_list-requires-clause-vertices : goal.add_list-requires-clause-vertices
add_list-requires-clause-vertices g c κs within =
    rw (c.as_mut_slice.ensures.value, c.loop-i.invariant.sums) (firsts_of (g.P.VertexProgram.meaning c.args.program.now) c.args.wanted.now (take c.loop-i.i (lists_in c.args.parts.items)))

pub add_list-requires-clause-parts : goal.add_list-requires-clause-parts
add_list-requires-clause-parts g c κs within =
    let lists = lists_in c.args.parts.items in
    let inside : c.loop-i.i < length c.args.parts.items = omega (arith, c.loop-i-test.true, c.len-i-end.ensures, c.args.parts.ok) in
    let list = c.as_slice-list.ensures.value ∙ ap (λ v. v.items) c.index.ensures ∙ sym (get_or-map (λ v. v.items) c.args.parts.items c.loop-i.i c.index.result.now [] inside) in
    rw list (c.requires.parts c.loop-i.i [] (omega (arith, inside, length-map c.args.parts.items (λ v. v.items))))

pub loop-i-preserved : goal.loop-i-preserved
loop-i-preserved g c =
    let p = g.P.VertexProgram.meaning c.args.program.now in
    let lists = lists_in c.args.parts.items in
    let inside : c.loop-i.i < length c.args.parts.items = omega (arith, c.loop-i-test.true, c.len-i-end.ensures, c.args.parts.ok) in
    let list = c.as_slice-list.ensures.value ∙ ap (λ v. v.items) c.index.ensures ∙ sym (get_or-map (λ v. v.items) c.args.parts.items c.loop-i.i c.index.result.now [] inside) in
    let whole = with_items_is c.loop-i.sums c.add_list.new.sums (omega (arith, c.add_list.auto.sums, c.as_mut_slice.ensures.len)) in
    let sums = c.in_ok-add_list.ensures.sums ∙ ap (λ xs. with_list p xs c.as_slice-list.result.now) (c.as_mut_slice.ensures.value ∙ c.loop-i.invariant.sums) ∙ ap (with_list p _) list
    ∙ merged_more p c.args.wanted.now lists c.loop-i.i [] (omega (arith, inside, length-map c.args.parts.items (λ v. v.items))) in
    record {
      sums = whole ∙ sums;
      own = rw whole c.in_ok-add_list.ensures.own;
    }
