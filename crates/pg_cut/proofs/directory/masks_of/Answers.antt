use Rattle.std.proofs.Common.{◌<◌, ◌==◌, get_or, length-set, arith, ◌∙◌, ap}
use Rattle.std.proofs.lemmas.List.{get_or-replicate}
use Rattle.std.proofs.lemmas.Nat.Bits.{bit_at-zero}
use Rattle.pg_cut.specs.WorkerSet.{has}
use Rattle.pg_cut.proofs.Marking.{block_inside, marked_more}
use Rattle.pg_cut.proofs.directory.masks_of.Goals as goal

pub index-mask-requires : goal.index-mask-requires
index-mask-requires c = omega (arith, block_inside c.args.keys.now c.loop-i.masks.items c.requires c.loop-i.i c.loop-i-test.true c.loop-i.invariant.count)

pub index_mut-requires : goal.index_mut-requires
index_mut-requires c = omega (arith, block_inside c.args.keys.now c.loop-i.masks.items c.requires c.loop-i.i c.loop-i-test.true c.loop-i.invariant.count)

pub loop-i-init : goal.loop-i-init
loop-i-init c = record {
  count = omega (arith, c.in_ok-masks.ensures.len, c.blocks_up_to_last.ensures.value);
  each = λ b j hb hj. let inside : b < c.blocks_up_to_last.result = omega (arith, hb, c.blocks_up_to_last.ensures.value) in
      ap (λ m. has m j) (ap (λ xs. get_or xs b 0) (c.in_ok-masks.ensures.items_if_clones_equal (λ y q. q)) ∙ get_or-replicate c.blocks_up_to_last.result b 0 0 inside) ∙ ap (λ x. x == 1) (bit_at-zero j);
}

pub loop-i-preserved : goal.loop-i-preserved
loop-i-preserved c = record {
  count = length-set _ _ _ ∙ c.loop-i.invariant.count;
  each = marked_more c.args.keys.now c.loop-i.masks.items c.requires c.loop-i.i c.loop-i-test.true c.loop-i.invariant.count c.index-mask.result.now c.with_bit.result c.index-mask.ensures c.with_bit.ensures c.loop-i.invariant.each;
}
