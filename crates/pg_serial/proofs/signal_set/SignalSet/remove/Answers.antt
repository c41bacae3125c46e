use Rattle.std.proofs.Common.{◌≡◌, ℕ, List, ◌/◌, length, true, false, cond, ◌==◌, ◌∙◌, ap, arith}
use Rattle.std.proofs.lemmas.List.{with_items_is}
use Rattle.pg_serial.specs.Bits.{has, is_taken}
use Rattle.pg_serial.proofs.Summaries.{summary_has, summary_kept, summary_less}
use Rattle.pg_serial.proofs.signal_set.SignalSet.remove.Goals as goal

pub invariant_of-self : goal.invariant_of-self
invariant_of-self c = let s = c.self.inside in
    let v = c.args.v in
    let count : length c.take_out.new.words ≡ length s.bits.items = omega (arith, c.take_out.auto.words, ap length c.as_mut_slice.ensures.value) in
    let bits = with_items_is s.bits c.take_out.new.words (omega (arith, c.take_out.auto.words, c.as_mut_slice.ensures.len)) in
    let member : has s.bits.items v ≡ true = ap (λ (bits : List ℕ). has bits v) c.self.view_is ∙ c.requires in
    rw bits record {
      groups_are = summary_kept s.groups.items s.bits.items c.self.invariant.groups_are c.take_out.new.words v count member
          (λ i. c.if-take_out.ensures.taken i ∙ ap (λ (words : List ℕ). cond (i == v / 64) true (is_taken words i)) c.as_mut_slice.ensures.value);
      blocks_are = c.self.invariant.blocks_are;
      few = omega (arith, count, c.self.invariant.few);
      few_groups = c.self.invariant.few_groups;
      few_blocks = c.self.invariant.few_blocks;
    }

pub take_out-requires-2 : goal.take_out-requires-2
take_out-requires-2 c = rw c.as_mut_slice-2.ensures.value (summary_has c.self.inside.groups.items c.self.inside.bits.items c.self.invariant.groups_are c.args.v
    (ap (λ (bits : List ℕ). has bits c.args.v) c.self.view_is ∙ c.requires))

pub invariant_of-self-then-take_out-2 : goal.invariant_of-self-then-take_out-2
invariant_of-self-then-take_out-2 c = let s = c.self.inside in
    let v = c.args.v in
    let count : length c.take_out.new.words ≡ length s.bits.items = omega (arith, c.take_out.auto.words, ap length c.as_mut_slice.ensures.value) in
    let count_groups : length c.take_out-2.new.words ≡ length s.groups.items = omega (arith, c.take_out-2.auto.words, ap length c.as_mut_slice-2.ensures.value) in
    let bits = with_items_is s.bits c.take_out.new.words (omega (arith, c.take_out.auto.words, c.as_mut_slice.ensures.len)) in
    let groups = with_items_is s.groups c.take_out-2.new.words (omega (arith, c.take_out-2.auto.words, c.as_mut_slice-2.ensures.len)) in
    let member : has s.bits.items v ≡ true = ap (λ (bits : List ℕ). has bits v) c.self.view_is ∙ c.requires in
    let member_above = summary_has s.groups.items s.bits.items c.self.invariant.groups_are v member in
    rw (bits, groups) record {
      groups_are = summary_less s.groups.items s.bits.items c.self.invariant.groups_are c.take_out-2.new.words c.take_out.new.words (v / 64) count_groups count
          (λ i. c.take_out-2.ensures.has i ∙ ap (λ (words : List ℕ). cond (i == v / 64) false (has words i)) c.as_mut_slice-2.ensures.value)
          (λ i. c.if-take_out.ensures.taken i ∙ ap (λ (words : List ℕ). cond (i == v / 64) false (is_taken words i)) c.as_mut_slice.ensures.value);
      blocks_are = summary_kept s.blocks.items s.groups.items c.self.invariant.blocks_are c.take_out-2.new.words (v / 64) count_groups member_above
          (λ i. c.if-take_out-2.ensures.taken i ∙ ap (λ (words : List ℕ). cond (i == v / 64 / 64) true (is_taken words i)) c.as_mut_slice-2.ensures.value);
      few = omega (arith, count, c.self.invariant.few);
      few_groups = omega (arith, count_groups, c.self.invariant.few_groups);
      few_blocks = c.self.invariant.few_blocks;
    }

pub take_out-requires-3 : goal.take_out-requires-3
take_out-requires-3 c = let s = c.self.inside in
    let v = c.args.v in
    let member = summary_has s.groups.items s.bits.items c.self.invariant.groups_are v (ap (λ (bits : List ℕ). has bits v) c.self.view_is ∙ c.requires) in
    let place : v / 4096 ≡ v / 64 / 64 = omega arith in
    rw c.as_mut_slice-3.ensures.value (ap (has s.blocks.items) place ∙ summary_has s.blocks.items s.groups.items c.self.invariant.blocks_are (v / 64) member)
