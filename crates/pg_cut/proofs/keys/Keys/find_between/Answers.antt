use Rattle.std.proofs.Common.{◌+◌, ◌-◌, ◌*◌, ◌/◌, arith}
use Rattle.std.specs.List.Sorted.{IsStrictlyIncreasing}
use Rattle.pg_cut.proofs.Searching.{half_left, below_at}
use Rattle.pg_cut.proofs.keys.Keys.find_between.Goals as goal

pub returns-then-at-key-clause-cost : goal.returns-then-at-key-clause-cost
returns-then-at-key-clause-cost g c = let step = half_left (c.loop-low.steps - c.args.steps.now) (c.key-at.new.steps - c.args.steps.now) (c.loop-low.high - c.loop-low.low) 0 (2 * (c.args.to - c.args.from))
    (omega (arith, c.key-at.ensures.counted, c.loop-low.invariant.counted)) (omega arith) (omega arith) c.loop-low.invariant.cost in
    omega (arith, step.1)

pub loop-low-preserved-then-at-key-2 : goal.loop-low-preserved-then-at-key-2
loop-low-preserved-then-at-key-2 g c = let middle = c.loop-low.low + (c.loop-low.high - c.loop-low.low) / 2 in
    let up : IsStrictlyIncreasing c.args.self.now = c.len.ensures.keys.ascending in
    let step = half_left (c.loop-low.steps - c.args.steps.now) (c.key-at.new.steps - c.args.steps.now) (c.loop-low.high - c.loop-low.low) (c.loop-low.high - (middle + 1)) (2 * (c.args.to - c.args.from))
    (omega (arith, c.key-at.ensures.counted, c.loop-low.invariant.counted)) (omega arith) (omega arith) c.loop-low.invariant.cost in
    record {
      within = c.loop-low.invariant.within;
      before = λ i h. let at = below_at c.args.self.now up i middle (omega arith) (omega (arith, c.loop-low.invariant.within)) in omega (arith, at, c.key-at.ensures.value);
      after = c.loop-low.invariant.after;
      counted = omega (arith, c.key-at.ensures.counted, c.loop-low.invariant.counted);
      cost = step.0;
      total = omega (arith, step.1);
    }

pub loop-low-preserved : goal.loop-low-preserved
loop-low-preserved g c = let middle = c.loop-low.low + (c.loop-low.high - c.loop-low.low) / 2 in
    let up : IsStrictlyIncreasing c.args.self.now = c.len.ensures.keys.ascending in
    let step = half_left (c.loop-low.steps - c.args.steps.now) (c.key-at.new.steps - c.args.steps.now) (c.loop-low.high - c.loop-low.low) (middle - c.loop-low.low) (2 * (c.args.to - c.args.from))
    (omega (arith, c.key-at.ensures.counted, c.loop-low.invariant.counted)) (omega arith) (omega arith) c.loop-low.invariant.cost in
    record {
      within = omega (arith, c.loop-low.invariant.within);
      before = c.loop-low.invariant.before;
      after = λ i h inside. let at = below_at c.args.self.now up middle i h inside in let apart = c.if-at-key.false in omega (arith, at, c.key-at.ensures.value);
      counted = omega (arith, c.key-at.ensures.counted, c.loop-low.invariant.counted);
      cost = step.0;
      total = omega (arith, step.1);
    }
