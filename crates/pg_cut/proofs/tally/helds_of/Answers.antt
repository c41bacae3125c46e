use Rattle.std.proofs.Common.{map, count_by, ◌∙◌, ap, arith}
use Rattle.std.proofs.lemmas.List.{take_all}
use Rattle.std.proofs.lemmas.List.FromFn.{fill_by_all}
use Rattle.pg_cut.specs.WorkerSet.{has, is_in, workers_in}
use Rattle.pg_cut.proofs.Kept.{held_is}
use Rattle.pg_cut.proofs.tally.helds_of.Goals as goal

pub returns : goal.returns
returns c = let spans = c.args.spans.now in
    fill_by_all (λ w. count_by (is_in w) (map workers_in spans)) c.loop-v.held.items c.args.workers 0 c.loop-v.invariant.count
    (λ w h. c.loop-v.invariant.each w h ∙ ap (count_by (λ bits. has bits w)) (take_all c.loop-v.v spans (omega arith)) ∙ held_is w (omega (arith, c.requires.workers)) spans)
