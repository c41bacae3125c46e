use Rattle.std.proofs.Common.{◌≡◌, ◌+◌, ◌≤◌, length, arith, ap}
use Rattle.std.specs.Prelude.{Ok}
use Rattle.std.proofs.lemmas.Result.{on_ok_weaker}
use Rattle.pg_graph.specs.Building.{Building}
use Rattle.pg_readers.specs.declared.line.Line.TheVariants.{Star}
use Rattle.pg_readers.specs.Lines.{line_says}
use Rattle.pg_readers.proofs.TargetLemmas.{targets_fit}
use Rattle.pg_input.proofs.add.add_line.Goals as goal

pub add_star-requires : goal.add_star-requires
add_star-requires c =
    let is : line_says c.args.format c.args.line.now ≡ Ok (Star c.in-Ok-Star.id c.in-Ok-Star.targets) = cc in
    let loops = ap (λ (b : Building). b.loops) c.in_ok-vertex-in-Ok-Star.ensures.ok in
    omega (arith, targets_fit c.args.format c.args.line.now c.in-Ok-Star.id c.in-Ok-Star.targets is, loops, c.requires)

pub returns-in_ok-vertex-in-Ok-Star-clause-loops : goal.returns-in_ok-vertex-in-Ok-Star-clause-loops
returns-in_ok-vertex-in-Ok-Star-clause-loops c =
    let is : line_says c.args.format c.args.line.now ≡ Ok (Star c.in-Ok-Star.id c.in-Ok-Star.targets) = cc in
    let loops = ap (λ (b : Building). b.loops) c.in_ok-vertex-in-Ok-Star.ensures.ok in
    let fits = targets_fit c.args.format c.args.line.now c.in-Ok-Star.id c.in-Ok-Star.targets is in
    on_ok_weaker c.add_star.result (λ (more : c.add_star.new.builder.loops ≤ c.vertex.new.self.loops + length c.in-Ok-Star.targets). omega arith) c.add_star.ensures.loops
