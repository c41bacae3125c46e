use Rattle.std.proofs.Common.{◌≡◌, ◌+◌, ◌≤◌, length}
use Rattle.pg_input.specs.Events.{star_edges, with_elements, event_of_elements}
use Rattle.pg_input.proofs.add.add_star.Given as goal

-- the targets that are left complete what was built, and the event
abbrev pub invariant-loop-target : goal.invariant-loop-target
invariant-loop-target l = record {
  event : event_of_elements l.builder (star_edges l.id l.target-iterator) ≡ event_of_elements l.fn.builder (star_edges l.id l.fn.targets);
  built : with_elements l.builder (star_edges l.id l.target-iterator) ≡ with_elements l.fn.builder (star_edges l.id l.fn.targets);
  loops : l.builder.loops + length l.target-iterator ≤ l.fn.builder.loops + length l.fn.targets;
}
