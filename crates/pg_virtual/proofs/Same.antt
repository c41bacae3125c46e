-- Tables that differ in their boards alone.
use Rattle.std.proofs.Common.{ℕ, refl, sym, ap, ◌∙◌}
use Rattle.pg_graph.specs.Multigraph.{Multigraph}
use Rattle.pg_meals.specs.declared.board.Board.{Board}
use Rattle.pg_meals.specs.Boards.{Frame}
use Rattle.pg_meals.specs.Tables.{Table, IsSameTable}
use Rattle.pg_meals.specs.Once.{is_among}
use Rattle.pg_virtual.specs.Stretches.{HasFewWorkers, IsSeated, IsPlayed}

module _ {A : Type 0} where
  frame_none : (b : Board A) → Frame b b
  frame_none b = record { workers = refl; homes = λ v. refl; fuel = refl; room = refl; caches = refl; seats = refl; replicas = refl; forks = refl; actors = refl }

  -- the workers are as few as before
  pub few_same : {a b : Board A} → HasFewWorkers a → Frame a b → HasFewWorkers b
  few_same few x v k q = few v k (ap (is_among k) (sym (x.homes v)) ∙ q)

  frame_then : {a b c : Board A} → Frame a b → Frame b c → Frame a c
  frame_then x y = record {
    workers = y.workers ∙ x.workers;
    homes = λ v. y.homes v ∙ x.homes v;
    fuel = y.fuel ∙ x.fuel;
    room = y.room ∙ x.room;
    caches = y.caches ∙ x.caches;
    seats = y.seats ∙ x.seats;
    replicas = y.replicas ∙ x.replicas;
    forks = y.forks ∙ x.forks;
    actors = y.actors ∙ x.actors;
  }

module _ {Prog Acc : Type 0} where
  pub played_none : (t : Table Prog Acc) → IsPlayed t t
  played_none t = record { same = record { program = refl; graph = refl; opening = refl; actors = refl }; frame = frame_none t.board }

  pub played_then : {a b c : Table Prog Acc} → IsPlayed a b → IsPlayed b c → IsPlayed a c
  played_then x y = record {
    same = record {
      program = y.same.program ∙ x.same.program;
      graph = y.same.graph ∙ x.same.graph;
      opening = y.same.opening ∙ x.same.opening;
      actors = y.same.actors ∙ x.same.actors;
    };
    frame = frame_then x.frame y.frame;
  }

  -- a step is one
  pub played_by : {a b : Table Prog Acc} → IsSameTable a b → Frame a.board b.board → IsPlayed a b
  played_by x f = record { same = x; frame = f }

  -- the graph and the actors are as many as before
  pub seated_same : {g : Multigraph} {count : ℕ} {a b : Table Prog Acc} → IsSeated g count a → IsPlayed a b → IsSeated g count b
  seated_same x y = record { graph = y.same.graph ∙ x.graph; actors = y.same.actors ∙ x.actors; workers = few_same x.workers y.frame }

-- what steps and loops over a table are proved by
pub ruleset same_laws = (played_none, played_then, played_by, seated_same)
