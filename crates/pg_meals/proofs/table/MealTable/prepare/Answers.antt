use Rattle.std.proofs.Common.{ℕ, ◌≡◌, ◌+◌, sym, ap, subst}
use Rattle.std.specs.Prelude.{Bool, true, false, Result, Ok, Err, IfOk, MatchBool, IsFalse, if◌then◌else◌}
use Rattle.pg_law.specs.Program.{Program}
use Rattle.pg_meals.specs.declared.board.Board.{Board}
use Rattle.pg_meals.specs.Tables.{Table}
use Rattle.pg_meals.specs.Closing.{HasRoom}
use Rattle.pg_meals.specs.Prepares.{PreparesOn, MayNotPrepare, cost_by}
use Rattle.pg_meals.proofs.table.MealTable.prepare.Goals as goal

-- a table whose board is as before is as before
made_there : {Prog Acc Carry E : Type 0} (p : Prog → Program Acc Carry) (a : ℕ) (t : Table Prog Acc) (b : Board Acc) (r : Result Bool E)
    → IfOk r (λ made. MatchBool made (PreparesOn (p t.program) t.graph t.board a b) (b ≡ t.board))
    → IfOk r (λ made. MatchBool made (PreparesOn (p t.program) t.graph t.board a b) (record t { board = b } ≡ t))
made_there p a t b (Ok true) k = k
made_there p a t b (Ok false) k = λ j. record t { board = k j }
made_there p a t b (Err e) k = k

counted_as : {E : Type 0} (r : Result Bool E) (x y n m : ℕ) → n ≡ m → IfOk r (λ made. x ≡ y + (if made then n else 0)) → IfOk r (λ made. x ≡ y + (if made then m else 0))
counted_as r x y n m e k = subst (λ z. IfOk r (λ made. x ≡ y + (if made then z else 0))) e k

pub prepare_on-requires-clause-kept : goal.prepare_on-requires-clause-kept
prepare_on-requires-clause-kept g c κs within = (c.self.inside.opening, c.self.invariant.0)

pub invariant_of-self : goal.invariant_of-self
invariant_of-self g c = (
  c.prepare_on.ensures.kept c.self.inside.opening c.self.invariant.0,
  subst (λ k. HasRoom c.self.inside.graph.now k c.self.inside.room) (sym c.prepare_on.ensures.frame.caches) c.self.invariant.1,
)

pub returns-clause-made : goal.returns-clause-made
returns-clause-made g c =
    let t : Table _ _ = record { program = c.self.inside.program.now; graph = c.self.inside.graph.now; opening = c.self.inside.opening; board = c.self.inside.board } in
    let b = c.prepare_on.new.board in
    subst (λ (u : Table _ _). IfOk c.prepare_on.result (λ made. MatchBool made (PreparesOn (g.P.VertexProgram.meaning u.program) u.graph u.board c.args.actor b) (record t { board = b } ≡ u))) c.self.view_is
    (made_there g.P.VertexProgram.meaning c.args.actor t b c.prepare_on.result c.prepare_on.ensures.made)

pub returns-clause-refused : goal.returns-clause-refused
returns-clause-refused g c =
    subst (λ (u : Table _ _). IfOk c.prepare_on.result (λ made. IsFalse made → MayNotPrepare (g.P.VertexProgram.meaning u.program) u.graph u.board c.args.actor)) c.self.view_is c.prepare_on.ensures.refused

pub returns-clause-counted : goal.returns-clause-counted
returns-clause-counted g c =
    counted_as c.prepare_on.result _ _ _ _ (ap (λ (u : Table _ _). cost_by (g.P.VertexProgram.meaning u.program) u.graph u.board c.args.actor) c.self.view_is) c.prepare_on.ensures.counted
