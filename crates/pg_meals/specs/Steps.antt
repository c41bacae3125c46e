-- The acts of a board by name, as acts of the core.
use Rattle.std.specs.Prelude.{ℕ, ◌<◌, length}
use Rattle.pg_graph.specs.Multigraph.{Multigraph}
use Rattle.pg_meals.specs.declared.act.Act.{Act as NamedAct}
use Rattle.pg_meals.specs.declared.act.Act.TheVariants.{Claim as NamedClaim, Drop as NamedDrop, Look as NamedLook, Pin as NamedPin, Ask as NamedAsk, Back as NamedBack}
use Rattle.pg_meals.specs.declared.act.Act.TheVariants.{ReadMirror as NamedRead, Turn as NamedTurn, Commit as NamedCommit, Give as NamedGive, WriteMirror as NamedWrite}
use Rattle.pg_meals.specs.declared.act.Outcome.{Outcome as Told}
use Rattle.pg_meals.specs.declared.act.Outcome.TheVariants.{Moved as ToldMoved, Saw as ToldSaw, Read as ToldRead, Entered as ToldEntered}
use Rattle.pg_meals.specs.declared.board.Board.{Board}
use Rattle.pg_meals.specs.Core.{half_of}
use Rattle.pg_meals.specs.Acts.{Act, Outcome, Claim, Drop, Look, Pin, Ask, Back, ReadMirror, Turn, Commit, Give, WriteMirror, Moved, Saw, Read, Entered}
use Rattle.pg_meals.specs.Boards.{Acts, ActsByHalves, MayNot}

-- the vertex or edge of the act is one of the graph
abbrev pub IsWithin : Multigraph → NamedAct → Type 0
IsWithin g (NamedClaim v) = v < length g.ids
IsWithin g (NamedLook e) = e < length g.edges
IsWithin g (NamedPin e) = e < length g.edges
IsWithin g (NamedAsk e) = e < length g.edges
IsWithin g (NamedBack e) = e < length g.edges
IsWithin g (NamedRead e) = e < length g.edges
IsWithin g act = Unit {0}

-- the act, and its half h where it is one of halves; and what is told of each
abbrev pub act_of : NamedAct → ℕ → Act
act_of (NamedClaim v) h = Claim v
act_of NamedDrop h = Drop
act_of (NamedLook e) h = Look e
act_of (NamedPin e) h = Pin e
act_of (NamedAsk e) h = Ask e
act_of (NamedBack e) h = Back e
act_of (NamedRead e) h = ReadMirror e h
act_of NamedTurn h = Turn
act_of NamedCommit h = Commit
act_of NamedGive h = Give
act_of (NamedWrite k) h = WriteMirror k h

abbrev pub told_of : Told → ℕ → Outcome
told_of ToldMoved h = Moved
told_of (ToldSaw bits) h = Saw bits
told_of (ToldRead d) h = Read (half_of h d)
told_of (ToldEntered n) h = Entered n

abbrev pub told_moved : Told
told_moved = ToldMoved

-- the board makes the act, and tells this
abbrev pub MakesOn : {A : Type 0}
    → Multigraph → Board A → ℕ → NamedAct → Board A → Told → Type 0
MakesOn g b a (NamedRead e) b' out = ActsByHalves g b a (ReadMirror e) b' (told_of out)
MakesOn g b a (NamedWrite k) b' out = ActsByHalves g b a (WriteMirror k) b' (told_of out)
MakesOn g b a act b' out = Acts g b a (act_of act 0) b' (told_of out 0)

-- the guard of the act isn't met
abbrev pub RefusesOn : {A : Type 0} → Multigraph → Board A → ℕ → NamedAct → Type 0
RefusesOn g b a act = (h : ℕ) → MayNot g b a (act_of act h)
