use Rattle.pg_virtual.proofs.Made.{made_nothing, made_one, forgotten, executed, pushed}
use Rattle.pg_virtual.proofs.single.execute_least.Goals as goal

pub returns-in_default-clause-made : goal.returns-in_default-clause-made
returns-in_default-clause-made g c = made_nothing (g.P.VertexProgram.meaning c.args.program.now) c.args.graph.now c.args.closed c.requires.fit c.requires.caches c.requires.none

pub returns-clause-made : goal.returns-clause-made
returns-clause-made g c =
    let p = g.P.VertexProgram.meaning c.args.program.now in
    let s = c.args.closed.state in
    made_one p c.args.graph.now s c.in-Some.vertex c.entry_of-entry.result (record { state = c.execute.new.state; journal = c.push.new.self; caches = c.forget.result })
    c.in-Some.ensures.0 c.in-Some.ensures.1
    (executed p c.args.graph.now s c.execute.new.state c.in-Some.vertex c.in-Some.ensures.1 c.in_ok-execute.ensures.state)
    c.entry_of-entry.ensures
    (pushed c.args.closed.journal.items c.push.new.self.items c.entry_of-entry.result c.in_ok-push.ensures.items c.requires.none)
    c.in_ok-execute.ensures.fit (forgotten p c.args.graph.now s c.execute.new.state _ _ c.forget.ensures c.requires.caches)
