use Rattle.std.proofs.Common.{ℕ, ◌<◌, length, arith}
use Rattle.pg_meals.specs.Plans.{planned_over}
use Rattle.pg_meals.specs.Prepares.{applied_on}
use Rattle.pg_meals.proofs.Carried.{board_is}
use Rattle.pg_meals.proofs.Drafted.{draft_prepares, readied_frame, readied_tallied, prepare_carries}
use Rattle.pg_meals.proofs.preparing.prepare_on.Goals as goal

pub keep-requires-clause-vertex : goal.keep-requires-clause-vertex
keep-requires-clause-vertex g c =
    let k = c.requires.kept in
    k.1.stands.kept.clean.inside c.args.actor c.in-Some.due.vertex c.in-Some.ensures.busy

pub keep-requires-clause-board : goal.keep-requires-clause-board
keep-requires-clause-board g c = board_is (g.P.VertexProgram.meaning c.args.program.now) c.args.graph.now c.requires.kept.0 c.args.board.now c.requires.kept.1

pub returns-clause-made : goal.returns-clause-made
returns-clause-made g c =
    let p = g.P.VertexProgram.meaning c.args.program.now in
    let k = c.requires.kept in
    let v : ℕ = c.in-Some.due.vertex in
    let draft = c.in_ok-draft.ensures.draft in
    let plan = planned_over p c.args.graph.now c.args.board.now.forks.items v (applied_on p c.args.graph.now c.args.board.now c.args.actor v c.in-Some.due.message) in
    draft_prepares p c.laws_of.ensures c.args.graph.now k.0 c.args.board.now k.1 c.args.actor v c.in-Some.due.message c.in-Some.ensures c.keep.new.self c.in_ok-draft.draft draft c.requires.actor (c.keep.ensures plan draft.plans)

pub returns-clause-frame : goal.returns-clause-frame
returns-clause-frame g c =
    let p = g.P.VertexProgram.meaning c.args.program.now in
    let v : ℕ = c.in-Some.due.vertex in
    let draft = c.in_ok-draft.ensures.draft in
    let plan = planned_over p c.args.graph.now c.args.board.now.forks.items v (applied_on p c.args.graph.now c.args.board.now c.args.actor v c.in-Some.due.message) in
    readied_frame c.args.graph.now c.args.board.now c.keep.new.self c.args.actor v c.in_ok-draft.draft.ready c.in_ok-draft.draft.cell plan (c.keep.ensures plan draft.plans)

pub returns-clause-kept : goal.returns-clause-kept
returns-clause-kept g c = λ s kept.
    let p = g.P.VertexProgram.meaning c.args.program.now in
    let v : ℕ = c.in-Some.due.vertex in
    let draft = c.in_ok-draft.ensures.draft in
    let plan = planned_over p c.args.graph.now c.args.board.now.forks.items v (applied_on p c.args.graph.now c.args.board.now c.args.actor v c.in-Some.due.message) in
    let readied = c.keep.ensures plan draft.plans in
    let made = draft_prepares p c.laws_of.ensures c.args.graph.now s c.args.board.now kept c.args.actor v c.in-Some.due.message c.in-Some.ensures c.keep.new.self c.in_ok-draft.draft draft c.requires.actor readied in
    let v_in : v < length c.args.board.now.seats.items = omega (arith, kept.stands.kept.clean.inside c.args.actor v c.in-Some.ensures.busy, kept.laid.seats) in
    let tallied = readied_tallied c.args.graph.now c.args.board.now c.keep.new.self c.args.actor v c.in_ok-draft.draft.ready c.in_ok-draft.draft.cell plan c.requires.actor v_in readied kept.laid.tallied in
    prepare_carries p c.laws_of.ensures c.args.graph.now s c.args.board.now c.keep.new.self c.args.actor kept made (readied_frame c.args.graph.now c.args.board.now c.keep.new.self c.args.actor v c.in_ok-draft.draft.ready c.in_ok-draft.draft.cell plan readied) tallied
