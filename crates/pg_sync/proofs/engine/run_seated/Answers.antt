use Rattle.std.proofs.Common.{◌<◌, ℕ, List, sym, subst, ◌∙◌, ap, arith}
use Rattle.std.proofs.lemmas.List.{with_items_is}
use Rattle.pg_law.specs.Configuration.{Configuration}
use Rattle.pg_law.specs.Rounds.{rounds}
use Rattle.pg_edge_store.specs.Store.{IsStoreOf}
use Rattle.pg_sync.specs.declared.worker.Scattering.{Scattering}
use Rattle.pg_sync.specs.Held.{store_at}
use Rattle.pg_sync.specs.Putting.{HasWordsOf}
use Rattle.pg_sync.proofs.Sharing.{shared_held, state_is}
use Rattle.pg_sync.proofs.engine.run_seated.Goals as goal

pub put_words-requires-clause-stores : goal.put_words-requires-clause-stores
put_words-requires-clause-stores g c = let p = g.P.VertexProgram.meaning c.args.program.now in
    let held = shared_held p c.args.graph.now c.args.cut.now c.args.state c.state.inside.edges c.as_slice.result.now c.in_ok-workers.workers.items c.as_mut_slice-parts.result.now c.in_ok-mirrors.mirrors.items c.as_mut_slice-tables.result.now
    c.in_ok-masters.masters.values.items c.in_ok-masters.masters.messages.items c.requires.fit c.in_ok-workers.ensures c.in_ok-mirrors.ensures (ap (λ (s : Configuration). s.edges) c.state.view_is) (c.as_slice.ensures.value ∙ ap (λ (s : Configuration). s.values) c.state.view_is)
    c.as_mut_slice-parts.ensures.value c.as_mut_slice-tables.ensures.value (c.in_ok-masters.ensures.values ∙ ap (λ (s : Configuration). s.values) c.state.view_is) (c.in_ok-masters.ensures.messages ∙ ap (λ (s : Configuration). s.messages) c.state.view_is) in
    let done = c.in_ok-ran.ensures.done c.args.state held in
    let whole = c.as_slice-2.ensures.value ∙ with_items_is c.in_ok-workers.workers c.run_parts.new.workers (omega (arith, c.run_parts.auto.workers, c.as_mut_slice-parts.ensures.len)) in
    let Stores : List (Scattering g.row.P-Acc.Denot) → Type 0 = λ workers. (w : ℕ) → w < c.args.cut.now.workers → IsStoreOf c.args.graph.now c.args.cut.now w (store_at workers w) in
    subst Stores (sym whole) (λ w h. (done.held.shares w h).edges)

pub returns-clause-end : goal.returns-clause-end
returns-clause-end g c = let p = g.P.VertexProgram.meaning c.args.program.now in
    let held = shared_held p c.args.graph.now c.args.cut.now c.args.state c.state.inside.edges c.as_slice.result.now c.in_ok-workers.workers.items c.as_mut_slice-parts.result.now c.in_ok-mirrors.mirrors.items c.as_mut_slice-tables.result.now
    c.in_ok-masters.masters.values.items c.in_ok-masters.masters.messages.items c.requires.fit c.in_ok-workers.ensures c.in_ok-mirrors.ensures (ap (λ (s : Configuration). s.edges) c.state.view_is) (c.as_slice.ensures.value ∙ ap (λ (s : Configuration). s.values) c.state.view_is)
    c.as_mut_slice-parts.ensures.value c.as_mut_slice-tables.ensures.value (c.in_ok-masters.ensures.values ∙ ap (λ (s : Configuration). s.values) c.state.view_is) (c.in_ok-masters.ensures.messages ∙ ap (λ (s : Configuration). s.messages) c.state.view_is) in
    let done = c.in_ok-ran.ensures.done c.args.state held in
    let last = (rounds p c.args.graph.now c.args.state c.args.limit).state in
    let whole = c.as_slice-2.ensures.value ∙ with_items_is c.in_ok-workers.workers c.run_parts.new.workers (omega (arith, c.run_parts.auto.workers, c.as_mut_slice-parts.ensures.len)) in
    let Own : List (Scattering g.row.P-Acc.Denot) → Type 0 = λ workers. (w : ℕ) → w < c.args.cut.now.workers → HasWordsOf last.edges (store_at workers w) in
    let put = c.in_ok-put_words.ensures last.edges done.held.fit.words.count (subst Own (sym whole) (λ w h. (done.held.shares w h).words)) in
    record {
      state_is = state_is last c.run_parts.new.masters.values.items c.put_words.new.words c.run_parts.new.masters.messages.items done.held.values put done.held.messages;
      rounds_are = done.rounds_are;
      executions_are = done.executions_are;
      gathers_are = done.gathers_are;
      ends = done.ends;
    }

pub returns-clause-counted : goal.returns-clause-counted
returns-clause-counted g c = let p = g.P.VertexProgram.meaning c.args.program.now in
    let held = shared_held p c.args.graph.now c.args.cut.now c.args.state c.state.inside.edges c.as_slice.result.now c.in_ok-workers.workers.items c.as_mut_slice-parts.result.now c.in_ok-mirrors.mirrors.items c.as_mut_slice-tables.result.now
    c.in_ok-masters.masters.values.items c.in_ok-masters.masters.messages.items c.requires.fit c.in_ok-workers.ensures c.in_ok-mirrors.ensures (ap (λ (s : Configuration). s.edges) c.state.view_is) (c.as_slice.ensures.value ∙ ap (λ (s : Configuration). s.values) c.state.view_is)
    c.as_mut_slice-parts.ensures.value c.as_mut_slice-tables.ensures.value (c.in_ok-masters.ensures.values ∙ ap (λ (s : Configuration). s.values) c.state.view_is) (c.in_ok-masters.ensures.messages ∙ ap (λ (s : Configuration). s.messages) c.state.view_is) in
    c.in_ok-ran.ensures.counted c.args.state held
