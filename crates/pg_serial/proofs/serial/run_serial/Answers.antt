use Rattle.std.proofs.Common.{◌≡◌, ◌+◌, ◌-◌, List, ℕ, ◌++◌, sym, ◌∙◌, ap, subst, arith}
use Rattle.pg_base.specs.Writing.{Sent, SendsFront}
use Rattle.pg_law.specs.Configuration.{Configuration}
use Rattle.pg_law.specs.declared.values.JournalEntry.{JournalEntry}
use Rattle.pg_serial.specs.Serial.{entry_after, entry_of}
use Rattle.pg_serial.proofs.Queues.{over}
use Rattle.pg_serial.proofs.Serials.{serial_laws}
use Rattle.pg_serial.proofs.Running.{SoFar, begun, front_now, front_more, went_on, front_last, all_sent, all_replayed, all_counted, all_summed}
use Rattle.pg_serial.proofs.Waiting.{front_nothing, on_err}
use Rattle.pg_serial.proofs.serial.run_serial.Goals as goal

pub returns-in_err-neighbours-clause-journal : goal.returns-in_err-neighbours-clause-journal
returns-in_err-neighbours-clause-journal g c = serial_laws (g.P.VertexProgram.meaning c.args.program.now) c.args.graph.now c.args.state c.args.fuel

pub returns-in_err-queue-clause-journal : goal.returns-in_err-queue-clause-journal
returns-in_err-queue-clause-journal g c = serial_laws (g.P.VertexProgram.meaning c.args.program.now) c.args.graph.now c.args.state c.args.fuel

pub returns-in_err-waiting-clause-journal : goal.returns-in_err-waiting-clause-journal
returns-in_err-waiting-clause-journal g c = serial_laws (g.P.VertexProgram.meaning c.args.program.now) c.args.graph.now c.args.state c.args.fuel

pub returns-in_err-gathers-clause-journal : goal.returns-in_err-gathers-clause-journal
returns-in_err-gathers-clause-journal g c = serial_laws (g.P.VertexProgram.meaning c.args.program.now) c.args.graph.now c.args.state c.args.fuel

pub returns-in_err-put_entry-clause-journal : goal.returns-in_err-put_entry-clause-journal
returns-in_err-put_entry-clause-journal g c = serial_laws (g.P.VertexProgram.meaning c.args.program.now) c.args.graph.now c.args.state c.args.fuel

pub returns-in_err-flush-clause-journal : goal.returns-in_err-flush-clause-journal
returns-in_err-flush-clause-journal g c = serial_laws (g.P.VertexProgram.meaning c.args.program.now) c.args.graph.now c.args.state c.args.fuel

pub returns-clause-journal : goal.returns-clause-journal
returns-clause-journal g c = serial_laws (g.P.VertexProgram.meaning c.args.program.now) c.args.graph.now c.args.state c.args.fuel

-- nothing was written so far
pub returns-in_err-neighbours-clause-front : goal.returns-in_err-neighbours-clause-front
returns-in_err-neighbours-clause-front g c = on_err _ _ (front_nothing _ _)

pub returns-in_err-queue-clause-front : goal.returns-in_err-queue-clause-front
returns-in_err-queue-clause-front g c = on_err _ _ (front_nothing _ _)

pub returns-in_err-waiting-clause-front : goal.returns-in_err-waiting-clause-front
returns-in_err-waiting-clause-front g c = on_err _ _ (front_nothing _ _)

pub loop-u-init : goal.loop-u-init
loop-u-init g c = let p = g.P.VertexProgram.meaning c.args.program.now in
    let written = g.K.Sink.written c.args.journal.now in
    let Begins : List ℕ → Type 0 = λ waiting. SoFar p c.args.graph.now (g.T.EntryText.text c.args.text.now c.args.graph.now) c.args.fuel
    c.args.state c.args.state c.args.fuel 0 written written waiting in
    record {
      fit = c.requires;
      room = c.in_ok-queue.ensures.room;
      queue = c.in_ok-queue.ensures.queue;
      so_far = subst Begins (sym c.in_ok-waiting.ensures.items) (begun p c.args.graph.now (g.T.EntryText.text c.args.text.now c.args.graph.now) c.args.fuel c.args.state written);
      counted = omega arith;
      few = omega arith;
      later = omega arith;
    }

pub returns-in_err-gathers-clause-front : goal.returns-in_err-gathers-clause-front
returns-in_err-gathers-clause-front g c = on_err _ _ (front_now _ _ _ _ _ _ _ _ _ _ _ c.loop-u.invariant.so_far)

pub returns-in_err-put_entry-clause-front : goal.returns-in_err-put_entry-clause-front
returns-in_err-put_entry-clause-front g c = let p = g.P.VertexProgram.meaning c.args.program.now in
    let text = g.T.EntryText.text c.args.text.now c.args.graph.now in
    let u = c.in-Some.u in
    let entry : c.entry_of.result ≡ entry_of p c.args.graph.now c.loop-u.state u = c.entry_of.ensures
    ∙ ap (λ (s : Configuration). entry_after s u) c.in_ok-gathers.ensures.state in
    let Front : JournalEntry → Type 0 = λ entry. SendsFront (g.K.Sink.written c.loop-u.journal) (g.K.Sink.written c.put_entry.new.journal) (c.loop-u.waiting.items ++ text entry) in
    on_err _ _ (front_more _ _ _ _ _ _ _ _ _ _ _ c.loop-u.invariant.so_far u c.in-Some.ensures (c.loop-u.left - 1) (let some = c.in-Some.ensures.some in omega (arith, some))
    (g.K.Sink.written c.put_entry.new.journal) (subst Front entry c.in_err-put_entry.ensures.front))

pub loop-u-preserved : goal.loop-u-preserved
loop-u-preserved g c = let p = g.P.VertexProgram.meaning c.args.program.now in
    let text = g.T.EntryText.text c.args.text.now c.args.graph.now in
    let u = c.in-Some.u in
    let ok = c.in_ok-gathers.ensures in
    let some = c.in-Some.ensures.some in
    let less : c.loop-u.left ≡ c.loop-u.left - 1 + 1 = omega (arith, some) in
    let entry : c.entry_of.result ≡ entry_of p c.args.graph.now c.loop-u.state u = c.entry_of.ensures
    ∙ ap (λ (s : Configuration). entry_after s u) ok.state in
    let Goes : JournalEntry → Type 0 = λ entry. Sent (g.K.Sink.written c.loop-u.journal) (g.K.Sink.written c.put_entry.new.journal) (c.loop-u.waiting.items ++ text entry) c.put_entry.new.waiting.items in
    record {
      fit = ok.fit;
      room = omega (arith, ok.room, c.loop-u.invariant.room);
      queue = ok.queue;
      so_far = went_on _ _ _ _ _ _ _ _ _ _ _ c.loop-u.invariant.so_far u c.in-Some.ensures (c.loop-u.left - 1) less c.serial_step.new.state
          (g.K.Sink.written c.put_entry.new.journal) c.put_entry.new.waiting.items c.in_ok-gathers.field-0 ok.state ok.gathers (subst Goes entry c.in_ok-put_entry.ensures.sent);
      counted = omega (arith, ok.counted, c.loop-u.invariant.counted);
      few = omega (arith, less, ok.few, c.loop-u.invariant.few);
      later = omega (arith, c.loop-u.invariant.later, c.in_ok-put_entry.ensures.later);
    }

pub returns-in_err-flush-clause-front : goal.returns-in_err-flush-clause-front
returns-in_err-flush-clause-front g c = on_err _ _ (front_last _ _ _ _ _ _ _ _ _ _ _ c.loop-u.invariant.so_far
    (over c.args.graph.now c.loop-u.state c.loop-u.left c.next.result c.next.ensures c.in_default.not-Some) _ c.in_err-flush.ensures.front)

pub returns-clause-written : goal.returns-clause-written
returns-clause-written g c = all_sent _ _ _ _ _ _ _ _ _ _ _ c.loop-u.invariant.so_far
    (over c.args.graph.now c.loop-u.state c.loop-u.left c.next.result c.next.ensures c.in_default.not-Some) _ _ c.in_ok-flush.ensures.sent c.in_ok-flush.ensures.none

pub returns-clause-state : goal.returns-clause-state
returns-clause-state g c = all_replayed _ _ _ _ _ _ _ _ _ _ _ c.loop-u.invariant.so_far
    (over c.args.graph.now c.loop-u.state c.loop-u.left c.next.result c.next.ensures c.in_default.not-Some)

pub returns-clause-executions : goal.returns-clause-executions
returns-clause-executions g c = omega (
  arith,
  all_counted _ _ _ _ _ _ _ _ _ _ _ c.loop-u.invariant.so_far
      (over c.args.graph.now c.loop-u.state c.loop-u.left c.next.result c.next.ensures c.in_default.not-Some),
)

pub returns-clause-gathers : goal.returns-clause-gathers
returns-clause-gathers g c = all_summed _ _ _ _ _ _ _ _ _ _ _ c.loop-u.invariant.so_far
    (over c.args.graph.now c.loop-u.state c.loop-u.left c.next.result c.next.ensures c.in_default.not-Some)
