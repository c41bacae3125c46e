use Rattle.std.proofs.Common.{arith}
use Rattle.pg_serial.proofs.Waiting.{on_err}
use Rattle.pg_virtual.proofs.Putting.{put_more, put_front}
use Rattle.pg_virtual.proofs.texts.put_entries.Goals as goal

pub returns-in_err-put_entry-clause-front : goal.returns-in_err-put_entry-clause-front
returns-in_err-put_entry-clause-front g c = on_err _ _ (put_front (g.T.EntryText.text c.args.text.now c.args.graph.now) c.args.waiting.now.items c.args.entries.now c.loop-entry.entry-index
    _ c.loop-entry-test.true _ _ _ _ c.loop-entry.invariant.sent c.in_err-put_entry.ensures.front)

pub loop-entry-preserved : goal.loop-entry-preserved
loop-entry-preserved g c = record {
  sent = put_more (g.T.EntryText.text c.args.text.now c.args.graph.now) c.args.waiting.now.items c.args.entries.now c.loop-entry.entry-index
      _ c.loop-entry-test.true _ _ _ _ _ c.loop-entry.invariant.sent c.in_ok-put_entry.ensures.sent;
  later = omega (arith, c.loop-entry.invariant.later, c.in_ok-put_entry.ensures.later);
}
