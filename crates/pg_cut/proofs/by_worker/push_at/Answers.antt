use Rattle.pg_cut.proofs.Appending.{appends_at}
use Rattle.pg_cut.proofs.by_worker.push_at.Goals as goal

pub returns : goal.returns
returns c = appends_at c.args.lists.now.items c.args.worker c.index_mut.result.now c.push.new.self c.args.item c.requires c.index_mut.ensures.value c.in_ok-push.ensures.items
