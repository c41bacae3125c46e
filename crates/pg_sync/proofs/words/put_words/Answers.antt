use Rattle.std.proofs.Common.{◌≡◌, length, subst, arith}
use Rattle.pg_sync.proofs.Putting.{AreRight, inside_any, right_all}
use Rattle.pg_sync.proofs.words.put_words.Goals as goal

pub put_store-requires : goal.put_store-requires
put_store-requires g c = inside_any c.args._graph.now c.args._cut.now c.requires.cut c.args.workers.now c.loop-w.w (length c.loop-w.words) c.index-workers-w.result c.loop-w-test.true
    (c.requires.stores c.loop-w.w (omega (arith, c.loop-w-test.true, c.requires.workers))) (omega (arith, c.loop-w.invariant.count, c.requires.words))

pub returns : goal.returns
returns g c = λ t count own. let all : c.loop-w.w ≡ c.args._cut.now.workers = omega (arith, c.loop-w-test.false, c.loop-w.auto.w-end, c.requires.workers) in
    right_all c.args._graph.now c.args._cut.now c.requires.cut c.args.workers.now t c.loop-w.words c.requires.stores
    (subst (λ n. AreRight c.args.workers.now t n c.loop-w.words) all (c.loop-w.invariant.right t own)) count (omega (arith, c.loop-w.invariant.count, c.requires.words))
