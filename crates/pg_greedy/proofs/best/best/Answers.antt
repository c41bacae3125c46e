use Rattle.std.proofs.Common.{◌≡◌, ℕ, ◌+◌, ◌*◌, ◌<◌, ◌==◌, true, get_or, sym, ◌∙◌, ap, arith, ⊎_elim}
use Rattle.std.proofs.lemmas.Bool.{false≢true}
use Rattle.std.proofs.lemmas.Nat.Bits.{bit_at-zero}
use Rattle.pg_cut.specs.WorkerSet.{has, is_in, workers_in}
use Rattle.pg_cut.proofs.Kept.{is_in_set}
use Rattle.pg_greedy.specs.Greedy.{turn_of, IsBest}
use Rattle.pg_greedy.proofs.Scanning.{left_before, gone_now, turn_few}
use Rattle.pg_greedy.proofs.Unbeaten.{best_is}
use Rattle.pg_greedy.proofs.best.best.Goals.{then-worker_key-best_key, else-worker_key-best_key}
use Rattle.pg_greedy.proofs.best.best.Goals as goal

pub key-best_key-requires-clause-worker : goal.key-best_key-requires-clause-worker
key-best_key-requires-clause-worker c = c.requires.within c.lowest-best.result c.lowest-best.ensures.member

pub loop-rest-init : goal.loop-rest-init
loop-rest-init c = record {
  member = c.lowest-best.ensures.member;
  key_is = c.key-best_key.ensures;
  part = left_before c.args.set c.lowest-best.result c.without-rest.result c.without-rest.ensures.value;
  least = λ w t f. ⊎_elim (λ e. rw e (omega (arith, c.key-best_key.ensures))) (λ g. absurd (false≢true (sym g ∙ t))) (gone_now c.args.set c.lowest-best.result c.without-rest.result c.without-rest.ensures.value w f);
}

pub key-worker_key-requires-clause-worker : goal.key-worker_key-requires-clause-worker
key-worker_key-requires-clause-worker c = c.requires.within c.lowest-worker.result (c.loop-rest.invariant.part _ c.lowest-worker.ensures.member)

pub loop-rest-preserved : goal.loop-rest-preserved
loop-rest-preserved c = let loads = c.args.loads.now in
    let key = λ (w : ℕ). 64 * get_or loads w 0 + turn_of c.args.workers c.args.first w in
    let left = left_before c.loop-rest.rest c.lowest-worker.result c.without-rest-in-loop-rest.result c.without-rest-in-loop-rest.ensures.value in
    let gone = gone_now c.loop-rest.rest c.lowest-worker.result c.without-rest-in-loop-rest.result c.without-rest-in-loop-rest.ensures.value in
    let here : c.key-worker_key.result ≡ key c.lowest-worker.result = c.key-worker_key.ensures in
    let before = c.loop-rest.invariant.least in
    let part = λ (w : ℕ) (t : has c.without-rest-in-loop-rest.result w ≡ true). c.loop-rest.invariant.part w (left w t) in
    elim c.if-worker_key-best_key.branch [
      | then-worker_key-best_key w ↦ record {
        member = rw w.best-is (c.loop-rest.invariant.part _ c.lowest-worker.ensures.member);
        key_is = rw (w.best-is, w.best_key-is) here;
        part = part;
        least = λ x t f. rw w.best_key-is (⊎_elim (λ e. rw e (omega (arith, here))) (λ g. let old = before x t g in omega arith) (gone x f));
      }
      | else-worker_key-best_key w ↦ record {
        member = rw w.best-is c.loop-rest.invariant.member;
        key_is = rw (w.best-is, w.best_key-is) c.loop-rest.invariant.key_is;
        part = part;
        least = λ x t f. rw w.best_key-is (⊎_elim (λ e. rw e (omega (arith, here))) (λ g. before x t g) (gone x f));
      }
    ]

members : (c : goal.After-loop-rest) → (w : ℕ) → is_in w (workers_in c.args.set) ≡ true → w < c.args.workers
members c w t = c.requires.within w (sym (is_in_set c.args.set w c.ranges.set.fits) ∙ t)

is_best : (c : goal.After-loop-rest) → IsBest c.args.workers c.args.first c.args.loads.now (workers_in c.args.set) c.loop-rest.best
is_best c = let set = c.args.set in
    let same = λ (w : ℕ). is_in_set set w c.ranges.set.fits in
    let none : c.loop-rest.rest ≡ 0 = omega arith in
    let gone = λ (w : ℕ). ap (λ r. has r w) none ∙ ap (λ x. x == 1) (bit_at-zero w) in
    let least = λ (w : ℕ) (t : is_in w (workers_in set) ≡ true). c.loop-rest.invariant.least w (sym (same w) ∙ t) (gone w) in
    let turn = λ (w : ℕ) (t : is_in w (workers_in set) ≡ true). turn_few c.args.workers c.args.first w c.requires.workers c.requires.first (members c w t) in
    let mine : is_in c.loop-rest.best (workers_in set) ≡ true = same c.loop-rest.best ∙ c.loop-rest.invariant.member in
    record {
      member = mine;
      least = λ w t. omega (arith, least w t, turn w t, turn c.loop-rest.best mine, c.loop-rest.invariant.key_is);
      earliest = λ w t e. omega (arith, least w t, c.loop-rest.invariant.key_is, e);
    }

pub returns-clause-best : goal.returns-clause-best
returns-clause-best c = is_best c

pub returns-clause-within : goal.returns-clause-within
returns-clause-within c = c.requires.within _ c.loop-rest.invariant.member

pub returns-clause-value : goal.returns-clause-value
returns-clause-value c = best_is c.args.workers c.args.first c.args.loads.now (workers_in c.args.set) c.loop-rest.best c.requires.first (members c) (is_best c)
