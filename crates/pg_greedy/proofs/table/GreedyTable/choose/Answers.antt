use Rattle.std.proofs.Common.{◌≡◌, ◌==◌, true, false, refl, sym, ◌∙◌, arith}
use Rattle.std.specs.Prelude.{nat_lt}
use Rattle.std.proofs.lemmas.Bool.{eq-eqb, ne_eqb}
use Rattle.std.proofs.lemmas.List.Elements.{filter_agree}
use Rattle.pg_cut.specs.WorkerSet.{has, all_workers, workers_in, workers_that}
use Rattle.pg_greedy.specs.Greedy.{target_has_more}
use Rattle.pg_greedy.proofs.Chosen.{set_by, case_is, both_within}
use Rattle.pg_greedy.proofs.table.GreedyTable.choose.Goals as goal

pub returns-then-both-ne0-clause-set : goal.returns-then-both-ne0-clause-set
returns-then-both-ne0-clause-set c = set_by c.args.self.now c.args.edge c.args.us c.args.vs c.ranges.us.fits c.ranges.vs.fits c.requires.us c.requires.vs false (c.args.us == 0) (c.args.vs == 0) (target_has_more c.args.self.now c.args.edge) (ne_eqb _ 0 c.if-both-ne0.true) refl refl refl

pub returns-then-both-ne0-clause-case : goal.returns-then-both-ne0-clause-case
returns-then-both-ne0-clause-case c = case_is c.args.self.now c.args.edge c.args.us c.args.vs c.ranges.us.fits c.ranges.vs.fits c.requires.us c.requires.vs false (c.args.us == 0) (c.args.vs == 0) (ne_eqb _ 0 c.if-both-ne0.true) refl refl

pub returns-then-both-ne0-clause-within : goal.returns-then-both-ne0-clause-within
returns-then-both-ne0-clause-within c = both_within c.args.self.now.workers c.args.us c.args.vs c.requires.us_within

pub returns-then-vs-eq0-clause-set : goal.returns-then-vs-eq0-clause-set
returns-then-vs-eq0-clause-set c = let low = filter_agree (has c.all_below.result) (λ w. nat_lt w c.self.inside.workers) c.all_below.ensures.value all_workers in let below : workers_in c.all_below.result ≡ workers_that (λ w. nat_lt w c.args.self.now.workers) = rw (← c.self.view_is) low in below ∙ set_by c.args.self.now c.args.edge c.args.us c.args.vs c.ranges.us.fits c.ranges.vs.fits c.requires.us c.requires.vs true true true (target_has_more c.args.self.now c.args.edge) (eq-eqb _ 0 (omega (arith, c.if-both-ne0.false))) (eq-eqb _ 0 c.if-us-eq0.true) (eq-eqb _ 0 c.if-vs-eq0.true) refl

pub returns-then-vs-eq0-clause-case : goal.returns-then-vs-eq0-clause-case
returns-then-vs-eq0-clause-case c = case_is c.args.self.now c.args.edge c.args.us c.args.vs c.ranges.us.fits c.ranges.vs.fits c.requires.us c.requires.vs true true true (eq-eqb _ 0 (omega (arith, c.if-both-ne0.false))) (eq-eqb _ 0 c.if-us-eq0.true) (eq-eqb _ 0 c.if-vs-eq0.true)

pub returns-else-vs-eq0-clause-set : goal.returns-else-vs-eq0-clause-set
returns-else-vs-eq0-clause-set c = set_by c.args.self.now c.args.edge c.args.us c.args.vs c.ranges.us.fits c.ranges.vs.fits c.requires.us c.requires.vs true true false (target_has_more c.args.self.now c.args.edge) (eq-eqb _ 0 (omega (arith, c.if-both-ne0.false))) (eq-eqb _ 0 c.if-us-eq0.true) (ne_eqb _ 0 c.if-vs-eq0.false) refl

pub returns-else-vs-eq0-clause-case : goal.returns-else-vs-eq0-clause-case
returns-else-vs-eq0-clause-case c = case_is c.args.self.now c.args.edge c.args.us c.args.vs c.ranges.us.fits c.ranges.vs.fits c.requires.us c.requires.vs true true false (eq-eqb _ 0 (omega (arith, c.if-both-ne0.false))) (eq-eqb _ 0 c.if-us-eq0.true) (ne_eqb _ 0 c.if-vs-eq0.false)

pub returns-then-vs-eq0-2-clause-set : goal.returns-then-vs-eq0-2-clause-set
returns-then-vs-eq0-2-clause-set c = set_by c.args.self.now c.args.edge c.args.us c.args.vs c.ranges.us.fits c.ranges.vs.fits c.requires.us c.requires.vs true false true (target_has_more c.args.self.now c.args.edge) (eq-eqb _ 0 (omega (arith, c.if-both-ne0.false))) (ne_eqb _ 0 c.if-us-eq0.false) (eq-eqb _ 0 c.if-vs-eq0-2.true) refl

pub returns-then-vs-eq0-2-clause-case : goal.returns-then-vs-eq0-2-clause-case
returns-then-vs-eq0-2-clause-case c = case_is c.args.self.now c.args.edge c.args.us c.args.vs c.ranges.us.fits c.ranges.vs.fits c.requires.us c.requires.vs true false true (eq-eqb _ 0 (omega (arith, c.if-both-ne0.false))) (ne_eqb _ 0 c.if-us-eq0.false) (eq-eqb _ 0 c.if-vs-eq0-2.true)

pub returns-then-target_has_more-clause-set : goal.returns-then-target_has_more-clause-set
returns-then-target_has_more-clause-set c = set_by c.args.self.now c.args.edge c.args.us c.args.vs c.ranges.us.fits c.ranges.vs.fits c.requires.us c.requires.vs true false false true (eq-eqb _ 0 (omega (arith, c.if-both-ne0.false))) (ne_eqb _ 0 c.if-us-eq0.false) (ne_eqb _ 0 c.if-vs-eq0-2.false) (sym c.target_has_more.ensures ∙ c.if-target_has_more.true)

pub returns-then-target_has_more-clause-case : goal.returns-then-target_has_more-clause-case
returns-then-target_has_more-clause-case c = case_is c.args.self.now c.args.edge c.args.us c.args.vs c.ranges.us.fits c.ranges.vs.fits c.requires.us c.requires.vs true false false (eq-eqb _ 0 (omega (arith, c.if-both-ne0.false))) (ne_eqb _ 0 c.if-us-eq0.false) (ne_eqb _ 0 c.if-vs-eq0-2.false)

pub returns-else-target_has_more-clause-set : goal.returns-else-target_has_more-clause-set
returns-else-target_has_more-clause-set c = set_by c.args.self.now c.args.edge c.args.us c.args.vs c.ranges.us.fits c.ranges.vs.fits c.requires.us c.requires.vs true false false false (eq-eqb _ 0 (omega (arith, c.if-both-ne0.false))) (ne_eqb _ 0 c.if-us-eq0.false) (ne_eqb _ 0 c.if-vs-eq0-2.false) (sym c.target_has_more.ensures ∙ c.if-target_has_more.false)

pub returns-else-target_has_more-clause-case : goal.returns-else-target_has_more-clause-case
returns-else-target_has_more-clause-case c = case_is c.args.self.now c.args.edge c.args.us c.args.vs c.ranges.us.fits c.ranges.vs.fits c.requires.us c.requires.vs true false false (eq-eqb _ 0 (omega (arith, c.if-both-ne0.false))) (ne_eqb _ 0 c.if-us-eq0.false) (ne_eqb _ 0 c.if-vs-eq0-2.false)
