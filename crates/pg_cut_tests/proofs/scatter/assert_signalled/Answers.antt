use Rattle.std.proofs.Common.{◌≡◌, ℕ, true, Option, Some, None, get_or, refl, sym, ◌∙◌, arith, rules, below_more}
use Rattle.std.specs.Prelude.{is_some}
use Rattle.std.proofs.lemmas.Bool.{false≢true}
use Rattle.std.proofs.lemmas.List.{get_or_default}
use Rattle.pg_law.specs.Configuration.{message_in}
use Rattle.pg_paths.specs.Components.{components}
use Rattle.pg_apply_scatter.specs.Applying.{IsMastered}
use Rattle.pg_cut_tests.proofs.scatter.assert_signalled.Goals as goal

-- what is there is some message
there : (o : Option ℕ) → is_some o ≡ true → (m : ℕ) × (o ≡ Some m)
there None is = absurd (false≢true is)
there (Some m) is = (m, refl)

pub loop-i-preserved : goal.loop-i-preserved
loop-i-preserved g c =
    let Mastered : ℕ → Type 0 = λ k. IsMastered components c.args.graph.now c.args.messages.now (get_or c.args.sums.now k (0, 0)) in
    below_more Mastered c.loop-i.i c.loop-i.invariant (record { vertex = search rules; signalled = there (message_in c.args.messages.now (get_or c.args.sums.now c.loop-i.i (0, 0)).0) (sym c.is_some.ensures ∙ search rules); own = search rules })

pub returns : goal.returns
returns g c = λ k d h. rw (get_or_default c.args.sums.now k d (0, 0) h) (c.loop-i.invariant k (omega (arith, h, c.loop-i-test.false)))
