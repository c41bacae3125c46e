-- Apply, push, scatter and deliver are a round.
use Rattle.std.proofs.Common.{true, Option, List, subst}
use Rattle.pg_law.specs.declared.values.Applied.{Applied}
use Rattle.pg_law.specs.Program.{Program}
use Rattle.pg_law.specs.Laws.{IsLawful}
use Rattle.pg_law.specs.Round.{outcomes, round}
use Rattle.pg_law.proofs.Fitting.{outcomes_own}
use Rattle.pg_gather.specs.Shares.{IsShareOf}
use Rattle.pg_apply_scatter.specs.Halves.{AreCarriesOf, applied_state, applied_round, PartsAreARound}
use Rattle.pg_apply_scatter.proofs.Applying.{masters_become, pushes_share}
use Rattle.pg_apply_scatter.proofs.Scattering.{workers_scatter}

pub parts_are_a_round : {Acc Carry : Type 0} (p : Program Acc Carry) → IsLawful p → PartsAreARound p
unfolding round
parts_are_a_round {Carry = Carry} p law g cut s carries stores old new ok is fit shares pushed carried =
    let became = outcomes p g s (λ v. true) in
    let Carried : List (Option (Applied Carry)) → Type 0 = λ b. AreCarriesOf carries b in
    let scattered = workers_scatter p law g cut s became carries stores new ok is fit (outcomes_own p g law ok s (λ v. true) fit) (subst Carried (masters_become p g s) carried)
    (λ w h. let Shared : List (Option (Applied Carry)) → Type 0 = λ b. IsShareOf g cut w (applied_state p g s b) (stores w) (new w) in
    subst Shared (masters_become p g s) (pushes_share p g cut w s (applied_round p g s) (stores w) (old w) (new w) is (shares w h) (pushed w h))) in
    record { shares = scattered.shares; messages = scattered.messages }
