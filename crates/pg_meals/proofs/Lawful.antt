-- The laws of a program, as the core uses them.
use Rattle.std.proofs.Common.{ℕ, ◌≡◌, ◌≢◌, true, Some, sym, ap, subst, ◌∙◌}
use Rattle.pg_graph.specs.Multigraph.{opposite, takes}
use Rattle.pg_graph.specs.declared.edge.VertexInfo.{VertexInfo}
use Rattle.pg_law.specs.declared.values.Datum.{Datum}
use Rattle.pg_law.specs.declared.values.Near.{Near}
use Rattle.pg_law.specs.declared.values.Delta.{Delta}
use Rattle.pg_law.specs.declared.values.Delta.TheVariants.{Nothing, Add, Clear}
use Rattle.pg_law.specs.Program.{Program}
use Rattle.pg_law.specs.Laws.{IsNear, KeepsGathers, LeadsTo, AddsNothing, info_at}
use Rattle.pg_meals.proofs.Deltas.{settled}
use Rattle.pg_meals.proofs.At.{some_of}

-- where a delta leads, its sum is
pub leads_settled : {A : Type 0} (sum : A → A → A) (before : A) (d : Delta A) (after x : A) → LeadsTo sum before d after → settled sum before d ≡ Some x → after ≡ x
leads_settled sum before Nothing after x l e = sym l ∙ some_of before x e
leads_settled sum before (Add d) after x l e = sym l ∙ some_of (sum before d) x e
leads_settled sum before Clear after x l e = absurd (cc)

-- a delta that adds nothing is no Add
pub adds_nothing : {A : Type 0} (d : Delta A) (a : A) → AddsNothing d → d ≢ Add a
adds_nothing Nothing a n e = cc
adds_nothing (Add b) a n e = absurd n
adds_nothing Clear a n e = cc

-- on an edge where the other end gathers, the delta turns its old gather into the new one
pub delta_moves : {A C : Type 0} (p : Program A C) → KeepsGathers p → (i : VertexInfo) (old : Datum) (acc : A) (m : ℕ) (near : Near) → info_at near.side near.edge ≡ i → p.IsDatum old → p.IsAcc acc → p.IsMessage m → IsNear p near
    → near.centre ≡ (p.apply i old acc m).datum → takes p.gather_edges (opposite near.side) ≡ true
    → (x : A) → settled p.sum (p.gather (record { side = opposite near.side; edge = near.edge; word = near.word; centre = near.other; other = old })) ((p.scatter near (p.apply i old acc m).carry).delta) ≡ Some x
    → p.gather (record { side = opposite near.side; edge = near.edge; word = near.word; centre = near.other; other = near.centre }) ≡ x
delta_moves {A = A} p k i old acc m near at d c n fits is used x e =
    let j : VertexInfo = info_at near.side near.edge in
    let same : near.centre ≡ (p.apply j old acc m).datum = is ∙ ap (λ w. (p.apply w old acc m).datum) (sym at) in
    let law = (k.change near old acc m fits d c n used).leads in
    let before : A = p.gather (record { side = opposite near.side; edge = near.edge; word = near.word; centre = near.other; other = old }) in
    let moved : LeadsTo p.sum before (p.scatter near (p.apply j old acc m).carry).delta (p.gather (record { side = opposite near.side; edge = near.edge; word = near.word; centre = near.other; other = near.centre }))
    = subst (λ (w : Datum). LeadsTo p.sum before (p.scatter (record { side = near.side; edge = near.edge; word = near.word; centre = w; other = near.other }) (p.apply j old acc m).carry).delta (p.gather (record { side = opposite near.side; edge = near.edge; word = near.word; centre = near.other; other = w }))) (sym same) law in
    leads_settled p.sum before (p.scatter near (p.apply j old acc m).carry).delta _ x moved (ap (λ w. settled p.sum before (p.scatter near (p.apply w old acc m).carry).delta) at ∙ e)
