-- Signals last until an entry of their vertex, which then has the largest rank.
use Rattle.std.proofs.Common.{ℕ, ◌≡◌, ◌≢◌, true, Some, sym, ap, subst, ◌∙◌}
use Rattle.pg_law.specs.declared.values.JournalEntry.{JournalEntry}
use Rattle.pg_law.specs.Program.{Program}
use Rattle.pg_law.specs.Laws.{IsLawful, KeepsGathers}
use Rattle.pg_meals.specs.Shape.{Shape}
use Rattle.pg_meals.specs.Ranks.{Before}
use Rattle.pg_meals.specs.Serial.{Serial}
use Rattle.pg_meals.specs.Core.{Core}
use Rattle.pg_meals.specs.Standing.{signalled}
use Rattle.pg_meals.specs.Acts.{Act, Claim, Drop, Look, Pin, Ask, Back, ReadMirror, Turn, Commit, Give, WriteMirror, Outcome, Step}
use Rattle.pg_meals.specs.StandsFor.{Invariant}
use Rattle.pg_meals.specs.Runs.{Deed, Acts, Prepares, Does}
use Rattle.pg_meals.specs.Signals.{IsNoEntryAt}
use Rattle.pg_meals.proofs.At.{some_of}
use Rattle.pg_meals.proofs.Shapes.{Graphlike}
use Rattle.pg_meals.proofs.Turns.{last_wins}
use Rattle.pg_meals.proofs.Commit.{still_signalled}

module _ {A C : Type 0} (p : Program A C) (g : Shape) (fuel : ℕ) (opening : Serial) (speaks : IsLawful p) (plain : Graphlike g) (keeps : g.caches ≡ true → KeepsGathers p) (c : Core A) (inv : Invariant p g fuel opening c) where
  step_lasts : (v : ℕ) → signalled p g c v ≡ true → (b : ℕ) (act : Act) (c' : Core A) (out : Outcome) → Step g fuel c b act c' out → IsNoEntryAt p v c b (Acts act) → signalled p g c' v ≡ true
  step_lasts v t b (Claim w) c' out d n = subst (λ y. signalled p g y v ≡ true) (sym d.3) t
  step_lasts v t b Drop c' out d n = subst (λ y. signalled p g y v ≡ true) (sym d.5) t
  step_lasts v t b (Look e) c' out d n = subst (λ y. signalled p g y v ≡ true) (sym d.5) t
  step_lasts v t b (Pin e) c' out d n = subst (λ y. signalled p g y v ≡ true) (sym d.9) t
  step_lasts v t b (Ask e) c' out d n = subst (λ y. signalled p g y v ≡ true) (sym d.9) t
  step_lasts v t b (Back e) c' out d n = subst (λ y. signalled p g y v ≡ true) (sym d.9) t
  step_lasts v t b (ReadMirror e h) c' out d n = subst (λ y. signalled p g y v ≡ true) (sym d.7) t
  step_lasts v t b Turn c' out d n = subst (λ y. signalled p g y v ≡ true) (sym d.5) t
  step_lasts v t b Commit c' out d n =
      let ready = inv.true_of.ready b d.0 d.1 d.2 d.4 d.5 in
      subst (λ y. signalled p g y v ≡ true) (sym d.7)
      (still_signalled p g fuel opening speaks plain keeps c b d.0 d.1 d.2 ready.all d.4 d.6 inv.clean inv.true_of ready v (λ r. n (d.2 ∙ ap Some (sym r))) t)
  step_lasts v t b Give c' out d n = subst (λ y. signalled p g y v ≡ true) (sym d.1) t
  step_lasts v t b (WriteMirror k h) c' out d n = subst (λ y. signalled p g y v ≡ true) (sym d.7) t

  -- no deed but an entry of v takes its message away
  pub deed_lasts : (v : ℕ) → signalled p g c v ≡ true → (b : ℕ) (d : Deed) (c' : Core A) → Does p g fuel c b d c' → IsNoEntryAt p v c b d → signalled p g c' v ≡ true
  deed_lasts v t b (Acts act) c' k n = step_lasts v t b act c' k.0 k.1 n
  deed_lasts v t b Prepares c' k n = subst (λ y. signalled p g y v ≡ true) (sym k.3) t

-- an entry of v puts it behind all others
pub ranked_last : {A : Type 0} (g : Shape) (fuel : ℕ) (c : Core A) (a v : ℕ) (c' : Core A) (out : Outcome) → (c.words.grip a).vertex ≡ Some v → Step g fuel c a Commit c' out → (u : ℕ) → u ≢ v → Before c'.words.journal u v
ranked_last g fuel c a v c' out busy d u n =
    let entry : JournalEntry = record { vertex = d.0; datum = d.1.datum } in
    let same : d.0 ≡ v = some_of d.0 v (sym d.2 ∙ busy) in
    subst (λ y. Before y.words.journal u v) (sym d.7) (last_wins c.words.journal entry v u same n)
