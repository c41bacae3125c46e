-- What is prepared are values of the program, since an entry would make them values of a core that keeps the invariant.
use Rattle.std.proofs.Common.{ℕ, suc, ◌<◌, ◌≡◌, ◌==◌, length, Bool, true, false, cond, Some, arith, refl, subst}
use Rattle.std.proofs.lemmas.Bool.Decides.{Decides-eqb}
use Rattle.pg_law.specs.Program.{Program}
use Rattle.pg_law.specs.Laws.{IsLawful, IsOptional, KeepsGathers}
use Rattle.pg_delta.specs.Cell.{IsCell}
use Rattle.pg_meals.specs.Shape.{Shape}
use Rattle.pg_meals.specs.Serial.{Serial}
use Rattle.pg_meals.specs.Core.{Core, Place, Prepared}
use Rattle.pg_meals.specs.Standing.{signalled}
use Rattle.pg_meals.specs.Acts.{entered_core}
use Rattle.pg_meals.specs.Hygiene.{Hygiene}
use Rattle.pg_meals.specs.StandsFor.{Invariant, IsReady, IsContent, IsPrepared}
use Rattle.pg_meals.proofs.Shapes.{Graphlike}
use Rattle.pg_meals.proofs.Cells.{entry_keeps}

module _ {A C : Type 0} (p : Program A C) (g : Shape) (fuel : ℕ) (opening : Serial) (speaks : IsLawful p) (plain : Graphlike g) (keeps : g.caches ≡ true → KeepsGathers p) (c : Core A) (inv : Invariant p g fuel opening c) where
  -- there may be one entry more
  looser : Hygiene g (suc fuel) (signalled p g c) c.words
  looser = record {
    named = inv.clean.named;
    names = inv.clean.names;
    inside = inv.clean.inside;
    turn_named = inv.clean.turn_named;
    turn_names = inv.clean.turn_names;
    turn_ready = inv.clean.turn_ready;
    pin_inside = inv.clean.pin_inside;
    pin_word = inv.clean.pin_word;
    pin_holder = inv.clean.pin_holder;
    pinner = inv.clean.pinner;
    clean_lower = inv.clean.clean_lower;
    dirty_higher = inv.clean.dirty_higher;
    committed_higher = inv.clean.committed_higher;
    clean_signalled = inv.clean.clean_signalled;
    asked_signalled = inv.clean.asked_signalled;
    not_both = inv.clean.not_both;
    evidence_signalled = inv.clean.evidence_signalled;
    short = let few = inv.clean.short in omega arith;
    clean_marked = inv.clean.clean_marked;
    taken_clean = inv.clean.taken_clean;
  }

  module _ (a v : ℕ) (q : Prepared A) (busy : (c.words.grip a).vertex ≡ Some v) (fresh : (c.words.grip a).committed ≡ false) (held : (c.notes a).prepared ≡ Some q) where
    abbrev ready : IsReady p g c a v q
    ready = inv.true_of.ready a v q busy fresh held

    room : length c.words.journal < suc fuel
    room = let few = inv.clean.short in omega arith

    after : Invariant p g (suc fuel) opening (entered_core g c a v q)
    after = entry_keeps p g (suc fuel) opening speaks plain keeps c a v q busy ready.all fresh room looser inv.true_of ready

    here : (v == v) ≡ true
    here = (Decides-eqb v v).1 refl

    abbrev place : Bool → Place A
    place b = cond b (record { datum = q.datum; message = q.again; cell = q.cell }) (c.place v)

    -- what is prepared are values of the program
    pub prepared_own : IsPrepared p g v q
    prepared_own = record {
      datum = subst (λ b. p.IsDatum (place b).datum) here (after.true_of.datum_fits v);
      again = subst (λ b. IsOptional p.IsMessage (place b).message) here (after.true_of.own_message v);
      cell = subst (λ b. IsCell p (place b).cell) here (after.true_of.cell_fits v);
      content = λ s e i at. subst (λ b. IsContent p (cond b (q.content e) (c.content e))) (ready.all s e i at) (after.true_of.content_fits e);
    }
