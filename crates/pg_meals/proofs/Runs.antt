-- Whole runs.
use Rattle.std.proofs.Common.{ℕ, ◌<◌, ◌≡◌, ltb, List, [], ◌∷◌, Bool, true, false, cond, Some, None, inr, arith, refl, sym, ap, subst, ◌∙◌}
use Rattle.std.proofs.lemmas.Bool.Decides.{nat_tests}
use Rattle.pg_graph.specs.declared.edge.Side.TheVariants.{Source, Target}
use Rattle.pg_graph.specs.Multigraph.{opposite}
use Rattle.pg_meals.specs.Shape.{Shape}
use Rattle.pg_meals.specs.Words.{holder, waiter}
use Rattle.pg_meals.specs.Ranks.{Before}
use Rattle.pg_meals.proofs.Shapes.{Graphlike}
use Rattle.pg_law.specs.Program.{Program}
use Rattle.pg_delta.specs.declared.cell.CacheCell.{CacheCell}
use Rattle.pg_delta.specs.Deltas.{joined}
use Rattle.pg_meals.proofs.Deltas.{true_into, settled}
use Rattle.pg_delta.proofs.Joining.{delta_monoid, joined-nothing}
use Rattle.pg_meals.specs.Families.{total}
use Rattle.pg_law.specs.declared.values.Delta.TheVariants.{Nothing}
use Rattle.pg_law.specs.Laws.{KeepsGathers, IsLawful, IsOptional}
use Rattle.pg_delta.specs.Cell.{IsCell}
use Rattle.pg_law.specs.Round.{join}
use Rattle.pg_meals.specs.Serial.{Serial, fresh}
use Rattle.pg_meals.specs.Core.{Core, half_of}
use Rattle.pg_meals.specs.Acts.{Act, Outcome, Step}
use Rattle.pg_meals.specs.Preparing.{MayPrepare, prepared_core}
use Rattle.pg_meals.specs.Standing.{stands, waiting, delta_at, message_at}
use Rattle.pg_meals.specs.StandsFor.{Invariant}
use Rattle.pg_meals.specs.Runs.{Deed, Acts, Prepares, opened, Does, Runs}
use Rattle.pg_meals.proofs.Totals.{total_unit, join-none}
use Rattle.pg_law.proofs.Parts.{join_monoid}
use Rattle.pg_meals.proofs.Entries.{at_end_in}
use Rattle.pg_meals.proofs.Steps.{step_keeps}
use Rattle.pg_meals.proofs.Prepare.{prepare_keeps}

-- a serial state and cells of a program's values
pub record Fits {A C : Type 0} (p : Program A C) (st : Serial) (cells : ℕ → CacheCell A) : Type 0 where
  pub value : (v : ℕ) → p.IsDatum (st.value v)
  pub word : (e : ℕ) → p.IsWord (st.word e)
  pub message : (v : ℕ) → IsOptional p.IsMessage (st.message v)
  pub cell : (v : ℕ) → IsCell p (cells v)

module _ {A C : Type 0} (p : Program A C) (speaks : IsLawful p) where
  pub core_acts_keep : (g : Shape) (fuel : ℕ) (opening : Serial) → Graphlike g → (g.caches ≡ true → KeepsGathers p) → (c : Core A) (a : ℕ) (act : Act) (c' : Core A) (out : Outcome)
      → Invariant p g fuel opening c → Step g fuel c a act c' out → Invariant p g fuel opening c'
  core_acts_keep g fuel opening plain keeps c a act c' out inv d = step_keeps p g fuel opening speaks plain keeps c a act c' out inv d

  -- the law of preparing, likewise
  pub core_preparing_keeps : (g : Shape) (fuel : ℕ) (opening : Serial) → Graphlike g → (c : Core A) (a v m : ℕ)
      → Invariant p g fuel opening c → MayPrepare p g c a v m → Invariant p g fuel opening (prepared_core p g c a v m)
  core_preparing_keeps g fuel opening plain c a v m inv may = prepare_keeps p g fuel opening plain c a v m may inv.clean inv.true_of

  module _ (g : Shape) (fuel : ℕ) (opening : Serial) (plain : Graphlike g) (keeps : g.caches ≡ true → KeepsGathers p) where
    pub does_keeps : (c : Core A) (a : ℕ) (d : Deed) (c' : Core A) → Invariant p g fuel opening c → Does p g fuel c a d c' → Invariant p g fuel opening c'
    does_keeps c a (Acts act) c' inv k = core_acts_keep g fuel opening plain keeps c a act c' k.0 inv k.1
    does_keeps c a Prepares c' inv k = subst (Invariant p g fuel opening) (sym k.3) (core_preparing_keeps g fuel opening plain c a k.0 k.1 inv k.2)

    -- so do deeds one after another
    pub runs_keep : (deeds : List (ℕ × Deed)) (c c' : Core A) → Invariant p g fuel opening c → Runs p g fuel c deeds c' → Invariant p g fuel opening c'
    runs_keep [] c c' inv r = subst (Invariant p g fuel opening) (sym r) inv
    runs_keep (d ∷ ds) c c' inv r = runs_keep ds r.0 c' (does_keeps c d.0 d.1 r.0 inv r.1) r.2

    module _ (replica : ℕ → ℕ → ℕ → ℕ) (shown : (v k h : ℕ) → g.spans v k ≡ true → h < 2 → replica v k h ≡ half_of h (opening.value v))
        (cells : ℕ → CacheCell A) (kept_of : (v : ℕ) (a : A) → (cells v).acc ≡ Some a → g.caches ≡ true) where
      opened_message : (v : ℕ) → opening.message v ≡ (stands p g (opened {A = A} g opening replica cells)).message v
      opened_message v =
          let x : total (join p.combine) None (message_at g (opened {A = A} g opening replica cells).content v) g.edges ≡ None
          = total_unit (join_monoid p speaks) (message_at g (opened {A = A} g opening replica cells).content v) g.edges (λ e i. at_end_in (λ o. o ≡ None) g v e (λ s. ((opened {A = A} g opening replica cells).content e).message s) None (λ s. refl) refl) in
          sym (ap (join p.combine (opening.message v)) x ∙ join-none p.combine (opening.message v))

      higher : (e : ℕ) → e < g.edges → Before [] (waiter g (opened {A = A} g opening replica cells).words e) (holder g (opened {A = A} g opening replica cells).words e)
      higher e i = go (ltb (g.end Source e) (g.end Target e)) refl
        where
          go : (b : Bool) → ltb (g.end Source e) (g.end Target e) ≡ b → Before [] (g.end (opposite (cond b Target Source)) e) (g.end (cond b Target Source) e)
          go true t = inr (refl, grind (arith, nat_tests))
          go false t = let n = plain.loopless e i in inr (refl, grind (arith, nat_tests))

      opened_cell : (v : ℕ) (a x : A) → (cells v).acc ≡ Some a → ((v : ℕ) (a x : A) → (cells v).acc ≡ Some a → settled p.sum a (cells v).pending ≡ Some x → x ≡ fresh p g opening v)
          → settled p.sum a (waiting p g (opened {A = A} g opening replica cells) v) ≡ Some x → x ≡ fresh p g (stands p g (opened {A = A} g opening replica cells)) v
      opened_cell v a x held true_cells e =
          let k : KeepsGathers p = keeps (kept_of v a held) in
          let none : total (joined p.sum) Nothing (delta_at g (opened {A = A} g opening replica cells).content v) g.edges ≡ Nothing
          = total_unit (delta_monoid p speaks) (delta_at g (opened {A = A} g opening replica cells).content v) g.edges (λ e i. at_end_in (λ o. o ≡ Nothing) g v e (λ s. ((opened {A = A} g opening replica cells).content e).delta s) Nothing (λ s. refl) refl) in
          true_cells v a x held (ap (settled p.sum a) (sym (ap (joined p.sum (cells v).pending) none ∙ joined-nothing p.sum (cells v).pending)) ∙ e)

      -- the core at the start has the invariant
      pub opened_keeps : Fits p opening cells → ((v : ℕ) (a x : A) → (cells v).acc ≡ Some a → settled p.sum a (cells v).pending ≡ Some x → x ≡ fresh p g opening v) → Invariant p g fuel opening (opened {A = A} g opening replica cells)
      opened_keeps fits true_cells = record {
        clean = record {
          named = λ v a t. absurd (cc);
          names = λ v a t. absurd (cc);
          inside = λ a v t. absurd (cc);
          turn_named = λ a t. absurd (cc);
          turn_names = λ a t. absurd (cc);
          turn_ready = λ a t. absurd (cc);
          pin_inside = λ a e t. absurd (cc);
          pin_word = λ a e t. absurd (cc);
          pin_holder = λ a e t. absurd (cc);
          pinner = λ e t. absurd (cc);
          clean_lower = λ e i t k. absurd (cc);
          dirty_higher = λ e i t. higher e i;
          committed_higher = λ a e t k. absurd (cc);
          clean_signalled = λ e i t k. absurd (cc);
          asked_signalled = λ e i t. absurd (cc);
          not_both = λ e t k. refl;
          evidence_signalled = λ a t k. absurd (cc);
          short = omega arith;
          clean_marked = λ a e t k n. absurd (cc);
          taken_clean = λ a e t k n. absurd (cc);
        };
        true_of = record {
          legal = tt;
          replayed = λ j. record { value = opening.value; word = opening.word; message = λ v. opened_message v j };
          replica_is = λ v k n t i each. shown v k n t i;
          replica_before = λ a v k n t m. absurd (cc);
          unwritten_pins = λ a v k n t m. absurd (cc);
          noted_pinned = λ a e n x t. absurd (cc);
          noted_is = λ a e n x t. absurd (cc);
          ready = λ a v q t m k. absurd (cc);
          cell_true = λ v. true_into p.sum _ _ _ (λ a x held e. opened_cell v a x held true_cells e);
          cell_kept = kept_of;
          own_message = fits.message;
          datum_fits = fits.value;
          content_fits = λ e. record { word = fits.word e; message = λ s. tt; delta = λ s. tt };
          cell_fits = fits.cell;
        };
      }
