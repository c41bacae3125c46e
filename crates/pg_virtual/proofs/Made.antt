-- What a turn of a run made.
use Rattle.std.proofs.Common.{◌≡◌, ℕ, ◌<◌, ◌≤◌, true, Bool, cond, Option, Some, None, List, [], ◌∷◌, ◌++◌, length, refl, sym, ap, subst, ◌∙◌, arith}
use Rattle.std.specs.Prelude.{IsTrue, Vec, Result, Ok, Err, IfOk}
use Rattle.std.specs.declared.alloc.Global.{Global}
use Rattle.pg_graph.specs.Multigraph.{Multigraph}
use Rattle.pg_law.specs.declared.values.JournalEntry.{JournalEntry}
use Rattle.pg_law.specs.Program.{Program}
use Rattle.pg_law.specs.Configuration.{Configuration, IsFit, is_signalled, datum_in}
use Rattle.pg_law.specs.Round.{execution}
use Rattle.pg_law.specs.Journal.{replay, IsLegal}
use Rattle.pg_cut.specs.Cut.{Division}
use Rattle.pg_delta.specs.declared.cell.CacheCell.{CacheCell}
use Rattle.pg_meals.specs.declared.table.Closed.{Closed}
use Rattle.pg_meals.specs.Tables.{Table, AreCaches, state_of}
use Rattle.pg_meals.specs.Carrying.{IsKept}
use Rattle.pg_serial.proofs.Journals.{replay_none, replay_one, legal_none}
use Rattle.pg_virtual.specs.Stretches.{IsStretch, IsPlayed, AreForgotten, AreFirst}
use Rattle.pg_virtual.proofs.Legal.{legal_one}

pub pushed : (old new : List JournalEntry) (entry : JournalEntry) → new ≡ old ++ entry ∷ [] → old ≡ [] → new ≡ entry ∷ []
pushed old new entry is none = is ∙ ap (λ xs. xs ++ entry ∷ []) none

-- what a closed table left is a stretch
pub stretch_of : {Prog Acc Carry : Type 0} (p : Prog → Program Acc Carry) (program : Prog) (g : Multigraph) (s : Configuration) (fuel : ℕ) (opened played : Table Prog Acc) (closed : Closed Acc)
    → opened.program ≡ program → opened.graph ≡ g → opened.opening ≡ s → opened.board.fuel ≡ fuel → IsPlayed opened played
    → IsKept (p played.program) played.graph played.opening played.board → closed.journal.items ≡ played.board.journal.items
    → closed.state ≡ state_of (p played.program) played → IsFit (p played.program) played.graph closed.state
    → IsLegal (p played.program) played.graph played.opening closed.journal.items → ((cut : Division) → AreCaches (p played.program) played.graph cut closed.state closed.caches)
    → IsStretch (p program) g s fuel closed
stretch_of {Prog = Prog} p program g s fuel opened played closed is_program is_graph is_opening is_fuel is kept journal state fit legal caches =
    let P : Multigraph → Type 0 = λ graph. IsStretch (p program) graph s fuel closed in
    let Q : Configuration → Type 0 = λ opening. IsStretch (p program) played.graph opening fuel closed in
    let R : Prog → Type 0 = λ x. IsStretch (p x) played.graph played.opening fuel closed in
    subst P (is.same.graph ∙ is_graph) (subst Q (is.same.opening ∙ is_opening) (subst R (is.same.program ∙ is_program) (record {
      legal = legal;
      within = omega (arith, ap length journal, kept.stands.kept.clean.short, is.frame.fuel, is_fuel);
      state = state ∙ ap (replay (p played.program) played.graph played.opening) (sym journal);
      fit = fit;
      caches = caches;
    })))

module _ {Acc Carry : Type 0} (p : Program Acc Carry) (g : Multigraph) where
  -- cells of which none is known are true of any state
  no_cells : (s : Configuration) (cut : Division) (cells : Vec (CacheCell Acc) Global) → IsTrue p.keeps_deltas → cells.items ≡ [] → AreCaches p g cut s (Some cells)
  no_cells s cut cells keeps none = (
    keeps,
    rw none (omega arith),
    record {
      own = λ v. rw none (record { acc = tt; pending = tt });
      kept = λ v a q. refl;
      true_of = λ v. rw none tt;
    },
  )

  pub first_cells : (s : Configuration) (cut : Division) (kept : Bool) (caches : Option (Vec (CacheCell Acc) Global)) → (kept ≡ true → IsTrue p.keeps_deltas) → AreFirst kept caches → AreCaches p g cut s caches
  first_cells s cut kept None keeps first = tt
  first_cells s cut kept (Some cells) keeps first = no_cells s cut cells (keeps first.0) first.1

  pub forgotten : (s t : Configuration) (before after : Option (Vec (CacheCell Acc) Global)) → AreForgotten before after → ((cut : Division) → AreCaches p g cut s before) → (cut : Division) → AreCaches p g cut t after
  forgotten s t None after e caches cut = subst (λ x. AreCaches p g cut t x) (sym e) tt
  forgotten s t (Some cells) None e caches cut = elim e [ ]
  forgotten s t (Some cells) (Some after) e caches cut = no_cells t cut after (caches cut).0 e

  -- nothing was to be executed
  pub made_nothing : (closed : Closed Acc) → IsFit p g closed.state → ((cut : Division) → AreCaches p g cut closed.state closed.caches) → closed.journal.items ≡ [] → IsStretch p g closed.state 1 closed
  made_nothing closed fit caches none = record {
    legal = subst (λ xs. IsLegal p g closed.state xs) (sym none) (legal_none p g closed.state);
    within = rw none (omega arith);
    state = sym (ap (λ xs. replay p g closed.state xs) none ∙ replay_none p g closed.state);
    fit = fit;
    caches = caches;
  }

  -- a signalled vertex, and the list of its entry alone
  pub executed : (s t : Configuration) (u : ℕ) → is_signalled s u ≡ true → t ≡ cond (is_signalled s u) (execution p g s u) s → t ≡ execution p g s u
  executed s t u signalled is = is ∙ ap (λ (b : Bool). cond b (execution p g s u) s) signalled

  -- one vertex was executed
  pub made_one : (s : Configuration) (u : ℕ) (entry : JournalEntry) (closed : Closed Acc) → u < length g.ids → is_signalled s u ≡ true → closed.state ≡ execution p g s u
      → entry ≡ record { vertex = u; datum = datum_in closed.state.values u } → closed.journal.items ≡ entry ∷ [] → IsFit p g closed.state → ((cut : Division) → AreCaches p g cut closed.state closed.caches) → IsStretch p g s 1 closed
  made_one s u entry closed inside signalled executed is items fit caches = let is_vertex : entry.vertex ≡ u = ap (λ (x : JournalEntry). x.vertex) is in record {
    legal = subst (λ xs. IsLegal p g s xs) (sym items) (legal_one p g s entry
        (subst (λ v. v < length g.ids) (sym is_vertex) inside) (ap (is_signalled s) is_vertex ∙ signalled)
        (ap (λ v. datum_in (execution p g s v).values v) is_vertex ∙ ap (λ (x : Configuration). datum_in x.values u) (sym executed) ∙ sym (ap (λ (x : JournalEntry). x.datum) is)));
    within = rw items (omega arith);
    state = executed ∙ sym (ap (λ xs. replay p g s xs) items ∙ replay_one p g s entry ∙ ap (execution p g s) is_vertex);
    fit = fit;
    caches = caches;
  }

  -- a stretch without an entry, and a turn from where it led
  pub made_after : (s : Configuration) (fuel : ℕ) (first closed : Closed Acc) → IsStretch p g s fuel first → first.journal.items ≡ [] → 0 < fuel → IsStretch p g first.state 1 closed → IsStretch p g s fuel closed
  made_after s fuel first closed a none some b = let Made : Configuration → Type 0 = λ x. IsStretch p g x 1 closed in
      let b' = subst Made (a.state ∙ ap (λ xs. replay p g s xs) none ∙ replay_none p g s) b in record {
        legal = b'.legal;
        within = omega (arith, b'.within);
        state = b'.state;
        fit = b'.fit;
        caches = b'.caches;
      }

  none_long : (entries : List JournalEntry) → length entries ≤ 0 → entries ≡ []
  none_long [] h = refl
  none_long (entry ∷ entries) h = absurd (omega arith)

  -- and so it is whether memory was wanting or not
  pub made_if : {E : Type 0} (r : Result (Closed Acc) E) (s : Configuration) (fuel : ℕ) (first : Closed Acc) → IsStretch p g s fuel first → length first.journal.items ≤ 0 → 0 < fuel
      → IfOk r (IsStretch p g first.state 1) → IfOk r (IsStretch p g s fuel)
  made_if (Ok closed) s fuel first a none some b = made_after s fuel first closed a (none_long first.journal.items none) some b
  made_if (Err e) s fuel first a none some b = b
