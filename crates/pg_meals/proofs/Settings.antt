-- The laws of the core, over a graph, a cut and a configuration.
use Rattle.std.proofs.Common.{ℕ, ◌<◌, ◌≤◌, ◌≡◌, ◌⊎◌, List, length, true, inl, inr, None, sym, ap, subst, ◌∙◌, true≢false}
use Rattle.std.specs.Prelude.{is_some}
use Rattle.std.proofs.lemmas.List.{get_or_past}
use Rattle.pg_graph.specs.Multigraph.{edges_at}
use Rattle.pg_law.specs.Program.{Program}
use Rattle.pg_law.specs.Laws.{IsLawful, KeepsGathers}
use Rattle.pg_law.specs.Configuration.{Configuration, IsFit, is_signalled}
use Rattle.pg_law.specs.Journal.{replay}
use Rattle.pg_law.specs.Round.{edges_over}
use Rattle.pg_meals.specs.Ranks.{Before}
use Rattle.pg_meals.proofs.Shapes.{Graphlike}
use Rattle.pg_meals.specs.Serial.{Serial}
use Rattle.pg_meals.specs.Core.{Core}
use Rattle.pg_meals.specs.Standing.{stands, signalled}
use Rattle.pg_meals.specs.StandsFor.{Invariant}
use Rattle.pg_meals.specs.Listed.{serial_of, configuration_of}
use Rattle.pg_meals.specs.Setting.{Setting, shape_in, IsSetting, Stands, AreCells, AreReplicas, cell_at}
use Rattle.pg_meals.proofs.Runs.{Fits, core_acts_keep, core_preparing_keeps, opened_keeps, runs_keep}
use Rattle.pg_meals.specs.Runs.{opened}
use Rattle.pg_meals.specs.Keeping.{ActsKeep, PreparingKeeps, RunsStand}
use Rattle.pg_meals.specs.Stuck.{NeverStuck}
use Rattle.pg_meals.specs.Passes.{AtMostOnePass}
use Rattle.pg_meals.specs.Sparing.{GathersSpared, CostsStay, gather_degree, spent}
use Rattle.pg_meals.proofs.Gathers.{shape_is_graphlike, value_own, word_own, message_own, fresh_same, below_or_past}
use Rattle.pg_meals.proofs.Journals.{legal_is, replay_is, replay_fits, configuration_is}
use Rattle.pg_meals.proofs.Around.{distinct_numbers, edges_are_of, edges_have, degree_is, total_is_sum}
use Rattle.pg_meals.proofs.Stuck.{gets_all}
use Rattle.pg_meals.proofs.Deltas.{true_from}
use Rattle.pg_meals.proofs.Costs.{cost_stays}
use Rattle.pg_meals.specs.Signals.{SignalsStay, EntriesRankLast}
use Rattle.pg_meals.proofs.Lasting.{deed_lasts, ranked_last}
use Rattle.pg_meals.proofs.Owning.{prepared_own}
use Rattle.pg_meals.proofs.Passes.{core_at_most_one_pass}
use Rattle.pg_meals.proofs.Spared.{core_gathers_spared}

module _ {A C : Type 0} (p : Program A C) (law : IsLawful p) (x : Setting) (ok : IsSetting p x) where
  pub plain : Graphlike (shape_in x)
  plain = shape_is_graphlike p x.graph x.cut x.caches law ok.graph ok.cut

  -- a program that keeps deltas
  pub keeps : x.caches ≡ true → KeepsGathers p
  keeps t = law.deltas (ok.deltas t)

  -- the state after the replay is the one for which the core stands
  pub state_is : (c : Core A) → Invariant p (shape_in x) x.fuel (serial_of p x.opening) c → serial_of p (replay p x.graph x.opening c.words.journal) ≡ stands p (shape_in x) c
  state_is c inv = replay_is p x.graph x.cut x.caches law ok.graph x.opening ok.fit c.words.journal inv.true_of.legal ∙ inv.true_of.replayed

  -- what the core keeps is all that is promised
  pub stands_of : (c : Core A) → Invariant p (shape_in x) x.fuel (serial_of p x.opening) c → Stands p x c
  stands_of c inv = record {
    legal = legal_is p x.graph x.cut x.caches law ok.graph x.opening ok.fit c.words.journal inv.true_of.legal;
    fit = replay_fits p x.graph x.cut x.caches law ok.graph x.opening ok.fit c.words.journal;
    replayed = ap (configuration_of x.graph) (sym (state_is c inv))
        ∙ configuration_is p x.graph x.cut x.caches law ok.graph (replay p x.graph x.opening c.words.journal) (replay_fits p x.graph x.cut x.caches law ok.graph x.opening ok.fit c.words.journal);
    kept = inv;
    prepared = λ a v q. prepared_own p (shape_in x) x.fuel (serial_of p x.opening) law plain keeps c inv a v q;
  }

  -- who is signalled there is signalled in the core
  pub signalled_is : (c : Core A) (u : ℕ) → Invariant p (shape_in x) x.fuel (serial_of p x.opening) c → is_signalled (replay p x.graph x.opening c.words.journal) u ≡ signalled p (shape_in x) c u
  signalled_is c u inv = ap (λ (st : Serial). is_some (st.message u)) (state_is c inv)

module _ {A C : Type 0} (p : Program A C) (law : IsLawful p) where
  pub acts_keep : ActsKeep p
  acts_keep x ok c a act c' out s d =
      stands_of p law x ok c' (core_acts_keep p law (shape_in x) x.fuel (serial_of p x.opening) (plain p law x ok) (keeps p law x ok) c a act c' out s.kept d)

  pub preparing_keeps : PreparingKeeps p
  preparing_keeps x ok c a v m s may =
      stands_of p law x ok _ (core_preparing_keeps p law (shape_in x) x.fuel (serial_of p x.opening) (plain p law x ok) c a v m s.kept may)

  -- the state at the start has values of the program
  pub opening_fits : (x : Setting) → IsSetting p x → (cells : List _) → AreCells p x cells → Fits p (serial_of p x.opening) (cell_at cells)
  opening_fits x ok cells own = record {
    value = value_own p x.graph x.cut x.caches law ok.graph x.opening ok.fit;
    word = word_own p x.graph x.cut x.caches law ok.graph x.opening ok.fit;
    message = message_own p x.graph x.cut x.caches law ok.graph x.opening ok.fit;
    cell = own.own;
  }

  -- the core at the start has the invariant
  pub opened_stands : (x : Setting) → IsSetting p x → (replica : ℕ → ℕ → ℕ → ℕ) → AreReplicas p x replica → (cells : List _) → AreCells p x cells → Invariant p (shape_in x) x.fuel (serial_of p x.opening) (opened (shape_in x) (serial_of p x.opening) replica (cell_at cells))
  opened_stands x ok replica shown cells own =
      opened_keeps p law (shape_in x) x.fuel (serial_of p x.opening) (plain p law x ok) (keeps p law x ok) replica shown (cell_at cells) own.kept (opening_fits x ok cells own)
      (λ v a y held e. true_from p.sum _ _ _ (own.true_of v) a y held e ∙ sym (fresh_same p x.graph x.cut x.caches law ok.graph x.opening ok.fit v))

  pub runs_stand : RunsStand p
  runs_stand x ok replica shown cells own deeds c r =
      stands_of p law x ok c (runs_keep p law (shape_in x) x.fuel (serial_of p x.opening) (plain p law x ok) (keeps p law x ok) deeds _ c (opened_stands x ok replica shown cells own) r)

  pub never_stuck : NeverStuck p
  never_stuck x ok c a u s none first =
      gets_all p (shape_in x) x.fuel (serial_of p x.opening) (plain p law x ok) c a u s.kept none
      (sym (signalled_is p law x ok c u s.kept) ∙ first.signalled)
      (λ w t. go w t (below_or_past w (length x.graph.ids)))
      (edges_at x.graph u) first.inside (edges_are_of x.graph x.cut x.caches u) (distinct_numbers _ (length x.graph.edges)) (λ s e i at. edges_have x.graph u e i s at)
    where
      go : (w : ℕ) → signalled p (shape_in x) c w ≡ true → (w < length x.graph.ids) ⊎ (length x.graph.ids ≤ w) → (w ≡ u) ⊎ Before c.words.journal u w
      go w t (inl i) = first.least w i (signalled_is p law x ok c w s.kept ∙ t)
      go w t (inr i) =
          let fit = replay_fits p x.graph x.cut x.caches law ok.graph x.opening ok.fit c.words.journal in
          let gone : Rattle.pg_law.specs.Configuration.message_in (replay p x.graph x.opening c.words.journal).messages w ≡ None
          = get_or_past (replay p x.graph x.opening c.words.journal).messages w None (subst (λ k. k ≤ w) (sym fit.messages.count) i) in
          absurd (true≢false (sym t ∙ sym (signalled_is p law x ok c w s.kept) ∙ ap is_some gone))

  pub at_most_one_pass : AtMostOnePass p
  at_most_one_pass x ok c e s st i there wanted ds c' r calm =
      core_at_most_one_pass p law (shape_in x) x.fuel (serial_of p x.opening) (plain p law x ok) (keeps p law x ok) c e s st.kept i there wanted ds c' r calm

  pub gathers_spared : GathersSpared p
  gathers_spared x ok on never c s ds c' r =
      let few = core_gathers_spared p law (shape_in x) x.fuel (serial_of p x.opening) (plain p law x ok) on (keeps p law x ok on) never c s.kept ds c' r in
      subst (λ k. spent p (shape_in x) x.fuel c ds c' r ≤ k) (total_is_sum (gather_degree p (shape_in x)) (λ v. length (edges_over p.gather_edges x.graph v)) (length x.graph.ids) (degree_is p x.graph x.cut x.caches)) few

  pub costs_stay : CostsStay p
  costs_stay x ok c a v q s busy fresh held =
      cost_stays p (shape_in x) x.fuel (serial_of p x.opening) c s.kept a v busy (s.kept.true_of.ready a v q busy fresh held).all

  pub signals_stay : SignalsStay p
  signals_stay x ok c v s = deed_lasts p (shape_in x) x.fuel (serial_of p x.opening) law (plain p law x ok) (keeps p law x ok) c s.kept v

  pub entries_rank_last : EntriesRankLast p
  entries_rank_last x ok c a v c' out s = ranked_last (shape_in x) x.fuel c a v c' out
