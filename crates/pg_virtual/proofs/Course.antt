-- A run in its course: its entries so far, what of their texts was sent, and what they gathered.
use Rattle.std.proofs.Common.{◌≡◌, ℕ, zero, suc, ◌+◌, ◌*◌, ◌^◌, ◌<◌, ◌≤◌, ◌⊎◌, ◌||◌, ◌==◌, Bool, true, false, cond, Option, List, [], ◌∷◌, ◌++◌, length, get_or, inl, inr, refl, sym, ap, subst, ◌∙◌, arith, length-append, add-one, true≢false}
use Rattle.std.specs.Prelude.{IsTrue, flat_map, filter, sum_by, MatchBool}
use Rattle.std.specs.List.{list_any, range_with_len}
use Rattle.std.specs.Io.KnownBytes.{append_known}
use Rattle.std.proofs.lemmas.Bool.{ne_eqb}
use Rattle.std.proofs.lemmas.List.{append-nil}
use Rattle.std.proofs.lemmas.List.Folds.{list_any-append}
use Rattle.std.proofs.lemmas.List.Sums.{sum_by-append}
use Rattle.std.proofs.lemmas.Grind.{flat_map-append}
use Rattle.pg_base.specs.Writing.{Sent, SendsFront}
use Rattle.pg_base.proofs.Sending.{sent_nothing, sent_whole}
use Rattle.pg_graph.specs.Multigraph.{Multigraph, IsMultigraph, vertices}
use Rattle.pg_graph.proofs.Numbers.{filter_numbers_more, length_filter_more}
use Rattle.pg_meals.proofs.Gathers.{below_or_past}
use Rattle.pg_law.specs.declared.values.JournalEntry.{JournalEntry}
use Rattle.pg_law.specs.Program.{Program}
use Rattle.pg_law.specs.declared.async_end.AsyncEnd.{AsyncEnd}
use Rattle.pg_law.specs.Rounds.{end_of}
use Rattle.pg_law.specs.Configuration.{Configuration, is_signalled, signalled, is_quiet}
use Rattle.pg_law.specs.Journal.{replay, IsLegal}
use Rattle.pg_serial.specs.Journals.{gather_degree, gathers_over}
use Rattle.pg_serial.specs.Serial.{serial_journal}
use Rattle.pg_serial.proofs.Journals.{replay-append, replay_none, legal_none}
use Rattle.pg_serial.proofs.Waiting.{sent_then, front_then, front_longer, front_nothing}
use Rattle.pg_virtual.specs.Interleaved.{IsJournal, Ran, RanInPart}
use Rattle.pg_virtual.proofs.Legal.{legal-append, completed}
use Rattle.pg_serial.proofs.Degrees.{few_over}

-- the entries so far are legal and lead to this state; of their texts all was sent but what waits, and they were counted
pub record SoFar {Acc Carry : Type 0} (p : Program Acc Carry) (g : Multigraph) (text : JournalEntry → List ℕ) (fuel : ℕ)
    (start now : Configuration) (left all : ℕ) (seen : List Bool) (before after : Option (List ℕ)) (waiting : List ℕ) : Type 0 where
  pub done : List JournalEntry
  pub legal : IsLegal p g start done
  pub state : now ≡ replay p g start done
  pub count : length done + left ≡ fuel
  pub summed : all ≡ gathers_over p g done
  pub saw : (v : ℕ) → v < length g.ids → get_or seen v false ≡ list_any (λ (entry : JournalEntry). entry.vertex == v) done
  pub sent : Sent before after (flat_map text done) waiting

some_pass : (p : ℕ → Bool) (n u : ℕ) → u < n → p u ≡ true → 0 < length (filter p (range_with_len 0 n))
some_pass p zero u i is = absurd (omega arith)
some_pass p (suc n) u i is = let P : ℕ → Type 0 = λ m. 0 < length (filter p (range_with_len 0 m)) in subst P (add-one n) (go (λ below. some_pass p n u below is) (below_or_past u n))
  where
    go : (u < n → 0 < length (filter p (range_with_len 0 n))) → (u < n) ⊎ (n ≤ u) → 0 < length (filter p (range_with_len 0 (n + 1)))
    go before (inl below) = let some = before below in omega (arith, length_filter_more p n, some)
    go before (inr past) = let here : n ≡ u = omega arith in omega (arith, length_filter_more p n, ap {B = ℕ} (λ b. cond b 1 0) (ap p here ∙ is))

-- where a vertex is signalled, the state isn't quiet
pub not_quiet : (g : Multigraph) (s : Configuration) (u : ℕ) → u < length g.ids → is_signalled s u ≡ true → is_quiet g s ≡ false
not_quiet g s u i is = ne_eqb (length (signalled g s)) 0 (λ e. let some : 0 < length (signalled g s) = some_pass (is_signalled s) (length g.ids) u i is in omega arith)

-- a loop goes on where something is left
pub goes_where : (r : Bool) (made left : ℕ) → MatchBool r ((0 < made) × (0 < left)) ((made ≡ 0) ⊎ (left ≡ 0)) → r ≡ true → 0 < left
goes_where true made left h e = h.1
goes_where false made left h e = absurd (true≢false (sym e))

-- a turn had an entry, or nothing is signalled
pub ends_where : (r quiet : Bool) (made left : ℕ) → MatchBool r ((0 < made) × (0 < left)) ((made ≡ 0) ⊎ (left ≡ 0)) → (quiet ≡ true) ⊎ (0 < made) → r ≡ false → (quiet ≡ true) ⊎ (left ≡ 0)
ends_where true quiet made left h some e = absurd (true≢false e)
ends_where false quiet made left (inl none) (inl is) e = inl is
ends_where false quiet made left (inl none) (inr some) e = absurd (omega arith)
ends_where false quiet made left (inr none) some e = inr none

pub some_as : (journal entries : List JournalEntry) (quiet : Bool) → entries ≡ journal → (quiet ≡ true) ⊎ (0 < length journal) → (quiet ≡ true) ⊎ (0 < length entries)
some_as journal entries quiet is (inl h) = inl h
some_as journal entries quiet is (inr h) = inr (omega (arith, ap length is, h))

-- each turn takes of what is left, or is the last
pub less_left : (r : Bool) (made left : ℕ) (going : Bool) (rest : ℕ) → MatchBool r ((0 < made) × (0 < rest)) ((made ≡ 0) ⊎ (rest ≡ 0)) → left ≡ rest + made → going ≡ true → rest + cond r 1 0 < left + cond going 1 0
less_left true made left going rest h e on = omega (arith, h.0, ap {B = ℕ} (λ b. cond b 1 0) on)
less_left false made left going rest h e on = omega (arith, ap {B = ℕ} (λ b. cond b 1 0) on)

filter_below : (p q : ℕ → Bool) (n : ℕ) → ((v : ℕ) → v < n → p v ≡ q v) → filter p (range_with_len 0 n) ≡ filter q (range_with_len 0 n)
filter_below p q zero h = refl
filter_below p q (suc n) h = let P : ℕ → Type 0 = λ m. filter p (range_with_len 0 m) ≡ filter q (range_with_len 0 m) in
    let next : P (n + 1) = filter_numbers_more p n ∙ ap (λ xs. xs ++ cond (p n) (n ∷ []) []) (filter_below p q n (λ v i. h v (omega (arith, i))))
    ∙ ap (λ b. filter q (range_with_len 0 n) ++ cond b (n ∷ []) []) (h n (omega arith)) ∙ sym (filter_numbers_more q n) in
    subst P (add-one n) next

module _ {Acc Carry : Type 0} (p : Program Acc Carry) (g : Multigraph) (text : JournalEntry → List ℕ) (fuel : ℕ) (start : Configuration) (before : Option (List ℕ)) where
  pub begun : (seen : List Bool) → ((v : ℕ) → get_or seen v false ≡ false) → SoFar p g text fuel start start fuel 0 seen before before []
  begun seen none = record {
    done = [];
    legal = legal_none p g start;
    state = sym (replay_none p g start);
    count = omega arith;
    summed = refl;
    saw = λ v i. none v;
    sent = sent_nothing before [];
  }

  -- nothing was made
  pub part_none : RanInPart p g text start fuel before before
  part_none = record {
    journal = serial_journal p g start fuel;
    is_journal = let J : Configuration → Type 0 = λ s. IsJournal p g start fuel (serial_journal p g s fuel) in
        subst J (replay_none p g start) (completed p g start [] fuel fuel (legal_none p g start) (omega arith));
    front = front_nothing before (flat_map text (serial_journal p g start fuel));
  }

  -- so much is gathered at most
  gathers_few : IsMultigraph g → (done : List JournalEntry) → gathers_over p g done ≤ 2 ^ 24 * length done
  gathers_few ok [] = omega arith
  gathers_few ok (entry ∷ done) = omega (
    arith,
    sum_by-append (λ (entry : JournalEntry). gather_degree p g entry.vertex) (entry ∷ []) done,
    few_over p.gather_edges g entry.vertex ok,
    gathers_few ok done,
  )

  module _ (now : Configuration) (left all : ℕ) (seen : List Bool) (after : Option (List ℕ)) (waiting : List ℕ)
      (so_far : SoFar p g text fuel start now left all seen before after waiting) where
    pub all_few : IsMultigraph g → all + 2 ^ 24 * left ≤ 2 ^ 24 * fuel
    all_few ok = omega (arith, so_far.summed, so_far.count, gathers_few ok so_far.done)

    -- a front of the texts of what was done is sent
    part : (more : Option (List ℕ)) (done : List JournalEntry) (rest : ℕ) → IsLegal p g start done → length done + rest ≡ fuel → SendsFront before more (flat_map text done) → RanInPart p g text start fuel before more
    part more done rest legal count front = record {
      journal = done ++ serial_journal p g (replay p g start done) rest;
      is_journal = completed p g start done rest fuel legal count;
      front = subst (SendsFront before more) (sym (flat_map-append text done (serial_journal p g (replay p g start done) rest)))
          (front_longer before more (flat_map text done) (flat_map text (serial_journal p g (replay p g start done) rest)) front);
    }

    -- where nothing more is sent
    pub part_now : RanInPart p g text start fuel before after
    part_now = part after so_far.done left so_far.legal so_far.count (waiting, so_far.sent)

    module _ (entries : List JournalEntry) (legal : IsLegal p g now entries) (rest : ℕ) (is_rest : left ≡ rest + length entries) where
      abbrev longer : List JournalEntry
      longer = so_far.done ++ entries

      longer_legal : IsLegal p g start longer
      longer_legal = legal-append p g start so_far.done entries so_far.legal (subst (λ s. IsLegal p g s entries) so_far.state legal)

      longer_count : length longer + rest ≡ fuel
      longer_count = omega (arith, so_far.count, is_rest, length-append so_far.done entries)

      texts : flat_map text so_far.done ++ flat_map text entries ≡ flat_map text longer
      texts = sym (flat_map-append text so_far.done entries)

      -- where not all of these could be put
      pub part_more : (more : Option (List ℕ)) → SendsFront after more (waiting ++ flat_map text entries) → RanInPart p g text start fuel before more
      part_more more front = part more longer rest longer_legal longer_count
          (subst (SendsFront before more) texts (front_then before after more (flat_map text so_far.done) waiting (flat_map text entries) so_far.sent front))

      -- where they were
      pub went_on : (new : Configuration) (more : Option (List ℕ)) (waits : List ℕ) (sum : ℕ) (saw : List Bool) → new ≡ replay p g now entries → sum ≡ all + gathers_over p g entries
          → ((v : ℕ) → v < length g.ids → get_or saw v false ≡ (get_or seen v false || list_any (λ (entry : JournalEntry). entry.vertex == v) entries))
          → Sent after more (waiting ++ flat_map text entries) waits → SoFar p g text fuel start new rest sum saw before more waits
      went_on new more waits sum saw replayed summed saw_is sent = record {
        done = longer;
        legal = longer_legal;
        state = replayed ∙ ap (λ s. replay p g s entries) so_far.state ∙ sym (replay-append p g start so_far.done entries);
        count = longer_count;
        summed = omega (arith, summed, so_far.summed, sum_by-append (λ (entry : JournalEntry). gather_degree p g entry.vertex) so_far.done entries);
        saw = λ v i. saw_is v i ∙ ap (λ b. b || list_any (λ (entry : JournalEntry). entry.vertex == v) entries) (so_far.saw v i)
            ∙ sym (list_any-append (λ (entry : JournalEntry). entry.vertex == v) so_far.done entries);
        sent = let Goes : List ℕ → Type 0 = λ all. Sent before more all waits in
            subst Goes texts (sent_then before after more (flat_map text so_far.done) waiting (flat_map text entries) waits so_far.sent sent);
      }

    -- where what waits couldn't be sent
    pub part_last : (more : Option (List ℕ)) → SendsFront after more waiting → RanInPart p g text start fuel before more
    part_last more front = part more so_far.done left so_far.legal so_far.count
        (subst (SendsFront before more) (append-nil (flat_map text so_far.done))
        (front_then before after more (flat_map text so_far.done) waiting [] so_far.sent (subst (SendsFront after more) (sym (append-nil waiting)) front)))

    -- where nothing is left to execute, that was all
    pub ran : (is_quiet g now ≡ true) ⊎ (left ≡ 0) → (more : Option (List ℕ)) (waits : List ℕ) → Sent after more waiting waits → waits ≡ [] → (kept : Bool) (end : AsyncEnd) → end.state ≡ now
        → end.executions + left ≡ fuel → end.gathers ≡ cond kept (sum_by (gather_degree p g) (filter (λ v. get_or seen v false) (vertices g))) all → end.end ≡ end_of g now
        → Ran p g text start fuel kept before more end
    ran over more waits sent none kept end state executions gathers ended = record {
      journal = so_far.done;
      is_journal = record { legal = so_far.legal; fits = record { within = omega (arith, so_far.count); complete = complete over } };
      written = let Goes : List ℕ → Type 0 = λ texts. Sent after more texts waits in
          sent_whole (sent_then before after more (flat_map text so_far.done) waiting [] waits so_far.sent (subst Goes (sym (append-nil waiting)) sent)) none
          ∙ ap (append_known before) (append-nil (flat_map text so_far.done));
      state = state ∙ so_far.state;
      executions = omega (arith, executions, so_far.count);
      gathers = gathers ∙ ap (cond kept (sum_by (gather_degree p g) (filter (λ v. get_or seen v false) (vertices g)))) so_far.summed
          ∙ ap (λ vs. cond kept (sum_by (gather_degree p g) vs) (gathers_over p g so_far.done))
          (filter_below (λ v. get_or seen v false) (λ v. list_any (λ (entry : JournalEntry). entry.vertex == v) so_far.done) (length g.ids) so_far.saw);
      ended = ended ∙ ap (end_of g) (sym state);
    }
      where
        complete : (is_quiet g now ≡ true) ⊎ (left ≡ 0) → IsTrue (is_quiet g (replay p g start so_far.done)) ⊎ (length so_far.done ≡ fuel)
        complete (inl quiet) = inl (ap (is_quiet g) (sym so_far.state) ∙ quiet)
        complete (inr spent) = inr (omega (arith, so_far.count, spent))
