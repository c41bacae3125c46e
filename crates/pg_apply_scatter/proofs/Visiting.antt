-- The edges of a worker, visited one after another.
use Rattle.std.proofs.Common.{◌≡◌, ℕ, zero, suc, ◌+◌, ◌<◌, ◌≤◌, Bool, true, false, cond, Option, Some, None, List, [], ◌∷◌, ◌++◌, length, get_or, set, refl, sym, subst, ◌∙◌, ap, arith, ⊎_elim}
use Rattle.std.specs.Prelude.{All}
use Rattle.std.specs.List.{range_with_len, flat_map}
use Rattle.std.proofs.lemmas.Bool.{cases_eq}
use Rattle.std.proofs.lemmas.List.{append-nil, ext_get_or, length-set, get_or-set_same, get_or-set_other}
use Rattle.std.proofs.lemmas.List.FromFn.{length-map-range_with_len, get_or-map-range_with_len}
use Rattle.std.proofs.lemmas.List.Elements.{All-append, All-nil, All-cons, recursion_from_All}
use Rattle.std.specs.List.{AllByRecursion}
use Rattle.std.proofs.lemmas.Grind.{flat_map-append}
use Rattle.pg_graph.specs.declared.edge.Side.{Side}
use Rattle.pg_graph.specs.declared.edge.Side.TheVariants.{Source, Target}
use Rattle.pg_graph.specs.Multigraph.{Multigraph, IsMultigraph, end_at, opposite, takes}
use Rattle.pg_graph.proofs.Numbers.{numbers_more, numbers_below}
use Rattle.pg_graph.proofs.Stored.{edge_known}
use Rattle.pg_law.specs.declared.values.Scattered.{Scattered}
use Rattle.pg_law.specs.Program.{Program}
use Rattle.pg_law.specs.declared.values.Near.{Near}
use Rattle.pg_law.specs.Laws.{IsLawful, IsNear, IsScattered}
use Rattle.pg_law.proofs.Fitting.{end_within, word_own}
use Rattle.pg_law.specs.Carries.{carry_at, AreCarries, IsCarried}
use Rattle.pg_law.specs.Round.{word_after, IsSent}
use Rattle.pg_edge_store.specs.Store.{Store}
use Rattle.pg_mirrors.specs.Mirrors.{Mirrors}
use Rattle.pg_gather.specs.Partials.{IsReadable, IsReadableAt}
use Rattle.pg_apply_scatter.specs.declared.sent.Sent.{Sent}
use Rattle.pg_apply_scatter.proofs.Reading.{replica_own}
use Rattle.pg_apply_scatter.specs.Sending.{AreReplicas, near_with, scatter_near, source_here, between_here, target_here, final_here, sent_over, final_at, sent_at, words_after, sent_from, sent_to, IsSentIn}

-- what holds of an element and of what is written holds of the element after the write
pub set_keeps : {X : Type 0} (P : X → Type 0) (xs : List X) (i k : ℕ) (w d : X) → P (get_or xs i d) → P w → P (get_or (set xs k w) i d)
set_keeps P [] i k w d old new = old
set_keeps P (x ∷ xs) zero zero w d old new = new
set_keeps P (x ∷ xs) zero (suc k) w d old new = old
set_keeps P (x ∷ xs) (suc i) zero w d old new = old
set_keeps P (x ∷ xs) (suc i) (suc k) w d old new = set_keeps P xs i k w d old new

-- a store can be read with another word of the program
pub readable_after : {Acc Carry : Type 0} (p : Program Acc Carry) (g : Multigraph) (s : Store) (m : Mirrors) (i w : ℕ) → IsReadable p g s m → p.IsWord w → IsReadable p g (record s { words = set s.words i w }) m
readable_after p g s m i w readable own = record {
  over = record { count = readable.over.count; ascending = readable.over.ascending; within = readable.over.within; ends = readable.over.ends; rows_are = readable.over.rows_are };
  vertices = readable.vertices;
  edges = readable.edges;
  words = λ k h. set_keeps p.IsWord s.words k i w 0 (readable.words k h) own;
  ascending = readable.ascending;
  values = readable.values;
}

module _ {Acc Carry : Type 0} (p : Program Acc Carry) (g : Multigraph) (m : Mirrors) (carries : List (Option Carry)) where
  -- the visits of an edge, from the carries at its ends
  pub visited : (e word : ℕ) (src dst : Option Carry) (source target : Option (Scattered Acc)) (between : ℕ)
      → src ≡ carry_at carries (end_at g Source e) → dst ≡ carry_at carries (end_at g Target e)
      → source ≡ scatter_near p (near_with g m Source e word) src → between ≡ word_after word source → target ≡ scatter_near p (near_with g m Target e between) dst
      → (source ≡ source_here p g m carries e word) × (between ≡ between_here p g m carries e word) × (target ≡ target_here p g m carries e word)
  visited e word src dst source target between is_src is_dst is_source is_between is_target = (from, middle, to)
    where
      from : source ≡ source_here p g m carries e word
      from = is_source ∙ ap (scatter_near p (near_with g m Source e word)) is_src

      middle : between ≡ between_here p g m carries e word
      middle = is_between ∙ ap (word_after word) from

      to : target ≡ target_here p g m carries e word
      to = is_target ∙ ap (λ w. scatter_near p (near_with g m Target e w) dst) middle ∙ ap (scatter_near p (near_with g m Target e (between_here p g m carries e word))) is_dst

  module _ (s : Store) where
    -- the word and the list, at the place of the edge
    pub final_is : (i e word between final : ℕ) (target : Option (Scattered Acc)) → e ≡ get_or s.numbers i 0 → word ≡ get_or s.words i 0
        → between ≡ between_here p g m carries e word → target ≡ target_here p g m carries e word → final ≡ word_after between target → final ≡ final_at p g m carries s i
    final_is i e word between final target is_e is_word is_between is_target is = is
        ∙ ap (λ b. word_after b target) is_between ∙ ap (word_after (between_here p g m carries e word)) is_target
        ∙ ap (λ k. final_here p g m carries k word) is_e ∙ ap (final_here p g m carries (get_or s.numbers i 0)) is_word

    pub sent_is : (i e word src dst : ℕ) (source target : Option (Scattered Acc)) → e ≡ get_or s.numbers i 0 → word ≡ get_or s.words i 0
        → src ≡ end_at g Source e → dst ≡ end_at g Target e → source ≡ source_here p g m carries e word → target ≡ target_here p g m carries e word
        → sent_to dst source ++ sent_to src target ≡ sent_at p g m carries s i
    sent_is i e word src dst source target is_e is_word is_src is_dst is_source is_target = rw (is_src, is_dst, is_source, is_target)
        (ap (λ k. sent_over p g m carries k word) is_e ∙ ap (λ w. sent_over p g m carries (get_or s.numbers i 0) w) is_word)

-- a store whose words alone are others
kept_on : (first old new : Store) (words : List ℕ) → old ≡ record first { words = old.words } → new ≡ record old { words = words } → new ≡ record first { words = new.words }
kept_on first old new words kept is = is ∙ ap (λ (s : Store). record s { words = words }) kept ∙ ap (λ ws. record first { words = ws }) (sym (ap (λ (s : Store). s.words) is))

module _ {Acc Carry : Type 0} (p : Program Acc Carry) (g : Multigraph) (m : Mirrors) (carries : List (Option Carry)) (first : Store) where
  -- what the visits of so many places of the first store send, and what one visit more sends
  abbrev pub sent_below : ℕ → List (Sent Acc)
  sent_below n = flat_map (sent_at p g m carries first) (range_with_len 0 n)

  pub sent_more : (n : ℕ) → sent_below (n + 1) ≡ sent_below n ++ sent_at p g m carries first n
  sent_more n = ap (flat_map (sent_at p g m carries first)) (numbers_more n) ∙ flat_map-append (sent_at p g m carries first) (range_with_len 0 n) (n ∷ [])
      ∙ ap (λ xs. sent_below n ++ xs) (append-nil (sent_at p g m carries first n))

  -- so many places of the first store were visited: this is the store, and what was sent has P
  pub record AreVisited (n : ℕ) (s : Store) (P : List (Sent Acc) → Type 0) : Type 0 where
    pub kept : s ≡ record first { words = s.words }
    pub count : length s.words ≡ length first.words
    pub done : (k : ℕ) → k < n → get_or s.words k 0 ≡ final_at p g m carries first k
    pub rest : (k : ℕ) → n ≤ k → get_or s.words k 0 ≡ get_or first.words k 0
    pub sent : P (sent_below n)

  pub visited_none : (P : List (Sent Acc) → Type 0) → P [] → AreVisited 0 first P
  visited_none P none = record { kept = refl; count = refl; done = λ k h. absurd (omega arith); rest = λ k h. refl; sent = none }

  -- one place more
  pub visited_more : (n : ℕ) (old new : Store) (P Q : List (Sent Acc) → Type 0) → length first.words ≡ length first.numbers → n < length first.numbers → AreVisited n old P
      → new ≡ record old { words = set old.words n (final_at p g m carries old n) } → ((sent : List (Sent Acc)) → P sent → Q (sent ++ sent_at p g m carries old n)) → AreVisited (n + 1) new Q
  visited_more n old new P Q count h visited is sends = record {
    kept = kept_on first old new (set old.words n (final_at p g m carries old n)) visited.kept is;
    count = ap length words ∙ length-set old.words n (final_at p g m carries old n) ∙ visited.count;
    done = λ k below. ap (λ ws. get_or ws k 0) words ∙ ⊎_elim (λ same. here k same) (λ other. get_or-set_other old.words n k (final_at p g m carries old n) 0 other ∙ visited.done k (omega arith)) (cases_eq k n);
    rest = λ k above. ap (λ ws. get_or ws k 0) words ∙ get_or-set_other old.words n k (final_at p g m carries old n) 0 (λ same. absurd (omega arith)) ∙ visited.rest k (omega arith);
    sent = subst Q (ap (λ xs. sent_below n ++ xs) sent_same ∙ sym (sent_more n)) (sends (sent_below n) visited.sent);
  }
    where
      words : new.words ≡ set old.words n (final_at p g m carries old n)
      words = ap (λ (s : Store). s.words) is

      number : get_or old.numbers n 0 ≡ get_or first.numbers n 0
      number = ap (λ (s : Store). get_or s.numbers n 0) visited.kept

      word : get_or old.words n 0 ≡ get_or first.words n 0
      word = visited.rest n (omega arith)

      final_same : final_at p g m carries old n ≡ final_at p g m carries first n
      final_same = ap (λ e. final_here p g m carries e (get_or old.words n 0)) number ∙ ap (final_here p g m carries (get_or first.numbers n 0)) word

      sent_same : sent_at p g m carries old n ≡ sent_at p g m carries first n
      sent_same = ap (λ e. sent_over p g m carries e (get_or old.words n 0)) number ∙ ap (sent_over p g m carries (get_or first.numbers n 0)) word

      here : (k : ℕ) → k ≡ n → get_or (set old.words n (final_at p g m carries old n)) k 0 ≡ final_at p g m carries first k
      here k same = rw same (get_or-set_same old.words n (final_at p g m carries old n) 0 (omega (arith, visited.count, count)) ∙ final_same)

  -- all places
  pub visited_all : (n : ℕ) (s : Store) (P : List (Sent Acc) → Type 0) → length first.words ≡ length first.numbers → n ≡ length first.numbers → AreVisited n s P → s ≡ record first { words = words_after p g m carries first }
  visited_all n s P count all visited = visited.kept ∙ ap (λ ws. record first { words = ws }) (ext_get_or 0 s.words (words_after p g m carries first)
      (omega (arith, visited.count, count, length-map-range_with_len (final_at p g m carries first) 0 (length first.numbers)))
      (λ i h. let inside : i < length first.numbers = omega (arith, visited.count, count) in
      visited.done i (omega arith) ∙ sym (get_or-map-range_with_len (final_at p g m carries first) 0 (length first.numbers) i i 0 inside (omega arith))))

  pub sent_all : (n : ℕ) (s : Store) (P : List (Sent Acc) → Type 0) → n ≡ length first.numbers → AreVisited n s P → P (sent_from p g m carries first)
  sent_all n s P all visited = let From : ℕ → Type 0 = λ k. P (sent_below k) in subst From all visited.sent

-- what is made of each item has P
All_flat_map : {X Y : Type 0} (P : Y → Type 0) (f : X → List Y) (xs : List X) → AllByRecursion (λ x. All P (f x)) xs → All P (flat_map f xs)
All_flat_map P f [] all = All-nil P
All_flat_map P f (x ∷ xs) all = All-append P (f x) (flat_map f xs) all.0 (All_flat_map P f xs all.1)

module _ {Acc Carry : Type 0} (p : Program Acc Carry) (g : Multigraph) (law : IsLawful p) (graph : IsMultigraph g) (m : Mirrors) (carries : List (Option Carry)) (replicas : AreReplicas p m) (own : AreCarries p g carries) where
  pub near_own_here : (side : Side) (e word : ℕ) → IsReadableAt g m e → p.IsWord word → IsNear p (near_with g m side e word)
  near_own_here side e word at w = record {
    edge = edge_known g graph e at.edge;
    word = w;
    centre = replica_own p m (end_at g side e) replicas (at.ends side);
    other = replica_own p m (end_at g (opposite side) e) replicas (at.ends (opposite side));
  }

  scatter_own_here : (near : Near) (carry : Option Carry) → IsNear p near → IsCarried p carry → IsSent p (scatter_near p near carry)
  scatter_own_here near None n c = tt
  scatter_own_here near (Some carry) n c = chosen (takes p.scatter_edges near.side) (p.scatter near carry) (law.closed.scatter near carry n c)
    where
      chosen : (t : Bool) (s : Scattered Acc) → IsScattered p s → IsSent p (cond t (Some s) None)
      chosen true s own = own
      chosen false s own = tt

  source_own_here : (e word : ℕ) → IsReadableAt g m e → p.IsWord word → IsSent p (source_here p g m carries e word)
  source_own_here e word at w = scatter_own_here (near_with g m Source e word) (carry_at carries (end_at g Source e)) (near_own_here Source e word at w) (own.each (end_at g Source e) (end_within p g law graph Source e at.edge))

  between_own_here : (e word : ℕ) → IsReadableAt g m e → p.IsWord word → p.IsWord (between_here p g m carries e word)
  between_own_here e word at w = word_own p g law graph word (source_here p g m carries e word) w (source_own_here e word at w)

  target_own_here : (e word : ℕ) → IsReadableAt g m e → p.IsWord word → IsSent p (target_here p g m carries e word)
  target_own_here e word at w = let between = between_own_here e word at w in
      scatter_own_here (near_with g m Target e (between_here p g m carries e word)) (carry_at carries (end_at g Target e)) (near_own_here Target e (between_here p g m carries e word) at between) (own.each (end_at g Target e) (end_within p g law graph Target e at.edge))

  pub final_own_here : (e word : ℕ) → IsReadableAt g m e → p.IsWord word → p.IsWord (final_here p g m carries e word)
  final_own_here e word at w = word_own p g law graph (between_here p g m carries e word) (target_here p g m carries e word) (between_own_here e word at w) (target_own_here e word at w)

  sent_to_own : (v : ℕ) (o : Option (Scattered Acc)) → v < length g.ids → IsSent p o → All (IsSentIn p (length g.ids)) (sent_to v o)
  sent_to_own v None h o = All-nil (IsSentIn p (length g.ids))
  sent_to_own v (Some s) h o = All-cons (IsSentIn p (length g.ids)) (record { to = v; signal = s.signal; delta = s.delta }) [] (record { to = h; signal = o.signal; delta = o.delta }) (All-nil (IsSentIn p (length g.ids)))

  pub sent_over_own : (e word : ℕ) → IsReadableAt g m e → p.IsWord word → All (IsSentIn p (length g.ids)) (sent_over p g m carries e word)
  sent_over_own e word at w = All-append (IsSentIn p (length g.ids)) (sent_to (end_at g Target e) (source_here p g m carries e word)) (sent_to (end_at g Source e) (target_here p g m carries e word))
      (sent_to_own (end_at g Target e) (source_here p g m carries e word) (end_within p g law graph Target e at.edge) (source_own_here e word at w))
      (sent_to_own (end_at g Source e) (target_here p g m carries e word) (end_within p g law graph Source e at.edge) (target_own_here e word at w))

  -- what a worker sends is the program's
  pub sent_own : (s : Store) → IsReadable p g s m → All (IsSentIn p (length g.ids)) (sent_from p g m carries s)
  sent_own s readable = let Own : ℕ → Type 0 = λ i. All (IsSentIn p (length g.ids)) (sent_at p g m carries s i) in
      All_flat_map (IsSentIn p (length g.ids)) (sent_at p g m carries s) (range_with_len 0 (length s.numbers))
      (recursion_from_All Own (range_with_len 0 (length s.numbers)) (λ k d h. let i = get_or (range_with_len 0 (length s.numbers)) k d in
      let below = numbers_below (length s.numbers) k d h in
      sent_over_own (get_or s.numbers i 0) (get_or s.words i 0) (readable.edges i 0 below) (readable.words i below)))
