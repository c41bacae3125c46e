-- An actor that ends its attempt has no vertex in hand any more, and all others have what they had.
use Rattle.std.proofs.Common.{ℕ, ◌+◌, ◌<◌, ◌≤◌, ◌≡◌, ◌≢◌, ◌⊎◌, length, Bool, true, false, Option, Some, None, inl, inr, arith, refl, sym, ap, subst, ◌∙◌, slice_index_or}
use Rattle.std.specs.Prelude.{List, MatchOption, IsNone, is_some}
use Rattle.pg_graph.specs.Multigraph.{Multigraph, edges_at}
use Rattle.pg_law.specs.declared.values.Datum.{Datum}
use Rattle.pg_law.specs.Program.{Program}
use Rattle.pg_law.specs.Configuration.{Configuration}
use Rattle.pg_meals.specs.declared.act.Act.{Act as NamedAct}
use Rattle.pg_meals.specs.declared.act.Act.TheVariants.{Drop as NamedDrop, Back as NamedBack, Give as NamedGive, WriteMirror as NamedWrite}
use Rattle.pg_meals.specs.declared.act.Outcome.{Outcome as Told}
use Rattle.pg_meals.specs.declared.board.Board.{Board}
use Rattle.pg_meals.specs.Words.{Grip}
use Rattle.pg_meals.specs.Core.{Core}
use Rattle.pg_meals.specs.Acts.{MayLeave}
use Rattle.pg_meals.specs.Listed.{any_word, any_datum}
use Rattle.pg_meals.specs.Entries.{actor_at}
use Rattle.pg_meals.specs.Shown.{shape_on}
use Rattle.pg_meals.specs.Boards.{Frame}
use Rattle.pg_meals.specs.Steps.{MakesOn, RefusesOn, told_of}
use Rattle.pg_meals.specs.Tables.{Table, IsSameTable}
use Rattle.pg_meals.specs.Closing.{AllFree}
use Rattle.pg_meals.specs.Carrying.{IsKept, core_by}
use Rattle.pg_meals.specs.Once.{is_among}
use Rattle.pg_meals.proofs.At.{same_or_not}
use Rattle.pg_meals.proofs.Holding.{around_all}
use Rattle.pg_virtual.specs.Stretches.{IsPlayed, HasFewWorkers}
use Rattle.pg_virtual.proofs.Freeing.{set_both, give_others, write_others, back_others, drop_others, give_own, write_own, write_marks, back_own, back_marks, drop_own, give_refused, write_refused, back_refused, drop_can, backed_pin}

module _ {Prog Acc Carry : Type 0} (p : Prog → Program Acc Carry) (t : Table Prog Acc) (a : ℕ) where
  abbrev core : Board Acc → Core Acc
  core b = core_by (p t.program) b

  abbrev grip : Board Acc → Grip
  grip b = (core b).words.grip a

  abbrev word : ℕ
  word = any_word (p t.program)

  abbrev datum : Datum
  datum = any_datum (p t.program)

  -- all other actors have what they had
  abbrev pub Others : Board Acc → Type 0
  Others b = (x : ℕ) → x ≢ a → (actor_at b.actors.items x).vertex ≡ (actor_at t.board.actors.items x).vertex

  -- an act was tried: it was refused, and nothing changed, or it was made
  abbrev Happens : NamedAct → Board Acc → Board Acc → Type 0
  Happens act b b' = ((b' ≡ b) × RefusesOn t.graph b a act) ⊎ ((out : Told) × MakesOn t.graph b a act b' out)

  pub record IsTried (act : NamedAct) (b b' : Board Acc) : Type 0 where
    pub happens : Happens act b b'
    pub frame : Frame b b'
    pub kept : IsKept (p t.program) t.graph t.opening b'

  happened : (act : NamedAct) (r : Option Told) (x y : Table Prog Acc) → x.graph ≡ t.graph → MatchOption r (y ≡ x) (MakesOn x.graph x.board a act y.board)
      → (IsNone r → RefusesOn x.graph x.board a act) → Happens act x.board y.board
  happened act None x y is same never = inl (ap (λ (z : Table Prog Acc). z.board) same, subst (λ g. RefusesOn g x.board a act) is (never refl))
  happened act (Some out) x y is made never = inr (out, subst (λ g. MakesOn g x.board a act y.board out) is made)

  kept_as : (x : Table Prog Acc) → IsSameTable t x → IsKept (p x.program) x.graph x.opening x.board → IsKept (p t.program) t.graph t.opening x.board
  kept_as x same kept = let P : Prog → Type 0 = λ z. IsKept (p z) t.graph t.opening x.board in
      let Q : Multigraph → Type 0 = λ z. IsKept (p x.program) z t.opening x.board in
      let R : Configuration → Type 0 = λ z. IsKept (p x.program) x.graph z x.board in
      subst P same.program (subst Q same.graph (subst R same.opening kept))

  -- a step of the table
  pub tried : (act : NamedAct) (r : Option Told) (x y : Table Prog Acc) → IsPlayed t x → IsPlayed t y → Frame x.board y.board → MatchOption r (y ≡ x) (MakesOn x.graph x.board a act y.board)
      → (IsNone r → RefusesOn x.graph x.board a act) → IsKept (p y.program) y.graph y.opening y.board → IsTried act x.board y.board
  tried act r x y before after frame made never kept = record {
    happens = happened act r x y before.same.graph made never;
    frame = frame;
    kept = kept_as y after.same kept;
  }

  module _ (v : ℕ) where
    -- the turn was given, and the replicas on the first n workers are written
    pub record IsWriting (n : ℕ) (b : Board Acc) : Type 0 where
      pub kept : IsKept (p t.program) t.graph t.opening b
      pub others : Others b
      pub busy : (grip b).vertex ≡ Some v
      pub turn : (grip b).turn ≡ false
      pub written : (grip b).committed ≡ true → (k h : ℕ) → k < n → (shape_on t.graph b).spans v k ≡ true → h < 2 → ((core b).notes a).written k h ≡ true

    -- all of them are, and the first n forks were given back
    pub record IsBacking (n : ℕ) (b : Board Acc) : Type 0 where
      pub kept : IsKept (p t.program) t.graph t.opening b
      pub others : Others b
      pub busy : (grip b).vertex ≡ Some v
      pub turn : (grip b).turn ≡ false
      pub may : MayLeave (shape_on t.graph b) (core b) a v
      pub pins : (i : ℕ) → i < n → (grip b).pins (slice_index_or (edges_at t.graph v) i 0) ≡ false

    spans_as : {b b' : Board Acc} → Frame b b' → (k : ℕ) → (shape_on t.graph b').spans v k ≡ true → (shape_on t.graph b).spans v k ≡ true
    spans_as frame k q = ap (is_among k) (sym (frame.homes v)) ∙ q

    pub gives : (b : Board Acc) (o : Option ℕ) → IsTried NamedGive t.board b → o ≡ (actor_at t.board.actors.items a).vertex → o ≡ Some v → IsWriting 0 b
    gives b o is value some = go is.happens
      where
        busy : (actor_at t.board.actors.items a).vertex ≡ Some v
        busy = sym value ∙ some

        go : Happens NamedGive t.board b → IsWriting 0 b
        go (inl (same, never)) = record {
          kept = is.kept;
          others = λ x n. ap (λ (z : Board Acc). (actor_at z.actors.items x).vertex) same;
          busy = ap (λ (z : Board Acc). (grip z).vertex) same ∙ busy;
          turn = ap (λ (z : Board Acc). (grip z).turn) same ∙ give_refused (shape_on t.graph t.board) t.board.fuel (core t.board) a v (never 0 word datum);
          written = λ c k h l. absurd (omega arith);
        }
        go (inr (out, made)) = let s = made word datum in
            let own = give_own (shape_on t.graph t.board) t.board.fuel (core t.board) (core b) a (told_of out 0) s in record {
              kept = is.kept;
              others = give_others (shape_on t.graph t.board) t.board.fuel (core t.board) (core b) a (told_of out 0) s;
              busy = ap (λ (z : Grip). z.vertex) own ∙ busy;
              turn = ap (λ (z : Grip). z.turn) own;
              written = λ c k h l. absurd (omega arith);
            }

    pub writes : (n : ℕ) (b b' : Board Acc) → IsWriting n b → IsTried (NamedWrite n) b b' → IsWriting (n + 1) b'
    writes n b b' old is = go is.happens
      where
        go : Happens (NamedWrite n) b b' → IsWriting (n + 1) b'
        go (inl (same, never)) = subst (λ z. IsWriting (n + 1) z) (sym same) (record {
          kept = old.kept;
          others = old.others;
          busy = old.busy;
          turn = old.turn;
          written = λ c k h l spans low. one c k h l spans low (same_or_not k n);
        })
          where
            one : (grip b).committed ≡ true → (k h : ℕ) → k < n + 1 → (shape_on t.graph b).spans v k ≡ true → h < 2 → (k ≡ n) ⊎ (k ≢ n) → ((core b).notes a).written k h ≡ true
            one c k h l spans low (inr d) = old.written c k h (omega (arith, l, d)) spans low
            one c k h l spans low (inl q) = ap (λ i. ((core b).notes a).written i h) q
                ∙ write_refused (shape_on t.graph b) b.fuel (core b) a v n h (never h word datum) old.busy old.turn c (ap (λ i. (shape_on t.graph b).spans v i) (sym q) ∙ spans) low
        go (inr (out, made)) = let m = made word datum in
            let g = shape_on t.graph b in
            let own : grip b' ≡ grip b = write_own g b.fuel m.0 (core b') a (told_of out 1) n 1 m.2 ∙ write_own g b.fuel (core b) m.0 a (told_of out 0) n 0 m.1 in
            record {
              kept = is.kept;
              others = λ x d. write_others g b.fuel m.0 (core b') a (told_of out 1) n 1 x m.2 ∙ (write_others g b.fuel (core b) m.0 a (told_of out 0) n 0 x m.1 ∙ old.others x d);
              busy = ap (λ (z : Grip). z.vertex) own ∙ old.busy;
              turn = ap (λ (z : Grip). z.turn) own ∙ old.turn;
              written = λ c k h l spans low. set_both ((core b).notes a).written (m.0.notes a).written ((core b').notes a).written n k h
                  (write_marks g b.fuel (core b) m.0 a (told_of out 0) n 0 m.1) (write_marks g b.fuel m.0 (core b') a (told_of out 1) n 1 m.2)
                  (before c k h l spans low (same_or_not k n)) low;
            }
          where
            before : (grip b').committed ≡ true → (k h : ℕ) → k < n + 1 → (shape_on t.graph b').spans v k ≡ true → h < 2 → (k ≡ n) ⊎ (k ≢ n) → (k ≡ n) ⊎ (((core b).notes a).written k h ≡ true)
            before c k h l spans low (inl q) = inl q
            before c k h l spans low (inr d) = let m = made word datum in
                let g = shape_on t.graph b in
                let own : grip b' ≡ grip b = write_own g b.fuel m.0 (core b') a (told_of out 1) n 1 m.2 ∙ write_own g b.fuel (core b) m.0 a (told_of out 0) n 0 m.1 in
                inr (old.written (ap (λ (z : Grip). z.committed) (sym own) ∙ c) k h (omega (arith, l, d)) (spans_as is.frame k spans) low)

    pub wrote : (n : ℕ) (b : Board Acc) → 64 ≤ n → HasFewWorkers b → IsWriting n b → IsBacking 0 b
    wrote n b all few old = record {
      kept = old.kept;
      others = old.others;
      busy = old.busy;
      turn = old.turn;
      may = λ c k h spans low. old.written c k h (omega (arith, all, few v k spans)) spans low;
      pins = λ i l. absurd (omega arith);
    }

    back_one : (n e : ℕ) (b b' : Board Acc) → IsBacking n b → e ≡ slice_index_or (edges_at t.graph v) n 0 → IsTried (NamedBack e) b b' → IsBacking (n + 1) b'
    back_one n e b b' old at is = go is.happens
      where
        go : Happens (NamedBack e) b b' → IsBacking (n + 1) b'
        go (inl (same, never)) = subst (λ z. IsBacking (n + 1) z) (sym same) (record {
          kept = old.kept;
          others = old.others;
          busy = old.busy;
          turn = old.turn;
          may = old.may;
          pins = λ i l. one i l (same_or_not i n);
        })
          where
            one : (i : ℕ) → i < n + 1 → (i ≡ n) ⊎ (i ≢ n) → (grip b).pins (slice_index_or (edges_at t.graph v) i 0) ≡ false
            one i l (inr d) = old.pins i (omega (arith, l, d))
            one i l (inl q) = ap (λ k. (grip b).pins (slice_index_or (edges_at t.graph v) k 0)) q ∙ (ap (grip b).pins (sym at)
                ∙ back_refused (shape_on t.graph b) b.fuel (core b) a v e old.kept.stands.kept.clean (never 0 word datum) old.busy old.turn old.may)
        go (inr (out, made)) = let s = made word datum in
            let g = shape_on t.graph b in
            let own = back_own g b.fuel (core b) (core b') a (told_of out 0) e s in
            let marks = back_marks g b.fuel (core b) (core b') a (told_of out 0) e s in
            record {
              kept = is.kept;
              others = λ x d. back_others g b.fuel (core b) (core b') a (told_of out 0) e s x d ∙ old.others x d;
              busy = ap (λ (z : Grip). z.vertex) own ∙ old.busy;
              turn = ap (λ (z : Grip). z.turn) own ∙ old.turn;
              may = λ c k h spans low. ap (λ (z : ℕ → ℕ → Bool). z k h) marks ∙ old.may (ap (λ (z : Grip). z.committed) (sym own) ∙ c) k h (spans_as is.frame k spans) low;
              pins = λ i l. ap (λ (z : Grip). z.pins (slice_index_or (edges_at t.graph v) i 0)) own ∙ backed_pin (grip b).pins e (slice_index_or (edges_at t.graph v) i 0) (one i l (same_or_not i n));
            }
          where
            one : (i : ℕ) → i < n + 1 → (i ≡ n) ⊎ (i ≢ n) → (slice_index_or (edges_at t.graph v) i 0 ≡ e) ⊎ ((grip b).pins (slice_index_or (edges_at t.graph v) i 0) ≡ false)
            one i l (inl q) = inl (ap (λ k. slice_index_or (edges_at t.graph v) k 0) q ∙ sym at)
            one i l (inr d) = inr (old.pins i (omega (arith, l, d)))

    pub backs : (n : ℕ) (g : Multigraph) (es : List ℕ) (b b' : Board Acc) → IsBacking n b → t.graph ≡ g → es ≡ edges_at g v → IsTried (NamedBack (slice_index_or es n 0)) b b' → IsBacking (n + 1) b'
    backs n g es b b' old same all is = back_one n (slice_index_or es n 0) b b' old (ap (λ (xs : List ℕ). slice_index_or xs n 0) (all ∙ ap (λ z. edges_at z v) (sym same))) is

    drop_last : (n : ℕ) (b b' : Board Acc) → length (edges_at t.graph v) ≤ n → IsBacking n b → IsTried NamedDrop b b' → ((actor_at b'.actors.items a).vertex ≡ None) × Others b'
    drop_last n b b' all old is = go is.happens
      where
        go : Happens NamedDrop b b' → ((actor_at b'.actors.items a).vertex ≡ None) × Others b'
        go (inl (same, never)) = absurd (drop_can (shape_on t.graph b) b.fuel (core b) a v old.kept.stands.kept.clean (never 0 word datum) old.busy old.turn old.may
            (around_all (λ e. (grip b).pins e ≡ false) t.graph v (λ i l. old.pins i (omega (arith, l, all)))))
        go (inr (out, made)) = let s = made word datum in
            let g = shape_on t.graph b in (
              drop_own g b.fuel (core b) (core b') a (told_of out 0) s,
              λ x d. drop_others g b.fuel (core b) (core b') a (told_of out 0) s x d ∙ old.others x d,
            )

    -- the vertex is dropped
    pub drops : (n : ℕ) (g : Multigraph) (es : List ℕ) (b b' : Board Acc) → length es ≤ n → t.graph ≡ g → es ≡ edges_at g v → IsBacking n b → IsTried NamedDrop b b'
        → ((actor_at b'.actors.items a).vertex ≡ None) × Others b'
    drops n g es b b' past same all old is = drop_last n b b' (omega (arith, past, ap length (all ∙ ap (λ z. edges_at z v) (sym same)))) old is

-- each actor below n has no vertex in hand
abbrev pub FreeBelow : {A : Type 0} → ℕ → Board A → Type 0
FreeBelow n b = (x : ℕ) → x < n → (actor_at b.actors.items x).vertex ≡ None

pub free_more : {A : Type 0} (n : ℕ) (b b' : Board A) → FreeBelow n b → (actor_at b'.actors.items n).vertex ≡ None
    → ((x : ℕ) → x ≢ n → (actor_at b'.actors.items x).vertex ≡ (actor_at b.actors.items x).vertex) → FreeBelow (n + 1) b'
free_more n b b' old own others x l = go (same_or_not x n)
  where
    go : (x ≡ n) ⊎ (x ≢ n) → (actor_at b'.actors.items x).vertex ≡ None
    go (inl q) = ap (λ k. (actor_at b'.actors.items k).vertex) q ∙ own
    go (inr d) = others x d ∙ old x (omega (arith, l, d))

pub all_free : {A : Type 0} (n : ℕ) (b : Board A) → length b.actors.items ≤ n → FreeBelow n b → AllFree b.actors.items
all_free n b all free x l = ap (λ (o : Option ℕ). is_some o) (free x (omega (arith, l, all)))
