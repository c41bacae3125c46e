-- Settings that are placed one after another are those that the grammar lets stand together.
use Rattle.std.proofs.Common.{◌≡◌, ◌≢◌, ℕ, ◌<◌, List, [], ◌∷◌, length, Bool, true, false, ◌||◌, not, Option, Some, IsTrue, All, AllPairs, refl, sym, subst, ap, ◌∙◌, eqb, arith, suc}
use Rattle.std.proofs.lemmas.Bool.{and_parts, eq-eqb, ne_eqb}
use Rattle.std.proofs.lemmas.List.Elements.{All-nil, All-cons}
use Rattle.std.proofs.lemmas.List.Kept.{AllPairs-cons}
use Rattle.std.proofs.lemmas.Option.{option_and_then_some}
use Rattle.std.specs.List.{slice_index_or}
use Rattle.pg_words.specs.Names.{Word}
use Rattle.pg_words.specs.Options.{takes, stands, excludes, is_excluded, admits}
use Rattle.pg_words.specs.Jobs.{Setting, with_setting, chosen}
use Rattle.pg_words.specs.Reading.{is_free}
use Rattle.pg_words.specs.declared.choices.Choices.{Choices}
use Rattle.pg_words.specs.declared.head.Head.{Head}
use Rattle.pg_words.specs.declared.names.OptionName.{OptionName}
use Rattle.pg_words.proofs.Choosing.{row, at_row, at_row-row, stands-with_setting, excluded-with_setting}

-- a setting that may stand, and what is chosen with it
pub record IsSet (head : Head) (c : Choices) (setting : Setting) (d : Choices) : Type 0 where
  pub free : is_free head c setting.option ≡ true
  pub set : with_setting c setting.option setting.value ≡ Some d

-- settings that may stand, one after another
abbrev pub Placed : Head → Choices → List Setting → Choices → Type 0
Placed head c [] d = c ≡ d
Placed head c (setting ∷ settings) d = (more : Choices) × IsSet head c setting more × Placed head more settings d

-- the same in the words of the grammar
pub record MayStand (head : Head) (c : Choices) (settings : List Setting) (d : Choices) : Type 0 where
  pub taken : All (λ setting. IsTrue (takes head setting.option)) settings
  pub once : AllPairs (λ earlier later. earlier.option ≢ later.option) settings
  pub together : AllPairs (λ earlier later. excludes earlier.option later.option ≡ false) settings
  pub new : All (λ setting. stands c setting.option ≡ false) settings
  pub allowed : All (λ setting. is_excluded c setting.option ≡ false) settings
  pub made : chosen c settings ≡ Some d

not_true : (b : Bool) → not b ≡ true → b ≡ false
not_true true e = cc
not_true false e = refl

neither : (b d : Bool) → (b || d) ≡ false → (b ≡ false) × (d ≡ false)
neither true d e = cc
neither false d e = (refl, e)

-- an option that may follow is taken, new and not excluded, and one that is all this may follow
pub record IsFree (head : Head) (c : Choices) (option : OptionName) : Type 0 where
  pub taken : takes head option ≡ true
  pub new : stands c option ≡ false
  pub allowed : is_excluded c option ≡ false

pub free_parts : (head : Head) (c : Choices) (option : OptionName) → is_free head c option ≡ true → IsFree head c option
free_parts head c option free =
    let both = and_parts (takes head option) (admits c option) free in
    let admitted = and_parts (not (stands c option)) (not (is_excluded c option)) both.1 in
    record {
      taken = both.0;
      new = not_true (stands c option) admitted.0;
      allowed = not_true (is_excluded c option) admitted.1;
    }

pub free_whole : (head : Head) (c : Choices) (option : OptionName) → IsFree head c option → is_free head c option ≡ true
free_whole head c option is =
    let taken = is.taken in
    let new = is.new in
    let allowed = is.allowed in
    rw (taken, new, allowed) refl

-- options of two rows differ
rows_differ : (option other : OptionName) → eqb (row option) (row other) ≡ false → option ≢ other
rows_differ option other e same =
    let on_row : eqb (row option) (row option) ≡ false = subst (λ (p : OptionName). eqb (row option) (row p) ≡ false) (sym same) e in
    let yes = eq-eqb (row option) (row option) refl in
    cc

-- options that differ have two rows
differ_rows : (option other : OptionName) → option ≢ other → eqb (row option) (row other) ≡ false
differ_rows option other apart =
    ne_eqb (row option) (row other) (λ same. apart (sym (at_row-row option) ∙ (ap at_row same ∙ at_row-row other)))

-- what is new behind a setting is new, and of another option
pub new_behind : (c d : Choices) (option : OptionName) (value : Option Word) → with_setting c option value ≡ Some d
    → (other : OptionName) → stands d other ≡ false → (option ≢ other) × (stands c other ≡ false)
new_behind c d option value e other new =
    let both = neither (eqb (row option) (row other)) (stands c other) (sym (stands-with_setting c d option value e other) ∙ new) in
    (rows_differ option other both.0, both.1)

-- what is new and of another option is new behind that option
pub new_ahead : (c d : Choices) (option : OptionName) (value : Option Word) → with_setting c option value ≡ Some d
    → (other : OptionName) → option ≢ other → stands c other ≡ false → stands d other ≡ false
new_ahead c d option value e other apart new =
    let first = differ_rows option other apart in
    stands-with_setting c d option value e other ∙ rw (first, new) refl

-- what is allowed behind a setting was allowed before it, and its option doesn't exclude it
pub allowed_behind : (c d : Choices) (option : OptionName) (value : Option Word) → with_setting c option value ≡ Some d
    → (other : OptionName) → is_excluded d other ≡ false → (excludes option other ≡ false) × (is_excluded c other ≡ false)
allowed_behind c d option value e other allowed =
    neither (excludes option other) (is_excluded c other) (sym (excluded-with_setting c d option value e other) ∙ allowed)

-- what is allowed and not excluded by an option is allowed behind it
pub allowed_ahead : (c d : Choices) (option : OptionName) (value : Option Word) → with_setting c option value ≡ Some d
    → (other : OptionName) → excludes option other ≡ false → is_excluded c other ≡ false → is_excluded d other ≡ false
allowed_ahead c d option value e other together allowed =
    excluded-with_setting c d option value e other ∙ rw (together, allowed) refl

-- settings that are placed may stand
pub Placed-MayStand : (head : Head) (c : Choices) (settings : List Setting) (d : Choices)
    → Placed head c settings d → MayStand head c settings d
Placed-MayStand head c [] d is = record {
  taken = All-nil _;
  once = λ i j x below inside. absurd (omega arith);
  together = λ i j x below inside. absurd (omega arith);
  new = All-nil _;
  allowed = All-nil _;
  made = ap (λ (x : Choices). Some x) is;
}
Placed-MayStand head c (setting ∷ settings) d (more, first, behind) =
    let rest = Placed-MayStand head more settings d behind in
    let parts = free_parts head c setting.option first.free in
    let other = λ (k : ℕ) (x : Setting) (inside : k < length settings).
    new_behind c more setting.option setting.value first.set (slice_index_or settings k x).option (rest.new k x inside) in
    let beside = λ (k : ℕ) (x : Setting) (inside : k < length settings).
    allowed_behind c more setting.option setting.value first.set (slice_index_or settings k x).option (rest.allowed k x inside) in
    record {
      taken = All-cons (λ s. IsTrue (takes head s.option)) setting settings parts.taken rest.taken;
      once = AllPairs-cons (λ a b. a.option ≢ b.option) setting settings (λ k x inside. (other k x inside).0) rest.once;
      together = AllPairs-cons (λ a b. excludes a.option b.option ≡ false) setting settings (λ k x inside. (beside k x inside).0) rest.together;
      new = All-cons (λ s. stands c s.option ≡ false) setting settings parts.new (λ k x inside. (other k x inside).1);
      allowed = All-cons (λ s. is_excluded c s.option ≡ false) setting settings parts.allowed (λ k x inside. (beside k x inside).1);
      made = rw first.set rest.made;
    }

-- settings that may stand are placed
pub MayStand-Placed : (head : Head) (c : Choices) (settings : List Setting) (d : Choices)
    → MayStand head c settings d → Placed head c settings d
MayStand-Placed head c [] d may = let same : Some c ≡ Some d = may.made in cc
MayStand-Placed head c (setting ∷ settings) d may =
    option_and_then_some (λ more. chosen more settings) (with_setting c setting.option setting.value) d may.made (λ more set same. (
      more,
      record {
        free = free_whole head c setting.option (record {
          taken = may.taken 0 setting (omega arith);
          new = may.new 0 setting (omega arith);
          allowed = may.allowed 0 setting (omega arith);
        });
        set = set;
      },
      MayStand-Placed head more settings d (record {
        taken = λ k x inside. may.taken (suc k) x (omega arith);
        once = λ i j x below inside. may.once (suc i) (suc j) x (omega arith) (omega arith);
        together = λ i j x below inside. may.together (suc i) (suc j) x (omega arith) (omega arith);
        new = λ k x inside. new_ahead c more setting.option setting.value set (slice_index_or settings k x).option
            (may.once 0 (suc k) x (omega arith) (omega arith)) (may.new (suc k) x (omega arith));
        allowed = λ k x inside. allowed_ahead c more setting.option setting.value set (slice_index_or settings k x).option
            (may.together 0 (suc k) x (omega arith) (omega arith)) (may.allowed (suc k) x (omega arith));
        made = same;
      }),
    ))
