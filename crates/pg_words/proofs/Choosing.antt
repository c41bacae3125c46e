-- What stands with an option more: that option, and what stood before. A new option is a row in each of these.
use Rattle.std.proofs.Common.{◌≡◌, ◌≢◌, ℕ, ◌^◌, ◌-◌, Bool, true, false, ◌||◌, Option, Some, None, is_some, eqb, refl, sym, ap, ◌∙◌, subst, zero, suc}
use Rattle.std.specs.Option.{option_map}
use Rattle.pg_base.specs.Numbers.{number_of}
use Rattle.pg_readers.specs.declared.line.Format.{Format}
use Rattle.pg_words.specs.Names.{Word, named, formats, format_word, cuts, cut_word}
use Rattle.pg_words.specs.Options.{no_choices, stands, excludes, is_excluded, number_from, with_flag, with_value}
use Rattle.pg_words.specs.Jobs.{with_setting}
use Rattle.pg_words.specs.declared.choices.Choices.{Choices}
use Rattle.pg_words.specs.declared.names.CutWord.{CutWord}
use Rattle.pg_words.specs.declared.names.OptionName.{OptionName}
use Rattle.pg_words.specs.declared.names.OptionName.TheVariants as option
use Rattle.pg_words.proofs.Naming.{mapped}

-- the options, numbered
abbrev pub row : OptionName → ℕ
row option.Format = 0
row option.Workers = 1
row option.Cut = 2
row option.Seed = 3
row option.Rounds = 4
row option.Fuel = 5
row option.Serial = 6
row option.Virtual = 7
row option.Source = 8
row option.Tolerance = 9
row option.Cache = 10

-- an option by its number
abbrev pub at_row : ℕ → OptionName
at_row zero = option.Format
at_row (suc zero) = option.Workers
at_row (suc (suc zero)) = option.Cut
at_row (suc (suc (suc zero))) = option.Seed
at_row (suc (suc (suc (suc zero)))) = option.Rounds
at_row (suc (suc (suc (suc (suc zero))))) = option.Fuel
at_row (suc (suc (suc (suc (suc (suc zero)))))) = option.Serial
at_row (suc (suc (suc (suc (suc (suc (suc zero))))))) = option.Virtual
at_row (suc (suc (suc (suc (suc (suc (suc (suc zero)))))))) = option.Source
at_row (suc (suc (suc (suc (suc (suc (suc (suc (suc zero))))))))) = option.Tolerance
at_row _ = option.Cache

pub at_row-row : (option : OptionName) → at_row (row option) ≡ option
at_row-row option.Format = refl
at_row-row option.Workers = refl
at_row-row option.Cut = refl
at_row-row option.Seed = refl
at_row-row option.Rounds = refl
at_row-row option.Fuel = refl
at_row-row option.Serial = refl
at_row-row option.Virtual = refl
at_row-row option.Source = refl
at_row-row option.Tolerance = refl
at_row-row option.Cache = refl

-- no option stands at first
pub stands-none : (option : OptionName) → stands no_choices option ≡ false
stands-none option.Format = refl
stands-none option.Workers = refl
stands-none option.Cut = refl
stands-none option.Seed = refl
stands-none option.Rounds = refl
stands-none option.Fuel = refl
stands-none option.Serial = refl
stands-none option.Virtual = refl
stands-none option.Source = refl
stands-none option.Tolerance = refl
stands-none option.Cache = refl

-- none excludes any
pub excluded-none : (option : OptionName) → is_excluded no_choices option ≡ false
excluded-none option.Serial = refl
excluded-none option.Virtual = refl
excluded-none option.Cache = refl
excluded-none _ = refl

-- of two options that never stand together each excludes the other
pub excludes-comm : (option other : OptionName) → excludes option other ≡ excludes other option
excludes-comm option.Format option.Format = refl
excludes-comm option.Workers option.Format = refl
excludes-comm option.Cut option.Format = refl
excludes-comm option.Seed option.Format = refl
excludes-comm option.Rounds option.Format = refl
excludes-comm option.Fuel option.Format = refl
excludes-comm option.Serial option.Format = refl
excludes-comm option.Virtual option.Format = refl
excludes-comm option.Source option.Format = refl
excludes-comm option.Tolerance option.Format = refl
excludes-comm option.Cache option.Format = refl
excludes-comm option other = refl

-- what an option sets: its value, or itself
pub data Value : Type 0 where
  of_format : Format → Value
  of_workers : ℕ → Value
  of_cut : CutWord → Value
  of_seed : ℕ → Value
  of_rounds : ℕ → Value
  of_fuel : ℕ → Value
  of_serial : Value
  of_virtual : ℕ → Value
  of_source : ℕ → Value
  of_tolerance : ℕ → Value
  of_cache : Value

-- the option of a value
abbrev pub option_of : Value → OptionName
option_of (of_format x) = option.Format
option_of (of_workers x) = option.Workers
option_of (of_cut x) = option.Cut
option_of (of_seed x) = option.Seed
option_of (of_rounds x) = option.Rounds
option_of (of_fuel x) = option.Fuel
option_of of_serial = option.Serial
option_of (of_virtual x) = option.Virtual
option_of (of_source x) = option.Source
option_of (of_tolerance x) = option.Tolerance
option_of of_cache = option.Cache

-- the choices with a value more
abbrev pub put : Choices → Value → Choices
put c (of_format x) = record c { format = Some x }
put c (of_workers x) = record c { workers = Some x }
put c (of_cut x) = record c { cut = Some x }
put c (of_seed x) = record c { seed = Some x }
put c (of_rounds x) = record c { rounds = Some x }
put c (of_fuel x) = record c { fuel = Some x }
put c of_serial = record c { serial = true }
put c (of_virtual x) = record c { virtual_seed = Some x }
put c (of_source x) = record c { source = Some x }
put c (of_tolerance x) = record c { tolerance = Some x }
put c of_cache = record c { cache = true }

-- that option stands then, and what stood before
stands-put : (c : Choices) (value : Value) (other : OptionName)
    → stands (put c value) other ≡ (eqb (row (option_of value)) (row other) || stands c other)
stands-put c (of_format x) option.Format = refl
stands-put c (of_workers x) option.Format = refl
stands-put c (of_cut x) option.Format = refl
stands-put c (of_seed x) option.Format = refl
stands-put c (of_rounds x) option.Format = refl
stands-put c (of_fuel x) option.Format = refl
stands-put c of_serial option.Format = refl
stands-put c (of_virtual x) option.Format = refl
stands-put c (of_source x) option.Format = refl
stands-put c (of_tolerance x) option.Format = refl
stands-put c of_cache option.Format = refl
stands-put c value other = refl

or_true : (b : Bool) → true ≡ (b || true)
or_true true = refl
or_true false = refl

-- it excludes then what that option does, and what was excluded before
excluded-put : (c : Choices) (value : Value) (other : OptionName)
    → is_excluded (put c value) other ≡ (excludes (option_of value) other || is_excluded c other)
excluded-put c (of_format x) option.Format = refl
excluded-put c (of_workers x) option.Format = refl
excluded-put c (of_cut x) option.Format = refl
excluded-put c (of_seed x) option.Format = refl
excluded-put c (of_rounds x) option.Format = refl
excluded-put c (of_fuel x) option.Format = refl
excluded-put c of_serial option.Format = refl
excluded-put c (of_virtual x) option.Format = refl
excluded-put c (of_source x) option.Format = refl
excluded-put c (of_tolerance x) option.Format = refl
excluded-put c of_cache option.Format = refl
excluded-put c of_cache option.Serial = sym (or_true (is_some c.virtual_seed))
excluded-put c value other = refl

-- values of two options may change places
pub put-comm : (c : Choices) (value other : Value) → option_of value ≢ option_of other
    → put (put c value) other ≡ put (put c other) value
put-comm c (of_format x) (of_format y) apart = absurd (apart refl)
put-comm c (of_workers x) (of_workers y) apart = absurd (apart refl)
put-comm c (of_cut x) (of_cut y) apart = absurd (apart refl)
put-comm c (of_seed x) (of_seed y) apart = absurd (apart refl)
put-comm c (of_rounds x) (of_rounds y) apart = absurd (apart refl)
put-comm c (of_fuel x) (of_fuel y) apart = absurd (apart refl)
put-comm c of_serial of_serial apart = refl
put-comm c (of_virtual x) (of_virtual y) apart = absurd (apart refl)
put-comm c (of_source x) (of_source y) apart = absurd (apart refl)
put-comm c (of_tolerance x) (of_tolerance y) apart = absurd (apart refl)
put-comm c of_cache of_cache apart = refl
put-comm c value other apart = refl

-- the one choice
Some-is : (c d : Choices) → Some c ≡ Some d → c ≡ d
Some-is c d e = cc

-- the option stands so, and puts its value over whatever was chosen
pub record IsPut (c : Choices) (option : OptionName) (word : Option Word) (d : Choices) : Type 0 where
  pub value : Value
  pub own : option_of value ≡ option
  pub is : put c value ≡ d
  pub again : (other : Choices) → with_setting other option word ≡ Some (put other value)

-- so it is for an option whose values are read to `of`
read-IsPut : {X : Type 0} (of : X → Value) (found : Option X) (c d : Choices) (option : OptionName) (word : Word)
    → ((x : X) → option_of (of x) ≡ option)
    → ((other : Choices) → with_value other option word ≡ option_map (λ x. put other (of x)) found)
    → with_value c option word ≡ Some d → IsPut c option (Some word) d
read-IsPut of found c d option word own reads e =
    let value = mapped (λ x. put c (of x)) found d (sym (reads c) ∙ e) in
    record {
      value = of value.0;
      own = own value.0;
      is = value.2;
      again = λ other. reads other ∙ ap (option_map (λ x. put other (of x))) value.1;
    }

with_value-IsPut : (c d : Choices) (option : OptionName) (word : Word)
    → with_value c option word ≡ Some d → IsPut c option (Some word) d
with_value-IsPut c d option.Format word e =
    read-IsPut of_format (named format_word formats word) c d option.Format word (λ _. refl) (λ _. refl) e
with_value-IsPut c d option.Workers word e =
    read-IsPut of_workers (number_from 1 64 word) c d option.Workers word (λ _. refl) (λ _. refl) e
with_value-IsPut c d option.Cut word e =
    read-IsPut of_cut (named cut_word cuts word) c d option.Cut word (λ _. refl) (λ _. refl) e
with_value-IsPut c d option.Seed word e =
    read-IsPut of_seed (number_of (2 ^ 64 - 1) word) c d option.Seed word (λ _. refl) (λ _. refl) e
with_value-IsPut c d option.Rounds word e =
    read-IsPut of_rounds (number_of (2 ^ 32 - 1) word) c d option.Rounds word (λ _. refl) (λ _. refl) e
with_value-IsPut c d option.Fuel word e =
    read-IsPut of_fuel (number_of (2 ^ 32 - 1) word) c d option.Fuel word (λ _. refl) (λ _. refl) e
with_value-IsPut c d option.Serial word e = cc
with_value-IsPut c d option.Virtual word e =
    read-IsPut of_virtual (number_of (2 ^ 64 - 1) word) c d option.Virtual word (λ _. refl) (λ _. refl) e
with_value-IsPut c d option.Source word e =
    read-IsPut of_source (number_of (2 ^ 32 - 1) word) c d option.Source word (λ _. refl) (λ _. refl) e
with_value-IsPut c d option.Tolerance word e =
    read-IsPut of_tolerance (number_of (2 ^ 64 - 1) word) c d option.Tolerance word (λ _. refl) (λ _. refl) e
with_value-IsPut c d option.Cache word e = cc

with_flag-IsPut : (c d : Choices) (option : OptionName) → with_flag c option ≡ Some d → IsPut c option None d
with_flag-IsPut c d option.Serial e =
    record { value = of_serial; own = refl; is = Some-is (record c { serial = true }) d e; again = λ _. refl }
with_flag-IsPut c d option.Cache e =
    record { value = of_cache; own = refl; is = Some-is (record c { cache = true }) d e; again = λ _. refl }
with_flag-IsPut c d _ e = cc

pub with_setting-IsPut : (c d : Choices) (option : OptionName) (word : Option Word)
    → with_setting c option word ≡ Some d → IsPut c option word d
with_setting-IsPut c d option None e = with_flag-IsPut c d option e
with_setting-IsPut c d option (Some word) e = with_value-IsPut c d option word e

-- what stands with an option more
pub stands-with_setting : (c d : Choices) (option : OptionName) (word : Option Word) → with_setting c option word ≡ Some d
    → (other : OptionName) → stands d other ≡ (eqb (row option) (row other) || stands c other)
stands-with_setting c d option word e other =
    let set = with_setting-IsPut c d option word e in
    let own = subst (λ (o : OptionName). stands (put c set.value) other ≡ (eqb (row o) (row other) || stands c other)) set.own
    (stands-put c set.value other) in
    subst (λ (more : Choices). stands more other ≡ (eqb (row option) (row other) || stands c other)) set.is own

-- and what is excluded
pub excluded-with_setting : (c d : Choices) (option : OptionName) (word : Option Word) → with_setting c option word ≡ Some d
    → (other : OptionName) → is_excluded d other ≡ (excludes option other || is_excluded c other)
excluded-with_setting c d option word e other =
    let set = with_setting-IsPut c d option word e in
    let own = subst (λ (o : OptionName). is_excluded (put c set.value) other ≡ (excludes o other || is_excluded c other)) set.own
    (excluded-put c set.value other) in
    subst (λ (more : Choices). is_excluded more other ≡ (excludes option other || is_excluded c other)) set.is own
