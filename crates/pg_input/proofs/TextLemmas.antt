-- A text line by line.
use Rattle.std.proofs.Common.{◌≡◌, ℕ, ◌+◌, ◌<◌, ◌≤◌, Bool, true, false, cond, List, [], ◌∷◌, ◌++◌, length, refl, sym, ◌∙◌, ap, subst, inl, inr, arith}
use Rattle.std.specs.Prelude.{◌==◌, Option, None, Some, nat_lt, IfSome, IfNone, IsErrOf, Err}
use Rattle.std.specs.Io.KnownBytes.{prepend_known}
use Rattle.std.specs.List.{find}
use Rattle.std.specs.Option.{option_map, option_or}
use Rattle.std.proofs.lemmas.Bool.{cases_Bool}
use Rattle.std.proofs.lemmas.Bool.Decides.{nat_tests}
use Rattle.pg_base.specs.declared.line_cutter.CutError.{CutError}
use Rattle.pg_base.specs.declared.line_cutter.CutError.TheVariants.{OverLimit}
use Rattle.pg_base.specs.declared.line_cutter.CutError.TheVariants as cut
use Rattle.pg_input.specs.Errors.{error_of_cut}
use Rattle.pg_base.specs.Lines.{first_line, has_feed, later_lines, first_width, width_of}
use Rattle.pg_base.specs.Cutting.{IsFirstLine}
use Rattle.pg_base.proofs.LineEnds.{first_line_and_later}
use Rattle.pg_graph.specs.Building.{Building}
use Rattle.pg_readers.specs.declared.line.Format.{Format}
use Rattle.pg_readers.specs.Lines.{line_says}
use Rattle.pg_input.specs.declared.error.InputError.{InputError}
use Rattle.pg_input.specs.declared.error.InputError.TheVariants.{Line, Limit, ReadFault, Memory}
use Rattle.pg_input.specs.declared.error.Which.TheVariants.{Bytes}
use Rattle.pg_input.specs.Events.{with_said, event_of_said, IsEventOf}
use Rattle.pg_input.specs.Reading.{is_stop_line, with_lines, event_of_lines, stop_of, bytes_of_stop, is_stop_ended, behind_stop}
use Rattle.pg_input.specs.Texts.{TextLine, text_line, lines, onto_first, width}

-- the lines of a text are its first line and those behind it
pub lines-first : (text : List ℕ) → 0 < length text → lines text ≡ text_line (first_line text) (has_feed text) (later_lines text) ∷ lines (later_lines text)
lines-first [] some = absurd (omega arith)
lines-first (byte ∷ []) some = elim (cases_Bool (byte == 10)) [ inl here ↦ rw here refl | inr not_here ↦ rw not_here refl ]
lines-first (byte ∷ next ∷ text) some = elim (cases_Bool (byte == 10)) [
  | inl here ↦ rw here refl
  | inr not_here ↦ let behind = lines-first (next ∷ text) (omega arith) in rw not_here (ap (onto_first byte) behind)
]

no_event_first : (event : Option InputError) → event ≡ None → (more : Option InputError) → option_or event more ≡ more
no_event_first None is more = refl
no_event_first (Some e) is more = absurd (cc)

first_told : (event more : Option InputError) (e : InputError) → IsEventOf event e → IsEventOf (option_or event more) e
first_told event more (Line number kind) is = rw is refl
first_told event more (Limit which limit) is = rw is refl
first_told event more ReadFault is = tt
first_told event more Memory is = tt

is_not : (b : Bool) → (b ≡ true → ⊥) → b ≡ false
is_not true not = absurd (not refl)
is_not false not = refl

within : (limit end : ℕ) → end ≤ limit → nat_lt limit end ≡ false
within limit end h = grind (arith, nat_tests)

past : (limit end : ℕ) → limit < end → nat_lt limit end ≡ true
past limit end h = grind (arith, nat_tests)

-- lines behind so many bytes, from one with this number on, and what the lines before them built
pub record Standing : Type 0 where
  pub built : Building
  pub number : ℕ
  pub given : ℕ

abbrev pub standing : Building → ℕ → ℕ → Standing
standing built number given = record { built = built; number = number; given = given }

module _ (format : Format) (stop : Option (List ℕ)) (limit : ℕ) where
  abbrev pub built_at : Standing → List ℕ → Building
  built_at at text = with_lines format stop at.built (lines text)

  abbrev pub event_at : Standing → List ℕ → Option InputError
  event_at at text = event_of_lines format stop limit at.built at.number at.given (lines text)

  -- what comes completes what was built of the text, its first event and its stop line
  pub record IsRest (start now : Standing) (text rest : List ℕ) : Type 0 where
    pub built : built_at now rest ≡ built_at start text
    pub event : event_at now rest ≡ event_at start text
    pub stop_line : find (λ line. is_stop_line stop line.bytes) (lines rest) ≡ find (λ line. is_stop_line stop line.bytes) (lines text)
    pub bytes : now.given + length rest ≡ start.given + length text

  pub rest_at_start : (start : Standing) (text : List ℕ) → IsRest start start text text
  rest_at_start start text = record { built = refl; event = refl; stop_line = refl; bytes = refl }

  -- what is answered of a text that was read up to a stop line or to its end
  pub record IsDone (start : Standing) (built : Building) (given : ℕ) (found : Option (List ℕ)) (ended : Bool) (new : Option (List ℕ)) (text : List ℕ) : Type 0 where
    pub built_is : built ≡ built_at start text
    pub no_event : event_at start text ≡ None
    pub stop_is : found ≡ bytes_of_stop (stop_of stop text)
    pub ended_is : ended ≡ is_stop_ended (stop_of stop text)
    pub behind : new ≡ Some (behind_stop (stop_of stop text))
    pub bytes : given + length (behind_stop (stop_of stop text)) ≡ start.given + length text

  module _ (start now : Standing) (text rest : List ℕ) (so_far : IsRest start now text rest) where
    -- the next line passes the limit of bytes
    pub over : 0 < length rest → limit < now.given + first_width rest → event_at start text ≡ Some (Limit Bytes limit)
    over some passes =
        let limited : nat_lt limit (now.given + width (text_line (first_line rest) (has_feed rest) (later_lines rest))) ≡ true = past limit _ passes in
        sym so_far.event ∙ (ap (event_of_lines format stop limit now.built now.number now.given) (lines-first rest some) ∙ rw limited refl)

    -- nothing comes
    pub at_end : (new : Option (List ℕ)) → rest ≡ [] → new ≡ Some (later_lines rest) → IsDone start now.built now.given None false new text
    at_end new nothing later =
        let none : stop_of stop text ≡ None = sym so_far.stop_line ∙ ap (λ (bytes : List ℕ). stop_of stop bytes) nothing in
        let empty : length rest ≡ 0 = ap length nothing in
        record {
          built_is = sym (ap (λ (bytes : List ℕ). built_at now bytes) nothing) ∙ so_far.built;
          no_event = sym so_far.event ∙ ap (λ (bytes : List ℕ). event_at now bytes) nothing;
          stop_is = sym (ap bytes_of_stop none);
          ended_is = sym (ap is_stop_ended none);
          behind = later ∙ (ap (λ (bytes : List ℕ). Some (later_lines bytes)) nothing ∙ sym (ap (λ (line : Option TextLine). Some (behind_stop line)) none));
          bytes = omega (arith, ap (λ (line : Option TextLine). length (behind_stop line)) none, so_far.bytes, empty);
        }

    module _ (line : List ℕ) (ended : Bool) (first : IsFirstLine rest (Some (line, ended))) (fits : now.given + width_of (length line) ended ≤ limit) where
      lines_are : lines rest ≡ text_line line ended (later_lines rest) ∷ lines (later_lines rest)
      lines_are = rw (first.1, first.2) (lines-first rest first.0)

      bytes_are : width_of (length line) ended + length (later_lines rest) ≡ length rest
      bytes_are = rw (first.1, first.2) (first_line_and_later rest)

      -- the first event of this line where it is no stop line, and the first behind it
      abbrev event_here : Option InputError
      event_here = event_of_said now.built now.number (line_says format line)

      abbrev event_behind : Option InputError
      event_behind = event_at (standing (with_said now.built (line_says format line)) (now.number + 1) (now.given + width_of (length line) ended)) (later_lines rest)

      event_is : event_at now rest ≡ cond (is_stop_line stop line) None (option_or event_here event_behind)
      event_is =
          let limited : nat_lt limit (now.given + width_of (length line) ended) ≡ false = within limit _ fits in
          ap (event_of_lines format stop limit now.built now.number now.given) lines_are ∙ rw limited refl

      -- it is the stop line
      pub at_stop : (new : Option (List ℕ)) → is_stop_line stop line ≡ true → new ≡ Some (later_lines rest) → IsDone start now.built (now.given + width_of (length line) ended) (Some line) ended new text
      at_stop new stops later =
          let found : stop_of stop text ≡ Some (text_line line ended (later_lines rest)) = sym so_far.stop_line ∙ (ap (find (λ (line : TextLine). is_stop_line stop line.bytes)) lines_are ∙ rw stops refl) in
          record {
            built_is = sym (ap (with_lines format stop now.built) lines_are ∙ rw stops refl) ∙ so_far.built;
            no_event = sym so_far.event ∙ (event_is ∙ rw stops refl);
            stop_is = sym (ap bytes_of_stop found);
            ended_is = sym (ap is_stop_ended found);
            behind = later ∙ sym (ap (λ (line : Option TextLine). Some (behind_stop line)) found);
            bytes = omega (arith, ap (λ (line : Option TextLine). length (behind_stop line)) found, so_far.bytes, bytes_are);
          }

      module _ (goes_on : is_stop_line stop line ≡ false) where
        -- it has an event
        event_goes_on : event_at start text ≡ option_or event_here event_behind
        event_goes_on = sym so_far.event ∙ (event_is ∙ rw goes_on refl)

        pub refused : (e : InputError) → IsEventOf event_here e → IsEventOf (event_at start text) e
        refused e is =
            let P : Option InputError → Type 0 = λ event. IsEventOf event e in
            subst P (sym event_goes_on) (first_told event_here event_behind e is)

        -- it has none
        pub rest_behind : (more : Building) → more ≡ with_said now.built (line_says format line) → event_here ≡ None
            → IsRest start (standing more (now.number + 1) (now.given + width_of (length line) ended)) text (later_lines rest)
        rest_behind more is fine = record {
          built = ap (λ (b : Building). with_lines format stop b (lines (later_lines rest))) is ∙ (sym (ap (with_lines format stop now.built) lines_are ∙ rw goes_on refl) ∙ so_far.built);
          event = ap (λ (b : Building). event_at (standing b (now.number + 1) (now.given + width_of (length line) ended)) (later_lines rest)) is
              ∙ (sym (no_event_first event_here fine event_behind) ∙ sym event_goes_on);
          stop_line = sym (ap (find (λ (line : TextLine). is_stop_line stop line.bytes)) lines_are ∙ rw goes_on refl) ∙ so_far.stop_line;
          bytes = omega (arith, so_far.bytes, bytes_are);
        }

-- what holds of a text and of what comes of it, where both are told
abbrev pub BothTold : (List ℕ → List ℕ → Type 0) → Option (List ℕ) → Option (List ℕ) → Type 0
BothTold R None rest = Unit {0}
BothTold R (Some text) None = ⊥
BothTold R (Some text) (Some rest) = R text rest

pub told_at_start : (R : List ℕ → List ℕ → Type 0) → ((text : List ℕ) → R text text) → (left : Option (List ℕ)) → BothTold R left left
told_at_start R start None = tt
told_at_start R start (Some text) = start text

-- what follows of the text
pub told : (R : List ℕ → List ℕ → Type 0) (P Q : List ℕ → Type 0) (left ahead : Option (List ℕ)) → BothTold R left ahead → IfSome ahead P → ((text rest : List ℕ) → R text rest → P rest → Q text) → IfSome left Q
told R P Q None ahead both first follows = tt
told R P Q (Some text) None both first follows = absurd both
told R P Q (Some text) (Some rest) both first follows = follows text rest both first

-- and once its first line was taken
pub told_later : (R S : List ℕ → List ℕ → Type 0) (P : List ℕ → Type 0) (left ahead new : Option (List ℕ)) → BothTold R left ahead → IfSome ahead P → new ≡ option_map later_lines ahead
    → ((text rest : List ℕ) → R text rest → P rest → S text (later_lines rest)) → BothTold S left new
told_later R S P None ahead new both first later follows = tt
told_later R S P (Some text) None new both first later follows = absurd both
told_later R S P (Some text) (Some rest) new both first later follows = let Both : Option (List ℕ) → Type 0 = λ known. BothTold S (Some text) known in subst Both (sym later) (follows text rest both first)

pub told_behind : (R : List ℕ → List ℕ → Type 0) (P Q : List ℕ → Type 0) (left ahead new : Option (List ℕ)) → BothTold R left ahead → IfSome ahead P → new ≡ option_map later_lines ahead
    → ((text rest : List ℕ) → R text rest → P rest → new ≡ Some (later_lines rest) → Q text) → IfSome left Q
told_behind R P Q None ahead new both first later follows = tt
told_behind R P Q (Some text) None new both first later follows = absurd both
told_behind R P Q (Some text) (Some rest) new both first later follows = follows text rest both first later

module _ (format : Format) (stop : Option (List ℕ)) (limit : ℕ) (start now : Standing) (left ahead : Option (List ℕ)) (both : BothTold (IsRest format stop limit start now) left ahead) where
  -- the next line passes the limit of bytes
  pub over_told : IfSome ahead (λ text. 0 < length text) → IfSome ahead (λ text. limit < now.given + first_width text) → IfSome left (λ text. event_at format stop limit start text ≡ Some (Limit Bytes limit))
  over_told some passes =
      let P : List ℕ → Type 0 = λ rest. (0 < length rest) × (limit < now.given + first_width rest) in
      told (IsRest format stop limit start now) P (λ text. event_at format stop limit start text ≡ Some (Limit Bytes limit)) left ahead both (both_some ahead some passes)
      (λ text rest so_far both. over format stop limit start now text rest so_far both.0 both.1)
    where
      both_some : (ahead : Option (List ℕ)) → IfSome ahead (λ text. 0 < length text) → IfSome ahead (λ text. limit < now.given + first_width text) → IfSome ahead (λ text. (0 < length text) × (limit < now.given + first_width text))
      both_some None some passes = tt
      both_some (Some text) some passes = (some, passes)

  module _ (line : List ℕ) (ended : Bool) (first : IfSome ahead (λ text. IsFirstLine text (Some (line, ended)))) (fits : now.given + width_of (length line) ended ≤ limit) where
    -- the next line is the stop line
    pub stop_told : (new : Option (List ℕ)) → is_stop_line stop line ≡ true → new ≡ option_map later_lines ahead
        → IfSome left (IsDone format stop limit start now.built (now.given + width_of (length line) ended) (Some line) ended new)
    stop_told new stops later =
        told_behind (IsRest format stop limit start now) (λ text. IsFirstLine text (Some (line, ended))) (IsDone format stop limit start now.built (now.given + width_of (length line) ended) (Some line) ended new)
        left ahead new both first later (λ text rest so_far first later. at_stop format stop limit start now text rest so_far line ended first fits new stops later)

    -- it has an event
    pub refused_told : is_stop_line stop line ≡ false → (e : InputError) → IsEventOf (event_of_said now.built now.number (line_says format line)) e → IfSome left (λ text. IsEventOf (event_at format stop limit start text) e)
    refused_told goes_on e is =
        told (IsRest format stop limit start now) (λ text. IsFirstLine text (Some (line, ended))) (λ text. IsEventOf (event_at format stop limit start text) e)
        left ahead both first (λ text rest so_far first. refused format stop limit start now text rest so_far line ended first fits goes_on e is)

    -- it has none
    pub rest_told : is_stop_line stop line ≡ false → (more : Building) → more ≡ with_said now.built (line_says format line) → event_of_said now.built now.number (line_says format line) ≡ None
        → (new : Option (List ℕ)) → new ≡ option_map later_lines ahead → BothTold (IsRest format stop limit start (standing more (now.number + 1) (now.given + width_of (length line) ended))) left new
    rest_told goes_on more is fine new later =
        told_later (IsRest format stop limit start now) (IsRest format stop limit start (standing more (now.number + 1) (now.given + width_of (length line) ended))) (λ text. IsFirstLine text (Some (line, ended)))
        left ahead new both first later (λ text rest so_far first. rest_behind format stop limit start now text rest so_far line ended first fits goes_on more is fine)

-- a refusal of the cutter, which is an event where it is that of the limit
pub cut_told : {A : Type 0} (refusal : CutError) (left : Option (List ℕ)) (event : List ℕ → Option InputError) (limit : ℕ) → (IsErrOf {T = A} (Err refusal) OverLimit → IfSome left (λ text. event text ≡ Some (Limit Bytes limit)))
    → IfSome left (λ text. IsEventOf (event text) (error_of_cut limit refusal))
cut_told OverLimit left event limit over = over refl
cut_told cut.ReadFault None event limit over = tt
cut_told cut.ReadFault (Some text) event limit over = tt
cut_told cut.Memory None event limit over = tt
cut_told cut.Memory (Some text) event limit over = tt

-- a refusal that is no repetition
pub none_told : (P : Type 0) (refusal : Option CutError) → refusal ≡ None → IfNone refusal P → P
none_told P None none p = p
none_told P (Some e) none p = absurd (cc)

-- a whole text has no stop line, so nothing comes behind it
no_stop : (lines : List TextLine) → find (λ line. is_stop_line None line.bytes) lines ≡ None
no_stop [] = refl
no_stop (line ∷ lines) = no_stop lines

nothing_behind : (held rest : List ℕ) → held ++ rest ≡ [] → rest ≡ []
nothing_behind [] rest none = none
nothing_behind (byte ∷ held) rest none = absurd (cc)

some_is : (a b : List ℕ) → ◌≡◌ {A = Option (List ℕ)} (Some a) (Some b) → a ≡ b
some_is a b same = cc

nothing_left : (held : List ℕ) (left : Option (List ℕ)) → prepend_known held left ≡ Some [] → left ≡ Some []
nothing_left held None none = absurd (cc)
nothing_left held (Some rest) none = ap (λ (bytes : List ℕ). Some bytes) (nothing_behind held rest (some_is (held ++ rest) [] none))

pub all_read : (held : List ℕ) (left : Option (List ℕ)) → held ≡ [] → (new_held : List ℕ) (new_left : Option (List ℕ))
    → IfSome (prepend_known held left) (λ text. prepend_known new_held new_left ≡ Some (behind_stop (stop_of None text))) → IfSome left (λ text. new_left ≡ Some [])
all_read held None fresh new_held new_left behind = tt
all_read held (Some text) fresh new_held new_left behind = nothing_left new_held new_left (behind ∙ ap (λ (line : Option TextLine). Some (behind_stop line)) (no_stop (lines (held ++ text))))
