-- The words before the options: they are what the head or lead that they lead to wants, and such words lead to it.
use Rattle.std.proofs.Common.{◌≡◌, ℕ, List, [], ◌∷◌, ◌++◌, Some, refl, sym, ap, ◌∙◌}
use Rattle.std.specs.Option.{option_map}
use Rattle.pg_words.specs.Names.{Word, named, engines, engine_word, first_words, first_word, programs, program_word}
use Rattle.pg_words.specs.Options.{no_choices, number_from}
use Rattle.pg_words.specs.Jobs.{head_parts}
use Rattle.pg_words.specs.Parts.{Part, name, number, Spells, SpellAll}
use Rattle.pg_words.specs.Reading.{led_first, led, standing, start, next, after}
use Rattle.pg_words.specs.declared.head.Head.{Head}
use Rattle.pg_words.specs.declared.head.Head.TheVariants as heads
use Rattle.pg_words.specs.declared.lead.Lead.{Lead}
use Rattle.pg_words.specs.declared.lead.Lead.TheVariants as leads
use Rattle.pg_words.specs.declared.lead.Led.{Led}
use Rattle.pg_words.specs.declared.lead.Led.TheVariants as to
use Rattle.pg_words.specs.declared.names.FirstWord.{FirstWord}
use Rattle.pg_words.specs.declared.names.FirstWord.TheVariants as first
use Rattle.pg_words.specs.declared.reading.Reading.{Reading}
use Rattle.pg_words.specs.declared.reading.Reading.TheVariants as reading
use Rattle.pg_words.proofs.Naming.{named-word, engine_word-named, first_word-named, program_word-named, mapped}

-- what the words that stand had to be
abbrev pub lead_parts : Lead → List Part
lead_parts leads.Start = []
lead_parts leads.Check = name (first_word first.Check) ∷ []
lead_parts (leads.Run engine) = name (first_word (first.Engine engine)) ∷ []
lead_parts (leads.CheckBy engine) = name (first_word first.Check) ∷ name (engine_word engine) ∷ []

abbrev pub led_parts : Led → List Part
led_parts (to.Lead lead) = lead_parts lead
led_parts (to.Head head) = head_parts head

-- the word is what a word more had to be
pub record IsNext (lead : Lead) (word : Word) (led : Led) : Type 0 where
  pub part : Part
  pub spells : Spells word part
  pub parts : led_parts led ≡ lead_parts lead ++ part ∷ []

-- so it is where the word stands in a table
of_table : {X : Type 0} (word_of : X → Word) (table : List X) (to : X → Led) (lead : Lead) (word : Word) (found : Led)
    → ((x : X) → led_parts (to x) ≡ lead_parts lead ++ name (word_of x) ∷ [])
    → option_map to (named word_of table word) ≡ Some found → IsNext lead word found
of_table word_of table to lead word found parts e =
    let row = mapped to (named word_of table word) found e in
    record {
      part = name (word_of row.0);
      spells = named-word word_of table word row.0 row.1;
      parts = ap led_parts (sym row.2) ∙ parts row.0;
    }

-- and where it is a number within bounds
of_number : (least most : ℕ) (to : ℕ → Led) (lead : Lead) (word : Word) (found : Led)
    → ((value : ℕ) → led_parts (to value) ≡ lead_parts lead ++ number least most value ∷ [])
    → option_map to (number_from least most word) ≡ Some found → IsNext lead word found
of_number least most to lead word found parts e =
    let row = mapped to (number_from least most word) found e in
    record {
      part = number least most row.0;
      spells = row.1;
      parts = ap led_parts (sym row.2) ∙ parts row.0;
    }

-- a row for each first word
led_first-spells : (word : FirstWord) → led_parts (led_first word) ≡ name (first_word word) ∷ []
led_first-spells (first.Engine engine) = refl
led_first-spells first.Check = refl
led_first-spells first.Cut = refl

-- a row for each lead
led-spells : (lead : Lead) (word : Word) (found : Led) → led lead word ≡ Some found → IsNext lead word found
led-spells leads.Start word found e =
    of_table first_word first_words led_first leads.Start word found led_first-spells e
led-spells leads.Check word found e =
    of_table engine_word engines (λ engine. to.Lead (leads.CheckBy engine)) leads.Check word found (λ _. refl) e
led-spells (leads.Run engine) word found e =
    of_table program_word programs (λ program. to.Head (heads.Run engine program)) (leads.Run engine) word found (λ _. refl) e
led-spells (leads.CheckBy engine) word found e =
    of_table program_word programs (λ program. to.Head (heads.Check engine program)) (leads.CheckBy engine) word found (λ _. refl) e

-- what stands with a word more
pub record IsLed (lead : Lead) (word : Word) (more : Reading) : Type 0 where
  pub led : Led
  pub next : IsNext lead word led
  pub is : more ≡ standing led

pub lead_step : (lead : Lead) (word : Word) (more : Reading)
    → next (reading.Lead lead) word ≡ Some more → IsLed lead word more
lead_step lead word more e =
    let found = mapped standing (led lead word) more e in
    record { led = found.0; next = led-spells lead word found.0 found.1; is = sym found.2 }

-- words with one more
pub SpellAll-push : (words : List Word) (parts : List Part) (word : Word) (part : Part)
    → SpellAll words parts → Spells word part → SpellAll (words ++ word ∷ []) (parts ++ part ∷ [])
SpellAll-push [] [] word part all last = (last, tt)
SpellAll-push [] (other ∷ parts) word part all last = absurd all
SpellAll-push (first ∷ words) [] word part all last = absurd all
SpellAll-push (first ∷ words) (other ∷ parts) word part all last = (all.0, SpellAll-push words parts word part all.1 last)

-- the first of the words, and the others
record IsCons (words : List Word) (part : Part) (parts : List Part) : Type 0 where
  pub word : Word
  pub rest : List Word
  pub is : words ≡ word ∷ rest
  pub spells : Spells word part
  pub others : SpellAll rest parts

SpellAll-cons : (words : List Word) (part : Part) (parts : List Part) → SpellAll words (part ∷ parts) → IsCons words part parts
SpellAll-cons [] part parts all = absurd all
SpellAll-cons (word ∷ words) part parts all = record { word = word; rest = words; is = refl; spells = all.0; others = all.1 }

-- or no words
SpellAll-nil : (words : List Word) → SpellAll words [] → words ≡ []
SpellAll-nil [] all = refl
SpellAll-nil (word ∷ words) all = absurd all

-- the words of a head lead to it
pub after-head_parts : (head : Head) (front words : List Word) → SpellAll front (head_parts head)
    → after start (front ++ words) ≡ after (reading.Options head no_choices) words
after-head_parts (heads.Run engine program) front words all =
    let one = SpellAll-cons front (name (first_word (first.Engine engine))) (name (program_word program) ∷ []) all in
    let two = SpellAll-cons one.rest (name (program_word program)) [] one.others in
    let end = SpellAll-nil two.rest two.others in
    rw (one.is, two.is, end, one.spells, two.spells, first_word-named (first.Engine engine), program_word-named program) refl
after-head_parts (heads.Check engine program) front words all =
    let one = SpellAll-cons front (name (first_word first.Check)) (name (engine_word engine) ∷ name (program_word program) ∷ []) all in
    let two = SpellAll-cons one.rest (name (engine_word engine)) (name (program_word program) ∷ []) one.others in
    let three = SpellAll-cons two.rest (name (program_word program)) [] two.others in
    let end = SpellAll-nil three.rest three.others in
    rw (one.is, two.is, three.is, end, one.spells, two.spells, three.spells, engine_word-named engine, program_word-named program) refl
after-head_parts heads.Cut front words all =
    let one = SpellAll-cons front (name (first_word first.Cut)) [] all in
    let end = SpellAll-nil one.rest one.others in
    rw (one.is, end, one.spells) refl
