-- The texts of a list of entries, entry by entry.
use Rattle.std.proofs.Common.{◌≡◌, ℕ, ◌+◌, ◌<◌, List, ◌++◌, length, get_or, take, drop, sym, ◌∙◌, ap, subst, append_assoc, take-append-drop}
use Rattle.std.specs.Prelude.{Option, flat_map}
use Rattle.std.proofs.lemmas.List.{flat_map_more, take_more}
use Rattle.std.proofs.lemmas.Grind.{flat_map-append}
use Rattle.pg_base.specs.Writing.{Sent, SendsFront}
use Rattle.pg_law.specs.declared.values.JournalEntry.{JournalEntry}
use Rattle.pg_serial.proofs.Waiting.{sent_then, front_then, front_longer}

module _ (text : JournalEntry → List ℕ) (start : List ℕ) (entries : List JournalEntry) (i : ℕ) (d : JournalEntry) (inside : i < length entries) where
  abbrev entry : JournalEntry
  entry = get_or entries i d

  -- what was put so far, and the whole
  abbrev done : ℕ → List ℕ
  done n = start ++ flat_map text (take n entries)

  more : done i ++ text entry ≡ done (i + 1)
  more = flat_map_more text start (take i entries) entry ∙ ap (λ xs. start ++ flat_map text xs) (sym (take_more entries i d inside))

  split : (n : ℕ) → start ++ flat_map text entries ≡ done n ++ flat_map text (drop n entries)
  split n = ap (λ xs. start ++ flat_map text xs) (sym (take-append-drop n entries)) ∙ ap (λ ys. start ++ ys) (flat_map-append text (take n entries) (drop n entries))
      ∙ sym (append_assoc start (flat_map text (take n entries)) (flat_map text (drop n entries)))

  -- one more is put
  pub put_more : (before mid after : Option (List ℕ)) (waiting rest : List ℕ) → Sent before mid (done i) waiting → Sent mid after (waiting ++ text entry) rest → Sent before after (done (i + 1)) rest
  put_more before mid after waiting rest a b = let Goes : List ℕ → Type 0 = λ all. Sent before after all rest in
      subst Goes more (sent_then before mid after (done i) waiting (text entry) rest a b)

  -- or a front of it
  pub put_front : (before mid after : Option (List ℕ)) (waiting : List ℕ) → Sent before mid (done i) waiting → SendsFront mid after (waiting ++ text entry)
      → SendsFront before after (start ++ flat_map text entries)
  put_front before mid after waiting a b = subst (SendsFront before after) (sym (split (i + 1)))
      (front_longer before after (done (i + 1)) (flat_map text (drop (i + 1) entries)) (subst (SendsFront before after) more (front_then before mid after (done i) waiting (text entry) a b)))
