-- Texts that are sent through a buffer, one behind another.
use Rattle.std.proofs.Common.{ℕ, List, ◌++◌, sym, ◌∙◌, ap, append_assoc}
use Rattle.std.specs.Prelude.{Option, Result, Ok, Err, OnErr}
use Rattle.std.specs.Io.KnownBytes.{append_known}
use Rattle.pg_base.specs.Writing.{Sent, SendsFront}
use Rattle.pg_base.proofs.Sending.{append_known-append, sent_nothing}

-- a text was put behind what waits, and a front of both was sent
pub sent_then : (before mid after : Option (List ℕ)) (done waiting text rest : List ℕ) → Sent before mid done waiting
    → Sent mid after (waiting ++ text) rest → Sent before after (done ++ text) rest
sent_then before mid after done waiting text rest a b = record {
  front = a.front ++ b.front;
  split = ap (λ xs. xs ++ text) a.split ∙ append_assoc a.front waiting text ∙ ap (λ xs. a.front ++ xs) b.split
      ∙ sym (append_assoc a.front b.front rest);
  appended = b.appended ∙ ap (λ (known : Option (List ℕ)). append_known known b.front) a.appended
      ∙ append_known-append before a.front b.front;
}

pub front_then : (before mid after : Option (List ℕ)) (done waiting text : List ℕ) → Sent before mid done waiting
    → SendsFront mid after (waiting ++ text) → SendsFront before after (done ++ text)
front_then before mid after done waiting text a b = (b.0, sent_then before mid after done waiting text b.0 a b.1)

-- nothing of a text was sent
pub front_nothing : (known : Option (List ℕ)) (text : List ℕ) → SendsFront known known text
front_nothing known text = (text, sent_nothing known text)

-- a front of a text is one of a longer text
pub front_longer : (before after : Option (List ℕ)) (text more : List ℕ) → SendsFront before after text
    → SendsFront before after (text ++ more)
front_longer before after text more a = (
  a.0 ++ more,
  record {
    front = a.1.front;
    split = ap (λ xs. xs ++ more) a.1.split ∙ append_assoc a.1.front a.0 more;
    appended = a.1.appended;
  },
)

-- what holds anyway holds where the answer is Err
pub on_err : {A E : Type 0} (P : Type 0) (r : Result A E) → P → OnErr r P
on_err P (Ok x) h = tt
on_err P (Err e) h = h
