-- What holds of a text that is told.
use Rattle.std.proofs.Common.{List, ℕ}
use Rattle.std.specs.Prelude.{Option, Some, None, IfSome}

-- two things that hold of the text, where it is told
pub if_both : {P Q R : List ℕ → Type 0} (o : Option (List ℕ)) → ((x : List ℕ) → P x → Q x → R x) → IfSome o P → IfSome o Q → IfSome o R
if_both None go p q = tt
if_both (Some x) go p q = go x p q
