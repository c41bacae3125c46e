use Rattle.std.proofs.Common.{◌≡◌, ℕ, List, false, sym, ◌∙◌, ap, subst}
use Rattle.pg_serial.specs.Bits.{has, is_taken}
use Rattle.pg_serial.proofs.Words.{none_taken}
use Rattle.pg_serial.proofs.Summaries.{summary_none}
use Rattle.pg_serial.proofs.signal_set.SignalSet.least.Goals as goal

pub returns-in-None : goal.returns-in-None
returns-in-None c = let s = c.self.inside in
    let IsNone : List ℕ → Type 0 = λ words. (i : ℕ) → is_taken words i ≡ false in
    let none : IsNone s.blocks.items = subst IsNone c.as_slice.ensures.value c.in-None.ensures in
    λ i. ap (λ (bits : List ℕ). has bits i) (sym c.self.view_is) ∙ summary_none s.groups.items s.bits.items c.self.invariant.groups_are
    (summary_none s.blocks.items s.groups.items c.self.invariant.blocks_are (none_taken s.blocks.items none)) i
