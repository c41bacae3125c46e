-- A fork as a number: the side is bit 0, and dirty, asked and pinned are the bits above.
use Rattle.std.specs.Prelude.{ℕ, ◌+◌, ◌*◌, ◌/◌, ◌%◌, ◌==◌, leb, Bool, true, false, cond, Option, Some, None}
use Rattle.pg_graph.specs.declared.edge.Side.{Side}
use Rattle.pg_graph.specs.declared.edge.Side.TheVariants.{Source, Target}
use Rattle.pg_forks.specs.declared.fork_word.ForkWord.{ForkWord}

abbrev pub bit : Bool → ℕ
bit true = 1
bit false = 0

abbrev pub side_bit : Side → ℕ
side_bit Source = 0
side_bit Target = 1

-- the number of a word
abbrev pub bits_of : ForkWord → ℕ
bits_of w = side_bit w.side + 2 * bit w.dirty + 4 * bit w.asked + 8 * bit w.pinned

-- the word of a number, where it has one
abbrev pub word_of_bits : ℕ → Option ForkWord
word_of_bits n =
    cond (leb n 15)
    (Some (record {
      side = cond (n % 2 == 0) Source Target;
      dirty = n / 2 % 2 == 1;
      asked = n / 4 % 2 == 1;
      pinned = n / 8 % 2 == 1;
    }))
    None
