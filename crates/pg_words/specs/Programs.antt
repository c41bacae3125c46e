-- What programs print, and whether their gathers can be kept.
use Rattle.std.specs.Prelude.{Bool, true, false}
use Rattle.pg_words.specs.declared.job.ProgramName.{ProgramName}
use Rattle.pg_words.specs.declared.job.ProgramName.TheVariants.{Components, Colour, Sssp, Rank, Tree}

-- the programs whose values are two numbers
abbrev pub is_wide : ProgramName → Bool
is_wide Components = false
is_wide Colour = false
is_wide (Sssp source) = false
is_wide (Rank tolerance) = false
is_wide (Tree source) = true

-- the programs whose scatters tell how a gather changes
abbrev pub keeps : ProgramName → Bool
keeps Components = true
keeps Colour = false
keeps (Sssp source) = true
keeps (Rank tolerance) = true
keeps (Tree source) = true
