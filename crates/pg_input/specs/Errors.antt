-- What the refusals of a builder and of a cutter tell of the text.
use Rattle.std.specs.Prelude.{ℕ}
use Rattle.pg_base.specs.declared.line_cutter.CutError.{CutError}
use Rattle.pg_base.specs.declared.line_cutter.CutError.TheVariants as cut
use Rattle.pg_graph.specs.declared.builder.BuildError.{BuildError}
use Rattle.pg_graph.specs.declared.builder.BuildError.TheVariants as build
use Rattle.pg_input.specs.declared.error.InputError.{InputError}
use Rattle.pg_input.specs.declared.error.InputError.TheVariants.{Limit, ReadFault, Memory}
use Rattle.pg_input.specs.declared.error.Which.TheVariants.{Vertices, Edges, Bytes}

abbrev pub error_of_build : BuildError → InputError
error_of_build (build.Vertices limit) = Limit Vertices limit
error_of_build (build.Edges limit) = Limit Edges limit
error_of_build build.Memory = Memory

abbrev pub error_of_cut : ℕ → CutError → InputError
error_of_cut limit cut.OverLimit = Limit Bytes limit
error_of_cut limit cut.ReadFault = ReadFault
error_of_cut limit cut.Memory = Memory
