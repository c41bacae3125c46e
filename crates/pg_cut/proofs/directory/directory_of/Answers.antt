use Rattle.std.proofs.Common.{ℕ, ◌+◌, ◌*◌, [], ◌∷◌, ◌++◌, map, sym, ◌∙◌, ap, arith}
use Rattle.std.specs.List.{range_with_len}
use Rattle.std.proofs.lemmas.List.FromFn.{map-range_with_len_more}
use Rattle.pg_cut.specs.Directory.{keys_below}
use Rattle.pg_cut.proofs.Blocks.{keys_below-le}
use Rattle.pg_cut.proofs.directory.directory_of.Goals as goal

pub loop-block-preserved : goal.loop-block-preserved
loop-block-preserved c =
    let keys = c.args.keys.now in
    let block = c.loop-block.block in
    let start = λ (b : ℕ). keys_below keys (b * 64) in
    record {
      starts = c.in_ok-push.ensures.items ∙ ap (λ xs. xs ++ c.first_from-place.result ∷ []) c.loop-block.invariant.starts
          ∙ ap (λ n. map start (range_with_len 0 block) ++ n ∷ []) c.first_from-place.ensures ∙ sym (map-range_with_len_more start 0 block block (omega arith));
      place = omega (arith, c.first_from-place.ensures, keys_below-le keys (block * 64) ((block + 1) * 64) (omega arith));
    }
