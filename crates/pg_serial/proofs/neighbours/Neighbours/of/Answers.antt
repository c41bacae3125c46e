use Rattle.std.proofs.Common.{◌≡◌, ◌∙◌, ℕ, [], ◌∷◌, ◌++◌, length, ap, arith}
use Rattle.std.proofs.lemmas.List.{length_push}
use Rattle.pg_serial.proofs.Neighbouring.{row_more}
use Rattle.pg_serial.proofs.neighbours.Neighbours.of.Goals as goal

pub loop-v-preserved : goal.loop-v-preserved
loop-v-preserved c =
    let starts = c.loop-v.starts.items in
    let ends = c.loop-v.ends.items in
    let long : c.len-in-loop-v.result ≡ length ends = omega (arith, c.len-in-loop-v.ensures, c.loop-v.ends.ok) in
    let starts_are = c.in_ok-push.ensures.items ∙ ap (λ (n : ℕ). starts ++ n ∷ []) long in
    record {
      rows = rw (starts_are, c.in_ok-push_row.ensures) (row_more c.args.graph.now starts ends c.loop-v.v c.loop-v.invariant.count c.loop-v.invariant.rows);
      count = omega (arith, ap length starts_are, length_push starts (length ends), c.loop-v.invariant.count);
    }
