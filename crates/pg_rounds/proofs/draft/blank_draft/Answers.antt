use Rattle.std.proofs.Common.{None, length, ap, arith, ◌∙◌}
use Rattle.std.proofs.lemmas.List.FromFn.{length-map-range_with_len, get_or-map-range_with_len}
use Rattle.pg_law.specs.Configuration.{Configuration, datum_in, message_in}
use Rattle.pg_law.specs.Carries.{carry_at}
use Rattle.pg_rounds.proofs.draft.blank_draft.Goals as goal

pub returns-clause-blank : goal.returns-clause-blank
returns-clause-blank g c =
    let same = c.in_ok-from_slice.ensures.items ∙ c.as_slice.ensures.value ∙ ap (λ (s : Configuration). s.values) c.state.view_is in
    let count = c.vertices-room.ensures.value in
    record {
      carry_count = ap length c.in_ok-nothings.ensures ∙ length-map-range_with_len _ 0 c.vertices-room.result ∙ count;
      value_count = ap length same ∙ c.requires;
      message_count = ap length c.in_ok-nothings-2.ensures ∙ length-map-range_with_len _ 0 c.vertices-room.result ∙ count;
      carry = λ v h. ap (λ xs. carry_at xs v) c.in_ok-nothings.ensures ∙ get_or-map-range_with_len _ 0 c.vertices-room.result v v None (omega (arith, h, count)) (omega arith);
      datum = λ v h. ap (λ xs. datum_in xs v) same;
      message = λ v h. ap (λ xs. message_in xs v) c.in_ok-nothings-2.ensures ∙ get_or-map-range_with_len _ 0 c.vertices-room.result v v None (omega (arith, h, count)) (omega arith);
    }
