use Rattle.std.proofs.Common.{◌<◌, length, arith}
use Rattle.pg_serial.proofs.Words.{taken_within, least_number, few_zeros}
use Rattle.pg_serial.proofs.bits.least_in.Goals as goal

pub overflow_add-result : goal.overflow_add-result
overflow_add-result c =
    let within : c.args.at < length c.args.words.now = taken_within c.args.words.now c.args.at c.requires.taken.passes in
    omega (arith, c.requires.few, within, few_zeros c.args.words.now c.args.at c.requires.taken (c.type_inv.words c.args.at).fits)

pub returns : goal.returns
returns c =
    let within : c.args.at < length c.args.words.now = taken_within c.args.words.now c.args.at c.requires.taken.passes in
    least_number c.args.words.now c.args.at c.requires.taken (c.type_inv.words c.args.at).fits
