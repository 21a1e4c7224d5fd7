use Rattle.std.proofs.Common.{◌<◌, ◌^◌, length, arith}
use Rattle.pm_object.proofs.spelling.spell_header.Goals as goal

pub overflow_cast-len-2 : goal.overflow_cast-len-2
overflow_cast-len-2 c =
    let fit : length c.args.object.now.order < 2 ^ 32 = c.requires 1 0 (omega arith) in
    omega (arith, fit, c.len-2.ensures)
