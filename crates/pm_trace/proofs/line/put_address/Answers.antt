use Rattle.std.proofs.Common.{arith}
use Rattle.std.proofs.lemmas.Fmt.{length-decimal-le}
use Rattle.pm_trace.proofs.line.put_address.Goals as goal

pub write_digits-at-requires : goal.write_digits-at-requires
write_digits-at-requires c =
    let long = length-decimal-le 20 c.args.address (omega arith) (omega (arith, c.ranges.address.fits)) (omega (arith, c.ranges.address.fits)) in
    (omega (arith, c.requires.room, long), c.requires.within)

pub put_space-requires-clause-room : goal.put_space-requires-clause-room
put_space-requires-clause-room c =
    let long = length-decimal-le 20 c.args.address (omega arith) (omega (arith, c.ranges.address.fits)) (omega (arith, c.ranges.address.fits)) in
    omega (arith, c.requires.room, c.write_digits-at.ensures.start, long)

pub returns-clause-room : goal.returns-clause-room
returns-clause-room c =
    let long = length-decimal-le 20 c.args.address (omega arith) (omega (arith, c.ranges.address.fits)) (omega (arith, c.ranges.address.fits)) in
    omega (arith, c.put_space.ensures.room, c.write_digits-at.ensures.start, long)
