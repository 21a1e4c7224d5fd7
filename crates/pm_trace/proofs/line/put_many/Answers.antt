use Rattle.std.proofs.Common.{arith}
use Rattle.std.proofs.lemmas.Fmt.{length-decimal-le}
use Rattle.pm_trace.proofs.line.put_many.Goals as goal

pub write_digits-requires : goal.write_digits-requires
write_digits-requires c =
    let long = length-decimal-le 10 c.args.n (omega arith) (omega (arith, c.ranges.n.fits)) (omega (arith, c.ranges.n.fits)) in
    (omega (arith, c.requires.room, long), c.requires.within)

pub returns-clause-room : goal.returns-clause-room
returns-clause-room c =
    let long = length-decimal-le 10 c.args.n (omega arith) (omega (arith, c.ranges.n.fits)) (omega (arith, c.ranges.n.fits)) in
    omega (arith, c.write_digits.ensures.start, long)
