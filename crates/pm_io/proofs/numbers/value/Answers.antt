use Rattle.std.proofs.Common.{◌+◌, ◌*◌, ◌<◌, get_or, drop, arith}
use Rattle.std.proofs.lemmas.Grind.{common_steps}
use Rattle.std.proofs.lemmas.List.{at_drop_more}
use Rattle.std.specs.Char.{digit_value}
use Rattle.std.specs.Str.Parse.{digits_value, digits_value_after}
use Rattle.pm_io.proofs.NumbersLemmas.{digits_value_after-ge, at_most-above, at_most-refused}
use Rattle.pm_io.proofs.numbers.value.Goals as goal

pub returns-in_err-total : goal.returns-in_err-total
returns-in_err-total c =
    let digits = c.args.digits.now in
    let base = c.args.base in
    let at = c.digits.byte-index in
    let next = c.digits.total * base + digit_value (get_or digits at 0) in
    let turn = at_drop_more (digits_value_after base c.digits.total) digits at 0 c.digits-test.true in
    let grown = digits_value_after-ge base next (drop (at + 1) digits) (omega (arith, c.requires.low)) in
    let above : c.args.greatest < digits_value base digits = grind (arith, common_steps, at_most-refused) in
    let none = at_most-above c.args.greatest base digits above in
    grind (arith, common_steps)
