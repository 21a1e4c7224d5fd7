-- Each digit goes on with the word and its value; the word ends before a blank or the line feed.
use Rattle.std.proofs.Common.{◌<◌, arith, length}
use Rattle.pm_script.proofs.ShortLemmas.{digits_first, digits_next, stands_between, stands_last}
use Rattle.pm_script.proofs.short.short_number.Goals as goal

pub digits-init : goal.digits-init
digits-init c =
    let text = c.args.text.now in
    let from = c.args.from in
    let within : from < length text = omega arith in
    let digit = c.in_ok-number.ensures in
    digits_first text from from c.in_ok-number.number c.requires within (record { digit = digit.digit; solid = digit.solid; sign = digit.sign; value = digit.value; fits = digit.fits })

pub returns-in-32 : goal.returns-in-32
returns-in-32 c = stands_between c.args.text.now c.args.from c.digits.at c.digits.number c.digits-test.true c.in-32.is c.digits.invariant

pub returns-in-10 : goal.returns-in-10
returns-in-10 c = stands_last c.args.text.now c.args.from c.digits.at c.digits.number c.digits-test.true c.in-10.is c.digits.invariant

pub digits-preserved : goal.digits-preserved
digits-preserved c =
    let digit = c.in_ok-number-in_default.ensures in
    digits_next c.args.text.now c.args.from c.digits.at c.digits.number c.in_ok-number-in_default.number c.digits-test.true
    (record { digit = digit.digit; solid = digit.solid; sign = digit.sign; value = digit.value; fits = digit.fits }) c.digits.invariant
