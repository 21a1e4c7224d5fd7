-- The bytes that were passed are digits, and go on with the word.
use Rattle.pm_script.specs.Short.{first_line}
use Rattle.pm_script.proofs.ShortLemmas.{Digits}
use Rattle.pm_script.proofs.short.short_number.Given as goal

abbrev pub invariant-digits : goal.invariant-digits
invariant-digits l = Digits (first_line l.text) l.from l.at l.number
