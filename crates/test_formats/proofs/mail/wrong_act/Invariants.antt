use Rattle.std.proofs.Common.{◌≡◌, length}
use Rattle.test_formats.proofs.mail.wrong_act.Given as goal

abbrev pub invariant-loop-place : goal.invariant-loop-place
invariant-loop-place l = length l.mail ≡ 3
