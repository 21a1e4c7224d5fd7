use Rattle.std.proofs.Common.{◌/◌, ◌∙◌, ◌++◌, ℕ, arith, ap}
use Rattle.std.specs.Prelude.{decimal, drop}
use Rattle.std.proofs.lemmas.Fmt.{length-decimal-le}
use Rattle.pm_trace.proofs.StepTextLemmas.{tens_text}
use Rattle.pm_trace.proofs.step_text.Tens.find.Goals as goal

pub write_digits-self-inside-requires : goal.write_digits-self-inside-requires
write_digits-self-inside-requires c =
    let front = c.args.n / 10 in
    let long = length-decimal-le 8 (c.args.n / 10) (omega arith) (omega (arith, c.if-n-ge1000000000.false)) (omega (arith, c.if-n-ge1000000000.false)) in
    (rw (c.from.ensures) long, omega (arith, c.self.told))

pub invariant_of-self-2 : goal.invariant_of-self-2
invariant_of-self-2 c = (
  omega (arith, c.write_digits-self-inside.ensures.start),
  tens_text (c.args.n / 10) c.write_digits-self-inside.result c.self.inside.digits c.write_digits-self-inside.new.buf
      (omega (arith, c.if-n-lt10.false)) (omega (arith, c.if-n-ge1000000000.false)) (omega (arith, c.self.told))
      (c.write_digits-self-inside.ensures.written ∙ ap (λ (front : ℕ). decimal front ++ drop 8 c.self.inside.digits) c.from.ensures),
)
