use Rattle.std.proofs.Common.{arith, rules}
use Rattle.pm_values.proofs.WordsLaw.{in_words_all}
use Rattle.pm_values.proofs.marks.Marks.wake_all.Goals as goal

pub invariant_of-self : goal.invariant_of-self
invariant_of-self c =
    in_words_all _ c.fill.new.self.items c.fill-2.new.self.items
    (omega (arith, c.self.invariant.places, c.fill.ensures.len, c.fill-2.ensures.len))
    (c.fill-2.ensures.items (λ y same. search rules))
