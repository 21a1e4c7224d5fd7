use Rattle.pm_apart.proofs.TextsLaw.{lines_about, run_is, steps_are}
use Rattle.pm_apart.proofs.WholeLaw.{whole_about}
use Rattle.pm_apart.proofs.laws.texts_are_lines.Goals as goal

pub returns : goal.returns
returns c = record {
  steps = steps_are;
  run = run_is;
  about = λ n xs unit. lines_about unit n xs;
  whole = λ setup board answers events unit chip has.
      whole_about c.units_stand_in_order.ensures setup (c.books_of_a_run.ensures.load setup chip)
      (λ event stand is. c.books_of_a_run.ensures.line setup event stand chip is) board answers events unit has;
}
