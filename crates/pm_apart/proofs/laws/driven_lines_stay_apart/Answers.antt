use Rattle.pm_apart.proofs.LinesLaw.{run_by, steps_by}
use Rattle.pm_apart.proofs.laws.driven_lines_stay_apart.Goals as goal

pub returns : goal.returns
returns g c = record {
  steps = λ setup events answers cut old new object chip none drove.
      steps_by setup answers events cut (drove.unfailing none) (c.lines_stay_apart.ensures.steps setup events cut object chip);
  run = λ setup events answers old new object chip none drove.
      run_by setup answers events (drove.unfailing none) (c.lines_stay_apart.ensures.run setup events object chip);
}
