use Rattle.pm_causes.proofs.RunsCaused.{cores_caused, lines_caused, run_caused}
use Rattle.pm_causes.proofs.causes.runs_have_causes.Goals as goal

pub returns : goal.returns
returns c =
    let law = c.answers_have_causes.ensures in
    record { cores = cores_caused law; lines = lines_caused law; run = run_caused law }
