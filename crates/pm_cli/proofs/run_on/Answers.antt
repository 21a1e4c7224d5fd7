use Rattle.std.proofs.Common.{◌≡◌, List, inl, inr, sym, true, ◌∙◌}
use Rattle.std.specs.Prelude.{◌⊎◌}
use Rattle.pm_base.specs.declared.errors.Exit.{Exit}
use Rattle.pm_base.specs.declared.errors.Exit.TheVariants as exit
use Rattle.pm_host.specs.Gathering.{moment_of}
use Rattle.pm_io.specs.Sink.{HasFailed}
use Rattle.pm_device.specs.Act.{Act}
use Rattle.pm_drive.specs.Drive.{acts}
use Rattle.pm_drive.specs.Scripts.{script_driven}
use Rattle.pm_cli.proofs.LogLemmas.{all_logged, built_in, safe_logged}
use Rattle.pm_cli.proofs.EndedLemmas.{all_calls, failed_some, handed_on, run_ended}
use Rattle.pm_cli.proofs.run_on.Goals as goal

-- Done of the sink is Done of the run
done_before : (before result : Exit) → (result ≡ before) ⊎ (result ≡ exit.WriteFault) → result ≡ exit.Done → before ≡ exit.Done
done_before before result (inl same) done = sym same ∙ done
done_before before result (inr broken) done = let clash : exit.Done ≡ exit.WriteFault = sym done ∙ broken in cc

-- the acts that lead to the device are those that it logged
pub returns-clause-safe : goal.returns-clause-safe
returns-clause-safe g c = safe_logged _ c.logged_acts_are_safe.ensures.model c.chains_are_logged.ensures.model c.args.device.now c.pm_main-exit.new.dev c.requires.log _ c.pm_main-exit.ensures.safe

pub returns-clause-driven : goal.returns-clause-driven
returns-clause-driven g c = λ named done is.
    let ended : c.pm_main-exit.result ≡ exit.Done = done_before c.pm_main-exit.result c.finish.result c.finish.ensures.exit done in
    let run = c.pm_main-exit.ensures.driven named ended is in
    let all : List Act = acts (script_driven run.object run.topology run.answers run.events) in
    record {
      object = run.object;
      topology = run.topology;
      events = run.events;
      answers = run.answers;
      built_in = built_in _ c.logged_acts_are_safe.ensures.model c.chains_are_logged.ensures.model c.args.device.now c.pm_main-exit.new.dev c.requires.log named run.topology run.start run.fitted;
      is = all_logged _ c.logged_acts_are_safe.ensures.model c.chains_are_logged.ensures.model c.args.device.now c.pm_main-exit.new.dev c.requires.log named run.topology run.start all run.fitted run.drove.given;
    }

-- what the run came to is what the program came to: what was accepted is what the writer took
pub returns-clause-given : goal.returns-clause-given
returns-clause-given g c =
    let broke : HasFailed (moment_of c.args.out.now) (moment_of c.pm_main-exit.new.out) → c.finish.new.self.out.broken ≡ true = λ failed.
    c.finish.ensures.broke (failed_some (moment_of c.args.out.now) (moment_of c.pm_main-exit.new.out) failed)
    in
    run_ended _ _ _ _ _ _ c.args.out.now c.pm_main-exit.new.out c.args.device.now c.pm_main-exit.new.dev c.pm_main-exit.result c.finish.result c.finish.new.self.out
    tt c.requires.unused c.requires.modules c.requires.tasks
    (handed_on c.pm_main-exit.result c.finish.result c.finish.new.self.out c.finish.ensures.exit c.finish.ensures.cause (λ was. broke (c.pm_main-exit.ensures.write_fault was)))
    c.finish.ensures.whole broke
    (λ named topology start all. all_logged _ c.logged_acts_are_safe.ensures.model c.chains_are_logged.ensures.model c.args.device.now c.pm_main-exit.new.dev c.requires.log named topology start all)
    (all_calls (g.I.Inputs.state c.args.inputs.now) (g.I.Inputs.state c.pm_main-exit.new.inputs) _ c.requires.unread c.pm_main-exit.ensures.given)
