use Rattle.pm_base.specs.declared.events.Event.{Event}
use Rattle.pm_base.specs.declared.names.NodeId.{NodeId}
use Rattle.std.proofs.Common.{List}
use Rattle.pm_topology.specs.WellFormed.{IsWellFormed}
use Rattle.pm_run.specs.Run.{Setup, fixed_of}
use Rattle.pm_drive.specs.Drive.{driven, until}
use Rattle.pm_drive.specs.Completed.{completed_in}
use Rattle.pm_apart.specs.Apart.{BooksStayApart}
use Rattle.pm_apart.proofs.TellingLaw.{telling_apart}
use Rattle.pm_apart.proofs.laws.driven_runs_keep_apart.Goals as goal
use Rattle.pm_laws.specs.Border.{AreObjects}

pub returns : goal.returns
returns g c =
    let law = c.reach_keeps_apart.ensures in
    let beyond : (cs : Setup) (events : List Event) (m : NodeId) → AreObjects (fixed_of cs) → IsWellFormed cs.topology → BooksStayApart cs events m = λ cs events m object formed. record {
      beside = law.beside cs m events object formed;
      alike = law.alike cs m events object formed;
    } in
    record {
      run = λ cs events answers old new object formed drove. record {
        lines = λ board. c.texts_are_lines.ensures.run cs board answers events;
        apart = λ none. c.driven_lines_stay_apart.ensures.run cs events answers old new object formed none drove;
        beyond = λ m. beyond cs events m object formed;
        telling = λ m. telling_apart cs m events (law.alike cs m events object formed) (c.clocks_keep_apart.ensures.lines cs m events object formed);
      };
      steps = λ cs events answers cut old new object formed drove. record {
        lines = λ board. c.texts_are_lines.ensures.steps 0 (completed_in cs board (until cut (driven cs answers events)));
        apart = λ none. c.driven_lines_stay_apart.ensures.steps cs events answers cut old new object formed none drove;
        beyond = λ m. beyond cs events m object formed;
        telling = λ m. telling_apart cs m events (law.alike cs m events object formed) (c.clocks_keep_apart.ensures.lines cs m events object formed);
      };
    }
