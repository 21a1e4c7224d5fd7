-- What Done of `replay` means for the device, whatever the inputs and the sink show.
use Rattle.std.proofs.Common.{◌≡◌, ℕ, Bool, List, Option, Some, None, Result, Ok, Err, subst}
use Rattle.pm_base.specs.declared.errors.Exit.{Exit}
use Rattle.pm_base.specs.declared.errors.Exit.TheVariants as exit
use Rattle.pm_io.specs.declared.inputs.Inputs as Inputs
use Rattle.pm_io.specs.declared.sink.Sink as Sink
use Rattle.pm_io.specs.World.{World}
use Rattle.pm_board.specs.Board.{Standing}
use Rattle.pm_device.specs.declared.device.Device as Device
use Rattle.pm_drive.specs.Drive.{until}
use Rattle.pm_drive.specs.Drove.{Drove}
use Rattle.pm_drive.specs.Scripts.{script_driven}
use Rattle.pm_run.specs.Run.{setup_for}
use Rattle.pm_trace.specs.declared.faults.Fault.{Fault}
use Rattle.pm_trace.specs.Exits.{ExitsSay}
use Rattle.pm_trace.specs.Report.{report_of}
use Rattle.pm_top.specs.declared.works.Request.{Request}
use Rattle.pm_top.specs.declared.works.Work.TheVariants.{Replay}
use Rattle.pm_top.specs.Done.{report}
use Rattle.pm_top.specs.Form.{form_if, form_of, over, request_of}
use Rattle.pm_top.specs.Job.{IsKnown, Job}
use Rattle.pm_top.specs.Ran.{DroveRun, IsShown, Ran, RanForm, Touches}

some_is_none : {X : Type 0} {x : X} → ◌≡◌ {A = Option X} (Some x) None → ⊥
some_is_none e = cc

module _ {I O : Type 0} (i : Inputs.Ghosts I) (o : Sink.Ghosts O) (say : ExitsSay o) {D : Type 0} (d : Device.Ghosts D) (ws : List (List ℕ)) (board is : Standing) (w w' : World I O D) (result : Exit) (named : Option ℕ) where
  -- the job wasn't refused, and no line of its run was left out
  drove_by : (job : Result Job Fault) (answers : List (List Bool)) (cut : Option ℕ) → IsKnown (form_of Replay named) job → (report_of (report board Replay) job answers).fault ≡ None → cut ≡ None → Touches d (form_of Replay named) ws board is (IsShown i o d (form_of Replay named) ws w) w.device w'.device job answers cut → DroveRun d named w.device w'.device
  drove_by (Ok job) answers cut known faultless uncut touched = record {
    object = job.asked.subject.object;
    topology = job.asked.subject.topology;
    events = job.asked.script.events;
    answers = answers;
    start = touched.start;
    formed = known.supported.well_formed;
    fitted = touched.fitted;
    drove = subst (λ (cut : Option ℕ). Drove d (setup_for job.asked.subject.object job.asked.subject.topology job.asked.script.events) (until cut (script_driven job.asked.subject.object job.asked.subject.topology answers job.asked.script.events)) touched.start w'.device) uncut touched.touched.0;
  }
  drove_by (Err fault) answers cut known faultless uncut touched = absurd (some_is_none faultless)

  pub replay_drove : Ran i o d ws board is w w' result → request_of ws ≡ Some (over named Replay) → result ≡ exit.Done → DroveRun d named w.device w'.device
  replay_drove ran asked done =
      let did : RanForm i o d (Some (form_of Replay named)) ws board is w w' result = subst (λ (request : Option Request). RanForm i o d (form_if request) ws board is w w' result) asked ran in
      let whole = (say (report_of (report board Replay) did.job did.answers) did.cut w.sink w'.sink result did.left did.ends).done done in
      drove_by did.job did.answers did.cut did.asked.known whole.faultless whole.uncut did.touched
