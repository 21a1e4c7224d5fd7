-- What a replay means, and how it came about.
use Rattle.std.proofs.Common.{◌≡◌, ℕ, ◌+◌, Bool, List, [], ◌∷◌, ◌++◌, length, Option, Some, None, Result, Ok, Err, refl, ◌∙◌, ap, subst}
use Rattle.std.specs.List.{concat}
use Rattle.pm_base.specs.declared.errors.Exit.{Exit}
use Rattle.pm_base.specs.declared.errors.Exit.TheVariants as exit
use Rattle.pm_io.specs.declared.inputs.Inputs as Inputs
use Rattle.pm_io.specs.declared.sink.Sink as Sink
use Rattle.pm_base.specs.Faults.{Rose}
use Rattle.pm_io.specs.World.{World}
use Rattle.pm_device.specs.declared.device.Device as Device
use Rattle.pm_board.specs.Board.{Standing}
use Rattle.pm_object.specs.declared.object.Object.{Object}
use Rattle.pm_block.proofs.BlockLaw.{length_passed}
use Rattle.pm_topology.specs.declared.topology.Topology.{Topology}
use Rattle.pm_reader.specs.Front.{ran}
use Rattle.pm_run.specs.Run.{setup_for}
use Rattle.pm_script.specs.Named.{IsHeldWhole, script_in}
use Rattle.pm_script.specs.Script.{Script, Stop}
use Rattle.pm_script.specs.Script.Stop.{End as AtEnd}
use Rattle.pm_trace.specs.declared.faults.Fault.{Fault}
use Rattle.pm_trace.specs.declared.faults.Fault.TheVariants.{Memory, Read}
use Rattle.pm_trace.specs.Exits.{IsWhole}
use Rattle.pm_trace.specs.Report.{Reports, refusal, report_of}
use Rattle.pm_trace.specs.Scripts.{IsScriptOf, at_end, fault_at, script_fault}
use Rattle.pm_trace.proofs.ScriptsLemmas as scripts
use Rattle.pm_drive.specs.Drive.{acts, until}
use Rattle.pm_drive.specs.Drove.{Drove}
use Rattle.pm_drive.specs.Completed.{completed_in, last_board}
use Rattle.pm_drive.specs.Scripts.{script_driven}
use Rattle.pm_drive.specs.Text.{closing_after, texts}
use Rattle.pm_replay.specs.Replay.{Touched, replay_report}
use Rattle.pm_replay.specs.Replayed.{IsRun, Replayed}
use Rattle.pm_replay.specs.Safe.{IsSafe}
use Rattle.pm_replay.specs.Within.{RanScript}

some_is_none : {X : Type 0} {x : X} → Some x ≡ None → ⊥
some_is_none e = cc

ok_is_err : {X Y : Type 0} {x : X} {y : Y} → Ok x ≡ Err y → ⊥
ok_is_err e = cc

-- what a replay has to do is its script
abbrev pub script_itself : Result Script Fault → Result Script Fault
script_itself job = job

pub of_script : (object : Object) (t : Topology) (board : Standing) → scripts.IsOfScript script_itself (replay_report object t board)
of_script object t board = record { stops = stops; begun = λ s fault is. ok_is_err is }
  where
    stops : (job : Result Script Fault) (answers : List (List Bool)) → (report_of (replay_report object t board) job answers).fault ≡ script_fault (script_itself job)
    stops (Ok s) answers = ap (λ (n : ℕ). fault_at (1 + n) s.stop) (length_passed [] s.events)
    stops (Err fault) answers = refl

module _ {I O D : Type 0} (i : Inputs.Ghosts I) (o : Sink.Ghosts O) (d : Device.Ghosts D) (object : Object) (t : Topology) (board is : Standing) (name : List ℕ) (w w' : World I O D) (result : Exit) where
  module _ (did : Replayed i o d object t board is name w w' result) where
    pub replay_done : i.observable → o.observable → result ≡ exit.Done → IsRun i o d object t board is name w w'
    replay_done seen written done = by did.job refl did.touched ((scripts.said i o script_itself (replay_report object t board) (of_script object t board) name w.inputs w'.inputs w.sink w'.sink result (IsScriptOf i name w.inputs w'.inputs result) (λ job asked. asked) (Touched d object t board is w.device w'.device) did).done done)
      where
        by : (job : Result Script Fault) → did.job ≡ job → Touched d object t board is w.device w'.device job did.answers did.cut → IsWhole o (report_of (replay_report object t board) job did.answers) did.cut w.sink w'.sink → IsRun i o d object t board is name w w'
        by (Err fault) same touched whole = absurd (some_is_none whole.faultless)
        by (Ok s) same touched whole =
            let held = scripts.held_whole i o script_itself (replay_report object t board) (of_script object t board) name w.inputs w'.inputs w.sink w'.sink result (IsScriptOf i name w.inputs w'.inputs result) (λ job asked. asked) (Touched d object t board is w.device w'.device) did s same seen done in
            let read : IsHeldWhole (i.state w.inputs) name s.events = held.1 in
            let steps = script_driven object t did.answers s.events in
            let told : List (List ℕ) = texts 0 (completed_in (setup_for object t s.events) board steps) in
            let all : (replay_report object t board s did.answers).body ≡ told ++ closing_after (setup_for object t s.events) steps ∷ [] =
            ap (λ (stop : Stop). told ++ at_end stop (closing_after (setup_for object t s.events) steps)) held.0
            in
            record {
              script_bytes = read.bytes;
              events = s.events;
              answers = did.answers;
              held = read.held;
              means = read.means;
              text = whole.wrote.appended written ∙ ap (λ (ps : List (List ℕ)). (o.state w.sink).bytes ++ concat ps) all;
              drove = subst (λ (cut : Option ℕ). Drove d (setup_for object t s.events) (until cut steps) w.device w'.device) whole.uncut touched.0;
              tasks_left = subst (λ (cut : Option ℕ). is ≡ last_board board (until cut steps)) whole.uncut touched.1;
            }

    pub replay_safe : IsSafe d t w.device w'.device
    replay_safe = by did.job did.touched
      where
        by : (job : Result Script Fault) → Touched d object t board is w.device w'.device job did.answers did.cut → IsSafe d t w.device w'.device
        by (Err fault) same = record { acts = []; given = same.0; ordered = tt }
        by (Ok s) (drove, left) = record { acts = acts (until did.cut (script_driven object t did.answers s.events)); given = drove.given; ordered = drove.ordered }

    pub replay_untouched : result ≡ exit.Memory → w.device ≡ w'.device
    replay_untouched starved = by did.job did.touched ((scripts.said i o script_itself (replay_report object t board) (of_script object t board) name w.inputs w'.inputs w.sink w'.sink result (IsScriptOf i name w.inputs w'.inputs result) (λ job asked. asked) (Touched d object t board is w.device w'.device) did).memory starved)
      where
        by : (job : Result Script Fault) → Touched d object t board is w.device w'.device job did.answers did.cut → (report_of (replay_report object t board) job did.answers).fault ≡ Some Memory → w.device ≡ w'.device
        by (Err fault) same at = same.0
        by (Ok s) touched at = absurd (scripts.never_memory (1 + length (ran s).events) s.stop at)

  -- ---- how a replay came about

  pub replay_refused : (fault : Fault) → IsScriptOf i name w.inputs w'.inputs result (Err fault) → Reports o (refusal fault) w.sink w'.sink result → w.device ≡ w'.device → board ≡ is → Replayed i o d object t board is name w w' result
  replay_refused fault asked reports same stays = record { job = Err fault; answers = []; cut = reports.cut; asked = asked; left = reports.left; ends = reports.ends; touched = (same, stays) }

  abbrev pub replay_ran : (s : Script) → (i.observable → script_in (i.state w.inputs) name ≡ Some s) → (result ≡ exit.ReadFault → Rose (i.state w.inputs).faults (i.state w'.inputs).faults) → (ran_s : RanScript o d (setup_for object t s.events) (ran s) w.sink w'.sink w.device w'.device board is result) → Drove d (setup_for object t s.events) (until ran_s.cut (script_driven object t ran_s.answers s.events)) w.device w'.device → Replayed i o d object t board is name w w' result
  replay_ran s read fails ran_s drove = record {
    job = Ok s;
    answers = ran_s.answers;
    cut = ran_s.cut;
    asked = scripts.asked_begun i name w.inputs w'.inputs result s read fails;
    left = ran_s.went.left;
    ends = ran_s.ends;
    touched = (drove, ran_s.tasks_left);
  }

  -- on Done the script came to its end
  pub replay_ended : (s : Script) → (read : i.observable → script_in (i.state w.inputs) name ≡ Some s) → (fails : result ≡ exit.ReadFault → Rose (i.state w.inputs).faults (i.state w'.inputs).faults) → (ran_s : RanScript o d (setup_for object t s.events) (ran s) w.sink w'.sink w.device w'.device board is result) → Drove d (setup_for object t s.events) (until ran_s.cut (script_driven object t ran_s.answers s.events)) w.device w'.device → i.observable → result ≡ exit.Done → s.stop ≡ AtEnd
  replay_ended s read fails ran_s drove seen done =
      (scripts.held_whole i o script_itself (replay_report object t board) (of_script object t board) name w.inputs w'.inputs w.sink w'.sink result (IsScriptOf i name w.inputs w'.inputs result) (λ job asked. asked) (Touched d object t board is w.device w'.device) (replay_ran s read fails ran_s drove) s refl seen done).0

  -- the script couldn't be opened
  pub replay_unbegun : (i.observable → script_in (i.state w.inputs) name ≡ None) → Rose (i.state w.inputs).faults (i.state w'.inputs).faults → Reports o (refusal Read) w.sink w'.sink result → w.device ≡ w'.device → board ≡ is → Replayed i o d object t board is name w w' result
  replay_unbegun none rose reports same stays = replay_refused Read (scripts.asked_unbegun i name w.inputs w'.inputs result none rose) reports same stays
