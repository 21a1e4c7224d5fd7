-- A replay by what the reads of its script gave.
use Rattle.std.proofs.Common.{◌≡◌, ◌∙◌, ℕ, List, [], ◌∷◌, Result, Some, None, refl, sym}
use Rattle.pm_base.specs.declared.errors.Exit.{Exit}
use Rattle.pm_base.specs.declared.errors.Exit.TheVariants as exit
use Rattle.pm_base.specs.Faults.{Rose}
use Rattle.pm_io.specs.declared.prefix.StopReason.TheVariants.{End}
use Rattle.pm_io.specs.declared.sink.Sink as Sink
use Rattle.pm_io.specs.Calls.{Begin, Call}
use Rattle.pm_io.specs.Given.{prefix_called}
use Rattle.pm_io.specs.Inputs.{Moment}
use Rattle.pm_io.specs.Readings.{Meanwhile}
use Rattle.pm_io.specs.World.{World}
use Rattle.pm_io.proofs.GivenLemmas.{meanwhile_same}
use Rattle.pm_io.proofs.ReadingsLemmas.{meanwhile_map}
use Rattle.pm_device.specs.declared.device.Device as Device
use Rattle.pm_board.specs.Board.{Standing}
use Rattle.pm_object.specs.declared.object.Object.{Object}
use Rattle.pm_topology.specs.declared.topology.Topology.{Topology}
use Rattle.pm_reader.specs.Follow.{IsBrokenOff, script_given}
use Rattle.pm_reader.specs.Front.{ran}
use Rattle.pm_reader.specs.Shown.{giving, shown}
use Rattle.pm_reader.proofs.ShownLemmas.{given_whole, script_shown}
use Rattle.pm_run.specs.Run.{setup_for}
use Rattle.pm_script.specs.Script.{Script, script_limit}
use Rattle.pm_drive.specs.Drive.{until}
use Rattle.pm_drive.specs.Drove.{Drove}
use Rattle.pm_drive.specs.Scripts.{script_driven}
use Rattle.pm_trace.specs.declared.faults.Fault.{Fault}
use Rattle.pm_trace.specs.declared.faults.Fault.TheVariants.{Memory, Read}
use Rattle.pm_trace.specs.Report.{Reports, refusal}
use Rattle.pm_trace.specs.Scripts.{IsScriptOf, ReadsScript, script_named}
use Rattle.pm_trace.proofs.ReadsLemmas.{refused}
use Rattle.pm_trace.proofs.ScriptsLemmas as scripts
use Rattle.pm_replay.specs.Replay.{Touched, replay_report}
use Rattle.pm_replay.specs.Replayed.{Replayed, ReplayedGiven}
use Rattle.pm_replay.specs.Within.{RanScript}
use Rattle.pm_replay.proofs.ReplayLemmas.{of_script, replay_done, replay_ended, replay_ran, replay_refused, replay_unbegun, script_itself}

done_is_memory : exit.Done ≡ exit.Memory → ⊥
done_is_memory e = cc

done_is_read : exit.Done ≡ exit.ReadFault → ⊥
done_is_read e = cc

module _ {O D : Type 0} (o : Sink.Ghosts O) (d : Device.Ghosts D) (object : Object) (t : Topology) (board is : Standing) (name : List ℕ) where
  -- by what these calls gave: what was asked for and done, and on Done they came to the end
  abbrev pub IsRan : World Moment O D → World Moment O D → Exit → List Call → Type 0
  IsRan w w' result calls =
      Replayed shown o d object t board is name (record w { inputs = giving script_limit calls w.inputs }) w' result
      × (result ≡ exit.Done → (prefix_called script_limit calls).stop ≡ End)

  module _ (calls : List Call) (w w' : World Moment O D) (result : Exit) where
    abbrev from : World Moment O D
    from = record w { inputs = giving script_limit calls w.inputs }

    -- memory ran out
    pub ran_starved : Reports o (refusal Memory) w.sink w'.sink result → w.device ≡ w'.device → board ≡ is → IsRan w w' result calls
    ran_starved reports same stays = (
      replay_refused shown o d object t board is name from w' result Memory
          (scripts.asked_starved shown name from.inputs w'.inputs result (scripts.memory_exit o w.sink w'.sink result reports)) reports same stays,
      λ done. absurd (done_is_memory (sym done ∙ refused o Memory w.sink w'.sink result reports)),
    )

    is_given : IsRan w w' result calls → ReadsScript result (script_named name) calls → ReplayedGiven o d object t board is name calls w w' result
    is_given (ran, whole) reads =
        let Asks : Result Script Fault → Type 0 = IsScriptOf shown name from.inputs w'.inputs result in
        let Touching = Touched d object t board is w.device w'.device in
        record {
          reads = reads;
          whole = whole;
          ran = ran;
          done = replay_done shown o d object t board is name from w' result ran tt;
          decided = scripts.did_decided shown o script_itself (replay_report object t board) (of_script object t board) name from.inputs w'.inputs w.sink w'.sink result Asks (λ job asked. asked) Touching ran tt;
          read_cause = scripts.did_read_cause shown o script_itself (replay_report object t board) (of_script object t board) name from.inputs w'.inputs w.sink w'.sink result Asks (λ job asked. asked) Touching ran tt;
        }

  module _ (id : ℕ) (calls : List Call) (w w' : World Moment O D) (result : Exit) where
    abbrev begun : World Moment O D
    begun = record w { inputs = giving script_limit (Begin name (Some id) ∷ calls) w.inputs }

    -- the script that the calls gave was run
    pub ran_given : IsBrokenOff id calls → (result ≡ exit.ReadFault → Rose w.inputs.faults w'.inputs.faults)
        → (of : RanScript o d (setup_for object t (script_given id calls).events) (ran (script_given id calls)) w.sink w'.sink w.device w'.device board is result)
        → Drove d (setup_for object t (script_given id calls).events) (until of.cut (script_driven object t of.answers (script_given id calls).events)) w.device w'.device
        → IsRan w w' result (Begin name (Some id) ∷ calls)
    ran_given reads fails of drove =
        let s : Script = script_given id calls in (
          replay_ran shown o d object t board is name begun w' result s (λ seen. script_shown id name name calls w.inputs reads) fails of drove,
          λ done. given_whole id calls (replay_ended shown o d object t board is name begun w' result s (λ seen. script_shown id name name calls w.inputs reads) fails of drove tt done),
        )

  -- what was asked for is what the calls gave that read the script
  pub given_by : (w w' : World Moment O D) (result : Exit) → Meanwhile w.inputs w'.inputs (IsRan w w' result) → Meanwhile w.inputs w'.inputs (ReadsScript result (script_named name))
      → Meanwhile w.inputs w'.inputs (λ calls. ReplayedGiven o d object t board is name calls w w' result)
  given_by w w' result ran reads =
      meanwhile_map w.inputs w'.inputs (λ calls. IsRan w w' result calls × ReadsScript result (script_named name) calls) (λ calls. ReplayedGiven o d object t board is name calls w w' result)
      (λ calls both. is_given calls w w' result both.0 both.1)
      (meanwhile_same w.inputs w'.inputs (IsRan w w' result) (ReadsScript result (script_named name)) ran reads)

-- the script couldn't be opened
pub ran_unbegun : {O D : Type 0} (o : Sink.Ghosts O) (d : Device.Ghosts D) (object : Object) (t : Topology) (board : Standing) (name : List ℕ) (w w' : World Moment O D) (result : Exit)
    → Rose w.inputs.faults w'.inputs.faults → Reports o (refusal Read) w.sink w'.sink result → w.device ≡ w'.device → IsRan o d object t board board name w w' result (Begin name None ∷ [])
ran_unbegun o d object t board name w w' result rose reports same = (
  replay_unbegun shown o d object t board board name (record w { inputs = giving script_limit (Begin name None ∷ []) w.inputs }) w' result (λ seen. refl) rose reports same refl,
  λ done. absurd (done_is_read (sym done ∙ refused o Read w.sink w'.sink result reports)),
)
