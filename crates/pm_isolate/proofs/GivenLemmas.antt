-- A comparison by what the reads of its script gave.
use Rattle.std.proofs.Common.{◌≡◌, ◌∙◌, ℕ, List, [], ◌∷◌, Result, Some, None, refl, sym}
use Rattle.pm_base.specs.declared.errors.Exit.{Exit}
use Rattle.pm_base.specs.declared.errors.Exit.TheVariants as exit
use Rattle.pm_base.specs.declared.events.Event.{Event}
use Rattle.pm_base.specs.declared.names.NodeId.{NodeId}
use Rattle.pm_base.specs.Faults.{Rose}
use Rattle.pm_io.specs.declared.sink.Sink as Sink
use Rattle.pm_io.specs.Calls.{Begin, Call}
use Rattle.pm_io.specs.Inputs.{Moment}
use Rattle.pm_io.specs.Readings.{Meanwhile}
use Rattle.pm_io.proofs.GivenLemmas.{meanwhile_same}
use Rattle.pm_io.proofs.ReadingsLemmas.{meanwhile_map}
use Rattle.pm_object.specs.declared.object.Object.{Object}
use Rattle.pm_block.specs.Block.{attached_by, passed}
use Rattle.pm_topology.specs.declared.topology.Topology.{Topology}
use Rattle.pm_reach.specs.declared.members.Member.{Member}
use Rattle.pm_reach.specs.Membership.{IsReach}
use Rattle.pm_state.specs.State.{objects_in}
use Rattle.pm_reader.specs.Follow.{IsBrokenOff, script_given}
use Rattle.pm_reader.specs.Front.{ran}
use Rattle.pm_reader.specs.Shown.{giving, shown}
use Rattle.pm_reader.proofs.ShownLemmas.{given_whole, script_shown}
use Rattle.pm_run.specs.Run.{setup_for}
use Rattle.pm_script.specs.Script.{Script, script_limit}
use Rattle.pm_trace.specs.declared.faults.Fault.{Fault}
use Rattle.pm_trace.specs.declared.faults.Fault.TheVariants.{Memory, Read}
use Rattle.pm_trace.specs.Report.{Reports, refusal}
use Rattle.pm_trace.specs.Scripts.{ReadsScript, script_named}
use Rattle.pm_trace.proofs.ReadsLemmas.{refused}
use Rattle.pm_trace.proofs.ScriptsLemmas as scripts
use Rattle.pm_isolate.specs.Compared.{ComparedGiven, Comparison, IsComparisonOf, TouchesNothing, comparison_report, script_of_job}
use Rattle.pm_isolate.specs.Differences.{isolate_report}
use Rattle.pm_isolate.specs.Listed.{AreListed}
use Rattle.pm_isolate.specs.Within.{RanGiven}
use Rattle.pm_isolate.proofs.ComparedLemmas.{compare_done, compare_ended, compare_ran, compare_starved, compare_unbegun, of_script, script_asked}

done_is_memory : exit.Done ≡ exit.Memory → ⊥
done_is_memory e = cc

done_is_read : exit.Done ≡ exit.ReadFault → ⊥
done_is_read e = cc

module _ {O : Type 0} (o : Sink.Ghosts O) (object : Object) (t : Topology) (m : NodeId) (name : List ℕ) (old new : Moment) (sink sink' : O) (result : Exit) where
  -- memory ran out
  pub ran_starved : (calls : List Call) → Reports o (refusal Memory) sink sink' result → RanGiven o object t m name old new sink sink' result calls
  ran_starved calls reports = (
    compare_starved shown o object t m name (giving script_limit calls old) new sink sink' result reports,
    λ done. absurd (done_is_memory (sym done ∙ refused o Memory sink sink' result reports)),
  )

  -- the script couldn't be opened
  pub ran_unbegun : Rose old.faults new.faults → Reports o (refusal Read) sink sink' result → RanGiven o object t m name old new sink sink' result (Begin name None ∷ [])
  ran_unbegun rose reports = (
    compare_unbegun shown o object t m name (giving script_limit (Begin name None ∷ []) old) new sink sink' result (λ seen. refl) rose reports,
    λ done. absurd (done_is_read (sym done ∙ refused o Read sink sink' result reports)),
  )

  -- the two runs of the script that the calls gave were compared
  pub ran_given : (id : ℕ) (calls : List Call) → IsBrokenOff id calls → (result ≡ exit.ReadFault → Rose old.faults new.faults)
      → (members : List Member) → IsReach (objects_in object (attached_by (script_given id calls).events)) t m members
      → Reports o (isolate_report (setup_for object t (script_given id calls).events) m members (ran (script_given id calls))) sink sink' result
      → RanGiven o object t m name old new sink sink' result (Begin name (Some id) ∷ calls)
  ran_given id calls reads fails members reach reports =
      let s : Script = script_given id calls in
      let begun : Moment = giving script_limit (Begin name (Some id) ∷ calls) old in (
        compare_ran shown o object t m name begun new sink sink' result s members (λ seen. script_shown id name name calls old reads) fails reach reports,
        λ done. given_whole id calls (compare_ended shown o object t m name begun new sink sink' result s members (λ seen. script_shown id name name calls old reads) fails reach reports tt done),
      )

  module _ (listed : (members : List Member) (events : List Event) → IsReach (objects_in object (attached_by events)) t m members → AreListed (setup_for object t events) m members (passed events)) where
    is_given : (calls : List Call) → RanGiven o object t m name old new sink sink' result calls → ReadsScript result (script_named name) calls → ComparedGiven o object t m name calls old new sink sink' result
    is_given calls (ran, whole) reads =
        let begun : Moment = giving script_limit calls old in
        let Asks : Result Comparison Fault → Type 0 = IsComparisonOf shown object t m name begun new result in
        let asks = script_asked shown o object t m name begun new sink sink' result in
        record {
          reads = reads;
          whole = whole;
          ran = ran;
          done = compare_done shown o object t m name begun new sink sink' result ran listed tt;
          decided = scripts.did_decided shown o script_of_job (comparison_report object t m) (of_script object t m) name begun new sink sink' result Asks asks TouchesNothing ran tt;
          read_cause = scripts.did_read_cause shown o script_of_job (comparison_report object t m) (of_script object t m) name begun new sink sink' result Asks asks TouchesNothing ran tt;
        }

    -- what was asked for is what the calls gave that read the script
    pub given_by : Meanwhile old new (RanGiven o object t m name old new sink sink' result) → Meanwhile old new (ReadsScript result (script_named name))
        → Meanwhile old new (λ calls. ComparedGiven o object t m name calls old new sink sink' result)
    given_by ran reads =
        meanwhile_map old new (λ calls. RanGiven o object t m name old new sink sink' result calls × ReadsScript result (script_named name) calls) (λ calls. ComparedGiven o object t m name calls old new sink sink' result)
        (λ calls both. is_given calls both.0 both.1)
        (meanwhile_same old new (RanGiven o object t m name old new sink sink' result) (ReadsScript result (script_named name)) ran reads)
