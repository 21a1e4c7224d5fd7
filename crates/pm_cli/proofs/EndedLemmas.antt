-- What a run came to is what the program came to, once what was left of its text was handed on.
use Rattle.std.proofs.Common.{◌≡◌, ℕ, ◌+◌, ◌<◌, ◌⊎◌, true, false, List, [], ◌++◌, Option, Some, None, refl, sym, ◌∙◌, ap, subst, arith, inl, inr}
use Rattle.std.specs.Prelude.{◌≤◌}
use Rattle.pm_base.specs.Faults.{Rose}
use Rattle.pm_base.specs.declared.errors.Exit.{Exit}
use Rattle.pm_base.specs.declared.errors.Exit.TheVariants as exit
use Rattle.pm_io.specs.declared.sink.Sink as Sink
use Rattle.pm_io.specs.Calls.{Call}
use Rattle.pm_io.specs.Inputs.{Moment}
use Rattle.pm_io.specs.Readings.{Meanwhile}
use Rattle.pm_io.specs.Sink.{HasFailed, SinkMoment}
use Rattle.pm_host.specs.Written.{Written}
use Rattle.pm_board.specs.Board.{Standing}
use Rattle.pm_topology.specs.declared.topology.Topology.{Topology}
use Rattle.pm_device.specs.Act.{Act, Chain}
use Rattle.pm_device.specs.Model.{Bench}
use Rattle.pm_device.specs.declared.device.Device as Device
use Rattle.pm_drive.specs.Drive.{acts}
use Rattle.pm_drive.specs.Scripts.{script_driven}
use Rattle.pm_trace.specs.Exits.{EndsWith}
use Rattle.pm_top.specs.declared.works.Form.{Form}
use Rattle.pm_top.specs.declared.works.Work.TheVariants.{Replay}
use Rattle.pm_top.specs.Complete.{FormGivenRight}
use Rattle.pm_top.specs.Fit.{IsFitted}
use Rattle.pm_top.specs.Form.{form, over, request_of}
use Rattle.pm_top.specs.Given.{GaveEach}
use Rattle.pm_top.specs.Outcome.{Outcome}
use Rattle.pm_top.specs.Ran.{DecidesGiven, exit_given}
use Rattle.pm_cli.specs.Brought.{AreTwoCounters, programs_modules}
use Rattle.pm_cli.specs.Logged.{fits}
use Rattle.pm_cli.specs.Replayed.{HasReplayed, RunEnded}
use Rattle.pm_cli.proofs.TakenLemmas.{taken_done, taken_headline}

-- a count that rose isn't 0
rose_some : (before now : ℕ) → Rose before now → 0 < now
rose_some before now rose = grind (arith, rose)

pub failed_some : (old new : SinkMoment) → HasFailed old new → 0 < new.faults + new.stalls
failed_some old new (inl rose) = let some : 0 < new.faults = rose_some old.faults new.faults rose in omega (arith, some)
failed_some old new (inr rose) = let some : 0 < new.stalls = rose_some old.stalls new.stalls rose in omega (arith, some)

-- an exit, after what was left was handed on: it stays, or the writer broke off
abbrev Ends : Exit → Exit → Written → Type 0
Ends due result writer = (result ≡ due) ⊎ ((result ≡ exit.WriteFault) × (writer.broken ≡ true))

-- Done of the sink is Done of the run
pub done_before : (due result : Exit) (writer : Written) → Ends due result writer → result ≡ exit.Done → due ≡ exit.Done
done_before due result writer (inl same) done = sym same ∙ done
done_before due result writer (inr broken) done = let clash : exit.Done ≡ exit.WriteFault = sym done ∙ broken.0 in cc

module _ {O : Type 0} (o : Sink.Ghosts O) (d : Device.Ghosts Bench) (ws : List (List ℕ)) (board is : Standing) (calls : List Call) (sink sink' : O) (old new : Bench) (due result : Exit) (writer : Written)
    (seen : o.observable) (empty : (o.state sink).bytes ≡ []) (modules : board.modules ≡ programs_modules) (tasks : AreTwoCounters board.tasks)
    (ends : Ends due result writer) (whole : result ≡ exit.Done → writer.bytes ≡ (o.state sink').bytes) (broke : HasFailed (o.state sink) (o.state sink') → writer.broken ≡ true)
    (logged : (named : Option ℕ) (topology : Topology) (start : Bench) (all : List Act) → IsFitted d named topology old start → Chain d.Does all start new → new.log ≡ fits named topology ++ all)
    (out : Outcome o d ws board is calls sink sink' old new due) where
  abbrev Decided : Exit → Exit → Type 0
  Decided given result = (result ≡ given) ⊎ ((result ≡ exit.Memory) ⊎ ((result ≡ exit.WriteFault) × (writer.broken ≡ true)))

  -- what decides the exit of the run decides that of the program
  decided_by : (given : Exit) → EndsWith o given sink sink' due → Ends due result writer → Decided given result
  decided_by given was (inr broken) = inr (inr broken)
  decided_by given (inl same) (inl stays) = inl (stays ∙ same)
  decided_by given (inr (inl memory)) (inl stays) = inr (inl (stays ∙ memory))
  decided_by given (inr (inr failed)) (inl stays) = inr (inr (stays ∙ failed.0, broke failed.1))

  decided : Decided (exit_given (form ws) ws calls) result
  decided = by (form ws) out.decided
    where
      by : (f : Option Form) → DecidesGiven o f ws calls sink sink' due → Decided (exit_given f ws calls) result
      by None was = decided_by exit.Usage (inl was) ends
      by (Some f) was = decided_by (exit_given (Some f) ws calls) was ends

  complete : FormGivenRight (form ws) ws calls → writer.broken ≡ false → (result ≡ exit.Done) ⊎ (result ≡ exit.Memory)
  complete right stays = by ends (out.complete right (λ failed. broken_off (broke failed)))
    where
      broken_off : writer.broken ≡ true → ⊥
      broken_off broken = let clash : true ≡ false = sym broken ∙ stays in cc

      by : Ends due result writer → (due ≡ exit.Done) ⊎ (due ≡ exit.Memory) → (result ≡ exit.Done) ⊎ (result ≡ exit.Memory)
      by (inr broken) was = absurd (broken_off broken.1)
      by (inl same) (inl done) = inl (same ∙ done)
      by (inl same) (inr memory) = inr (same ∙ memory)

  replayed : (named : Option ℕ) → result ≡ exit.Done → request_of ws ≡ Some (over named Replay) → HasReplayed d named ws calls writer.bytes old new
  replayed named done asked =
      let h = out.headline seen named (done_before due result writer ends done) asked in
      record {
        board = board;
        modules = modules;
        tasks = tasks;
        headline = taken_headline o d (GaveEach calls) named ws board sink sink' old new writer.bytes empty (sym (whole done)) h;
        log = logged named h.topology h.start (acts (script_driven h.object h.topology h.holds.answers h.events)) h.fitted h.holds.drove.given;
      }

  pub run_ended : RunEnded d ws calls writer result old new
  run_ended = record {
    board = board;
    is = is;
    modules = modules;
    tasks = tasks;
    due = due;
    ends = ends;
    begun = out.begun;
    decided = decided;
    complete = complete;
    done = λ done. taken_done o d (GaveEach calls) (request_of ws) ws board is sink sink' old new writer.bytes empty (sym (whole done)) (out.done seen (done_before due result writer ends done));
    replayed = replayed;
  }

-- the calls of inputs that had made none are all of them
pub all_calls : (before after : Moment) (Are : List Call → Type 0) → before.calls ≡ [] → Meanwhile before after Are → Are after.calls
all_calls before after Are none made = subst Are (sym (made.logged ∙ ap (λ (front : List Call). front ++ made.calls) none)) made.are

-- how an exit is handed on, by what a sink says of it
pub handed_on : (due result : Exit) (writer : Written) → (result ≡ due) ⊎ (result ≡ exit.WriteFault) → (result ≡ exit.WriteFault → (due ≡ exit.WriteFault) ⊎ (writer.broken ≡ true)) → (due ≡ exit.WriteFault → writer.broken ≡ true) → Ends due result writer
handed_on due result writer (inl same) cause broke = inl same
handed_on due result writer (inr fault) cause broke = elim (cause fault) [
  | inl was ↦ inr (fault, broke was)
  | inr broken ↦ inr (fault, broken)
]
