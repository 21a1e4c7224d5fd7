-- An input that could not be read, and the exit that says so.
use Rattle.std.proofs.Common.{◌≡◌, ℕ, ◌+◌, ◌⊎◌, Bool, List, length, Option, Some, Result, Ok, Err, refl}
use Rattle.pm_base.specs.Faults.{Rose}
use Rattle.pm_base.specs.declared.errors.Exit.{Exit}
use Rattle.pm_io.specs.declared.inputs.Inputs as Inputs
use Rattle.pm_io.specs.declared.sink.Sink as Sink
use Rattle.pm_io.specs.Writing.{Leaves}
use Rattle.pm_board.specs.Board.{Standing}
use Rattle.pm_script.specs.Script.{Stop}
use Rattle.pm_script.specs.Script.Stop.{End, Bad, Past, Failed}
use Rattle.pm_trace.specs.declared.faults.Fault.{Fault}
use Rattle.pm_trace.specs.declared.faults.Fault.TheVariants.{Memory, Read}
use Rattle.pm_trace.specs.Report.{exit_of, pieces, report_of}
use Rattle.pm_trace.specs.Scripts.{fault_at}
use Rattle.pm_trace.proofs.ScriptsLemmas.{read_by}
use Rattle.pm_top.specs.declared.works.Form.{Form}
use Rattle.pm_top.specs.declared.works.Work.{Work}
use Rattle.pm_top.specs.Job.{IsAsked, IsJobOf, IsKnown, Job}
use Rattle.pm_top.specs.Done.{report}

some_is : {X : Type 0} {x y : X} → ◌≡◌ {A = Option X} (Some x) (Some y) → x ≡ y
some_is e = cc

-- an input couldn't be opened, or a read of it failed
abbrev pub FailsToRead : Result Job Fault → Type 0
FailsToRead (Ok job) = job.asked.script.stop ≡ Failed
FailsToRead (Err fault) = fault ≡ Read

failed_stop : (n : ℕ) (stop : Stop) → fault_at n stop ≡ Some Read → stop ≡ Failed
failed_stop n End is = cc
failed_stop n (Bad cause) is = cc
failed_stop n Past is = cc
failed_stop n Failed is = refl

pub fails : (board : Standing) (work : Work) (job : Result Job Fault) (answers : List (List Bool)) → (report_of (report board work) job answers).fault ≡ Some Read → FailsToRead job
fails board work (Err fault) answers is = some_is is
fails board work (Ok job) answers is = failed_stop (1 + length job.asked.script.events) job.asked.script.stop is

module _ {I : Type 0} (i : Inputs.Ghosts I) where
  -- the state of a job before its exit: if an input can't be read the count rose
  pub record IsAskedFor (f : Form) (ws : List (List ℕ)) (old new : I) (job : Result Job Fault) : Type 0 where
    pub shown : i.observable → (job ≡ Err Memory) ⊎ IsJobOf f ws (i.state old) job
    pub failed : FailsToRead job → Rose (i.state old).faults (i.state new).faults
    pub known : IsKnown f job

  -- and so the exit says it
  pub by_exit : {O : Type 0} (o : Sink.Ghosts O) (board : Standing) (f : Form) (ws : List (List ℕ)) (old new : I) (sink sink' : O) (result : Exit) (job : Result Job Fault) (answers : List (List Bool)) (cut : Option ℕ) → IsAskedFor f ws old new job → Leaves o (pieces (report_of (report board f.work) job answers)) cut sink sink' → result ≡ exit_of (report_of (report board f.work) job answers) cut → IsAsked i f ws old new result job
  by_exit o board f ws old new sink sink' result job answers cut asked left ends = record {
    shown = asked.shown;
    failed = λ is. asked.failed (fails board f.work job answers (read_by o (report_of (report board f.work) job answers) cut sink sink' result left ends is));
    known = asked.known;
  }
