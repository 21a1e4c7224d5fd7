-- The exits of the program, and what each of them means.
use Rattle.std.proofs.Common.{◌≡◌, ℕ, ◌+◌, ◌⊎◌, Bool, true, false, List, [], ◌∷◌, length, Option, Some, Result, Ok, Err, refl, sym, ◌∙◌, ap, subst, inl, inr}
use Rattle.pm_base.specs.Faults.{Rose}
use Rattle.pm_base.specs.declared.errors.Exit.{Exit}
use Rattle.pm_base.specs.declared.errors.Exit.TheVariants as exit
use Rattle.pm_io.specs.declared.inputs.Inputs as Inputs
use Rattle.pm_io.specs.declared.sink.Sink as Sink
use Rattle.pm_io.specs.Inputs.{Moment}
use Rattle.pm_io.specs.Sink.{HasFailed, IsUnfailed}
use Rattle.pm_io.specs.Writing.{Leaves}
use Rattle.pm_board.specs.Board.{Standing}
use Rattle.pm_script.specs.Script.{Stop}
use Rattle.pm_script.specs.Script.Stop.{End, Bad, Past, Failed}
use Rattle.pm_trace.specs.declared.faults.Fault.{Fault}
use Rattle.pm_trace.specs.declared.faults.Fault.TheVariants.{Memory, Read, Usage}
use Rattle.pm_trace.specs.Exits.{EndsBy, EndsWith, ExitSays, ExitsSay, IsStarved}
use Rattle.pm_trace.specs.Faults.{exit_after, exit_by, fault_text}
use Rattle.pm_trace.specs.Report.{Did, exit_of, pieces, report_of}
use Rattle.pm_trace.specs.Scripts.{fault_at}
use Rattle.pm_trace.proofs.ReadsLemmas.{refused_exit}
use Rattle.pm_top.specs.declared.works.Form.{Form}
use Rattle.pm_top.specs.declared.works.Work.{Work}
use Rattle.pm_top.specs.Asked.{Asked, Begins, asked_of}
use Rattle.pm_top.specs.Job.{IsAsked, IsFaultOf, IsKnown, Job, Meets}
use Rattle.pm_top.specs.Done.{report}
use Rattle.pm_top.specs.Ran.{FormDecides, IsBeforeRun, StarvesFirst, job_exit}
use Rattle.pm_top.proofs.Unread.{FailsToRead, fails}

some_is : {X : Type 0} {x y : X} → ◌≡◌ {A = Option X} (Some x) (Some y) → x ≡ y
some_is e = cc

-- ---- exits that come before a run

abbrev pub comes_before : Exit → Bool
comes_before exit.Done = false
comes_before exit.Usage = true
comes_before exit.BadObject = true
comes_before exit.BadText = true
comes_before exit.BadLine = false
comes_before exit.ReadFault = false
comes_before exit.WriteFault = false
comes_before exit.Memory = true
comes_before exit.TooLarge = false

early : (f : Option Form) (e : Exit) → IsBeforeRun f e → comes_before e ≡ true
early f e (inl is) = ap comes_before is
early f e (inr (inl is)) = ap comes_before is
early f e (inr (inr (inl is))) = ap comes_before is
early f e (inr (inr (inr is))) = ap comes_before is.0

stops_late : (n : ℕ) (stop : Stop) → comes_before (exit_after (fault_at n stop)) ≡ false
stops_late n End = refl
stops_late n (Bad cause) = refl
stops_late n Past = refl
stops_late n Failed = refl

late : (board : Standing) (work : Work) (job : Job) (answers : List (List Bool)) → comes_before (exit_after (report board work job answers).fault) ≡ false
late board work job answers = stops_late (1 + length job.asked.script.events) job.asked.script.stop

-- a job that isn't refused has no fault that comes before a run
no_fault : (board : Standing) (work : Work) (job : Job) (answers : List (List Bool)) (fault : Fault) → comes_before (exit_by fault) ≡ true → (report board work job answers).fault ≡ Some fault → ⊥
no_fault board work job answers fault before is =
    let clash : true ≡ false = sym before ∙ ap (λ (x : Option Fault). comes_before (exit_after x)) (sym is) ∙ late board work job answers in cc

-- the exit of a job is that of what is asked for, whatever the device answers
due : (board : Standing) (work : Work) (job : Result Job Fault) (asked : Result Asked Fault) (answers : List (List Bool)) → Meets job asked → exit_after (report_of (report board work) job answers).fault ≡ job_exit asked
due board work (Ok job) (Ok asked) answers is = ap (λ (asked : Asked). exit_after (fault_at (1 + length asked.script.events) asked.script.stop)) is.0
due board work (Err fault) (Err cause) answers is = ap (λ (fault : Fault). exit_by fault) is
due board work (Ok job) (Err cause) answers is = absurd is
due board work (Err fault) (Ok asked) answers is = absurd is

-- the exit of a job that is what is asked for, or for which memory was wanted
pub ends_due : {O : Type 0} (o : Sink.Ghosts O) (board : Standing) (work : Work) (job : Result Job Fault) (answers : List (List Bool)) (sink sink' : O) (result : Exit) (asked : Result Asked Fault) → (job ≡ Err Memory) ⊎ Meets job asked
    → EndsBy o (exit_after (report_of (report board work) job answers).fault) sink sink' result → EndsWith o (job_exit asked) sink sink' result
ends_due o board work job answers sink sink' result asked is (inr broken) = inr (inr broken)
ends_due o board work job answers sink sink' result asked (inl memory) (inl ends) = inr (inl (ends ∙ ap (λ (j : Result Job Fault). exit_after (report_of (report board work) j answers).fault) memory))
ends_due o board work job answers sink sink' result asked (inr meets) (inl ends) = inl (ends ∙ due board work job asked answers meets)

-- all inputs can be begun
all_begin : (m : Moment) → Begins m
all_begin m = record { second = true; third = true; two = λ room. refl; three = λ room. refl }

-- ---- what a call that did its job means

module _ {I O : Type 0} (i : Inputs.Ghosts I) (o : Sink.Ghosts O) (say : ExitsSay o) (board : Standing) (f : Form) (ws : List (List ℕ)) (old new : I) (sink sink' : O) (result : Exit) where
  module _ (Touching : Result Job Fault → List (List Bool) → Option ℕ → Type 0) (did : Did o (IsAsked i f ws old new result) (report board f.work) Touching sink sink' result) where
    said : ExitSays o (report_of (report board f.work) did.job did.answers) did.cut sink sink' result
    said = say (report_of (report board f.work) did.job did.answers) did.cut sink sink' result did.left did.ends

    pub not_usage : result ≡ exit.Usage → ⊥
    not_usage is = by did.job did.asked.known (said.usage is)
      where
        by : (job : Result Job Fault) → IsKnown f job → (report_of (report board f.work) job did.answers).fault ≡ Some Usage → ⊥
        by (Err fault) known at = subst (IsFaultOf f) (some_is at) known
        by (Ok job) known at = no_fault board f.work job did.answers Usage refl at

    -- a job that isn't refused ends after its run was begun
    pub not_before : (job : Job) → did.job ≡ Ok job → IsBeforeRun (Some f) result → ⊥
    not_before job is before = by said.ends
      where
        begun : comes_before (exit_after (report_of (report board f.work) did.job did.answers).fault) ≡ false
        begun = ap (λ (j : Result Job Fault). comes_before (exit_after (report_of (report board f.work) j did.answers).fault)) is ∙ late board f.work job did.answers

        by : EndsBy o (exit_after (report_of (report board f.work) did.job did.answers).fault) sink sink' result → ⊥
        by (inl ends) = let clash : true ≡ false = sym (early (Some f) result before) ∙ ap comes_before ends ∙ begun in cc
        by (inr broken) = let clash : true ≡ false = sym (early (Some f) result before) ∙ ap comes_before broken.0 in cc

    -- if memory ran out, the exit came before a run only if want of memory comes first
    pub starved_first : did.job ≡ Err Memory → IsBeforeRun (Some f) result → StarvesFirst (Some f)
    starved_first is before = by before
      where
        ended : result ≡ exit.Memory
        ended = did.ends ∙ ap (λ (j : Result Job Fault). exit_of (report_of (report board f.work) j did.answers) did.cut) is ∙ refused_exit Memory did.cut

        by : IsBeforeRun (Some f) result → StarvesFirst (Some f)
        by (inl other) = let clash : exit.Memory ≡ exit.Usage = sym ended ∙ other in cc
        by (inr (inl other)) = let clash : exit.Memory ≡ exit.BadObject = sym ended ∙ other in cc
        by (inr (inr (inl other))) = let clash : exit.Memory ≡ exit.BadText = sym ended ∙ other in cc
        by (inr (inr (inr at))) = at.1

    -- if the script couldn't be opened the exit doesn't come before a run
    pub unread_late : did.job ≡ Err Read → IsBeforeRun (Some f) result → ⊥
    unread_late is before =
        let ended : result ≡ exit.ReadFault = did.ends ∙ ap (λ (j : Result Job Fault). exit_of (report_of (report board f.work) j did.answers) did.cut) is ∙ refused_exit Read did.cut in
        let clash : true ≡ false = sym (early (Some f) result before) ∙ ap comes_before ended in cc

    pub unread : result ≡ exit.ReadFault → FailsToRead did.job
    unread is = fails board f.work did.job did.answers (said.read is)

    pub read_fault : result ≡ exit.ReadFault → Rose (i.state old).faults (i.state new).faults
    read_fault = did.asked.failed

    pub write_fault : result ≡ exit.WriteFault → HasFailed (o.state sink) (o.state sink')
    write_fault = said.failed

    pub unfailed : result ≡ exit.Done → IsUnfailed (o.state sink) (o.state sink')
    unfailed is = let wrote = (said.done is).wrote in record { faults = wrote.faults; stalls = wrote.stalls }

    pub starved : result ≡ exit.Memory → IsStarved o sink sink'
    starved is = by did.job did.left (said.memory is)
      where
        by : (job : Result Job Fault) → Leaves o (pieces (report_of (report board f.work) job did.answers)) did.cut sink sink' → (report_of (report board f.work) job did.answers).fault ≡ Some Memory → IsStarved o sink sink'
        by (Err fault) left at = (did.cut, subst (λ (fault : Fault). Leaves o (fault_text fault ∷ []) did.cut sink sink') (some_is at) left)
        by (Ok job) left at = absurd (no_fault board f.work job did.answers Memory refl at)

    pub decided : i.observable → FormDecides o (Some f) ws (i.state old) sink sink' result
    decided seen = elim (did.asked.shown seen) [
      | inl memory ↦
          let asked : Result Asked Fault = asked_of f ws (i.state old) (all_begin (i.state old)) in
          (all_begin (i.state old), ends_due o board f.work did.job did.answers sink sink' result asked (inl memory) said.ends)
      | inr job ↦ (job.0, ends_due o board f.work did.job did.answers sink sink' result (asked_of f ws (i.state old) job.0) (inr job.1) said.ends)
    ]
