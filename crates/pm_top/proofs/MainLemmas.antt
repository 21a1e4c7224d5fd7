-- The clauses of the top call, from what was done.
use Rattle.std.proofs.Common.{◌≡◌, ℕ, List, Option, Some, None, Result, Ok, Err, refl, sym, ◌∙◌, ap, subst, inl, inr}
use Rattle.std.specs.Prelude.{◌↔◌}
use Rattle.pm_base.specs.Faults.{Rose}
use Rattle.pm_base.specs.declared.errors.Exit.{Exit}
use Rattle.pm_base.specs.declared.errors.Exit.TheVariants as exit
use Rattle.pm_io.specs.declared.inputs.Inputs as Inputs
use Rattle.pm_io.specs.declared.sink.Sink as Sink
use Rattle.pm_io.specs.Calls.{Call}
use Rattle.pm_io.specs.Sink.{HasFailed, IsUnfailed}
use Rattle.pm_board.specs.Board.{Standing}
use Rattle.pm_device.specs.declared.device.Device as Device
use Rattle.pm_trace.specs.declared.faults.Fault.{Fault}
use Rattle.pm_trace.specs.declared.faults.Fault.TheVariants.{Memory, Read, Usage}
use Rattle.pm_trace.specs.declared.faults.Fault.TheVariants as faults
use Rattle.pm_trace.specs.Exits.{ExitsSay, IsStarved}
use Rattle.pm_trace.specs.Report.{exit_of, report_of}
use Rattle.pm_io.specs.World.{World}
use Rattle.pm_top.specs.declared.works.Form.{Form}
use Rattle.pm_top.specs.Fit.{LeftBy, MayBeFitted}
use Rattle.pm_top.specs.Form.{form}
use Rattle.pm_top.specs.Words.{word}
use Rattle.pm_top.specs.Job.{Job}
use Rattle.pm_top.specs.Asked.{lines_by}
use Rattle.pm_top.specs.Called.{asked_given}
use Rattle.pm_top.specs.Done.{report}
use Rattle.pm_top.specs.Ran.{Decides, DecidesGiven, Drives, FormDecides, FormMayFail, InputsMayFail, IsBeforeRun, IsShown, Ran, RanForm, RanGiven, StarvesBefore, StarvesFirst, Touches, TouchesBy, drives, nothing_to_do}
use Rattle.pm_top.specs.Ran.Drives.{AsItWrites, BeforeItWrites, Never}
use Rattle.pm_top.proofs.Unread.{FailsToRead}
use Rattle.pm_top.proofs.SubjectLemmas.{memory_is_read}
use Rattle.pm_top.proofs.CauseLemmas.{job_cause}
use Rattle.pm_trace.proofs.ReadsLemmas.{refused_exit}
use Rattle.pm_top.proofs.ExitsLemmas.{decided, ends_due, not_before, not_usage, read_fault, starved, starved_first, unfailed, unread, unread_late, write_fault}

module _ {I O D : Type 0} (i : Inputs.Ghosts I) (o : Sink.Ghosts O) (say : ExitsSay o) (d : Device.Ghosts D) (ws : List (List ℕ)) (board then : Standing) (w w' : World I O D) (result : Exit) where
  -- words without a form are refused
  usage_exit : RanForm i o d None ws board then w w' result → result ≡ exit.Usage
  usage_exit did = did.ends ∙ ap (λ job. exit_of (report_of nothing_to_do job did.answers) did.cut) did.asked ∙ refused_exit Usage did.cut

  pub usage : Ran i o d ws board then w w' result → (result ≡ exit.Usage) ↔ (form ws ≡ None)
  usage ran = (λ is. no_form (form ws) refl ran is, λ none. usage_exit (subst (λ f. RanForm i o d f ws board then w w' result) none ran))
    where
      no_form : (f : Option Form) → form ws ≡ f → RanForm i o d f ws board then w w' result → result ≡ exit.Usage → form ws ≡ None
      no_form None at did is = at
      no_form (Some f) at did is = absurd (not_usage i o say board f ws w.inputs w'.inputs w.sink w'.sink result (Touches d f ws board then (IsShown i o d f ws w) w.device w'.device) did is)

  pub decides : Ran i o d ws board then w w' result → i.observable → Decides o ws (i.state w.inputs) w.sink w'.sink result
  decides ran seen = by (form ws) ran
    where
      by : (f : Option Form) → RanForm i o d f ws board then w w' result → FormDecides o f ws (i.state w.inputs) w.sink w'.sink result
      by None did = usage_exit did
      by (Some f) did = decided i o say board f ws w.inputs w'.inputs w.sink w'.sink result (Touches d f ws board then (IsShown i o d f ws w) w.device w'.device) did seen

  -- by what calls gave
  pub decides_given : (calls : List Call) → RanGiven o d (form ws) ws board then calls w.sink w'.sink w.device w'.device result → DecidesGiven o (form ws) ws calls w.sink w'.sink result
  decides_given calls ran = by (form ws) ran
    where
      by : (f : Option Form) → RanGiven o d f ws board then calls w.sink w'.sink w.device w'.device result → DecidesGiven o f ws calls w.sink w'.sink result
      by None did = usage_exit did
      by (Some f) did =
          ends_due o board f.work did.job did.answers w.sink w'.sink result (asked_given f ws calls) did.asked.is
          (say (report_of (report board f.work) did.job did.answers) did.cut w.sink w'.sink result did.left did.ends).ends

  pub memory : Ran i o d ws board then w w' result → result ≡ exit.Memory → IsStarved o w.sink w'.sink
  memory ran is = by (form ws) ran
    where
      by : (f : Option Form) → RanForm i o d f ws board then w w' result → IsStarved o w.sink w'.sink
      by None did = let clash : exit.Usage ≡ exit.Memory = sym (usage_exit did) ∙ is in cc
      by (Some f) did = starved i o say board f ws w.inputs w'.inputs w.sink w'.sink result (Touches d f ws board then (IsShown i o d f ws w) w.device w'.device) did is

  pub reading_fault : Ran i o d ws board then w w' result → result ≡ exit.ReadFault → Rose (i.state w.inputs).faults (i.state w'.inputs).faults
  reading_fault ran is = by (form ws) ran
    where
      by : (f : Option Form) → RanForm i o d f ws board then w w' result → Rose (i.state w.inputs).faults (i.state w'.inputs).faults
      by None did = let clash : exit.Usage ≡ exit.ReadFault = sym (usage_exit did) ∙ is in cc
      by (Some f) did = read_fault i o say board f ws w.inputs w'.inputs w.sink w'.sink result (Touches d f ws board then (IsShown i o d f ws w) w.device w'.device) did is

  pub writing_fault : Ran i o d ws board then w w' result → result ≡ exit.WriteFault → HasFailed (o.state w.sink) (o.state w'.sink)
  writing_fault ran is = by (form ws) ran
    where
      by : (f : Option Form) → RanForm i o d f ws board then w w' result → HasFailed (o.state w.sink) (o.state w'.sink)
      by None did = let clash : exit.Usage ≡ exit.WriteFault = sym (usage_exit did) ∙ is in cc
      by (Some f) did = write_fault i o say board f ws w.inputs w'.inputs w.sink w'.sink result (Touches d f ws board then (IsShown i o d f ws w) w.device w'.device) did is

  pub unfailing : Ran i o d ws board then w w' result → result ≡ exit.Done → IsUnfailed (o.state w.sink) (o.state w'.sink)
  unfailing ran is = by (form ws) ran
    where
      by : (f : Option Form) → RanForm i o d f ws board then w w' result → IsUnfailed (o.state w.sink) (o.state w'.sink)
      by None did = let clash : exit.Usage ≡ exit.Done = sym (usage_exit did) ∙ is in cc
      by (Some f) did = unfailed i o say board f ws w.inputs w'.inputs w.sink w'.sink result (Touches d f ws board then (IsShown i o d f ws w) w.device w'.device) did is

  pub read_cause : Ran i o d ws board then w w' result → i.observable → result ≡ exit.ReadFault → InputsMayFail ws (i.state w.inputs)
  read_cause ran seen is = by (form ws) ran
    where
      by : (f : Option Form) → RanForm i o d f ws board then w w' result → FormMayFail f ws (i.state w.inputs)
      by None did = let clash : exit.Usage ≡ exit.ReadFault = sym (usage_exit did) ∙ is in cc
      by (Some f) did =
          let fails : FailsToRead did.job = unread i o say board f ws w.inputs w'.inputs w.sink w'.sink result (Touches d f ws board then (IsShown i o d f ws w) w.device w'.device) did is in
          elim (did.asked.shown seen) [
            | inl starved ↦ absurd (memory_is_read (subst FailsToRead starved fails))
            | inr job ↦ job_cause ws (i.state w.inputs) job.0 f did.job job.1 fails
          ]

  -- ---- before a run

  pub untouched : Ran i o d ws board then w w' result → IsBeforeRun (form ws) result → (w.device ≡ w'.device) × (board ≡ then)
  untouched ran before = by (form ws) ran before
    where
      by : (f : Option Form) → RanForm i o d f ws board then w w' result → IsBeforeRun f result → (w.device ≡ w'.device) × (board ≡ then)
      by None did before = did.touched
      by (Some f) did before = of_job (drives f.work) did.job refl refl did.touched
        where
          -- if memory ran out before a run, no word names a topology
          unnamed : (drive : Drives) → drive ≡ AsItWrites → StarvesBefore drive f.topology → f.topology ≡ None
          unnamed AsItWrites is first = first
          unnamed BeforeItWrites is first = absurd first
          unnamed Never is first = cc

          left : (fault : Fault) → did.job ≡ Err fault → drives f.work ≡ AsItWrites → LeftBy d fault f.topology (IsShown i o d f ws w) w.device w'.device → w.device ≡ w'.device
          left faults.Usage is way same = same
          left (faults.Object fault) is way same = same
          left (faults.Text fault) is way same = same
          left (faults.TopologyText fault) is way same = same
          left (faults.Topology fault) is way same = same
          left (faults.Line n cause) is way same = same
          left faults.Read is way may = absurd (unread_late i o say board f ws w.inputs w'.inputs w.sink w'.sink result (Touches d f ws board then (IsShown i o d f ws w) w.device w'.device) did is before)
          left faults.Memory is way may =
              let first : StarvesFirst (Some f) = starved_first i o say board f ws w.inputs w'.inputs w.sink w'.sink result (Touches d f ws board then (IsShown i o d f ws w) w.device w'.device) did is before in
              subst (λ (named : Option ℕ). MayBeFitted d named (IsShown i o d f ws w) w.device w'.device) (unnamed (drives f.work) way first) may
          left faults.Size is way same = same
          left faults.Node is way same = same
          left faults.Number is way same = same

          of_job : (drive : Drives) (job : Result Job Fault) → drives f.work ≡ drive → did.job ≡ job → TouchesBy d drive f.topology board then (IsShown i o d f ws w) (lines_by f.source (word 1 ws)) w.device w'.device job did.answers did.cut → (w.device ≡ w'.device) × (board ≡ then)
          of_job Never job way is same = same
          of_job AsItWrites (Err fault) way is may = (left fault is way may.0, may.1)
          of_job BeforeItWrites (Err fault) way is (inl same) = same
          of_job BeforeItWrites (Err fault) way is (inr late) = absurd (subst (λ (drive : Drives). StarvesBefore drive f.topology) way (starved_first i o say board f ws w.inputs w'.inputs w.sink w'.sink result (Touches d f ws board then (IsShown i o d f ws w) w.device w'.device) did (is ∙ ap (λ (fault : Fault). Err fault) late.0) before))
          of_job BeforeItWrites (Ok job) way is drove = absurd (not_before i o say board f ws w.inputs w'.inputs w.sink w'.sink result (Touches d f ws board then (IsShown i o d f ws w) w.device w'.device) did job is before)
          of_job AsItWrites (Ok job) way is drove = absurd (not_before i o say board f ws w.inputs w'.inputs w.sink w'.sink result (Touches d f ws board then (IsShown i o d f ws w) w.device w'.device) did job is before)
