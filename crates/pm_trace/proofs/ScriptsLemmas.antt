-- A command that takes a named script: what its exits say, and how it came about.
use Rattle.std.proofs.Common.{◌≡◌, ℕ, ◌+◌, ◌⊎◌, Bool, List, [], ◌∷◌, length, Option, Some, None, Result, Ok, Err, refl, sym, ◌∙◌, ap, subst, inl, inr}
use Rattle.pm_base.specs.Faults.{Rose}
use Rattle.pm_base.specs.declared.errors.Exit.{Exit}
use Rattle.pm_base.specs.declared.errors.Exit.TheVariants as exit
use Rattle.pm_io.specs.declared.inputs.Inputs as Inputs
use Rattle.pm_io.specs.declared.prefix.StopReason.{StopReason}
use Rattle.pm_io.specs.declared.prefix.StopReason.TheVariants as reason
use Rattle.pm_io.specs.declared.sink.Sink as Sink
use Rattle.pm_io.specs.Inputs.{MayFail}
use Rattle.pm_io.specs.Sink.{HasFailed, IsUnfailed}
use Rattle.pm_io.specs.Writing.{Leaves}
use Rattle.pm_script.specs.Named.{IsHeldWhole, IsUnreadable, script_in}
use Rattle.pm_script.specs.declared.meaning.LineFault.{LineFault}
use Rattle.pm_script.specs.Script.{Script, Stop, script_limit, stop_of}
use Rattle.pm_script.specs.Script.Stop.{End, Bad, Past, Failed}
use Rattle.pm_script.proofs.NamedLemmas.{read_whole, script_cause}
use Rattle.pm_trace.specs.declared.faults.Fault.{Fault}
use Rattle.pm_trace.specs.declared.faults.Fault.TheVariants.{Line, Memory, Read}
use Rattle.pm_trace.specs.Exits.{EndsBy, EndsWith, ExitSays, IsStarved}
use Rattle.pm_trace.specs.Faults.{exit_after, fault_text}
use Rattle.pm_trace.specs.Report.{Did, Report, Reports, exit_of, pieces, refusal, report_of}
use Rattle.pm_trace.specs.Scripts.{IsScriptOf, fault_at, script_exit, script_fault, script_or_fault}
use Rattle.pm_trace.proofs.ExitsLemmas.{exit_says}

some_is_none : {X : Type 0} {x : X} → Some x ≡ None → ⊥
some_is_none e = cc

err_is_ok : {X Y : Type 0} {x : X} {y : Y} → Err y ≡ Ok x → ⊥
err_is_ok e = cc

same_in_ok : {X Y : Type 0} {x y : X} → ◌≡◌ {A = Result X Y} (Ok x) (Ok y) → x ≡ y
same_in_ok e = cc

pub same_in_some : {X : Type 0} {x y : X} → ◌≡◌ {A = Option X} (Some x) (Some y) → x ≡ y
same_in_some e = cc

pub memory_is_read : Memory ≡ Read → ⊥
memory_is_read e = cc

-- ---- the fault at which a script stops

end_by : (n : ℕ) (stop : Stop) → fault_at n stop ≡ None → stop ≡ End
end_by n End is = refl
end_by n (Bad cause) is = cc
end_by n Past is = cc
end_by n Failed is = cc

failed_by : (n : ℕ) (stop : Stop) → fault_at n stop ≡ Some Read → stop ≡ Failed
failed_by n End is = cc
failed_by n (Bad cause) is = cc
failed_by n Past is = cc
failed_by n Failed is = refl

pub never_memory : (n : ℕ) (stop : Stop) → fault_at n stop ≡ Some Memory → ⊥
never_memory n End is = cc
never_memory n (Bad cause) is = cc
never_memory n Past is = cc
never_memory n Failed is = cc

-- a script that ended so was not read on only after a failed read
pub failure_by : (r : StopReason) → (r ≡ reason.Unbegun → ⊥) → fault_at 0 (stop_of r) ≡ Some Read → r ≡ reason.Failure
failure_by reason.End begun is = cc
failure_by reason.Limit begun is = cc
failure_by reason.Failure begun is = refl
failure_by reason.Unbegun begun is = absurd (begun refl)

pub line_is_read : (n : ℕ) (cause : LineFault) → ◌≡◌ {A = Option Fault} (Some (Line n cause)) (Some Read) → ⊥
line_is_read n cause is = cc

-- the script can't be opened or read on
abbrev pub Unreadable : Result Script Fault → Type 0
Unreadable (Ok s) = s.stop ≡ Failed
Unreadable (Err fault) = fault ≡ Read

pub unreadable_by : (job : Result Script Fault) → script_fault job ≡ Some Read → Unreadable job
unreadable_by (Ok s) is = failed_by (1 + length s.events) s.stop is
unreadable_by (Err fault) is = same_in_some is

pub unreadable_in : (shown : Option Script) → Unreadable (script_or_fault shown) → IsUnreadable shown
unreadable_in None is = tt
unreadable_in (Some s) is = is

some_by : (s : Script) (shown : Option Script) → Ok s ≡ script_or_fault shown → Some s ≡ shown
some_by s None is = absurd (err_is_ok (sym is))
some_by s (Some other) is = ap (λ (s : Script). Some s) (same_in_ok is)

-- ---- what was asked for

module _ {I : Type 0} (i : Inputs.Ghosts I) (name : List ℕ) (old new : I) (result : Exit) where
  pub asked_starved : (result ≡ exit.ReadFault → ⊥) → IsScriptOf i name old new result (Err Memory)
  asked_starved other = record { shown = λ seen. inl refl; failed = λ is. absurd (other is); known = inr refl }

  -- the script couldn't be opened
  pub asked_unbegun : (i.observable → script_in (i.state old) name ≡ None) → Rose (i.state old).faults (i.state new).faults → IsScriptOf i name old new result (Err Read)
  asked_unbegun none rose = record { shown = λ seen. inr (ap script_or_fault (sym (none seen))); failed = λ is. rose; known = inl refl }

  -- a script was opened
  pub asked_begun : (s : Script) → (i.observable → script_in (i.state old) name ≡ Some s) → (result ≡ exit.ReadFault → Rose (i.state old).faults (i.state new).faults) → IsScriptOf i name old new result (Ok s)
  asked_begun s read fails = record { shown = λ seen. inr (ap script_or_fault (sym (read seen))); failed = fails; known = tt }

-- a text that was written up to a cut ends with ReadFault only if that is its fault
pub read_by : {O : Type 0} (o : Sink.Ghosts O) (r : Report) (cut : Option ℕ) (old new : O) (result : Exit) → Leaves o (pieces r) cut old new → result ≡ exit_of r cut → result ≡ exit.ReadFault → r.fault ≡ Some Read
read_by o r cut old new result left ends is = (exit_says o r cut old new result left ends).read is

-- a refusal for want of memory ends in no other fault
pub memory_exit : {O : Type 0} (o : Sink.Ghosts O) (old new : O) (result : Exit) → Reports o (refusal Memory) old new result → result ≡ exit.ReadFault → ⊥
memory_exit o old new result reports is = memory_is_read (same_in_some (read_by o (refusal Memory) reports.cut old new result reports.left reports.ends is))

-- ---- what the exits say

-- what a command has to do has a script, and its report stops at the fault of that script
pub record IsOfScript {J : Type 0} (script : Result J Fault → Result Script Fault) (report : J → List (List Bool) → Report) : Type 0 where
  pub stops : (job : Result J Fault) (answers : List (List Bool)) → (report_of report job answers).fault ≡ script_fault (script job)
  pub begun : (job : J) → (fault : Fault) → script (Ok job) ≡ Err fault → ⊥

module _ {I O J : Type 0} (i : Inputs.Ghosts I) (o : Sink.Ghosts O) (script : Result J Fault → Result Script Fault) (report : J → List (List Bool) → Report) (of : IsOfScript script report) (name : List ℕ) (old new : I) (sink sink' : O) (result : Exit) where
  module _ (Asks : Result J Fault → Type 0) (asks : (job : Result J Fault) → Asks job → IsScriptOf i name old new result (script job)) (Touching : Result J Fault → List (List Bool) → Option ℕ → Type 0) (did : Did o Asks report Touching sink sink' result) where
    pub said : ExitSays o (report_of report did.job did.answers) did.cut sink sink' result
    said = exit_says o (report_of report did.job did.answers) did.cut sink sink' result did.left did.ends

    asked : IsScriptOf i name old new result (script did.job)
    asked = asks did.job did.asked

    pub did_unfailed : result ≡ exit.Done → IsUnfailed (o.state sink) (o.state sink')
    did_unfailed is = let wrote = (said.done is).wrote in record { faults = wrote.faults; stalls = wrote.stalls }

    pub did_write_fault : result ≡ exit.WriteFault → HasFailed (o.state sink) (o.state sink')
    did_write_fault = said.failed

    pub did_read_fault : result ≡ exit.ReadFault → Rose (i.state old).faults (i.state new).faults
    did_read_fault = asked.failed

    unread : result ≡ exit.ReadFault → Unreadable (script did.job)
    unread is = unreadable_by (script did.job) (sym (of.stops did.job did.answers) ∙ said.read is)

    pub did_read_cause : i.observable → result ≡ exit.ReadFault → MayFail name script_limit (i.state old)
    did_read_cause seen is = elim (asked.shown seen) [
      | inl memory ↦ absurd (memory_is_read (subst Unreadable memory (unread is)))
      | inr shown ↦ script_cause (i.state old) name (unreadable_in (script_in (i.state old) name) (subst Unreadable shown (unread is)))
    ]

    pub did_memory : result ≡ exit.Memory → IsStarved o sink sink'
    did_memory is = by did.job did.left (said.memory is)
      where
        never : (s : Result Script Fault) → ((fault : Fault) → s ≡ Err fault → ⊥) → script_fault s ≡ Some Memory → ⊥
        never (Ok s) begun at = never_memory (1 + length s.events) s.stop at
        never (Err fault) begun at = begun fault refl

        by : (job : Result J Fault) → Leaves o (pieces (report_of report job did.answers)) did.cut sink sink' → (report_of report job did.answers).fault ≡ Some Memory → IsStarved o sink sink'
        by (Ok job) left at = absurd (never (script (Ok job)) (of.begun job) (sym (of.stops (Ok job) did.answers) ∙ at))
        by (Err fault) left at = (did.cut, subst (λ (fault : Fault). Leaves o (fault_text fault ∷ []) did.cut sink sink') (same_in_some at) left)

    pub did_decided : i.observable → EndsWith o (script_exit (script_or_fault (script_in (i.state old) name))) sink sink' result
    did_decided seen = by (asked.shown seen) said.ends
      where
        due : exit_after (report_of report did.job did.answers).fault ≡ script_exit (script did.job)
        due = ap exit_after (of.stops did.job did.answers)

        by : (script did.job ≡ Err Memory) ⊎ (script did.job ≡ script_or_fault (script_in (i.state old) name)) → EndsBy o (exit_after (report_of report did.job did.answers).fault) sink sink' result → EndsWith o (script_exit (script_or_fault (script_in (i.state old) name))) sink sink' result
        by shown (inr broken) = inr (inr broken)
        by (inl memory) (inl ends) = inr (inl (ends ∙ due ∙ ap script_exit memory))
        by (inr shown) (inl ends) = inl (ends ∙ due ∙ ap script_exit shown)

    -- on Done the script was held whole, and its report has no fault
    pub held_whole : (s : Script) → script did.job ≡ Ok s → i.observable → result ≡ exit.Done → (s.stop ≡ End) × IsHeldWhole (i.state old) name s.events
    held_whole s is seen done =
        let faultless : script_fault (Ok s) ≡ None = ap script_fault (sym is) ∙ sym (of.stops did.job did.answers) ∙ (said.done done).faultless in
        let stop : s.stop ≡ End = end_by (1 + length s.events) s.stop faultless in (
          stop,
          elim (asked.shown seen) [
            | inl memory ↦ absurd (err_is_ok (sym memory ∙ is))
            | inr shown ↦ read_whole (i.state old) name s (some_by s (script_in (i.state old) name) (sym is ∙ shown)) stop
          ],
        )
