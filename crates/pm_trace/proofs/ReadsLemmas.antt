-- Which calls a command makes that reads a named script.
use Rattle.std.proofs.Common.{◌≡◌, ℕ, ◌+◌, ◌⊎◌, Bool, true, false, List, [], ◌∷◌, Option, Some, None, refl, sym, ◌∙◌, ap, subst, arith, inl, inr, nat_lt}
use Rattle.std.specs.Prelude.{if◌then◌else◌}
use Rattle.std.proofs.lemmas.Bool.Decides.{nat_tests}
use Rattle.std.proofs.lemmas.List.{append-nil}
use Rattle.pm_io.specs.Calls.{Begin, Call, GoesOn, GoesUpTo, Named}
use Rattle.pm_io.specs.Inputs.{Adds, Moment}
use Rattle.pm_io.specs.Readings.{LeftReadBy, Meanwhile}
use Rattle.pm_base.specs.declared.errors.Exit.{Exit}
use Rattle.pm_base.specs.declared.errors.Exit.TheVariants as exit
use Rattle.pm_io.specs.declared.prefix.StopReason.{StopReason}
use Rattle.pm_io.specs.declared.prefix.StopReason.TheVariants as reason
use Rattle.pm_io.specs.declared.sink.Sink as Sink
use Rattle.pm_io.proofs.ReadingsLemmas.{begun_up_to, meanwhile_map, meanwhile_none, name_to_fault, name_unbegun, name_up_to, one_name, then_read}
use Rattle.pm_script.specs.Script.{script_limit, stop_of}
use Rattle.pm_trace.specs.declared.faults.Fault.{Fault}
use Rattle.pm_trace.specs.declared.faults.Fault.TheVariants.{Memory, Read}
use Rattle.pm_trace.specs.declared.faults.Fault.TheVariants as faults
use Rattle.pm_trace.specs.Faults.{exit_by}
use Rattle.pm_trace.specs.Report.{Reports, exit_of, refusal}
use Rattle.pm_trace.specs.Scripts.{IsBegun, ReadsBegun, ReadsScript, at_end, fault_at, script_named}

-- ---- how a command ends

pub refused_exit : (fault : Fault) (cut : Option ℕ) → exit_of (refusal fault) cut ≡ exit_by fault
refused_exit fault None = refl
refused_exit fault (Some k) = ap (λ (b : Bool). if b then exit.WriteFault else exit_by fault) (none k)
  where
    none : (k : ℕ) → nat_lt k 0 ≡ false
    none k = grind (arith, nat_tests)

pub refused : {O : Type 0} (o : Sink.Ghosts O) (fault : Fault) (old new : O) (result : Exit) → Reports o (refusal fault) old new result → result ≡ exit_by fault
refused o fault old new result reports = reports.ends ∙ refused_exit fault reports.cut

-- the end of a command that read all lines up to the stop
abbrev pub EndsAfter : StopReason → Exit → Type 0
EndsAfter reason.End due = (due ≡ exit.Done) ⊎ (due ≡ exit.WriteFault)
EndsAfter reason.Limit due = due ≡ exit.TooLarge
EndsAfter reason.Failure due = due ≡ exit.ReadFault
EndsAfter reason.Unbegun due = due ≡ exit.ReadFault

-- the report behind the last line: a last piece at the end of the script, and the fault for which it isn't read on
pub closed : (stop : StopReason) (piece : List ℕ) (cut : Option ℕ) → EndsAfter stop (exit_of (record { body = at_end (stop_of stop) piece; fault = fault_at 0 (stop_of stop) }) cut)
closed reason.End piece None = inl refl
closed reason.End piece (Some k) = by (nat_lt k 1)
  where
    by : (b : Bool) → ((if b then exit.WriteFault else exit.Done) ≡ exit.Done) ⊎ ((if b then exit.WriteFault else exit.Done) ≡ exit.WriteFault)
    by true = inr refl
    by false = inl refl
closed reason.Limit piece cut = refused_exit faults.Size cut
closed reason.Failure piece cut = refused_exit Read cut
closed reason.Unbegun piece cut = refused_exit Read cut

-- ---- the calls after a script was begun

up_to_whole : (id left : ℕ) (calls : List Call) → GoesOn id left false calls → GoesUpTo id left false calls
up_to_whole id left calls reads = ([], subst (λ (cs : List Call). GoesOn id left false cs) (sym (append-nil calls)) reads)

left_read : (stop : StopReason) (due : Exit) (id : ℕ) → EndsAfter stop due → (calls : List Call) → LeftReadBy stop id (script_limit + 1) calls → ReadsBegun due id calls
left_read reason.End due id (inl is) calls reads = subst (λ (e : Exit). ReadsBegun e id calls) (sym is) reads
left_read reason.End due id (inr is) calls reads = subst (λ (e : Exit). ReadsBegun e id calls) (sym is) (inl (up_to_whole id (script_limit + 1) calls reads))
left_read reason.Limit due id is calls reads = subst (λ (e : Exit). ReadsBegun e id calls) (sym is) reads
left_read reason.Failure due id is calls reads = subst (λ (e : Exit). ReadsBegun e id calls) (sym is) reads
left_read reason.Unbegun due id is calls reads = absurd reads

-- all lines were taken up to the stop, and the report ends so
pub reads_closed : {O : Type 0} (o : Sink.Ghosts O) (stop : StopReason) (piece : List ℕ) (old new : O) (result : Exit) (id : ℕ) (before after : Moment) → Reports o (record { body = at_end (stop_of stop) piece; fault = fault_at 0 (stop_of stop) }) old new result → Meanwhile before after (LeftReadBy stop id (script_limit + 1)) → Meanwhile before after (ReadsBegun result id)
reads_closed o stop piece old new result id before after reports reads =
    meanwhile_map before after (LeftReadBy stop id (script_limit + 1)) (ReadsBegun result id)
    (left_read stop result id (subst (λ (e : Exit). EndsAfter stop e) (sym reports.ends) (closed stop piece reports.cut))) reads

-- a line has no meaning
pub reads_bad : {O : Type 0} (o : Sink.Ghosts O) (fault : Fault) (old new : O) (result : Exit) (id : ℕ) (before after : Moment) → exit_by fault ≡ exit.BadLine → Reports o (refusal fault) old new result → Meanwhile before after (GoesUpTo id (script_limit + 1) false) → Meanwhile before after (ReadsBegun result id)
reads_bad o fault old new result id before after bad reports reads =
    subst (λ (e : Exit). Meanwhile before after (ReadsBegun e id)) (sym (refused o fault old new result reports ∙ bad)) reads

-- memory runs out after the first lines were read
pub reads_starved : {O : Type 0} (o : Sink.Ghosts O) (old new : O) (result : Exit) (id : ℕ) (before after : Moment) → Reports o (refusal Memory) old new result → Meanwhile before after (ReadsBegun exit.Memory id) → Meanwhile before after (ReadsBegun result id)
reads_starved o old new result id before after reports reads =
    subst (λ (e : Exit). Meanwhile before after (ReadsBegun e id)) (sym (refused o Memory old new result reports)) reads

-- ---- a script is begun, and then read

module _ (name : List ℕ) (id : ℕ) where
  begun_is : (calls : List Call) → GoesUpTo id (script_limit + 1) false calls → IsBegun (script_named name) (Begin name (Some id) ∷ calls)
  begun_is calls reads = (name_up_to (script_named name) id calls reads, ap (λ (names : List (List ℕ)). name ∷ names) (begun_up_to id (script_limit + 1) calls reads))

  by_exit : (due : Exit) (calls : List Call) → ReadsBegun due id calls → ReadsScript due (script_named name) (Begin name (Some id) ∷ calls)
  by_exit exit.Done calls reads = one_name (script_named name) id calls reads
  by_exit exit.TooLarge calls reads = one_name (script_named name) id calls reads
  by_exit exit.ReadFault calls reads = name_to_fault (script_named name) id calls reads
  by_exit exit.BadLine calls reads = begun_is calls reads
  by_exit exit.WriteFault calls (inl reads) = inl (begun_is calls reads)
  by_exit exit.WriteFault calls (inr reads) = inr (name_to_fault (script_named name) id calls reads)
  by_exit exit.Memory calls (inl reads) = inr (inl (begun_is calls reads))
  by_exit exit.Memory calls (inr reads) = inr (inr (name_to_fault (script_named name) id calls reads))
  by_exit exit.Usage calls reads = absurd reads
  by_exit exit.BadObject calls reads = absurd reads
  by_exit exit.BadText calls reads = absurd reads

  pub script_reads : (due : Exit) (before mid after : Moment) → Adds (Begin name (Some id)) before mid → Meanwhile mid after (ReadsBegun due id) → Meanwhile before after (ReadsScript due (script_named name))
  script_reads due before mid after adds reads = then_read (script_named name) id before mid after (ReadsBegun due id) (ReadsScript due (script_named name)) (by_exit due) adds reads

-- it couldn't be opened
pub script_not_begun : {O : Type 0} (o : Sink.Ghosts O) (name : List ℕ) (old new : O) (result : Exit) (before after : Moment) → Reports o (refusal Read) old new result → Adds (Begin name None) before after → Meanwhile before after (ReadsScript result (script_named name))
script_not_begun o name old new result before after reports adds =
    subst (λ (e : Exit). Meanwhile before after (ReadsScript e (script_named name))) (sym (refused o Read old new result reports)) (name_unbegun (script_named name) before after adds)

-- memory ran out before it was opened
pub script_starved : {O : Type 0} (o : Sink.Ghosts O) (n : Named) (old new : O) (result : Exit) (m : Moment) → Reports o (refusal Memory) old new result → Meanwhile m m (ReadsScript result n)
script_starved o n old new result m reports =
    subst (λ (e : Exit). Meanwhile m m (ReadsScript e n)) (sym (refused o Memory old new result reports)) (meanwhile_none m (ReadsScript exit.Memory n) (inl refl))
