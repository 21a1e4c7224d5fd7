-- The meaning of a comparison, and how it came about.
use Rattle.std.proofs.Common.{◌≡◌, ℕ, ◌+◌, Bool, List, [], ◌∷◌, ◌++◌, length, Option, Some, None, Result, Ok, Err, refl, sym, ◌∙◌, ap, subst}
use Rattle.std.specs.List.{concat}
use Rattle.std.proofs.lemmas.List.{append-nil}
use Rattle.pm_base.specs.declared.errors.Exit.{Exit}
use Rattle.pm_base.specs.declared.errors.Exit.TheVariants as exit
use Rattle.pm_base.specs.declared.events.Event.{Event}
use Rattle.pm_io.specs.declared.inputs.Inputs as Inputs
use Rattle.pm_base.specs.declared.names.NodeId.{NodeId}
use Rattle.pm_io.specs.declared.prefix.StopReason.{StopReason}
use Rattle.pm_io.specs.declared.prefix.StopReason.TheVariants as reason
use Rattle.pm_io.specs.declared.sink.Sink as Sink
use Rattle.pm_base.specs.Faults.{Rose}
use Rattle.pm_io.specs.Inputs.{Moment}
use Rattle.pm_reach.specs.declared.members.Member.{Member}
use Rattle.pm_reach.specs.Membership.{IsReach}
use Rattle.pm_object.specs.declared.object.Object.{Object}
use Rattle.pm_block.specs.Block.{attached_by, passed}
use Rattle.pm_block.proofs.BlockLaw.{length_passed}
use Rattle.pm_topology.specs.declared.topology.Topology.{Topology}
use Rattle.pm_state.specs.State.{objects_in, objects_of}
use Rattle.pm_reader.specs.declared.follow.Front.{Front}
use Rattle.pm_reader.specs.Front.{Ahead, Attaches, ran}
use Rattle.pm_run.specs.Run.{Setup, setup_for}
use Rattle.pm_script.specs.declared.meaning.LineFault.{LineFault}
use Rattle.pm_script.specs.Named.{IsHeldWhole, script_in}
use Rattle.pm_script.specs.Script.{Script, Stop, stop_of}
use Rattle.pm_script.specs.Script.Stop.{Bad, End as AtEnd}
use Rattle.pm_trace.specs.declared.faults.Fault.{Fault}
use Rattle.pm_trace.specs.declared.faults.Fault.TheVariants.{Line, Memory, Read}
use Rattle.pm_trace.specs.Exits.{IsWhole}
use Rattle.pm_trace.specs.Reach.{reach_text}
use Rattle.pm_trace.specs.Report.{Reports, refusal, report_of}
use Rattle.pm_trace.specs.Scripts.{IsScriptOf, at_end, fault_at, script_fault}
use Rattle.pm_trace.proofs.ScriptsLemmas as scripts
use Rattle.pm_isolate.specs.declared.comparison.Prepared.{Prepared}
use Rattle.pm_isolate.specs.Sides.{Sides}
use Rattle.pm_isolate.specs.Compared.{Compared, Comparison, IsCompared, IsComparisonOf, TouchesNothing, comparison_report, script_of_job}
use Rattle.pm_isolate.specs.Differences.{differences, isolate_report}
use Rattle.pm_isolate.specs.Listed.{AreListed}
use Rattle.pm_isolate.specs.Within.{IsPrepared, IsReachText, after, begun, end_text, report_behind, rest_report}
use Rattle.pm_isolate.proofs.MarksLemmas.{end_is}

some_is_none : {X : Type 0} {x : X} → Some x ≡ None → ⊥
some_is_none e = cc

ok_is_err : {X Y : Type 0} {x : X} {y : Y} → Ok x ≡ Err y → ⊥
ok_is_err e = cc

pub of_script : (object : Object) (t : Topology) (m : NodeId) → scripts.IsOfScript script_of_job (comparison_report object t m)
of_script object t m = record { stops = stops; begun = λ job fault is. ok_is_err is }
  where
    stops : (job : Result Comparison Fault) (answers : List (List Bool)) → (report_of (comparison_report object t m) job answers).fault ≡ script_fault (script_of_job job)
    stops (Ok job) answers = ap (λ (n : ℕ). fault_at (1 + n) job.script.stop) (length_passed [] job.script.events)
    stops (Err fault) answers = refl

module _ {I O : Type 0} (i : Inputs.Ghosts I) (o : Sink.Ghosts O) (object : Object) (t : Topology) (m : NodeId) (name : List ℕ) (old new : I) (sink sink' : O) (result : Exit) where
  pub script_asked : (job : Result Comparison Fault) → IsComparisonOf i object t m name old new result job → IsScriptOf i name old new result (script_of_job job)
  script_asked job asked = asked.script

  -- ---- the meaning of a comparison

  pub compare_done : Compared i o object t m name old new sink sink' result → ((members : List Member) (events : List Event) → IsReach (objects_in object (attached_by events)) t m members → AreListed (setup_for object t events) m members (passed events)) → i.observable → o.observable → result ≡ exit.Done → IsCompared i o object t m name old sink sink'
  compare_done did listed seen written done = by did.job refl did.asked ((scripts.said i o script_of_job (comparison_report object t m) (of_script object t m) name old new sink sink' result (IsComparisonOf i object t m name old new result) script_asked TouchesNothing did).done done)
    where
      by : (job : Result Comparison Fault) → did.job ≡ job → IsComparisonOf i object t m name old new result job → IsWhole o (report_of (comparison_report object t m) job did.answers) did.cut sink sink' → IsCompared i o object t m name old sink sink'
      by (Err fault) is asked whole = absurd (some_is_none whole.faultless)
      by (Ok job) is asked whole =
          let s : Script = job.script in
          let held = scripts.held_whole i o script_of_job (comparison_report object t m) (of_script object t m) name old new sink sink' result (IsComparisonOf i object t m name old new result) script_asked TouchesNothing did s (ap script_of_job is) seen done in
          let c : Setup = setup_for object t s.events in
          let text : List ℕ = differences c m (passed s.events) in
          let all : (isolate_report c m job.members (ran s)).body ≡ reach_text job.members ∷ text ∷ [] =
          ap (λ (stop : Stop). reach_text job.members ∷ at_end stop text) held.0
          in
          let read : IsHeldWhole (i.state old) name s.events = held.1 in
          record {
            script_bytes = read.bytes;
            events = s.events;
            members = job.members;
            held = read.held;
            means = read.means;
            reach = asked.reach;
            text = whole.wrote.appended written
                ∙ ap (λ (ps : List (List ℕ)). (o.state sink).bytes ++ concat ps) all
                ∙ ap (λ (tail : List ℕ). (o.state sink).bytes ++ (reach_text job.members ++ tail)) (append-nil text);
            listed = listed job.members s.events asked.reach;
          }

  -- ---- how a comparison came about

  compare_refused : (fault : Fault) → IsComparisonOf i object t m name old new result (Err fault) → Reports o (refusal fault) sink sink' result → Compared i o object t m name old new sink sink' result
  compare_refused fault asked reports = record { job = Err fault; answers = []; cut = reports.cut; asked = asked; left = reports.left; ends = reports.ends; touched = tt }

  -- memory ran out
  pub compare_starved : Reports o (refusal Memory) sink sink' result → Compared i o object t m name old new sink sink' result
  compare_starved reports = compare_refused Memory (record { script = scripts.asked_starved i name old new result (scripts.memory_exit o sink sink' result reports); reach = tt }) reports

  -- the script couldn't be opened
  pub compare_unbegun : (i.observable → script_in (i.state old) name ≡ None) → Rose (i.state old).faults (i.state new).faults → Reports o (refusal Read) sink sink' result → Compared i o object t m name old new sink sink' result
  compare_unbegun none rose reports = compare_refused Read (record { script = scripts.asked_unbegun i name old new result none rose; reach = tt }) reports

  -- a script was read, and this is its report with the reach of the master
  abbrev pub compare_ran : (s : Script) (members : List Member) → (i.observable → script_in (i.state old) name ≡ Some s) → (result ≡ exit.ReadFault → Rose (i.state old).faults (i.state new).faults) → IsReach (objects_in object (attached_by s.events)) t m members → Reports o (isolate_report (setup_for object t s.events) m members (ran s)) sink sink' result → Compared i o object t m name old new sink sink' result
  compare_ran s members read fails reach reports = record {
    job = Ok (record { members = members; script = s });
    answers = [];
    cut = reports.cut;
    asked = record { script = scripts.asked_begun i name old new result s read fails; reach = reach };
    left = reports.left;
    ends = reports.ends;
    touched = tt;
  }

  -- on Done the script came to its end
  pub compare_ended : (s : Script) (members : List Member) → (i.observable → script_in (i.state old) name ≡ Some s) → (result ≡ exit.ReadFault → Rose (i.state old).faults (i.state new).faults) → IsReach (objects_in object (attached_by s.events)) t m members → Reports o (isolate_report (setup_for object t s.events) m members (ran s)) sink sink' result → i.observable → result ≡ exit.Done → s.stop ≡ AtEnd
  compare_ended s members read fails reach reports seen done =
      (scripts.held_whole i o script_of_job (comparison_report object t m) (of_script object t m) name old new sink sink' result (IsComparisonOf i object t m name old new result) script_asked TouchesNothing (compare_ran s members read fails reach reports) s refl seen done).0

-- ---- what is prepared

-- what was read ahead, both books at load with what it attaches, and the text of the reach by all their objects
pub prepared_by : (shown : Type 0) (id : ℕ) (ahead : Ahead) (now : Moment) (c : Setup) (m : NodeId) (p : Prepared) (front : Front) (w : Sides) (objects : List Object) (t : Topology)
    → c.attached ≡ ahead.attached → Attaches shown id ahead now front → w ≡ begun c
    → objects ≡ objects_of w.loud.book.fixed → t ≡ w.loud.book.fixed.topology
    → p.front ≡ front → p.worlds ≡ w → IsReachText objects t m p.reach.items
    → IsPrepared shown id ahead now c m p
prepared_by shown id ahead now c m p front w objects t attached read loads all chip same kept found = record {
  members = found.members;
  reach =
      subst (λ (t : Topology). IsReach (objects_in c.object c.attached) t m found.members) (chip ∙ ap (λ (w : Sides). w.loud.book.fixed.topology) loads)
      (subst (λ (objects : List Object). IsReach objects t m found.members) (all ∙ ap (λ (w : Sides). objects_of w.loud.book.fixed) loads) found.reach);
  text = found.is;
  worlds = kept ∙ loads;
  attached = attached;
  front = subst (λ (f : Front). Attaches shown id ahead now f) (sym same) read;
}

-- ---- the report of a script

-- from the load on, with the text of the reach before it
pub report_is : (shown : Type 0) (id : ℕ) (ahead : Ahead) (now : Moment) (c : Setup) (m : NodeId) (s : Script) (p : Prepared) (ready : IsPrepared shown id ahead now c m p) → report_behind p.reach.items (rest_report m s p.worlds) ≡ isolate_report c m ready.members s
report_is shown id ahead now c m s p ready =
    let number : ℕ = 1 + length s.events in
    ap (λ (text : List ℕ). report_behind text (rest_report m s p.worlds)) ready.text
    ∙ ap (λ (w : Sides). report_behind (reach_text ready.members) (rest_report m s w)) ready.worlds
    ∙ ap (λ (text : List ℕ). record { body = reach_text ready.members ∷ at_end s.stop text; fault = fault_at number s.stop }) (end_is c m s.events)

-- the number of a line is told for a bad one alone
fault_anywhere : (j n : ℕ) (r : StopReason) → fault_at j (stop_of r) ≡ fault_at n (stop_of r)
fault_anywhere j n reason.End = refl
fault_anywhere j n reason.Limit = refl
fault_anywhere j n reason.Failure = refl
fault_anywhere j n reason.Unbegun = refl

-- all lines were run, and what comes after them was written
pub rest_closed : (m : NodeId) (s : Script) (r : StopReason) (now then : Sides) (count : ℕ) → s.stop ≡ stop_of r → then ≡ after m s.events now → count ≡ length s.events → record { body = at_end (stop_of r) (end_text then count); fault = fault_at 0 (stop_of r) } ≡ rest_report m s now
rest_closed m s r now then count stop at number =
    let n : ℕ = 1 + length s.events in
    ap (λ (f : Option Fault). record { body = at_end (stop_of r) (end_text then count); fault = f }) (fault_anywhere 0 n r)
    ∙ ap (λ (w : Sides). record { body = at_end (stop_of r) (end_text w count); fault = fault_at n (stop_of r) }) at
    ∙ ap (λ (k : ℕ). record { body = at_end (stop_of r) (end_text (after m s.events now) k); fault = fault_at n (stop_of r) }) number
    ∙ ap (λ (stop : Stop). record { body = at_end stop (end_text (after m s.events now) (length s.events)); fault = fault_at n stop }) (sym stop)

-- a line has no meaning
pub rest_bad : (m : NodeId) (s : Script) (now : Sides) (n : ℕ) (cause : LineFault) → s.stop ≡ Bad cause → n ≡ 1 + length s.events → refusal (Line n cause) ≡ rest_report m s now
rest_bad m s now n cause stop is =
    ap (λ (n : ℕ). record { body = []; fault = Some (Line n cause) }) is
    ∙ ap (λ (stop : Stop). record { body = at_end stop (end_text (after m s.events now) (length s.events)); fault = fault_at (1 + length s.events) stop }) (sym stop)
