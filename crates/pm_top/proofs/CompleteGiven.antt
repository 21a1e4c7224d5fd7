-- Where the texts that the calls gave are right, a run is done, or wants memory, or its sink failed.
use Rattle.std.proofs.Common.{◌≡◌, ℕ, ◌+◌, ◌⊎◌, List, [], ◌∷◌, ◌++◌, length, Option, Some, None, Result, Ok, Err, refl, sym, ◌∙◌, ap, subst, append_assoc, inl, inr}
use Rattle.std.proofs.lemmas.List.{append-nil}
use Rattle.pm_base.specs.declared.errors.Exit.{Exit}
use Rattle.pm_base.specs.declared.errors.Exit.TheVariants as exit
use Rattle.pm_io.specs.declared.sink.Sink as Sink
use Rattle.pm_io.specs.Calls.{Call}
use Rattle.pm_io.specs.Given.{prefix_called}
use Rattle.pm_io.specs.Prefix.{Prefix}
use Rattle.pm_io.specs.Sink.{HasFailed}
use Rattle.pm_object.specs.declared.object.Object.{Object}
use Rattle.pm_object.specs.Grammar.{Reads}
use Rattle.pm_object.specs.Reading.{reading}
use Rattle.pm_objtext.specs.Building.{building}
use Rattle.pm_objtext.specs.Meaning.{Means}
use Rattle.pm_topology.specs.declared.topology.Topology.{Topology}
use Rattle.pm_script.specs.Script.{Script, Stop, script_limit, script_of}
use Rattle.pm_script.specs.Script.Stop.{End as AtEnd}
use Rattle.pm_trace.specs.declared.faults.Fault.{Fault}
use Rattle.pm_trace.specs.Exits.{EndsWith}
use Rattle.pm_trace.specs.Faults.{exit_after}
use Rattle.pm_trace.specs.Scripts.{fault_at, script_or_fault}
use Rattle.pm_top.specs.declared.works.Form.{Form}
use Rattle.pm_top.specs.declared.works.Source.{Source}
use Rattle.pm_top.specs.declared.works.Source.TheVariants as source
use Rattle.pm_top.specs.declared.reading.Subject.{Subject}
use Rattle.pm_top.specs.Asked.{built_of, lines_asked, lines_by, no_script, object_by, object_limit, object_of, object_or_fault, subject_by, text_limit, text_or_fault, then_script, topology_limit, topology_of, topology_or_fault, with_topology}
use Rattle.pm_top.specs.Called.{asked_given, behind_source, behind_topology, first_calls, later_calls, script_called, source_called, topology_called, topology_given}
use Rattle.pm_top.specs.Complete.{AreRight, FormGivenRight, NamesMaster}
use Rattle.pm_top.specs.Given.{AreScript, Gave, GaveEach, IsObjectOf, IsTopologyOf, Text, text}
use Rattle.pm_top.specs.Ran.{DecidesGiven, job_exit}
use Rattle.pm_top.specs.Words.{word}
use Rattle.pm_top.proofs.CallsLaw.{IsReading, Starts, whole_reading}
use Rattle.pm_top.proofs.CompleteLemmas.{lines_there, subject_named, sure_end}
use Rattle.pm_top.proofs.HeldWhole.{all_of, script_whole}

-- ---- calls that gave texts one after another

record Gives (first second : List Text) (calls : List Call) : Type 0 where
  pub one : List Call
  pub two : List Call
  pub is : calls ≡ one ++ two
  pub gave : GaveEach one first
  pub later : GaveEach two second

gives_both : (first second : List Text) (calls : List Call) → GaveEach calls (first ++ second) → Gives first second calls
gives_both [] second calls gave = record { one = []; two = calls; is = refl; gave = refl; later = gave }
gives_both (it ∷ first) second calls gave =
    let rest = gives_both first second gave.1 gave.4 in
    record {
      one = gave.0 ++ rest.one;
      two = rest.two;
      is = gave.2 ∙ ap (λ (calls : List Call). gave.0 ++ calls) rest.is ∙ sym (append_assoc gave.0 rest.one rest.two);
      gave = (gave.0, rest.one, refl, gave.3, rest.gave);
      later = rest.later;
    }

one_of : (it : Text) (calls : List Call) → GaveEach calls (it ∷ []) → Gave it calls
one_of it calls gave =
    let same : calls ≡ gave.0 = gave.2 ∙ (ap (λ (next : List Call). gave.0 ++ next) gave.4 ∙ append-nil gave.0) in
    subst (Gave it) (sym same) gave.3

each_starts : (texts : List Text) (calls : List Call) → GaveEach calls texts → Starts calls
each_starts [] calls gave = subst Starts (sym gave) tt
each_starts (it ∷ texts) calls gave = subst Starts (sym gave.2) ((whole_reading it.named gave.0 gave.3.reads).starts gave.1)

-- what calls gave of one text
record OneText (limit : ℕ) (bytes : List ℕ) (calls : List Call) : Type 0 where
  pub is : (later : List Call) → Starts later → prefix_called limit (first_calls (calls ++ later)) ≡ all_of bytes
  pub rest : (later : List Call) → Starts later → later_calls (calls ++ later) ≡ later

one_text : (name : List ℕ) (limit : ℕ) (bytes : List ℕ) (texts : List Text) (calls : List Call) → texts ≡ text name limit bytes ∷ [] → GaveEach calls texts → OneText limit bytes calls
one_text name limit bytes texts calls is all =
    let gave : Gave (text name limit bytes) calls = one_of (text name limit bytes) calls (subst (GaveEach calls) is all) in
    let reading : IsReading calls = whole_reading (text name limit bytes).named calls gave.reads in
    record {
      is = λ later starts. ap (prefix_called limit) (reading.first later starts) ∙ gave.is;
      rest = reading.rest;
    }

no_text : (texts : List Text) (calls : List Call) → texts ≡ [] → GaveEach calls texts → calls ≡ []
no_text texts calls is all = subst (GaveEach calls) is all

-- ---- what a form reads

module _ (written : (bytes : List ℕ) (o : Object) → Reads bytes o → reading bytes ≡ Ok o) (built : (text : List ℕ) (o : Object) → Means text o → building text ≡ Ok o) where
  record SourceIs (s : Source) (name : List ℕ) (object : Object) (calls : List Call) : Type 0 where
    pub is : (later : List Call) → Starts later → object_by s (source_called s name (calls ++ later)) ≡ Ok object
    pub rest : (later : List Call) → Starts later → behind_source s (calls ++ later) ≡ later

  source_is : (s : Source) (name : List ℕ) (texts : List Text) (object : Object) (calls : List Call) → IsObjectOf s name texts object → GaveEach calls texts → SourceIs s name object calls
  source_is source.Object name texts object calls of all =
      let one = one_text name object_limit of.0 texts calls of.1 all in
      record { is = λ later starts. ap object_of (one.is later starts) ∙ ap object_or_fault (written of.0 object of.2); rest = one.rest }
  source_is source.Text name texts object calls of all =
      let one = one_text name text_limit of.0 texts calls of.1 all in
      record { is = λ later starts. ap built_of (one.is later starts) ∙ ap text_or_fault (built of.0 object of.2); rest = one.rest }
  source_is source.Number name texts object calls of all =
      let as_ok : Object → Result Object Fault = λ o. Ok o in
      let none : calls ≡ [] = no_text texts calls of.0 all in
      record {
        is = λ later starts. lines_there (lines_asked name) of.1 ∙ ap as_ok (sym of.2);
        rest = λ later starts. ap (λ (calls : List Call). calls ++ later) none;
      }
  source_is source.Nothing name texts object calls of all =
      let as_ok : Object → Result Object Fault = λ o. Ok o in
      let none : calls ≡ [] = no_text texts calls of.0 all in
      record {
        is = λ later starts. ap as_ok (sym of.1);
        rest = λ later starts. ap (λ (calls : List Call). calls ++ later) none;
      }

  record TopologyIs (place : Option ℕ) (t : Topology) (calls : List Call) : Type 0 where
    pub is : (later : List Call) → Starts later → topology_called place (calls ++ later) ≡ Ok t
    pub rest : (later : List Call) → Starts later → behind_topology place (calls ++ later) ≡ later

  topology_is : (place : Option ℕ) (ws : List (List ℕ)) (texts : List Text) (t : Topology) (calls : List Call) → IsTopologyOf place ws texts t → GaveEach calls texts → TopologyIs place t calls
  topology_is None ws texts t calls of all =
      let as_ok : Topology → Result Topology Fault = λ t. Ok t in
      record { is = λ later starts. ap as_ok (sym of.1); rest = λ later starts. ap (λ (calls : List Call). calls ++ later) (no_text texts calls of.0 all) }
  topology_is (Some k) ws texts t calls of all =
      let one = one_text (word k ws) topology_limit of.0 texts calls of.1 all in
      record { is = λ later starts. ap topology_of (one.is later starts) ∙ ap topology_or_fault of.2; rest = one.rest }

  -- a script that comes to its end
  record ScriptIs (place : Option ℕ) (calls : List Call) : Type 0 where
    pub script : Script
    pub is : script_called place calls ≡ Ok script
    pub ends : script.stop ≡ AtEnd

  script_is : (place : Option ℕ) (ws : List (List ℕ)) (texts : List Text) (calls : List Call) → AreScript place ws texts → GaveEach calls texts → ScriptIs place calls
  script_is None ws texts calls of all = record { script = no_script; is = refl; ends = refl }
  script_is (Some k) ws texts calls of all =
      let it : Text = text (word k ws) script_limit of.0 in
      let gave : Gave it calls = one_of it calls (subst (GaveEach calls) of.2 all) in
      record {
        script = record { events = of.1; stop = AtEnd };
        is = ap (λ (p : Prefix). script_or_fault (script_of p)) gave.is ∙ ap script_or_fault (script_whole of.0 of.1 of.3);
        ends = refl;
      }

  -- ---- the exit

  -- where what the calls gave is right, Done is due
  due_of : (f : Form) (ws : List (List ℕ)) (object : Object) (t : Topology) (one two three : List Call) → NamesMaster f.node ws object
      → SourceIs f.source (word 1 ws) object one → TopologyIs f.topology t two → Starts three → Starts (two ++ three) → ScriptIs f.script three
      → job_exit (asked_given f ws (one ++ (two ++ three))) ≡ exit.Done
  due_of f ws object t one two three master first second starts then_starts script =
      let calls : List Call = one ++ (two ++ three) in
      let lines : ℕ = lines_by f.source (word 1 ws) in
      let behind : behind_source f.source calls ≡ two ++ three = first.rest (two ++ three) then_starts in
      let last : behind_topology f.topology (behind_source f.source calls) ≡ three = ap (behind_topology f.topology) behind ∙ second.rest three starts in
      let topology : topology_given f calls ≡ Ok t = ap (topology_called f.topology) behind ∙ second.is three starts in
      let subject = subject_named written built object t lines f.node ws master in
      let subject_is : subject_by (object_by f.source (source_called f.source (word 1 ws) calls)) (topology_given f calls) lines f.node ws ≡ Ok subject.0 =
      ap (λ (v : Result Object Fault). subject_by v (topology_given f calls) lines f.node ws) (first.is (two ++ three) then_starts)
      ∙ ap (λ (v : Result Topology Fault). with_topology object v lines f.node ws) topology ∙ subject.1
      in
      ap (λ (v : Result Subject Fault). job_exit (then_script v (script_called f.script (behind_topology f.topology (behind_source f.source calls))))) subject_is
      ∙ (ap (λ (calls : List Call). job_exit (then_script (Ok subject.0) (script_called f.script calls))) last
      ∙ (ap (λ (v : Result Script Fault). job_exit (then_script (Ok subject.0) v)) script.is
      ∙ ap (λ (stop : Stop). exit_after (fault_at (1 + length script.script.events) stop)) script.ends))

  due_given : (f : Form) (ws : List (List ℕ)) (calls : List Call) → AreRight (GaveEach calls) f ws → job_exit (asked_given f ws calls) ≡ exit.Done
  due_given f ws calls right =
      let all = gives_both right.object_texts (right.topology_texts ++ right.script_texts) calls right.read in
      let rest = gives_both right.topology_texts right.script_texts all.two all.later in
      let same : calls ≡ all.one ++ (rest.one ++ rest.two) = all.is ∙ ap (λ (calls : List Call). all.one ++ calls) rest.is in
      ap (λ (calls : List Call). job_exit (asked_given f ws calls)) same
      ∙ due_of f ws right.object right.topology all.one rest.one rest.two right.master
      (source_is f.source (word 1 ws) right.object_texts right.object all.one right.is all.gave)
      (topology_is f.topology ws right.topology_texts right.topology rest.one right.over rest.gave)
      (each_starts right.script_texts rest.two rest.later)
      (subst Starts rest.is (each_starts (right.topology_texts ++ right.script_texts) all.two all.later))
      (script_is f.script ws right.script_texts rest.two right.script rest.later)

  pub complete_given : {O : Type 0} (o : Sink.Ghosts O) (form : Option Form) (ws : List (List ℕ)) (calls : List Call) (sink sink' : O) (result : Exit) → DecidesGiven o form ws calls sink sink' result → FormGivenRight form ws calls
      → (HasFailed (o.state sink) (o.state sink') → ⊥) → (result ≡ exit.Done) ⊎ (result ≡ exit.Memory)
  complete_given o None ws calls sink sink' result decides right took = absurd right
  complete_given o (Some f) ws calls sink sink' result decides right took =
      sure_end o sink sink' result took (subst (λ (due : Exit). EndsWith o due sink sink' result) (due_given f ws calls right) decides)
