-- If all that the words ask for is right and nothing fails, a run ends with Done, or memory runs out.
use Rattle.std.proofs.Common.{◌≡◌, ℕ, ◌+◌, ◌<◌, ◌≤◌, ◌⊎◌, Bool, true, false, List, length, Option, Some, None, Result, Ok, refl, sym, ◌∙◌, ap, subst, arith, inl, inr}
use Rattle.std.specs.Prelude.{IsSome}
use Rattle.std.proofs.lemmas.Bool.{cases_lt}
use Rattle.pm_base.specs.declared.errors.Exit.{Exit}
use Rattle.pm_base.specs.declared.errors.Exit.TheVariants as exit
use Rattle.pm_io.specs.declared.inputs.Inputs as Inputs
use Rattle.pm_base.specs.declared.names.NodeId.{NodeId}
use Rattle.pm_io.specs.declared.sink.Sink as Sink
use Rattle.pm_base.specs.Faults.{Rose}
use Rattle.pm_io.specs.Inputs.{Holds, MayFail, Moment}
use Rattle.pm_io.specs.Prefix.{Prefix}
use Rattle.pm_io.specs.Sink.{HasFailed}
use Rattle.pm_io.specs.World.{World}
use Rattle.pm_object.specs.declared.object.Object.{Object}
use Rattle.pm_object.specs.Grammar.{Reads}
use Rattle.pm_object.specs.Reading.{reading}
use Rattle.pm_objtext.specs.Building.{building}
use Rattle.pm_objtext.specs.Meaning.{Means}
use Rattle.pm_topology.specs.declared.topology.Topology.{Topology}
use Rattle.pm_topofile.specs.Meaning.{meaning}
use Rattle.pm_board.specs.Board.{Standing}
use Rattle.pm_device.specs.declared.device.Device as Device
use Rattle.pm_gen.specs.Laboratory.{laboratory}
use Rattle.pm_script.specs.Script.{Script, Stop, script_limit, script_of}
use Rattle.pm_script.specs.Script.Stop.{End as AtEnd}
use Rattle.pm_trace.specs.declared.faults.Fault.{Fault}
use Rattle.pm_trace.specs.Exits.{EndsWith}
use Rattle.pm_trace.specs.Faults.{exit_after}
use Rattle.pm_trace.specs.Scripts.{fault_at, script_or_fault}
use Rattle.pm_top.specs.declared.reading.Subject.{Subject}
use Rattle.pm_top.specs.declared.works.Form.{Form}
use Rattle.pm_top.specs.declared.works.Source.{Source}
use Rattle.pm_top.specs.declared.works.Source.TheVariants as source
use Rattle.pm_top.specs.Asked.{Begins, asked_of, built_of, first_prefix, laboratory_if, later_prefix, lines_asked, lines_by, master_of, no_script, object_by, object_limit, object_of, object_or_fault, script_begins, script_by, script_turn, source_prefix, subject_by, text_limit, text_or_fault, then_script, topology_by, topology_limit, topology_of, topology_or_fault, with_master, with_named, with_topology}
use Rattle.pm_top.specs.Complete.{FormIsRight, HoldsObject, IsComplete, IsRight, NamesMaster, NamesScript, ReadsRight}
use Rattle.pm_top.specs.Done.{IsDone}
use Rattle.pm_top.specs.Fit.{HoldsTopology}
use Rattle.pm_top.specs.Form.{form}
use Rattle.pm_top.specs.Words.{word}
use Rattle.pm_top.specs.Ran.{Decides, FormDecides, FormMayFail, InputsMayFail, LaterMayFail, SourceMayFail, job_exit}
use Rattle.pm_top.proofs.HeldWhole.{all_of, object_fits, script_whole, whole}
use Rattle.pm_top.proofs.TakingLemmas.{means_short}

-- where the sink took all, only want of memory keeps a run that is right from Done
pub sure_end : {O : Type 0} (o : Sink.Ghosts O) (sink sink' : O) (result : Exit) → (HasFailed (o.state sink) (o.state sink') → ⊥) → EndsWith o exit.Done sink sink' result → (result ≡ exit.Done) ⊎ (result ≡ exit.Memory)
sure_end o sink sink' result took (inl done) = inl done
sure_end o sink sink' result took (inr (inl memory)) = inr memory
sure_end o sink sink' result took (inr (inr broken)) = absurd (took broken.1)

-- ---- the object

-- a name that can't fail is read to its end
first_whole : (limit : ℕ) (m : Moment) (name bytes : List ℕ) → Holds m name bytes → length bytes ≤ limit → (MayFail name limit m → ⊥) → first_prefix limit m name ≡ all_of bytes
first_whole limit m name bytes held fits sure = whole limit m name m.room bytes held fits (λ none. sure (inl (inr none))) sure

pub lines_there : (lines : Option ℕ) → IsSome lines → laboratory_if lines ≡ Ok laboratory
lines_there None is = let clash : false ≡ true = is in cc
lines_there (Some n) is = refl

module _ (written : (bytes : List ℕ) (o : Object) → Reads bytes o → reading bytes ≡ Ok o) (built : (text : List ℕ) (o : Object) → Means text o → building text ≡ Ok o) where
  -- what is held is what is read
  object_read : (s : Source) (m : Moment) (name : List ℕ) (object : Object) → HoldsObject s m name object → (SourceMayFail s name m → ⊥) → object_by s (source_prefix s m name) ≡ Ok object
  object_read source.Object m name object held sure =
      let is : reading held.0 ≡ Ok object = written held.0 object held.2 in
      ap object_of (first_whole object_limit m name held.0 held.1 (object_fits held.0 object is) sure) ∙ ap object_or_fault is
  object_read source.Text m name object held sure =
      ap built_of (first_whole text_limit m name held.0 held.1 held.2.short sure) ∙ ap text_or_fault (built held.0 object held.2)
  object_read source.Number m name object held sure =
      let as_ok : Object → Result Object Fault = λ o. Ok o in
      lines_there (lines_asked name) held.0 ∙ ap as_ok (sym held.1)
  object_read source.Nothing m name object held sure =
      let as_ok : Object → Result Object Fault = λ o. Ok o in
      ap as_ok (sym held)

  -- ---- a later name

  room_for : (m : Moment) (turn : ℕ) (again : Bool) → (turn ≤ m.room → again ≡ true) → (m.room < turn → ⊥) → again ≡ true
  room_for m turn again more enough = elim (cases_lt m.room turn) [
    | inl few ↦ absurd (enough few)
    | inr many ↦ more many
  ]

  one_is_none : (one : ℕ) → one ≡ 1 → one ≡ 0 → ⊥
  one_is_none one is none = cc

  -- a name is read to its end if it holds bytes within its limit, and can be opened and can't fail
  later_whole : (turn limit : ℕ) (m : Moment) (again : Bool) (name bytes : List ℕ) → (turn ≤ m.room → again ≡ true) → Holds m name bytes → length bytes ≤ limit → ((m.room < turn) ⊎ MayFail name limit m → ⊥) → later_prefix limit m again name ≡ all_of bytes
  later_whole turn limit m again name bytes more held fits sure =
      ap (λ (b : Bool). later_prefix limit m b name) (room_for m turn again more (λ few. sure (inl few)))
      ∙ whole limit m name 1 bytes held fits (one_is_none 1 refl) (λ fails. sure (inr fails))

  -- ---- its topology

  text_fits : (text : List ℕ) (t : Topology) → meaning text ≡ Ok t → length text ≤ topology_limit
  text_fits text t is = elim (cases_lt 1048576 (length text)) [
    | inl long ↦ absurd (means_short text t long is)
    | inr fits ↦ omega arith
  ]

  topology_read : (named : Option ℕ) (ws : List (List ℕ)) (m : Moment) (again : Bool) (t : Topology) → (2 ≤ m.room → again ≡ true) → HoldsTopology named ws m t → (LaterMayFail 2 topology_limit named ws m → ⊥) → topology_by named ws m again ≡ Ok t
  topology_read None ws m again t more held sure =
      let as_ok : Topology → Result Topology Fault = λ t. Ok t in
      ap as_ok (sym held)
  topology_read (Some k) ws m again t more held sure =
      ap topology_of (later_whole 2 topology_limit m again (word k ws) held.0 more held.1 (text_fits held.0 t held.2) sure) ∙ ap topology_or_fault held.2

  -- ---- its master

  pub subject_named : (object : Object) (topology : Topology) (lines : ℕ) (node : Option ℕ) (ws : List (List ℕ)) → NamesMaster node ws object → (subject : Subject) × (with_master object topology lines node ws ≡ Ok subject)
  subject_named object topology lines None ws named = (record { object = object; topology = topology; master = None; lines = lines }, refl)
  subject_named object topology lines (Some k) ws named = by (master_of object (word k ws)) named
    where
      by : (master : Option NodeId) → IsSome master → (subject : Subject) × (with_named object topology lines master ≡ Ok subject)
      by None is = let clash : false ≡ true = is in cc
      by (Some master) is = (record { object = object; topology = topology; master = Some master; lines = lines }, refl)

  -- ---- the script

  -- a script that is read whole comes to its end
  script_read : (turn : ℕ) (script : Option ℕ) (ws : List (List ℕ)) (m : Moment) (again : Bool) → (turn ≤ m.room → again ≡ true) → NamesScript script ws m → (LaterMayFail turn script_limit script ws m → ⊥) → (s : Script) × (script_by script ws m again ≡ Ok s) × (s.stop ≡ AtEnd)
  script_read turn None ws m again more named sure = (no_script, refl, refl)
  script_read turn (Some k) ws m again more named sure = (record { events = named.events; stop = AtEnd }, is, refl)
    where
      is : script_by (Some k) ws m again ≡ Ok (record { events = named.events; stop = AtEnd })
      is = ap (λ (p : Prefix). script_or_fault (script_of p)) (later_whole turn script_limit m again (word k ws) named.bytes more named.held named.short sure) ∙ ap script_or_fault (script_whole named.bytes named.events named.means)

  -- ---- the exit

  -- Done is due if all that a form reads is right and can't fail
  done_due : (f : Form) (ws : List (List ℕ)) (m : Moment) (again : Begins m) → ReadsRight f ws m → (FormMayFail (Some f) ws m → ⊥) → job_exit (asked_of f ws m again) ≡ exit.Done
  done_due f ws m again right sure =
      let p : Prefix = source_prefix f.source m (word 1 ws) in
      let lines : ℕ = lines_by f.source (word 1 ws) in
      let object : object_by f.source p ≡ Ok right.object = object_read f.source m (word 1 ws) right.object right.held (λ fails. sure (inl fails)) in
      let topology : topology_by f.topology ws m again.second ≡ Ok right.topology = topology_read f.topology ws m again.second right.topology again.two right.topology_held (λ fails. sure (inr (inl fails))) in
      let subject = subject_named right.object right.topology lines f.node ws right.master in
      let script = script_read (script_turn f.topology) f.script ws m (script_begins f.topology again) (turn f.topology) right.script (λ fails. sure (inr (inr fails))) in
      let subject_is : subject_by (object_by f.source p) (topology_by f.topology ws m again.second) lines f.node ws ≡ Ok subject.0 =
      ap (λ (v : Result Object Fault). subject_by v (topology_by f.topology ws m again.second) lines f.node ws) object
      ∙ ap (λ (t : Result Topology Fault). with_topology right.object t lines f.node ws) topology ∙ subject.1
      in
      ap (λ (v : Result Subject Fault). job_exit (then_script v (script_by f.script ws m (script_begins f.topology again)))) subject_is
      ∙ ap (λ (v : Result Script Fault). job_exit (then_script (Ok subject.0) v)) script.1
      ∙ ap (λ (stop : Stop). exit_after (fault_at (1 + length script.0.events) stop)) script.2
    where
      turn : (named : Option ℕ) → script_turn named ≤ m.room → script_begins named again ≡ true
      turn None many = again.two many
      turn (Some k) many = again.three many

  -- ---- the run

  module _ {I O D : Type 0} (i : Inputs.Ghosts I) (o : Sink.Ghosts O) (d : Device.Ghosts D) (ws : List (List ℕ)) (board is : Standing) (w w' : World I O D) (result : Exit) where
    ends : Decides o ws (i.state w.inputs) w.sink w'.sink result → IsRight ws (i.state w.inputs) → (InputsMayFail ws (i.state w.inputs) → ⊥) → (HasFailed (o.state w.sink) (o.state w'.sink) → ⊥) → (result ≡ exit.Done) ⊎ (result ≡ exit.Memory)
    ends decides right sure took = by (form ws) decides right sure
      where
        by : (f : Option Form) → FormDecides o f ws (i.state w.inputs) w.sink w'.sink result → FormIsRight f ws (i.state w.inputs) → (FormMayFail f ws (i.state w.inputs) → ⊥) → (result ≡ exit.Done) ⊎ (result ≡ exit.Memory)
        by None decides right sure = absurd right
        by (Some f) decides right sure =
            sure_end o w.sink w'.sink result took (subst (λ (due : Exit). EndsWith o due w.sink w'.sink result) (done_due f ws (i.state w.inputs) decides.0 right sure) decides.1)

    pub is_complete : (i.observable → Decides o ws (i.state w.inputs) w.sink w'.sink result) → (i.observable → o.observable → result ≡ exit.Done → IsDone i o d ws board is w w') → (result ≡ exit.ReadFault → Rose (i.state w.inputs).faults (i.state w'.inputs).faults) → IsComplete i o d ws board is w w' result
    is_complete decides done read = record {
      done = λ seen right sure took. elim (ends (decides seen) right sure took) [
        | inl ended ↦ inl (ended, λ written. done seen written ended)
        | inr memory ↦ inr memory
      ];
      read = λ stays is. stays (read is);
    }
