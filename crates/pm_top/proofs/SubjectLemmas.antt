-- What was read of a form before its script: an object, a topology and a master of the object, or a fault.
use Rattle.std.proofs.Common.{◌≡◌, ◌⊎◌, ◌≤◌, ℕ, true, false, List, Option, Some, None, Result, Ok, Err, refl, sym, ◌∙◌, ap, subst, arith, inl, inr}
use Rattle.std.specs.Prelude.{◌+◌, ◌≢◌, IfErr, IfNone, IfOk, IfSome, IsSome, is_some, unwrap_or}
use Rattle.std.proofs.lemmas.Bool.Decides.{nat_tests}
use Rattle.pm_base.specs.declared.names.NodeId.{NodeId}
use Rattle.pm_io.specs.declared.prefix.StopReason.{StopReason}
use Rattle.pm_io.specs.declared.prefix.StopReason.TheVariants as reason
use Rattle.pm_base.specs.Faults.{Rose}
use Rattle.pm_io.specs.Inputs.{Moment, SameFiles}
use Rattle.pm_io.specs.Numbers.{at_most, number_of}
use Rattle.pm_io.specs.Prefix.{IsUnread, Prefix}
use Rattle.pm_object.specs.declared.object.Object.{Object}
use Rattle.pm_object.specs.declared.object.ObjectFault.{ObjectFault}
use Rattle.pm_object.specs.Grammar.{IsObject}
use Rattle.pm_object.specs.Reading.{reading}
use Rattle.pm_objtext.specs.declared.fault.TextFault.{TextFault}
use Rattle.pm_objtext.specs.Building.{building}
use Rattle.pm_chip.specs.Chip.{chip}
use Rattle.pm_topology.specs.declared.topology.Topology.{Topology}
use Rattle.pm_topology.specs.WellFormed.{IsSupported}
use Rattle.pm_topofile.specs.declared.fault.TopologyError.{TopologyError}
use Rattle.pm_topofile.specs.declared.fault.TopologyError.TheVariants.{Bad, Rule, Memory as NoRoom}
use Rattle.pm_topofile.specs.Meaning.{meaning}
use Rattle.pm_trace.specs.declared.faults.Fault.{Fault}
use Rattle.pm_trace.specs.declared.faults.Fault.TheVariants.{Object as BadObject, Text as BadText, Memory, Node, Number, Read}
use Rattle.pm_top.specs.declared.works.Form.{Form}
use Rattle.pm_top.specs.declared.works.Source.{Source}
use Rattle.pm_top.specs.declared.works.Source.TheVariants as source
use Rattle.pm_top.specs.declared.reading.Subject.{Subject}
use Rattle.pm_top.specs.declared.works.Work.{Work}
use Rattle.pm_top.specs.declared.works.Work.TheVariants.{Replay, Isolate, Make, Write}
use Rattle.pm_top.specs.Form.{beside, form_of, piece_source}
use Rattle.pm_top.specs.Words.{word}
use Rattle.pm_top.specs.Asked.{Says, if_read, laboratory_if, line_limit, lines_asked, lines_by, master_of, object_by, object_or_fault, some_lines, subject_by, subject_of, text_or_fault, topology_or_fault, with_master, with_named, with_topology}
use Rattle.pm_top.specs.Fit.{HoldsTopology}
use Rattle.pm_top.specs.Job.{IsFaultOf}
use Rattle.pm_top.specs.Reads.{IsFaultBehind, IsOfSource}
use Rattle.pm_top.specs.Within.{GivenFor, IsNamed, IsSubject, ReadsAs, ReadsRest, ReadsSubject, ReadsThen, ReadsTopology, Takes}
use Rattle.pm_top.proofs.TakingLemmas.{taken_fault, taken_files, taken_later, taken_room, then_fault, then_files, then_held, then_later, then_room}

pub err_is : {X Y : Type 0} {a b : Y} → ◌≡◌ {A = Result X Y} (Err a) (Err b) → a ≡ b
err_is e = cc

pub ok_is : {X Y : Type 0} {a b : X} → ◌≡◌ {A = Result X Y} (Ok a) (Ok b) → a ≡ b
ok_is e = cc

pub ok_is_err : {X Y : Type 0} {x : X} {y : Y} → Ok x ≡ Err y → ⊥
ok_is_err e = cc

pub err_is_ok : {X Y : Type 0} {x : X} {y : Y} → ◌≡◌ {A = Result X Y} (Err y) (Ok x) → ⊥
err_is_ok e = cc

pub memory_is_read : Memory ≡ Read → ⊥
memory_is_read e = cc

pub node_is_read : Node ≡ Read → ⊥
node_is_read e = cc

number_is_read : Number ≡ Read → ⊥
number_is_read e = cc

object_is_read : (fault : ObjectFault) → BadObject fault ≡ Read → ⊥
object_is_read fault e = cc

text_is_read : (fault : TextFault) → BadText fault ≡ Read → ⊥
text_is_read fault e = cc

some_is : {X : Type 0} {x y : X} → ◌≡◌ {A = Option X} (Some x) (Some y) → x ≡ y
some_is e = cc

none_is_some : {X : Type 0} {x : X} → ◌≡◌ {A = Option X} None (Some x) → ⊥
none_is_some e = cc

-- nothing is known of a master that isn't there
pub unnamed : {X : Type 0} (P : X → Type 0) (o : Option X) → is_some o ≡ false → IfSome o P
unnamed P None is = tt
unnamed P (Some x) is = let clash : true ≡ false = is in cc

-- ---- a refusal

module _ (f : Form) where
  -- the kind of a fault
  pub record Kind (stop : StopReason) (fault : Fault) : Type 0 where
    pub known : IsFaultOf f fault
    pub unread : fault ≡ Read → IsUnread stop

  bad : (stop : StopReason) (cause fault : Fault) → IsFaultOf f cause → (cause ≡ Read → ⊥) → cause ≡ fault → Kind stop fault
  bad stop cause fault known unlike same = subst (Kind stop) same (record { known = known; unread = λ e. absurd (unlike e) })

  lost : (stop : StopReason) (fault : Fault) → IsUnread stop → Read ≡ fault → Kind stop fault
  lost stop fault at same = subst (Kind stop) same (record { known = tt; unread = λ e. at })

  object_kind : (stop : StopReason) (read : Result Object ObjectFault) (fault : Fault) → f.source ≡ source.Object → if_read stop (object_or_fault read) ≡ Err fault → Kind stop fault
  object_kind reason.End (Ok o) fault from is = absurd (ok_is_err is)
  object_kind reason.End (Err error) fault from is = bad reason.End (BadObject error) fault from (object_is_read error) (err_is is)
  object_kind reason.Limit (Ok o) fault from is = absurd (ok_is_err is)
  object_kind reason.Limit (Err error) fault from is = bad reason.Limit (BadObject error) fault from (object_is_read error) (err_is is)
  object_kind reason.Failure read fault from is = lost reason.Failure fault tt (err_is is)
  object_kind reason.Unbegun read fault from is = lost reason.Unbegun fault tt (err_is is)

  text_kind : (stop : StopReason) (read : Result Object TextFault) (fault : Fault) → f.source ≡ source.Text → if_read stop (text_or_fault read) ≡ Err fault → Kind stop fault
  text_kind reason.End (Ok o) fault from is = absurd (ok_is_err is)
  text_kind reason.End (Err error) fault from is = bad reason.End (BadText error) fault from (text_is_read error) (err_is is)
  text_kind reason.Limit (Ok o) fault from is = absurd (ok_is_err is)
  text_kind reason.Limit (Err error) fault from is = bad reason.Limit (BadText error) fault from (text_is_read error) (err_is is)
  text_kind reason.Failure read fault from is = lost reason.Failure fault tt (err_is is)
  text_kind reason.Unbegun read fault from is = lost reason.Unbegun fault tt (err_is is)

  number_kind : (stop : StopReason) (lines : Option ℕ) (fault : Fault) → f.source ≡ source.Number → laboratory_if lines ≡ Err fault → Kind stop fault
  number_kind stop None fault from is = bad stop Number fault from number_is_read (err_is is)
  number_kind stop (Some n) fault from is = absurd (ok_is_err is)

  pub source_kind : (s : Source) (p : Prefix) (fault : Fault) → f.source ≡ s → object_by s p ≡ Err fault → Kind p.stop fault
  source_kind source.Object p fault from is = object_kind p.stop (reading p.bytes) fault from is
  source_kind source.Text p fault from is = text_kind p.stop (building p.bytes) fault from is
  source_kind source.Number p fault from is = number_kind p.stop (lines_asked p.bytes) fault from is
  source_kind source.Nothing p fault from is = absurd (ok_is_err is)

  -- a text of a topology that isn't one
  text_known : IsSome f.topology → (meant : Result Topology TopologyError) (fault : Fault) → topology_or_fault meant ≡ Err fault → IsFaultOf f fault
  text_known has (Ok t) fault is = absurd (ok_is_err is)
  text_known has (Err (Bad error)) fault is = subst (IsFaultOf f) (err_is is) has
  text_known has (Err (Rule error)) fault is = subst (IsFaultOf f) (err_is is) has
  text_known has (Err (NoRoom starved)) fault is = subst (IsFaultOf f) (err_is is) tt

  read_known : IsSome f.topology → (stop : StopReason) (meant : Result Topology TopologyError) (fault : Fault) → if_read stop (topology_or_fault meant) ≡ Err fault → IsFaultOf f fault
  read_known has reason.End meant fault is = text_known has meant fault is
  read_known has reason.Limit meant fault is = text_known has meant fault is
  read_known has reason.Failure meant fault is = subst (IsFaultOf f) (err_is is) tt
  read_known has reason.Unbegun meant fault is = subst (IsFaultOf f) (err_is is) tt

  topology_known : (shown : Type 0) (ws : List (List ℕ)) (before after : Moment) (fault : Fault) (named : Option ℕ) → f.topology ≡ named → ReadsTopology shown named ws before after (Err fault) → IsFaultOf f fault
  topology_known shown ws before after fault None has read = absurd (err_is_ok read.0)
  topology_known shown ws before after fault (Some k) has read =
      read_known (subst (λ (o : Option ℕ). IsSome o) (sym has) refl) read.prefix.stop (meaning read.prefix.bytes) fault read.is

  -- how a form was refused: at its object, at its topology, or at the word that names a master
  abbrev pub RefusedBy : Prefix → Result Topology Fault → Fault → Type 0
  RefusedBy p t fault =
      (object_by f.source p ≡ Err fault)
      ⊎ (((object : Object) × (object_by f.source p ≡ Ok object) × (t ≡ Err fault)) ⊎ ((fault ≡ Node) × IsSome f.node))

  node_refused : (o : Object) (c : Topology) (n : ℕ) (named : Option NodeId) (fault : Fault) → with_named o c n named ≡ Err fault → fault ≡ Node
  node_refused o c n (Some m) fault is = absurd (ok_is_err is)
  node_refused o c n None fault is = sym (err_is is)

  pub refused_by : (ws : List (List ℕ)) (p : Prefix) (t : Result Topology Fault) (fault : Fault) → subject_of f ws p t ≡ Err fault → RefusedBy p t fault
  refused_by ws p t fault is = by (object_by f.source p) refl t refl f.node refl is
    where
      by : (v : Result Object Fault) → object_by f.source p ≡ v → (u : Result Topology Fault) → t ≡ u → (place : Option ℕ) → f.node ≡ place → subject_by v u (lines_by f.source (word 1 ws)) place ws ≡ Err fault → RefusedBy p t fault
      by (Err due) at u from place has e = inl (subst (λ (x : Fault). object_by f.source p ≡ Err x) (err_is e) at)
      by (Ok o) at (Err due) from place has e = inr (inl (o, at, subst (λ (x : Fault). t ≡ Err x) (err_is e) from))
      by (Ok o) at (Ok c) from None has e = absurd (ok_is_err e)
      by (Ok o) at (Ok c) from (Some k) has e =
          inr (inr (node_refused o c (lines_by f.source (word 1 ws)) (master_of o (word k ws)) fault e, subst (λ (o : Option ℕ). IsSome o) (sym has) refl))

  -- what is known of a refusal
  pub record IsRefusal (before after : Moment) (fault : Fault) : Type 0 where
    pub known : IsFaultOf f fault
    pub rose : fault ≡ Read → Rose before.faults after.faults

  pub refusal : (shown : Type 0) (ws : List (List ℕ)) (before after : Moment) (fault : Fault) → ReadsSubject shown f ws before after (Err fault) → IsRefusal before after fault
  refusal shown ws before after fault reads = elim (refused_by ws reads.prefix reads.topology fault reads.is) [
    | inl at ↦ at_object at
    | inr later ↦ elim later [
      | inl it ↦ at_topology it.0 it.1 it.2
      | inr node ↦ record { known = subst (IsFaultOf f) (sym node.0) node.1; rose = λ read. absurd (node_is_read (sym node.0 ∙ read)) }
    ]
  ]
    where
      follows : (v : Result Object Fault) → object_by f.source reads.prefix ≡ v → ReadsThen shown f ws reads.between after v reads.topology
      follows v at = subst (λ (v : Result Object Fault). ReadsThen shown f ws reads.between after v reads.topology) at reads.rest

      at_object : object_by f.source reads.prefix ≡ Err fault → IsRefusal before after fault
      at_object at =
          let kind = source_kind f.source reads.prefix fault refl at in
          let same : reads.between ≡ after = follows (Err fault) at in
          record {
            known = kind.known;
            rose = λ read. subst (λ (m : Moment). Rose before.faults m.faults) same (taken_fault shown (word 1 ws) before reads.between reads.prefix f.source reads.read (kind.unread read));
          }

      at_topology : (o : Object) → object_by f.source reads.prefix ≡ Ok o → reads.topology ≡ Err fault → IsRefusal before after fault
      at_topology o at is =
          let late : ReadsTopology shown f.topology ws reads.between after (Err fault) = subst (λ (t : Result Topology Fault). ReadsTopology shown f.topology ws reads.between after t) is (follows (Ok o) at) in
          record {
            known = topology_known shown ws reads.between after fault f.topology refl late;
            rose = λ read.
                let first : before.faults ≤ reads.between.faults = taken_later shown (word 1 ws) before reads.between reads.prefix f.source reads.read in
                let up = then_fault shown ws reads.between after f.topology (subst (λ (x : Fault). ReadsTopology shown f.topology ws reads.between after (Err x)) read late) in
                omega (arith, up);
          }

  -- ---- an object, its topology and a master

  -- they were read: the object, the topology, and a master if a word names one
  pub record WasRead (ws : List (List ℕ)) (p : Prefix) (t : Result Topology Fault) (subject : Subject) : Type 0 where
    pub object : object_by f.source p ≡ Ok subject.object
    pub topology : t ≡ Ok subject.topology
    pub named : is_some subject.master ≡ is_some f.node
    pub master : (k : ℕ) → f.node ≡ Some k → master_of subject.object (word k ws) ≡ subject.master
    pub lines : subject.lines ≡ lines_by f.source (word 1 ws)

  with_word : (ws : List (List ℕ)) (p : Prefix) (t : Result Topology Fault) (o : Object) (c : Topology) (k : ℕ) (named : Option NodeId) (subject : Subject) → object_by f.source p ≡ Ok o → t ≡ Ok c → f.node ≡ Some k → master_of o (word k ws) ≡ named → with_named o c (lines_by f.source (word 1 ws)) named ≡ Ok subject → WasRead ws p t subject
  with_word ws p t o c k None subject at from has is e = absurd (err_is_ok e)
  with_word ws p t o c k (Some m) subject at from has is e = subst (WasRead ws p t) (ok_is e) (record {
    object = at;
    topology = from;
    named = ap (λ (o : Option ℕ). is_some o) (sym has);
    master = λ j other. ap (λ (n : ℕ). master_of o (word n ws)) (some_is (sym other ∙ has)) ∙ is;
    lines = refl;
  })

  pub was_read : (ws : List (List ℕ)) (p : Prefix) (t : Result Topology Fault) (subject : Subject) → subject_of f ws p t ≡ Ok subject → WasRead ws p t subject
  was_read ws p t subject is = by (object_by f.source p) refl t refl f.node refl is
    where
      by : (v : Result Object Fault) → object_by f.source p ≡ v → (u : Result Topology Fault) → t ≡ u → (node : Option ℕ) → f.node ≡ node → subject_by v u (lines_by f.source (word 1 ws)) node ws ≡ Ok subject → WasRead ws p t subject
      by (Err due) at u from place has e = absurd (err_is_ok e)
      by (Ok o) at (Err due) from place has e = absurd (err_is_ok e)
      by (Ok o) at (Ok c) from None has e = subst (WasRead ws p t) (ok_is e) (record {
        object = at;
        topology = from;
        named = ap (λ (o : Option ℕ). is_some o) (sym has);
        master = λ k other. absurd (none_is_some (sym has ∙ other));
        lines = refl;
      })
      by (Ok o) at (Ok c) from (Some k) has e = with_word ws p t o c k (master_of o (word k ws)) subject at from has refl e

  -- what was read of a subject
  module _ (shown : Type 0) (ws : List (List ℕ)) (before after : Moment) (subject : Subject) (reads : ReadsSubject shown f ws before after (Ok subject)) where
    pub was : WasRead ws reads.prefix reads.topology subject
    was = was_read ws reads.prefix reads.topology subject reads.is

    -- its topology, after its object
    pub topology_read : ReadsTopology shown f.topology ws reads.between after (Ok subject.topology)
    topology_read =
        let late : ReadsTopology shown f.topology ws reads.between after reads.topology = subst (λ (v : Result Object Fault). ReadsThen shown f ws reads.between after v reads.topology) was.object reads.rest in
        subst (λ (t : Result Topology Fault). ReadsTopology shown f.topology ws reads.between after t) was.topology late

    -- without a word that names one it is the chip's
    pub is_chip : IfNone f.topology (subject.topology ≡ chip)
    is_chip = by f.topology topology_read
      where
        by : (named : Option ℕ) → ReadsTopology shown named ws reads.between after (Ok subject.topology) → IfNone named (subject.topology ≡ chip)
        by None read = ok_is read.0
        by (Some k) read = tt

    pub subject_later : before.faults ≤ after.faults
    subject_later =
        let first : before.faults ≤ reads.between.faults = taken_later shown (word 1 ws) before reads.between reads.prefix f.source reads.read in
        let second : reads.between.faults ≤ after.faults = then_later shown ws reads.between after f.topology (Ok subject.topology) topology_read in
        omega arith

    first_files : shown → SameFiles before reads.between
    first_files seen = taken_files shown (word 1 ws) before reads.between reads.prefix f.source reads.read seen

    pub subject_files : shown → SameFiles before after
    subject_files seen = λ name. then_files shown ws reads.between after f.topology (Ok subject.topology) topology_read seen name ∙ first_files seen name

    pub subject_room : shown → before.room ≤ after.room + 2
    subject_room seen =
        let first : before.room ≤ reads.between.room + 1 = taken_room shown (word 1 ws) before reads.between reads.prefix f.source reads.read seen in
        let second : reads.between.room ≤ after.room + 1 = then_room shown ws reads.between after f.topology (Ok subject.topology) topology_read seen in
        omega arith

    pub topology_held : shown → HoldsTopology f.topology ws before subject.topology
    topology_held seen = then_held shown ws reads.between after f.topology before subject.topology (first_files seen) topology_read seen

-- the result is what was read, unless memory ran out
pub known_read : {R : Type 0} (subject : Subject) → (◌≡◌ {A = Result Subject Fault} (Ok subject) (Err Memory)) ⊎ R → R
known_read subject (inl memory) = absurd (ok_is_err memory)
known_read subject (inr read) = read

-- ---- an object that was read, then a topology, and then a master

-- the parts of a subject are those that were read
of_parts : (P : Object → Topology → Type 0) (object : Object) (topology : Topology) (lines : ℕ) (node : Option ℕ) (ws : List (List ℕ)) → P object topology → IfOk (with_master object topology lines node ws) (λ subject. P subject.object subject.topology)
of_parts P object topology lines None ws holds = holds
of_parts P object topology lines (Some k) ws holds = named (master_of object (word k ws))
  where
    named : (master : Option NodeId) → IfOk (with_named object topology lines master) (λ subject. P subject.object subject.topology)
    named None = tt
    named (Some m) = holds

said_of : (P : Object → Topology → Type 0) (object : Object) (topology : Topology) (lines : ℕ) (node : Option ℕ) (ws : List (List ℕ)) (result : Result Subject Fault) → result ≡ with_master object topology lines node ws → P object topology → IfOk result (λ subject. P subject.object subject.topology)
said_of P object topology lines node ws result is holds =
    subst (λ (v : Result Subject Fault). IfOk v (λ subject. P subject.object subject.topology)) (sym is) (of_parts P object topology lines node ws holds)

-- the topology and the master were read after an object
pub rest_read : (shown : Type 0) (f : Form) (ws : List (List ℕ)) (object : Object) (before after : Moment) (topology : Topology) (lines : ℕ) (name : List ℕ) (result : Result Subject Fault) → name ≡ word 1 ws → lines ≡ lines_by f.source name → IsSupported topology → (◌≡◌ {A = Result Topology Fault} (Ok topology) (Err Memory)) ⊎ ReadsTopology shown f.topology ws before after (Ok topology) → result ≡ with_master object topology lines f.node ws → (result ≡ Err Memory) ⊎ ReadsRest shown f ws object before after result
rest_read shown f ws object before after topology lines name result called counted supported (inl memory) is = absurd (ok_is_err memory)
rest_read shown f ws object before after topology lines name result called counted supported (inr read) is = inr (record {
  topology = Ok topology;
  read = read;
  is = ap (λ (n : ℕ). with_master object topology n f.node ws) (sym (counted ∙ ap (lines_by f.source) called)) ∙ sym is;
  supported = said_of (λ object topology. IsSupported topology) object topology lines f.node ws result is supported;
})

-- the topology was refused
pub rest_refused : (shown : Type 0) (f : Form) (ws : List (List ℕ)) (object : Object) (before after : Moment) (fault : Fault) → (◌≡◌ {A = Result Topology Fault} (Err fault) (Err Memory)) ⊎ ReadsTopology shown f.topology ws before after (Err fault) → (◌≡◌ {A = Result Subject Fault} (Err fault) (Err Memory)) ⊎ ReadsRest shown f ws object before after (Err fault)
rest_refused shown f ws object before after fault (inl memory) = inl (ap (λ (fault : Fault). Err fault) (err_is memory))
rest_refused shown f ws object before after fault (inr read) = inr (record { topology = Err fault; read = read; is = refl; supported = tt })

-- the object, and what follows it
pub subject_read : (shown : Type 0) (f : Form) (ws : List (List ℕ)) (name : List ℕ) (before between after : Moment) (object : Object) (result : Result Subject Fault) → name ≡ word 1 ws → (◌≡◌ {A = Result Object Fault} (Ok object) (Err Memory)) ⊎ ReadsAs f.source shown name before between (Ok object) → (result ≡ Err Memory) ⊎ ReadsRest shown f ws object between after result → (result ≡ Err Memory) ⊎ ReadsSubject shown f ws before after result
subject_read shown f ws name before between after object result called (inl memory) rest = absurd (ok_is_err memory)
subject_read shown f ws name before between after object result called (inr reads) (inl memory) = inl memory
subject_read shown f ws name before between after object result called (inr reads) (inr rest) = inr (record {
  prefix = reads.prefix;
  between = between;
  topology = rest.topology;
  read = subst (λ (name : List ℕ). Takes f.source shown name before between reads.prefix) called reads.read;
  given = subst (λ (name : List ℕ). GivenFor f.source name before between reads.prefix) called reads.given;
  rest = subst (λ (v : Result Object Fault). ReadsThen shown f ws between after v rest.topology) (sym reads.is) rest.read;
  is = ap (λ (v : Result Object Fault). subject_by v rest.topology (lines_by f.source (word 1 ws)) f.node ws) reads.is ∙ rest.is;
  says = says result rest.topology rest.is;
  supported = rest.supported;
})
  where
    says : (result : Result Subject Fault) (t : Result Topology Fault) → with_topology object t (lines_by f.source (word 1 ws)) f.node ws ≡ result → IfOk result (λ subject. Says f.source reads.prefix.bytes subject.object)
    says result (Err fault) is = subst (λ (v : Result Subject Fault). IfOk v (λ subject. Says f.source reads.prefix.bytes subject.object)) is tt
    says result (Ok topology) is = said_of (λ object topology. Says f.source reads.prefix.bytes object) object topology (lines_by f.source (word 1 ws)) f.node ws result (sym is) reads.says

-- the object was refused
pub subject_bad : (shown : Type 0) (f : Form) (ws : List (List ℕ)) (name : List ℕ) (before after : Moment) (fault : Fault) → name ≡ word 1 ws → (◌≡◌ {A = Result Object Fault} (Err fault) (Err Memory)) ⊎ ReadsAs f.source shown name before after (Err fault) → (◌≡◌ {A = Result Subject Fault} (Err fault) (Err Memory)) ⊎ ReadsSubject shown f ws before after (Err fault)
subject_bad shown f ws name before after fault called (inl memory) = inl (ap (λ (fault : Fault). Err fault) (err_is memory))
subject_bad shown f ws name before after fault called (inr reads) = inr (record {
  prefix = reads.prefix;
  between = after;
  topology = Ok chip;
  read = subst (λ (name : List ℕ). Takes f.source shown name before after reads.prefix) called reads.read;
  given = subst (λ (name : List ℕ). GivenFor f.source name before after reads.prefix) called reads.given;
  rest = subst (λ (v : Result Object Fault). ReadsThen shown f ws after after v (Ok chip)) (sym reads.is) refl;
  is = ap (λ (v : Result Object Fault). subject_by v (Ok chip) (lines_by f.source (word 1 ws)) f.node ws) reads.is;
  says = tt;
  supported = tt;
})

-- a word asks for no more lines than a script may have that is made
asked_few : (value : Option ℕ) → unwrap_or (some_lines (at_most line_limit value)) 0 ≤ line_limit
asked_few None = omega arith
asked_few (Some n) = grind (arith, nat_tests)

pub lines_few : (s : Source) (word : List ℕ) → lines_by s word ≤ line_limit
lines_few source.Object word = omega arith
lines_few source.Text word = omega arith
lines_few source.Number word = asked_few (number_of word)
lines_few source.Nothing word = omega arith

pub subject_is_sound : (source : Source) (name : List ℕ) (object : Object) (topology : Topology) (lines : ℕ) (node : Option ℕ) (ws : List (List ℕ)) (result : Result Subject Fault) → lines ≡ lines_by source name → result ≡ with_master object topology lines node ws → IsObject object → IsSupported topology → IfOk result IsNamed → IfOk result IsSubject
subject_is_sound source name object topology lines node ws result counted is formed supported named =
    let few : lines ≤ line_limit = subst (λ (n : ℕ). n ≤ line_limit) (sym counted) (lines_few source name) in
    both result
    (said_of (λ object topology. IsObject object) object topology lines node ws result is formed)
    (said_of (λ object topology. IsSupported topology) object topology lines node ws result is supported)
    named (counts result few is)
  where
    both : (v : Result Subject Fault) → IfOk v (λ subject. IsObject subject.object) → IfOk v (λ subject. IsSupported subject.topology) → IfOk v IsNamed → IfOk v (λ subject. subject.lines ≤ line_limit) → IfOk v IsSubject
    both (Ok subject) formed supported named few = record { object = formed; topology = supported; named = named; few = few }
    both (Err fault) formed supported named few = tt

    with_few : lines ≤ line_limit → (node : Option ℕ) → IfOk (with_master object topology lines node ws) (λ subject. subject.lines ≤ line_limit)
    with_few few None = few
    with_few few (Some k) = named_few (master_of object (word k ws))
      where
        named_few : (master : Option NodeId) → IfOk (with_named object topology lines master) (λ subject. subject.lines ≤ line_limit)
        named_few None = tt
        named_few (Some m) = few

    counts : (v : Result Subject Fault) → lines ≤ line_limit → v ≡ with_master object topology lines node ws → IfOk v (λ subject. subject.lines ≤ line_limit)
    counts v few is = subst (λ (v : Result Subject Fault). IfOk v (λ subject. subject.lines ≤ line_limit)) (sym is) (with_few few node)

-- ---- the kinds of faults

-- those of what a first word names
of_object_fault : (fault : Fault) (stop : StopReason) (read : Result Object ObjectFault) → if_read stop (object_or_fault read) ≡ Err fault → IsOfSource source.Object fault
of_object_fault fault reason.End (Ok o) is = absurd (ok_is_err is)
of_object_fault fault reason.End (Err error) is = subst (IsOfSource source.Object) (err_is is) refl
of_object_fault fault reason.Limit (Ok o) is = absurd (ok_is_err is)
of_object_fault fault reason.Limit (Err error) is = subst (IsOfSource source.Object) (err_is is) refl
of_object_fault fault reason.Failure read is = subst (IsOfSource source.Object) (err_is is) tt
of_object_fault fault reason.Unbegun read is = subst (IsOfSource source.Object) (err_is is) tt

of_text_fault : (fault : Fault) (stop : StopReason) (read : Result Object TextFault) → if_read stop (text_or_fault read) ≡ Err fault → IsOfSource source.Text fault
of_text_fault fault reason.End (Ok o) is = absurd (ok_is_err is)
of_text_fault fault reason.End (Err error) is = subst (IsOfSource source.Text) (err_is is) refl
of_text_fault fault reason.Limit (Ok o) is = absurd (ok_is_err is)
of_text_fault fault reason.Limit (Err error) is = subst (IsOfSource source.Text) (err_is is) refl
of_text_fault fault reason.Failure read is = subst (IsOfSource source.Text) (err_is is) tt
of_text_fault fault reason.Unbegun read is = subst (IsOfSource source.Text) (err_is is) tt

of_number_fault : (fault : Fault) (lines : Option ℕ) → laboratory_if lines ≡ Err fault → IsOfSource source.Number fault
of_number_fault fault None is = subst (IsOfSource source.Number) (err_is is) refl
of_number_fault fault (Some n) is = absurd (ok_is_err is)

of_source : (fault : Fault) (s : Source) (p : Prefix) → object_by s p ≡ Err fault → IsOfSource s fault
of_source fault source.Object p is = of_object_fault fault p.stop (reading p.bytes) is
of_source fault source.Text p is = of_text_fault fault p.stop (building p.bytes) is
of_source fault source.Number p is = of_number_fault fault (lines_asked p.bytes) is
of_source fault source.Nothing p is = absurd (ok_is_err is)

pub of_read : (shown : Type 0) (s : Source) (name : List ℕ) (before after : Moment) (fault : Fault) → (◌≡◌ {A = Result Object Fault} (Err fault) (Err Memory)) ⊎ ReadsAs s shown name before after (Err fault) → IsOfSource s fault
of_read shown s name before after fault (inl memory) = subst (IsOfSource s) (sym (err_is memory)) tt
of_read shown s name before after fault (inr reads) = of_source fault s reads.prefix reads.is

-- and those of what follows it
text_behind : (meant : Result Topology TopologyError) (fault : Fault) → topology_or_fault meant ≡ Err fault → IsFaultBehind fault
text_behind (Ok t) fault is = absurd (ok_is_err is)
text_behind (Err (Bad error)) fault is = subst IsFaultBehind (err_is is) tt
text_behind (Err (Rule error)) fault is = subst IsFaultBehind (err_is is) tt
text_behind (Err (NoRoom starved)) fault is = subst IsFaultBehind (err_is is) tt

read_behind : (stop : StopReason) (meant : Result Topology TopologyError) (fault : Fault) → if_read stop (topology_or_fault meant) ≡ Err fault → IsFaultBehind fault
read_behind reason.End meant fault is = text_behind meant fault is
read_behind reason.Limit meant fault is = text_behind meant fault is
read_behind reason.Failure meant fault is = subst IsFaultBehind (err_is is) tt
read_behind reason.Unbegun meant fault is = subst IsFaultBehind (err_is is) tt

node_behind : (object : Object) (topology : Topology) (lines : ℕ) (named : Option NodeId) (fault : Fault) → with_named object topology lines named ≡ Err fault → IsFaultBehind fault
node_behind object topology lines (Some m) fault is = absurd (ok_is_err is)
node_behind object topology lines None fault is = subst IsFaultBehind (err_is is) tt

master_behind : (object : Object) (topology : Topology) (lines : ℕ) (node : Option ℕ) (ws : List (List ℕ)) (fault : Fault) → with_master object topology lines node ws ≡ Err fault → IsFaultBehind fault
master_behind object topology lines None ws fault is = absurd (ok_is_err is)
master_behind object topology lines (Some k) ws fault is = node_behind object topology lines (master_of object (word k ws)) fault is

pub rest_behind : (shown : Type 0) (f : Form) (ws : List (List ℕ)) (object : Object) (before after : Moment) (result : Result Subject Fault) → (result ≡ Err Memory) ⊎ ReadsRest shown f ws object before after result → IfErr result IsFaultBehind
rest_behind shown f ws object before after (Ok subject) read = tt
rest_behind shown f ws object before after (Err fault) (inl memory) = subst IsFaultBehind (sym (err_is memory)) tt
rest_behind shown f ws object before after (Err fault) (inr rest) = by f.topology rest.topology rest.read rest.is
  where
    by : (named : Option ℕ) (t : Result Topology Fault) → ReadsTopology shown named ws before after t → with_topology object t (lines_by f.source (word 1 ws)) f.node ws ≡ Err fault → IsFaultBehind fault
    by named (Ok topology) read is = master_behind object topology (lines_by f.source (word 1 ws)) f.node ws fault is
    by None (Err due) read is = absurd (err_is_ok read.0)
    by (Some k) (Err due) read is = subst IsFaultBehind (err_is is) (read_behind read.prefix.stop (meaning read.prefix.bytes) due read.is)

-- a topology is named beside an object alone
none_beside : (s : Source) (named : Option ℕ) → s ≢ source.Object → beside s named ≡ None
none_beside source.Object named not = absurd (not refl)
none_beside source.Text named not = refl
none_beside source.Number named not = refl
none_beside source.Nothing named not = refl

pub plain : (work : Work) (named : Option ℕ) → (form_of work named).source ≢ source.Object → (form_of work named).topology ≡ None
plain Replay named not = none_beside source.Object named not
plain Isolate named not = none_beside source.Object named not
plain Make named not = none_beside source.Number named not
plain (Write piece) named not = none_beside (piece_source piece) named not
