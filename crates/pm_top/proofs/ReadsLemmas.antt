-- Which names a run reads: the object or the text, then the topology, and then the script.
use Rattle.std.proofs.Common.{◌≡◌, ◌⊎◌, ℕ, Bool, true, false, List, [], ◌∷◌, ◌++◌, ◌+◌, nat_lt, Option, Some, None, Result, Ok, Err, refl, sym, ◌∙◌, ap, subst, append_assoc, inl, inr}
use Rattle.std.specs.Prelude.{◌≢◌, IfErr, if◌then◌else◌, ⊤}
use Rattle.std.proofs.lemmas.List.{append-nil}
use Rattle.pm_base.specs.declared.errors.Exit.{Exit}
use Rattle.pm_base.specs.declared.errors.Exit.TheVariants as exit
use Rattle.pm_io.specs.declared.sink.Sink as Sink
use Rattle.pm_base.specs.declared.names.NodeId.{NodeId}
use Rattle.pm_io.specs.Calls.{Begin, Call, Named, ReadsEach, ReadsOn, ReadsToFault, mended}
use Rattle.pm_io.specs.Inputs.{Moment}
use Rattle.pm_io.specs.Readings.{Meanwhile}
use Rattle.pm_io.proofs.CallsLemmas.{can_end, each_append, each_fault, each_on}
use Rattle.pm_io.proofs.ReadingsLemmas.{meanwhile_both, meanwhile_map, one_name}
use Rattle.pm_device.specs.declared.device.Device as Device
use Rattle.pm_object.specs.declared.object.Object.{Object}
use Rattle.pm_object.specs.declared.object.ObjectFault.{ObjectFault}
use Rattle.pm_objtext.specs.declared.fault.TextFault.{TextFault}
use Rattle.pm_gen.specs.Laboratory.{laboratory}
use Rattle.pm_chip.specs.Chip.{chip}
use Rattle.pm_topology.specs.declared.topology.Topology.{Topology}
use Rattle.pm_topofile.specs.declared.fault.TopologyError.{TopologyError}
use Rattle.pm_topofile.specs.declared.fault.TopologyError.TheVariants.{Bad, Rule, Memory as NoRoom}
use Rattle.pm_trace.specs.declared.faults.Fault.{Fault}
use Rattle.pm_trace.specs.declared.faults.Fault.TheVariants as faults
use Rattle.pm_trace.specs.Faults.{exit_by}
use Rattle.pm_trace.specs.Report.{Reports, exit_of, refusal}
use Rattle.pm_trace.specs.Scripts.{ReadsScript, script_named}
use Rattle.pm_trace.proofs.ReadsLemmas.{refused}
use Rattle.pm_top.specs.declared.reading.Subject.{Subject}
use Rattle.pm_top.specs.declared.works.Form.{Form}
use Rattle.pm_top.specs.declared.works.Source.{Source}
use Rattle.pm_top.specs.declared.works.Source.TheVariants as source
use Rattle.pm_top.specs.Asked.{laboratory_if, master_of, object_or_fault, script_word, text_or_fault, topology_or_fault, with_master, with_named}
use Rattle.pm_top.specs.Words.{word}
use Rattle.pm_board.specs.Board.{Standing}
use Rattle.pm_top.specs.Making.{Makes}
use Rattle.pm_top.specs.Reads.{EndsBare, FormReads, IsFaultBehind, IsOfSource, ReadsBy, ReadsFor, RefusedReads, RefusedSubject, SubjectReads, WorkReads, script_names, source_named, topology_named}
use Rattle.pm_top.specs.Within.{Writes, one_piece}

-- ---- readings of more names

can_each : (names : List Named) → (calls : List Call) × ReadsEach names calls
can_each [] = ([], refl)
can_each (n ∷ names) =
    let end = can_end 0 (n.limit + 1) false in
    let one : List Call = Begin n.name (Some 0) ∷ end.0 in
    let later = can_each names in
    (one ++ later.0, each_append (n ∷ []) names one later.0 (one_name n 0 end.0 end.1) later.1)

on_whole : (names : List Named) (calls : List Call) → ReadsEach names calls → ReadsOn names calls
on_whole names calls reads = ([], subst (λ (cs : List Call). ReadsEach names cs) (sym (append-nil calls)) reads)

on_more : (first second : List Named) (calls : List Call) → ReadsOn first calls → ReadsOn (first ++ second) calls
on_more first second calls on =
    let later = can_each second in
    (on.0 ++ later.0, subst (λ (cs : List Call). ReadsEach (first ++ second) cs) (append_assoc calls on.0 later.0) (each_append first second (calls ++ on.0) later.0 on.1 later.1))

fault_more : (first second : List Named) (calls : List Call) → ReadsToFault first calls → ReadsToFault (first ++ second) calls
fault_more first second calls reads = record {
  front = reads.front;
  last = reads.last;
  is = reads.is;
  failed = reads.failed;
  on = on_more first second (reads.front ++ mended reads.last ∷ []) reads.on;
}

-- ---- what is read first

module _ (names : List Named) (calls : List Call) (reads : ReadsEach names calls) where
  pub starved_for : {T : Type 0} (r : Result T Fault) → r ≡ Err faults.Memory → ReadsFor r names calls
  starved_for {T} r is = subst (λ (r : Result T Fault). ReadsFor r names calls) (sym is) (on_whole names calls reads)

  pub object_for : (r : Result Object Fault) (read : Result Object ObjectFault) → (r ≡ Err faults.Memory) ⊎ (object_or_fault read ≡ r) → ReadsFor r names calls
  object_for r read (inl is) = starved_for r is
  object_for r (Ok object) (inr is) = subst (λ (r : Result Object Fault). ReadsFor r names calls) is reads
  object_for r (Err fault) (inr is) = subst (λ (r : Result Object Fault). ReadsFor r names calls) is reads

  pub text_for : (r : Result Object Fault) (read : Result Object TextFault) → (r ≡ Err faults.Memory) ⊎ (text_or_fault read ≡ r) → ReadsFor r names calls
  text_for r read (inl is) = starved_for r is
  text_for r (Ok object) (inr is) = subst (λ (r : Result Object Fault). ReadsFor r names calls) is reads
  text_for r (Err fault) (inr is) = subst (λ (r : Result Object Fault). ReadsFor r names calls) is reads

  pub number_for : (r : Result Object Fault) (lines : Option ℕ) → (r ≡ Err faults.Memory) ⊎ (laboratory_if lines ≡ r) → ReadsFor r names calls
  number_for r lines (inl is) = starved_for r is
  number_for r None (inr is) = subst (λ (r : Result Object Fault). ReadsFor r names calls) is reads
  number_for r (Some n) (inr is) = subst (λ (r : Result Object Fault). ReadsFor r names calls) is reads

  -- with nothing named
  pub nothing_for : (r : Result Object Fault) → (r ≡ Err faults.Memory) ⊎ (Ok laboratory ≡ r) → ReadsFor r names calls
  nothing_for r (inl is) = starved_for r is
  nothing_for r (inr is) = subst (λ (r : Result Object Fault). ReadsFor r names calls) is reads

  pub topology_for : (r : Result Topology Fault) (meant : Result Topology TopologyError) → (r ≡ Err faults.Memory) ⊎ (topology_or_fault meant ≡ r) → ReadsFor r names calls
  topology_for r meant (inl is) = starved_for r is
  topology_for r (Ok topology) (inr is) = subst (λ (r : Result Topology Fault). ReadsFor r names calls) is reads
  topology_for r (Err (Bad fault)) (inr is) = subst (λ (r : Result Topology Fault). ReadsFor r names calls) is reads
  topology_for r (Err (Rule fault)) (inr is) = subst (λ (r : Result Topology Fault). ReadsFor r names calls) is reads
  topology_for r (Err (NoRoom starved)) (inr is) = starved_for r (sym is)

  pub chip_for : (r : Result Topology Fault) → (r ≡ Err faults.Memory) ⊎ (r ≡ Ok chip) → ReadsFor r names calls
  chip_for r (inl is) = starved_for r is
  chip_for r (inr is) = subst (λ (r : Result Topology Fault). ReadsFor r names calls) (sym is) reads

  -- a master is looked for after the topology was read
  master_for : (r : Result Subject Fault) (object : Object) (topology : Topology) (lines : ℕ) (place : Option ℕ) (ws : List (List ℕ)) → r ≡ with_master object topology lines place ws → ReadsFor r names calls
  master_for r object topology lines None ws is = subst (λ (r : Result Subject Fault). ReadsFor r names calls) (sym is) reads
  master_for r object topology lines (Some k) ws is = by (master_of object (word k ws)) is
    where
      by : (found : Option NodeId) → r ≡ with_named object topology lines found → ReadsFor r names calls
      by None is = subst (λ (r : Result Subject Fault). ReadsFor r names calls) (sym is) reads
      by (Some master) is = subst (λ (r : Result Subject Fault). ReadsFor r names calls) (sym is) reads

pub rest_for : (names : List Named) (before after : Moment) (r : Result Subject Fault) (object : Object) (topology : Topology) (lines : ℕ) (place : Option ℕ) (ws : List (List ℕ)) → r ≡ with_master object topology lines place ws → Meanwhile before after (ReadsEach names) → Meanwhile before after (ReadsFor r names)
rest_for names before after r object topology lines place ws is made =
    meanwhile_map before after (ReadsEach names) (ReadsFor r names) (λ calls reads. master_for names calls reads r object topology lines place ws is) made

-- behind an object that was read whole: how the topology and the master came out, which is no fault of an object
behind : {T : Type 0} (r : Result T Fault) (first topology : List Named) (one two : List Call) → IfErr r IsFaultBehind → ReadsEach first one → ReadsFor r topology two → SubjectReads r first topology (one ++ two)
behind (Ok it) first topology one two known whole reads = each_append first topology one two whole reads
behind (Err faults.Usage) first topology one two known whole reads = absurd reads
behind (Err (faults.Object fault)) first topology one two known whole reads = absurd known
behind (Err (faults.Text fault)) first topology one two known whole reads = each_append first topology one two whole reads
behind (Err (faults.TopologyText fault)) first topology one two known whole reads = each_append first topology one two whole reads
behind (Err (faults.Topology fault)) first topology one two known whole reads = each_append first topology one two whole reads
behind (Err (faults.Line n cause)) first topology one two known whole reads = absurd reads
behind (Err faults.Read) first topology one two known whole reads = each_fault first topology one two whole reads
behind (Err faults.Memory) first topology one two known whole reads = each_on first topology one two whole reads
behind (Err faults.Size) first topology one two known whole reads = absurd reads
behind (Err faults.Node) first topology one two known whole reads = each_append first topology one two whole reads
behind (Err faults.Number) first topology one two known whole reads = each_append first topology one two whole reads

pub subject_for : {T : Type 0} (r : Result T Fault) (first topology : List Named) (before mid after : Moment) → IfErr r IsFaultBehind → Meanwhile before mid (ReadsEach first) → Meanwhile mid after (ReadsFor r topology) → Meanwhile before after (SubjectReads r first topology)
subject_for r first topology before mid after known one two =
    meanwhile_both before mid after (ReadsEach first) (ReadsFor r topology) (SubjectReads r first topology) (λ one two whole reads. behind r first topology one two known whole reads) one two

-- the faults of a source: those of an object, those of its text, and a word that is no number
other : (s : Source) → s ≡ source.Text → s ≢ source.Object
other s is at = let clash : source.Text ≡ source.Object = sym is ∙ at in cc

of_number : (s : Source) → s ≡ source.Number → s ≢ source.Object
of_number s is at = let clash : source.Number ≡ source.Object = sym is ∙ at in cc

alone : (s : Source) (name : List ℕ) (named : Option ℕ) (ws : List (List ℕ)) (calls : List Call) → named ≡ None → ReadsEach (source_named s name) calls → ReadsEach (source_named s name ++ topology_named named ws) calls
alone s name named ws calls none reads =
    subst (λ (o : Option ℕ). ReadsEach (source_named s name ++ topology_named o ws) calls) (sym none)
    (subst (λ (names : List Named). ReadsEach names calls) (sym (append-nil (source_named s name))) reads)

-- at the object, before any topology is read: only a form with an object may name a topology
at_object : (fault : Fault) (s : Source) (name : List ℕ) (named : Option ℕ) (ws : List (List ℕ)) (calls : List Call) → (s ≢ source.Object → named ≡ None) → IsOfSource s fault → RefusedReads fault (source_named s name) calls → RefusedSubject fault (source_named s name) (topology_named named ws) calls
at_object faults.Usage s name named ws calls plain of reads = absurd reads
at_object (faults.Object fault) s name named ws calls plain of reads = reads
at_object (faults.Text fault) s name named ws calls plain of reads = alone s name named ws calls (plain (other s of)) reads
at_object (faults.TopologyText fault) s name named ws calls plain of reads = absurd of
at_object (faults.Topology fault) s name named ws calls plain of reads = absurd of
at_object (faults.Line n cause) s name named ws calls plain of reads = absurd reads
at_object faults.Read s name named ws calls plain of reads = fault_more (source_named s name) (topology_named named ws) calls reads
at_object faults.Memory s name named ws calls plain of reads = on_more (source_named s name) (topology_named named ws) calls reads
at_object faults.Size s name named ws calls plain of reads = absurd reads
at_object faults.Node s name named ws calls plain of reads = absurd of
at_object faults.Number s name named ws calls plain of reads = alone s name named ws calls (plain (of_number s of)) reads

pub subject_at : (fault : Fault) (s : Source) (name : List ℕ) (named : Option ℕ) (ws : List (List ℕ)) (before after : Moment) → (s ≢ source.Object → named ≡ None) → IsOfSource s fault → Meanwhile before after (RefusedReads fault (source_named s name)) → Meanwhile before after (RefusedSubject fault (source_named s name) (topology_named named ws))
subject_at fault s name named ws before after plain of made =
    meanwhile_map before after (RefusedReads fault (source_named s name)) (RefusedSubject fault (source_named s name) (topology_named named ws)) (λ calls reads. at_object fault s name named ws calls plain of reads) made

-- ---- what is read then

module _ {O : Type 0} (o : Sink.Ghosts O) (Holds : List ℕ → Type 0) (old new : O) (due : Exit) where
  -- a work that writes one text
  pub bare : Writes o Holds old new due → EndsBare due
  bare (inl starved) = subst EndsBare (sym (refused o faults.Memory old new due starved)) tt
  bare (inr one) = subst EndsBare (sym one.reports.ends) (by one.reports.cut)
    where
      cut_first : (b : Bool) → EndsBare (if b then exit.WriteFault else exit.Done)
      cut_first true = tt
      cut_first false = tt

      by : (cut : Option ℕ) → EndsBare (exit_of (one_piece one.text) cut)
      by None = tt
      by (Some k) = cut_first (nat_lt k 1)

-- the run of a script that is made
pub made_bare : {O D : Type 0} (o : Sink.Ghosts O) (d : Device.Ghosts D) (object : Object) (t : Topology) (board is : Standing) (n : ℕ) (sink sink' : O) (old new : D) (due : Exit) → Makes o d object t board is n sink sink' old new due → EndsBare due
made_bare o d object t board is n sink sink' old new due (inl starves) = bare o (λ text. ⊤) sink sink' due (inl starves.reports)
made_bare o d object t board is n sink sink' old new due (inr wrote) = bare o (λ text. ⊤) sink sink' due (inr (record { text = wrote.text; holds = tt; reports = wrote.reports }))

join_script : (first topology : List Named) (name : List ℕ) (due : Exit) (one two : List Call) → ReadsEach (first ++ topology) one → ReadsScript due (script_named name) two → ReadsBy due first topology (script_named name ∷ []) (one ++ two)
join_script first topology name exit.Done one two whole reads = each_append (first ++ topology) (script_named name ∷ []) one two whole reads
join_script first topology name exit.TooLarge one two whole reads = each_append (first ++ topology) (script_named name ∷ []) one two whole reads
join_script first topology name exit.BadLine one two whole reads = record { one = one; two = two; is = refl; whole = whole; on = reads.0; starts = reads.1 }
join_script first topology name exit.WriteFault one two whole (inl reads) = inl (record { one = one; two = two; is = refl; whole = whole; on = reads.0; starts = reads.1 })
join_script first topology name exit.WriteFault one two whole (inr reads) = inr (record { one = one; two = two; is = refl; whole = whole; fault = reads })
join_script first topology name exit.ReadFault one two whole reads = each_fault (first ++ topology) (script_named name ∷ []) one two whole reads
join_script first topology name exit.Memory one two whole (inl none) =
    inl (on_more (first ++ topology) (script_named name ∷ []) (one ++ two) (on_whole (first ++ topology) (one ++ two) (subst (λ (cs : List Call). ReadsEach (first ++ topology) cs) (sym (ap (λ (cs : List Call). one ++ cs) none ∙ append-nil one)) whole)))
join_script first topology name exit.Memory one two whole (inr (inl reads)) = inl (each_on (first ++ topology) (script_named name ∷ []) one two whole reads.0)
join_script first topology name exit.Memory one two whole (inr (inr reads)) = inr (record { one = one; two = two; is = refl; whole = whole; fault = reads })
join_script first topology name exit.Usage one two whole reads = absurd reads
join_script first topology name exit.BadObject one two whole reads = absurd reads
join_script first topology name exit.BadText one two whole reads = absurd reads

join_bare : (first topology : List Named) (due : Exit) (calls : List Call) → ReadsEach (first ++ topology) calls → EndsBare due → ReadsBy due first topology [] calls
join_bare first topology exit.Done calls whole ends = subst (λ (names : List Named). ReadsEach names calls) (sym (append-nil (first ++ topology))) whole
join_bare first topology exit.WriteFault calls whole ends = inl (record { one = calls; two = []; is = sym (append-nil calls); whole = whole; on = ([], refl); starts = refl })
join_bare first topology exit.Memory calls whole ends = inl (subst (λ (names : List Named). ReadsOn names calls) (sym (append-nil (first ++ topology))) (on_whole (first ++ topology) calls whole))
join_bare first topology exit.Usage calls whole ends = absurd ends
join_bare first topology exit.BadObject calls whole ends = absurd ends
join_bare first topology exit.BadLine calls whole ends = absurd ends
join_bare first topology exit.ReadFault calls whole ends = absurd ends
join_bare first topology exit.TooLarge calls whole ends = absurd ends
join_bare first topology exit.BadText calls whole ends = absurd ends

join : (first topology : List Named) (place : Option ℕ) (ws : List (List ℕ)) (due : Exit) (one two : List Call) → ReadsEach (first ++ topology) one → WorkReads place (script_word place ws) due two → ReadsBy due first topology (script_names place ws) (one ++ two)
join first topology None ws due one two whole reads =
    join_bare first topology due (one ++ two) (subst (λ (cs : List Call). ReadsEach (first ++ topology) cs) (sym (ap (λ (cs : List Call). one ++ cs) reads.0 ∙ append-nil one)) whole) reads.1
join first topology (Some k) ws due one two whole reads = join_script first topology (word k ws) due one two whole reads

-- a form was read, and its work was done
pub work_read : (f : Form) (ws : List (List ℕ)) (due : Exit) (before mid after : Moment) → Meanwhile before mid (ReadsEach (source_named f.source (word 1 ws) ++ topology_named f.topology ws)) → Meanwhile mid after (WorkReads f.script (script_word f.script ws) due) → Meanwhile before after (FormReads (Some f) ws due)
work_read f ws due before mid after one two =
    meanwhile_both before mid after (ReadsEach (source_named f.source (word 1 ws) ++ topology_named f.topology ws)) (WorkReads f.script (script_word f.script ws) due) (FormReads (Some f) ws due)
    (join (source_named f.source (word 1 ws)) (topology_named f.topology ws) f.script ws due) one two

-- it was refused before
refusal_by : (fault : Fault) (first topology script : List Named) (calls : List Call) → RefusedSubject fault first topology calls → ReadsBy (exit_by fault) first topology script calls
refusal_by faults.Usage first topology script calls reads = absurd reads
refusal_by (faults.Object fault) first topology script calls reads = reads
refusal_by (faults.Text fault) first topology script calls reads = reads
refusal_by (faults.TopologyText fault) first topology script calls reads = reads
refusal_by (faults.Topology fault) first topology script calls reads = reads
refusal_by (faults.Line n cause) first topology script calls reads = absurd reads
refusal_by faults.Read first topology script calls reads = fault_more (first ++ topology) script calls reads
refusal_by faults.Memory first topology script calls reads = inl (on_more (first ++ topology) script calls reads)
refusal_by faults.Size first topology script calls reads = absurd reads
refusal_by faults.Node first topology script calls reads = reads
refusal_by faults.Number first topology script calls reads = reads

pub work_refused : {O : Type 0} (o : Sink.Ghosts O) (f : Form) (ws : List (List ℕ)) (fault : Fault) (old new : O) (due : Exit) (before after : Moment) → Reports o (refusal fault) old new due → Meanwhile before after (λ calls. RefusedSubject fault (source_named f.source (word 1 ws)) (topology_named f.topology ws) calls) → Meanwhile before after (FormReads (Some f) ws due)
work_refused o f ws fault old new due before after reports reads =
    subst (λ (e : Exit). Meanwhile before after (FormReads (Some f) ws e)) (sym (refused o fault old new due reports))
    (meanwhile_map before after (RefusedSubject fault (source_named f.source (word 1 ws)) (topology_named f.topology ws)) (FormReads (Some f) ws (exit_by fault))
    (refusal_by fault (source_named f.source (word 1 ws)) (topology_named f.topology ws) (script_names f.script ws)) reads)
