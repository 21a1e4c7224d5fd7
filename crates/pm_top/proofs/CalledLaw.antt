-- What the words ask for, by what the calls gave that read the names.
use Rattle.std.proofs.Common.{◌≡◌, ℕ, ◌⊎◌, Bool, true, false, List, [], ◌∷◌, ◌++◌, Option, Some, None, Result, Ok, Err, refl, sym, ◌∙◌, ap, subst, append_assoc, inl, inr}
use Rattle.std.specs.Prelude.{if◌then◌else◌, nat_lt, IfOk, OnErr, length}
use Rattle.std.proofs.lemmas.List.{append-nil}
use Rattle.pm_base.specs.declared.events.Event.{Event}
use Rattle.pm_io.specs.declared.prefix.StopReason.{StopReason}
use Rattle.pm_io.specs.declared.prefix.StopReason.TheVariants.{End, Limit, Failure, Unbegun}
use Rattle.pm_io.specs.Calls.{Begin, Call, Read, named}
use Rattle.pm_io.specs.Given.{NameGiven, given, is_ended, prefix_called, prefix_given}
use Rattle.pm_io.specs.Inputs.{Moment}
use Rattle.pm_io.specs.Prefix.{Prefix}
use Rattle.pm_io.specs.Readings.{Meanwhile, NameReadBy}
use Rattle.pm_io.proofs.GivenLemmas.{meanwhile_same}
use Rattle.pm_io.proofs.ReadingsLemmas.{meanwhile_both, meanwhile_map, meanwhile_none}
use Rattle.pm_gen.specs.Script.{made}
use Rattle.pm_object.specs.declared.object.Object.{Object}
use Rattle.pm_topology.specs.declared.topology.Topology.{Topology}
use Rattle.pm_reach.specs.declared.members.Member.{Member}
use Rattle.pm_reader.specs.Shown.{giving}
use Rattle.pm_reader.proofs.ShownLemmas.{script_shown}
use Rattle.pm_script.specs.Named.{IsScript, script_in}
use Rattle.pm_script.specs.Script.{Script, script_limit, script_of}
use Rattle.pm_script.proofs.NamedLemmas.{script_some}
use Rattle.pm_trace.specs.declared.faults.Fault.{Fault}
use Rattle.pm_trace.specs.declared.faults.Fault.TheVariants.{Memory, Read as Unread}
use Rattle.pm_trace.specs.Scripts.{script_or_fault}
use Rattle.pm_isolate.specs.Compared.{Comparison, script_of_job}
use Rattle.pm_top.specs.declared.works.Form.{Form}
use Rattle.pm_top.specs.declared.works.Source.{Source}
use Rattle.pm_top.specs.declared.works.Source.TheVariants as source
use Rattle.pm_top.specs.declared.reading.Subject.{Subject}
use Rattle.pm_top.specs.Asked.{Asked, lines_by, no_script, object_by, object_limit, subject_by, subject_of, text_limit, then_script, topology_limit, topology_of, with_script}
use Rattle.pm_top.specs.Called.{asked_given, behind_source, behind_topology, first_calls, script_called, source_called, topology_called, topology_given}
use Rattle.pm_top.specs.Job.{IsFaultOf, IsFound, IsJobFor, IsKnown, Job, Meets}
use Rattle.pm_top.specs.Within.{GivenFor, GivenOf, ReadsSubject, ReadsThen, ReadsTopology, Takes}
use Rattle.pm_top.specs.Words.{word}
use Rattle.pm_top.proofs.CallsLaw.{AreOfScript, IsReading, Starts, name_reading}
use Rattle.pm_top.proofs.JobLemmas.{asked_with, if_none, job_by, met, not_none, wanting, whole_job}
use Rattle.pm_top.proofs.SubjectLemmas.{err_is, is_chip, refusal, topology_read, was_read}

-- ---- one name

-- what was read of a name is what its calls gave, whatever follows them
called_first : (limit : ℕ) (prefix : Prefix) (calls later : List Call) → IsReading calls → NameGiven limit prefix calls → Starts later → prefix_called limit (first_calls (calls ++ later)) ≡ prefix
called_first limit prefix calls later reading gave starts = ap (prefix_called limit) (reading.first later starts) ∙ sym gave

-- the calls of a name that was read, and what they gave
reading_of : (name : List ℕ) (limit : ℕ) (before after : Moment) (prefix : Prefix) → GivenOf name limit before after prefix → Meanwhile before after (λ calls. IsReading calls × NameGiven limit prefix calls)
reading_of name limit before after prefix of =
    meanwhile_map before after (λ calls. NameReadBy prefix.stop (named name limit) calls × NameGiven limit prefix calls) (λ calls. IsReading calls × NameGiven limit prefix calls)
    (λ calls both. (name_reading prefix.stop (named name limit) calls both.0, both.1))
    (meanwhile_same before after (NameReadBy prefix.stop (named name limit)) (NameGiven limit prefix) of.calls of.given)

-- ---- the first word

record SourceCalled (s : Source) (name : List ℕ) (prefix : Prefix) (calls : List Call) : Type 0 where
  pub is : (later : List Call) → Starts later → source_called s name (calls ++ later) ≡ prefix
  pub rest : (later : List Call) → Starts later → behind_source s (calls ++ later) ≡ later

source_read : (shown : Type 0) (s : Source) (name : List ℕ) (before after : Moment) (prefix : Prefix) → Takes s shown name before after prefix → GivenFor s name before after prefix → Meanwhile before after (SourceCalled s name prefix)
source_read shown source.Object name before after prefix took of =
    meanwhile_map before after (λ calls. IsReading calls × NameGiven object_limit prefix calls) (SourceCalled source.Object name prefix)
    (λ calls both. record { is = λ later starts. called_first object_limit prefix calls later both.0 both.1 starts; rest = λ later starts. both.0.rest later starts })
    (reading_of name object_limit before after prefix of)
source_read shown source.Text name before after prefix took of =
    meanwhile_map before after (λ calls. IsReading calls × NameGiven text_limit prefix calls) (SourceCalled source.Text name prefix)
    (λ calls both. record { is = λ later starts. called_first text_limit prefix calls later both.0 both.1 starts; rest = λ later starts. both.0.rest later starts })
    (reading_of name text_limit before after prefix of)
source_read shown source.Number name before after prefix took of =
    subst (λ (m : Moment). Meanwhile before m (SourceCalled source.Number name prefix)) took.1
    (meanwhile_none before (SourceCalled source.Number name prefix) (record { is = λ later starts. sym took.0; rest = λ later starts. refl }))
source_read shown source.Nothing name before after prefix took of =
    subst (λ (m : Moment). Meanwhile before m (SourceCalled source.Nothing name prefix)) took.1
    (meanwhile_none before (SourceCalled source.Nothing name prefix) (record { is = λ later starts. sym took.0; rest = λ later starts. refl }))

-- ---- the topology

record TopologyCalled (place : Option ℕ) (result : Result Topology Fault) (calls : List Call) : Type 0 where
  pub is : (later : List Call) → Starts later → topology_called place (calls ++ later) ≡ result
  pub rest : (later : List Call) → Starts later → behind_topology place (calls ++ later) ≡ later
  pub starts : (later : List Call) → Starts later → Starts (calls ++ later)

topology_by_calls : (shown : Type 0) (ws : List (List ℕ)) (before after : Moment) (place : Option ℕ) (result : Result Topology Fault) → ReadsTopology shown place ws before after result → Meanwhile before after (TopologyCalled place result)
topology_by_calls shown ws before after None result read =
    subst (λ (m : Moment). Meanwhile before m (TopologyCalled None result)) read.1
    (meanwhile_none before (TopologyCalled None result) (record { is = λ later starts. sym read.0; rest = λ later starts. refl; starts = λ later starts. starts }))
topology_by_calls shown ws before after (Some k) result read =
    meanwhile_map before after (λ calls. IsReading calls × NameGiven topology_limit read.prefix calls) (TopologyCalled (Some k) result)
    (λ calls both. record {
      is = λ later starts. ap topology_of (called_first topology_limit read.prefix calls later both.0 both.1 starts) ∙ read.is;
      rest = λ later starts. both.0.rest later starts;
      starts = λ later starts. both.0.starts later;
    })
    (reading_of (word k ws) topology_limit before after read.prefix read.given)

-- ---- both

pub record BothCalled (f : Form) (ws : List (List ℕ)) (prefix : Prefix) (topology : Result Topology Fault) (calls : List Call) : Type 0 where
  pub first : (later : List Call) → Starts later → source_called f.source (word 1 ws) (calls ++ later) ≡ prefix
  pub second : (later : List Call) → Starts later → topology_given f (calls ++ later) ≡ topology
  pub rest : (later : List Call) → Starts later → behind_topology f.topology (behind_source f.source (calls ++ later)) ≡ later

both_called : (f : Form) (ws : List (List ℕ)) (prefix : Prefix) (topology : Result Topology Fault) (one two : List Call) → SourceCalled f.source (word 1 ws) prefix one → TopologyCalled f.topology topology two → BothCalled f ws prefix topology (one ++ two)
both_called f ws prefix topology one two first second = record {
  first = λ later starts.
      ap (source_called f.source (word 1 ws)) (append_assoc one two later) ∙ first.is (two ++ later) (second.starts later starts);
  second = λ later starts. ap (topology_called f.topology) (behind later starts) ∙ second.is later starts;
  rest = λ later starts. ap (behind_topology f.topology) (behind later starts) ∙ second.rest later starts;
}
  where
    behind : (later : List Call) → Starts later → behind_source f.source ((one ++ two) ++ later) ≡ two ++ later
    behind later starts = ap (behind_source f.source) (append_assoc one two later) ∙ first.rest (two ++ later) (second.starts later starts)

module _ (f : Form) (ws : List (List ℕ)) (shown : Type 0) (before after : Moment) where
  -- a subject that was read
  pub subject_called : (subject : Subject) → (reads : ReadsSubject shown f ws before after (Ok subject)) → Meanwhile before after (BothCalled f ws reads.prefix (Ok subject.topology))
  subject_called subject reads =
      meanwhile_both before reads.between after (SourceCalled f.source (word 1 ws) reads.prefix) (TopologyCalled f.topology (Ok subject.topology)) (BothCalled f ws reads.prefix (Ok subject.topology))
      (both_called f ws reads.prefix (Ok subject.topology))
      (source_read shown f.source (word 1 ws) before reads.between reads.prefix reads.read reads.given)
      (topology_by_calls shown ws reads.between after f.topology (Ok subject.topology) (topology_read f shown ws before after subject reads))

  -- what all calls gave is refused so
  abbrev pub IsRefusedFor : Fault → List Call → Type 0
  IsRefusedFor fault calls = subject_of f ws (source_called f.source (word 1 ws) calls) (topology_given f calls) ≡ Err fault

  -- one that was refused: at its object, where its topology decides nothing, or behind it
  pub refused_called : (fault : Fault) → ReadsSubject shown f ws before after (Err fault) → Meanwhile before after (IsRefusedFor fault)
  refused_called fault reads = by (object_by f.source reads.prefix) refl reads.rest
    where
      called : Meanwhile before reads.between (SourceCalled f.source (word 1 ws) reads.prefix)
      called = source_read shown f.source (word 1 ws) before reads.between reads.prefix reads.read reads.given

      at_object : (due : Fault) → object_by f.source reads.prefix ≡ Err due → (t : Result Topology Fault) → subject_of f ws reads.prefix t ≡ Err fault
      at_object due at t =
          ap (λ (v : Result Object Fault). subject_by v t (lines_by f.source (word 1 ws)) f.node ws) at
          ∙ sym (ap (λ (v : Result Object Fault). subject_by v reads.topology (lines_by f.source (word 1 ws)) f.node ws) at) ∙ reads.is

      of_object : (due : Fault) → object_by f.source reads.prefix ≡ Err due → (calls : List Call) → SourceCalled f.source (word 1 ws) reads.prefix calls → IsRefusedFor fault calls
      of_object due at calls gave =
          let is : source_called f.source (word 1 ws) calls ≡ reads.prefix = subst (λ (cs : List Call). source_called f.source (word 1 ws) cs ≡ reads.prefix) (append-nil calls) (gave.is [] tt) in
          ap (λ (p : Prefix). subject_of f ws p (topology_given f calls)) is ∙ at_object due at (topology_given f calls)

      of_both : (calls : List Call) → BothCalled f ws reads.prefix reads.topology calls → IsRefusedFor fault calls
      of_both calls both =
          subst (IsRefusedFor fault) (append-nil calls)
          (ap (λ (p : Prefix). subject_of f ws p (topology_given f (calls ++ []))) (both.first [] tt)
          ∙ ap (subject_of f ws reads.prefix) (both.second [] tt) ∙ reads.is)

      by : (v : Result Object Fault) → object_by f.source reads.prefix ≡ v → ReadsThen shown f ws reads.between after v reads.topology → Meanwhile before after (IsRefusedFor fault)
      by (Err due) at same =
          subst (λ (m : Moment). Meanwhile before m (IsRefusedFor fault)) same
          (meanwhile_map before reads.between (SourceCalled f.source (word 1 ws) reads.prefix) (IsRefusedFor fault) (of_object due at) called)
      by (Ok object) at read =
          meanwhile_map before after (BothCalled f ws reads.prefix reads.topology) (IsRefusedFor fault) of_both
          (meanwhile_both before reads.between after (SourceCalled f.source (word 1 ws) reads.prefix) (TopologyCalled f.topology reads.topology) (BothCalled f ws reads.prefix reads.topology)
          (both_called f ws reads.prefix reads.topology) called (topology_by_calls shown ws reads.between after f.topology reads.topology read))

  -- ---- the job

  -- a subject was refused
  pub job_refused : (fault : Fault) (calls : List Call) → ReadsSubject shown f ws before after (Err fault) → IsRefusedFor fault calls → IsJobFor f (asked_given f ws calls) (Err fault)
  job_refused fault calls reads is = record {
    is = inr (subst (λ (v : Result Subject Fault). Meets (Err fault) (then_script v (script_called f.script (behind_topology f.topology (behind_source f.source calls))))) (sym is) refl);
    known = (refusal f shown ws before after fault reads).known;
  }

  module _ (subject : Subject) (reads : ReadsSubject shown f ws before after (Ok subject)) (one two : List Call) (both : BothCalled f ws reads.prefix (Ok subject.topology) one) (starts : Starts two) where
    -- the subject is what was asked for, and then the script
    pub asked_is : asked_given f ws (one ++ two) ≡ with_script subject (script_called f.script two)
    asked_is =
        let last : List Call = behind_topology f.topology (behind_source f.source (one ++ two)) in
        ap (λ (p : Prefix). then_script (subject_of f ws p (topology_given f (one ++ two))) (script_called f.script last)) (both.first two starts)
        ∙ (ap (λ (t : Result Topology Fault). then_script (subject_of f ws reads.prefix t) (script_called f.script last)) (both.second two starts ∙ sym (was_read f ws reads.prefix reads.topology subject reads.is).topology)
        ∙ (ap (λ (v : Result Subject Fault). then_script v (script_called f.script last)) reads.is
        ∙ ap (λ (calls : List Call). with_script subject (script_called f.script calls)) (both.rest two starts)))

    -- a form without a script
    pub job_whole : (members : List Member) (events : List Event) → f.script ≡ None → IsFound (asked_with subject no_script) members → (f.source ≡ source.Number → IsScript (made subject.lines) events) → IsJobFor f (asked_given f ws (one ++ two)) (Ok (whole_job subject members events))
    job_whole members events none found making = record {
      is = inr (subst (Meets (Ok (whole_job subject members events))) (sym asked_is)
          (subst (λ (place : Option ℕ). Meets (Ok (whole_job subject members events)) (with_script subject (script_called place two))) (sym none) (refl, found)));
      known = record {
        supported = reads.supported;
        built_in = is_chip f shown ws before after subject reads;
        named = (was_read f ws reads.prefix reads.topology subject reads.is).named;
        reach = found;
        unread = if_none f.script refl;
        made = making;
      };
    }

    -- a form with a script
    pub job_script : (k : ℕ) → f.script ≡ Some k → (f.source ≡ source.Number → ⊥) → (job : Result Comparison Fault)
        → (script_of_job job ≡ Err Memory) ⊎ (script_of_job job ≡ script_or_fault (script_of (prefix_called script_limit two)))
        → OnErr (script_of_job job) ((script_of_job job ≡ Err Unread) ⊎ (script_of_job job ≡ Err Memory))
        → IfOk job (λ found. IsFound (asked_with subject found.script) found.members) → IsJobFor f (asked_given f ws (one ++ two)) (job_by subject job)
    job_script k has plain job gave refused reach = record { is = by gave; known = known job refused reach }
      where
        by : (script_of_job job ≡ Err Memory) ⊎ (script_of_job job ≡ script_or_fault (script_of (prefix_called script_limit two))) → (job_by subject job ≡ Err Memory) ⊎ Meets (job_by subject job) (asked_given f ws (one ++ two))
        by (inl memory) = inl (wanting subject job memory)
        by (inr is) =
            inr (subst (Meets (job_by subject job)) (sym asked_is)
            (subst (λ (place : Option ℕ). Meets (job_by subject job) (with_script subject (script_called place two))) (sym has)
            (met subject job (script_called (Some k) two) is reach)))

        known : (job : Result Comparison Fault) → OnErr (script_of_job job) ((script_of_job job ≡ Err Unread) ⊎ (script_of_job job ≡ Err Memory)) → IfOk job (λ found. IsFound (asked_with subject found.script) found.members) → IsKnown f (job_by subject job)
        known (Ok found) none reach = record {
          supported = reads.supported;
          built_in = is_chip f shown ws before after subject reads;
          named = (was_read f ws reads.prefix reads.topology subject reads.is).named;
          reach = reach;
          unread = not_none (found.script ≡ no_script) f.script k has;
          made = λ number. absurd (plain number);
        }
        known (Err fault) (inl read) none = subst (IsFaultOf f) (sym (err_is read)) tt
        known (Err fault) (inr memory) none = subst (IsFaultOf f) (sym (err_is memory)) tt

-- memory was wanted
pub job_starved : (f : Form) (asked : Result Asked Fault) → IsJobFor f asked (Err Memory)
job_starved f asked = record { is = inl refl; known = tt }

-- ---- the script

was_begun : (limit id : ℕ) (calls : List Call) → (prefix_given limit id calls).stop ≡ Unbegun → ⊥
was_begun limit id calls is = by (nat_lt limit (length (given id calls))) (is_ended id calls) is
  where
    by : (past told : Bool) → (if past then Limit else (if told then End else Failure)) ≡ Unbegun → ⊥
    by true told is = cc
    by false true is = cc
    by false false is = cc

-- the script that a source holds which shows what the calls gave is the one that they gave
pub script_of_calls : (name : List ℕ) (calls : List Call) (m : Moment) → AreOfScript calls → script_in (giving script_limit calls m) name ≡ script_of (prefix_called script_limit calls)
script_of_calls name [] m of = refl
script_of_calls name (Begin begun None ∷ calls) m of = refl
script_of_calls name (Begin begun (Some id) ∷ calls) m of =
    script_shown id begun name calls m of ∙ sym (script_some (prefix_given script_limit id calls) (was_begun script_limit id calls))
script_of_calls name (Read id answer ∷ calls) m of = absurd of
