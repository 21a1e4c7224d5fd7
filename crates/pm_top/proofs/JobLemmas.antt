-- What the words ask for, by what was read.
use Rattle.std.proofs.Common.{◌≡◌, ℕ, ◌≤◌, ◌⊎◌, ◌==◌, Bool, true, not, List, [], Option, Some, None, Result, Ok, Err, refl, sym, ◌∙◌, ap, subst, arith, inl, inr}
use Rattle.std.specs.Prelude.{IfNone, IfOk, OnErr}
use Rattle.pm_base.specs.Faults.{Rose}
use Rattle.pm_base.specs.declared.errors.Exit.{Exit}
use Rattle.pm_base.specs.declared.errors.Exit.TheVariants.{ReadFault}
use Rattle.pm_io.specs.declared.inputs.Inputs as Inputs
use Rattle.pm_io.specs.Inputs.{Moment}
use Rattle.pm_io.specs.Prefix.{Prefix}
use Rattle.pm_base.specs.declared.events.Event.{Event}
use Rattle.pm_gen.specs.Script.{made}
use Rattle.pm_reach.specs.declared.members.Member.{Member}
use Rattle.pm_script.specs.Script.{Script, script_limit, script_of}
use Rattle.pm_script.specs.Script.Stop.{End, Failed}
use Rattle.pm_trace.specs.declared.faults.Fault.{Fault}
use Rattle.pm_trace.specs.declared.faults.Fault.TheVariants.{Memory, Read}
use Rattle.pm_script.specs.Named.{IsScript, script_in}
use Rattle.pm_trace.specs.Scripts.{IsScriptOf, script_or_fault}
use Rattle.pm_isolate.specs.Compared.{Comparison, script_of_job}
use Rattle.pm_top.specs.declared.works.Form.{Form}
use Rattle.pm_top.specs.declared.works.Source.TheVariants as source
use Rattle.pm_top.specs.declared.reading.Subject.{Subject}
use Rattle.pm_top.specs.Words.{word}
use Rattle.pm_object.specs.declared.object.Object.{Object}
use Rattle.pm_topology.specs.declared.topology.Topology.{Topology}
use Rattle.pm_top.specs.Asked.{Asked, Begins, lines_by, no_script, object_by, script_begins, script_by, source_prefix, subject_by, subject_of, then_script, topology_by, with_script, with_topology}
use Rattle.pm_top.specs.Job.{IsAsked, IsFaultOf, IsFound, IsJobOf, IsKnown, Job, Meets}
use Rattle.pm_top.specs.Within.{ReadsSubject, ReadsThen, ReadsTopology}
use Rattle.pm_top.proofs.SubjectLemmas.{err_is, is_chip, memory_is_read, ok_is, ok_is_err, refusal, subject_files, subject_later, subject_room, topology_read, was_read}
use Rattle.pm_top.proofs.TakingLemmas.{later_is, more, taken_files, taken_is, taken_room, then_is}
use Rattle.pm_top.proofs.Unread.{IsAskedFor}

end_is_failed : End ≡ Failed → ⊥
end_is_failed e = cc

pub if_none : {X : Type 0} {P : Type 0} (o : Option X) → P → IfNone o P
if_none None p = p
if_none (Some x) p = tt

pub not_none : {X : Type 0} (P : Type 0) (o : Option X) (x : X) → o ≡ Some x → IfNone o P
not_none P None x is = cc
not_none P (Some y) x is = tt

-- ---- the job

-- a subject with a script
abbrev pub asked_with : Subject → Script → Asked
asked_with subject script = record { subject = subject; script = script }

-- of a subject without a script, and the events of one that is made
abbrev pub whole_job : Subject → List Member → List Event → Job
whole_job subject members events = record { asked = asked_with subject no_script; members = members; events = events }

-- of a subject with a script, and the members of a reach
abbrev pub job_by : Subject → Result Comparison Fault → Result Job Fault
job_by subject (Ok found) = Ok (record { asked = asked_with subject found.script; members = found.members; events = [] })
job_by subject (Err fault) = Err fault

pub met : (subject : Subject) (job : Result Comparison Fault) (script : Result Script Fault) → script_of_job job ≡ script → IfOk job (λ found. IsFound (asked_with subject found.script) found.members) → Meets (job_by subject job) (with_script subject script)
met subject (Ok found) (Ok s) is reach = (ap (asked_with subject) (ok_is is), reach)
met subject (Ok found) (Err due) is reach = absurd (ok_is_err is)
met subject (Err fault) (Ok s) is reach = absurd (ok_is_err (sym is))
met subject (Err fault) (Err due) is reach = err_is is

pub wanting : (subject : Subject) (job : Result Comparison Fault) → script_of_job job ≡ Err Memory → job_by subject job ≡ Err Memory
wanting subject (Ok found) is = absurd (ok_is_err is)
wanting subject (Err fault) is = ap (λ (fault : Fault). Err fault) (err_is is)

module _ {I : Type 0} (i : Inputs.Ghosts I) (f : Form) (ws : List (List ℕ)) where
  pub starved : (old new : I) → IsAskedFor i f ws old new (Err Memory)
  starved old new = record { shown = λ seen. inl refl; failed = λ e. absurd (memory_is_read e); known = tt }

  module _ (old new : I) (result : Result Subject Fault) (reads : ReadsSubject i.observable f ws (i.state old) (i.state new) result) (seen : i.observable) where
    -- the later inputs that can be opened
    abbrev begins : (third : Bool) → (3 ≤ (i.state old).room → third ≡ true) → Begins (i.state old)
    begins third three = record {
      second = not (reads.between.room == 0);
      third = third;
      two = λ many. more (i.state old).room reads.between.room 1 (reads.between.room == 0) refl (taken_room i.observable (word 1 ws) (i.state old) reads.between reads.prefix f.source reads.read seen) many;
      three = three;
    }

    -- what was read, by what the inputs showed
    first : result ≡ subject_of f ws (source_prefix f.source (i.state old) (word 1 ws)) (topology_by f.topology ws (i.state old) (not (reads.between.room == 0)))
    first =
        sym reads.is
        ∙ by (object_by f.source reads.prefix) reads.rest
        ∙ ap (λ (p : Prefix). subject_of f ws p (topology_by f.topology ws (i.state old) (not (reads.between.room == 0)))) (taken_is i.observable (word 1 ws) (i.state old) reads.between reads.prefix f.source reads.read seen)
      where
        by : (v : Result Object Fault) → ReadsThen i.observable f ws reads.between (i.state new) v reads.topology → subject_by v reads.topology (lines_by f.source (word 1 ws)) f.node ws ≡ subject_by v (topology_by f.topology ws (i.state old) (not (reads.between.room == 0))) (lines_by f.source (word 1 ws)) f.node ws
        by (Err fault) same = refl
        by (Ok object) read =
            ap (λ (t : Result Topology Fault). with_topology object t (lines_by f.source (word 1 ws)) f.node ws)
            (then_is i.observable ws reads.between (i.state new) f.topology (i.state old) reads.topology (taken_files i.observable (word 1 ws) (i.state old) reads.between reads.prefix f.source reads.read seen) read seen)

  -- a refusal
  pub asked_refused : (old new : I) (fault : Fault) → ((◌≡◌ {A = Result Subject Fault} (Err fault) (Err Memory)) ⊎ ReadsSubject i.observable f ws (i.state old) (i.state new) (Err fault)) → IsAskedFor i f ws old new (Err fault)
  asked_refused old new fault (inl memory) = subst (λ (fault : Fault). IsAskedFor i f ws old new (Err fault)) (sym (err_is memory)) (starved old new)
  asked_refused old new fault (inr reads) = record {
    shown = λ seen.
        let again : Begins (i.state old) = begins old new (Err fault) reads seen true (λ many. refl) in
        inr (again, subst (λ (v : Result Subject Fault). Meets (Err fault) (then_script v (script_by f.script ws (i.state old) (script_begins f.topology again)))) (first old new (Err fault) reads seen) refl);
    failed = (refusal f i.observable ws (i.state old) (i.state new) fault reads).rose;
    known = (refusal f i.observable ws (i.state old) (i.state new) fault reads).known;
  }

  -- a subject of a form without a script
  pub asked_whole : (old new : I) (subject : Subject) (members : List Member) (events : List Event) → f.script ≡ None → ReadsSubject i.observable f ws (i.state old) (i.state new) (Ok subject) → IsFound (asked_with subject no_script) members → (f.source ≡ source.Number → IsScript (made subject.lines) events) → IsAskedFor i f ws old new (Ok (whole_job subject members events))
  asked_whole old new subject members events none reads found making = record {
    shown = λ seen.
        let again : Begins (i.state old) = begins old new (Ok subject) reads seen true (λ many. refl) in
        inr (again, subst (λ (v : Result Subject Fault). Meets (Ok (whole_job subject members events)) (then_script v (script_by f.script ws (i.state old) (script_begins f.topology again)))) (first old new (Ok subject) reads seen) (meets (i.state old) (script_begins f.topology again)));
    failed = λ e. absurd (end_is_failed e);
    known = record {
      supported = reads.supported;
      built_in = is_chip f i.observable ws (i.state old) (i.state new) subject reads;
      named = (was_read f ws reads.prefix reads.topology subject reads.is).named;
      reach = found;
      unread = if_none f.script refl;
      made = making;
    };
  }
    where
      meets : (m : Moment) (turn : Bool) → Meets (Ok (whole_job subject members events)) (with_script subject (script_by f.script ws m turn))
      meets m turn = subst (λ (o : Option ℕ). Meets (Ok (whole_job subject members events)) (with_script subject (script_by o ws m turn))) (sym none) (refl, found)

  -- a subject, and the script that was read after it
  pub asked_script : (k : ℕ) → f.script ≡ Some k → (f.source ≡ source.Number → ⊥) → (old mid new : I) (result : Exit) (subject : Subject) (job : Result Comparison Fault) → ReadsSubject i.observable f ws (i.state old) (i.state mid) (Ok subject) → IsScriptOf i (word k ws) mid new result (script_of_job job) → IfOk job (λ found. IsFound (asked_with subject found.script) found.members) → IsAsked i f ws old new result (job_by subject job)
  asked_script k has named old mid new result subject job reads script reach = record {
    shown = λ seen. shown seen (script.shown seen);
    failed = failed;
    known = known job script.known reach;
  }
    where
      -- the script is the input after the topology, or after the object
      turn : (named : Option ℕ) (again : Begins (i.state old)) → again.second ≡ not (reads.between.room == 0) → again.third ≡ not ((i.state mid).room == 0) → ReadsTopology i.observable named ws reads.between (i.state mid) (Ok subject.topology) → script_begins named again ≡ not ((i.state mid).room == 0)
      turn None again second third read = second ∙ ap (λ (m : Moment). not (m.room == 0)) read.1
      turn (Some k) again second third read = third

      shown : i.observable → (script_of_job job ≡ Err Memory) ⊎ (script_of_job job ≡ script_or_fault (script_in (i.state mid) (word k ws))) → (job_by subject job ≡ Err Memory) ⊎ IsJobOf f ws (i.state old) (job_by subject job)
      shown seen (inl memory) = inl (wanting subject job memory)
      shown seen (inr is) =
          let third : Bool = not ((i.state mid).room == 0) in
          let again : Begins (i.state old) = begins old mid (Ok subject) reads seen third (λ many. more (i.state old).room (i.state mid).room 2 ((i.state mid).room == 0) refl (subject_room f i.observable ws (i.state old) (i.state mid) subject reads seen) many) in
          let begun : script_begins f.topology again ≡ third = turn f.topology again refl refl (topology_read f i.observable ws (i.state old) (i.state mid) subject reads) in
          let read : script_or_fault (script_in (i.state mid) (word k ws)) ≡ script_by (Some k) ws (i.state old) third =
          ap (λ (p : Prefix). script_or_fault (script_of p)) (later_is script_limit (i.state old) (i.state mid) (word k ws) (subject_files f i.observable ws (i.state old) (i.state mid) subject reads seen (word k ws)))
          in
          let here : Meets (job_by subject job) (with_script subject (script_by (Some k) ws (i.state old) third)) = met subject job (script_by (Some k) ws (i.state old) third) (is ∙ read) reach in
          let there : Meets (job_by subject job) (with_script subject (script_by (Some k) ws (i.state old) (script_begins f.topology again))) =
          subst (λ (b : Bool). Meets (job_by subject job) (with_script subject (script_by (Some k) ws (i.state old) b))) (sym begun) here
          in
          let of_form : Meets (job_by subject job) (with_script subject (script_by f.script ws (i.state old) (script_begins f.topology again))) =
          subst (λ (o : Option ℕ). Meets (job_by subject job) (with_script subject (script_by o ws (i.state old) (script_begins f.topology again)))) (sym has) there
          in
          inr (again, subst (λ (v : Result Subject Fault). Meets (job_by subject job) (then_script v (script_by f.script ws (i.state old) (script_begins f.topology again)))) (first old mid (Ok subject) reads seen) of_form)

      failed : result ≡ ReadFault → Rose (i.state old).faults (i.state new).faults
      failed is = let later : (i.state old).faults ≤ (i.state mid).faults = subject_later f i.observable ws (i.state old) (i.state mid) subject reads in let up = script.failed is in omega (arith, up)

      known : (job : Result Comparison Fault) → OnErr (script_of_job job) ((script_of_job job ≡ Err Read) ⊎ (script_of_job job ≡ Err Memory)) → IfOk job (λ found. IsFound (asked_with subject found.script) found.members) → IsKnown f (job_by subject job)
      known (Ok found) none reach = record {
        supported = reads.supported;
        built_in = is_chip f i.observable ws (i.state old) (i.state mid) subject reads;
        named = (was_read f ws reads.prefix reads.topology subject reads.is).named;
        reach = reach;
        unread = not_none (found.script ≡ no_script) f.script k has;
        made = λ number. absurd (named number);
      }
      known (Err fault) (inl read) none = subst (IsFaultOf f) (sym (err_is read)) tt
      known (Err fault) (inr memory) none = subst (IsFaultOf f) (sym (err_is memory)) tt
