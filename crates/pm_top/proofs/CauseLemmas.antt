-- A fault of reading comes only if the inputs show that a read may fail.
use Rattle.std.proofs.Common.{◌≡◌, ℕ, ◌<◌, ◌≤◌, ◌⊎◌, Bool, true, false, List, Option, Some, None, Result, Ok, Err, refl, sym, ◌∙◌, ap, subst, inl, inr}
use Rattle.std.specs.Prelude.{IsSomeAnd}
use Rattle.std.proofs.lemmas.Bool.{cases_lt}
use Rattle.pm_io.specs.Inputs.{FailsWithin, MayFail, Moment}
use Rattle.pm_io.specs.Prefix.{IsUnread, Prefix, prefix_of}
use Rattle.pm_io.proofs.PrefixEnds.{prefix_fails}
use Rattle.pm_script.specs.Script.{Script, script_limit, script_of}
use Rattle.pm_script.specs.Script.Stop.{End, Failed}
use Rattle.pm_trace.specs.declared.faults.Fault.{Fault}
use Rattle.pm_script.proofs.NamedLemmas as named
use Rattle.pm_trace.specs.Scripts.{script_or_fault}
use Rattle.pm_trace.proofs.ScriptsLemmas.{Unreadable, unreadable_in}
use Rattle.pm_trace.specs.declared.faults.Fault.TheVariants.{Read}
use Rattle.pm_top.specs.declared.works.Form.{Form}
use Rattle.pm_top.specs.declared.works.Source.{Source}
use Rattle.pm_top.specs.declared.works.Source.TheVariants as source
use Rattle.pm_top.specs.declared.reading.Subject.{Subject}
use Rattle.pm_top.specs.Words.{word}
use Rattle.pm_top.specs.Asked.{Asked, Begins, asked_of, first_prefix, later_prefix, object_limit, script_begins, script_by, script_turn, source_prefix, subject_of, text_limit, then_script, topology_by, topology_limit, with_script}
use Rattle.pm_top.specs.Job.{Job, Meets}
use Rattle.pm_top.specs.Ran.{FormMayFail, LaterMayFail, SourceMayFail}
use Rattle.pm_top.proofs.Unread.{FailsToRead}
use Rattle.pm_top.proofs.SubjectLemmas.{node_is_read, ok_is_err, refused_by, source_kind}
use Rattle.pm_top.proofs.TakingLemmas.{text_unread}

-- a script that can't be read was not read to its end or past its limit
script_unread : (p : Prefix) → Unreadable (script_or_fault (script_of p)) → IsUnread p.stop
script_unread p fails = named.script_unread p (unreadable_in (script_of p) fails)

first_fails : (limit : ℕ) (m : Moment) (name : List ℕ) → IsUnread (first_prefix limit m name).stop → MayFail name limit m
first_fails limit m name unread = prefix_fails limit (m.file name) m.room (first_prefix limit m name) refl unread

source_fails : (s : Source) (m : Moment) (name : List ℕ) → IsUnread (source_prefix s m name).stop → SourceMayFail s name m
source_fails source.Object m name unread = first_fails object_limit m name unread
source_fails source.Text m name unread = first_fails text_limit m name unread
source_fails source.Number m name unread = absurd unread
source_fails source.Nothing m name unread = absurd unread

too_few : (room turn : ℕ) (again : Bool) → (turn ≤ room → again ≡ true) → again ≡ false → room < turn
too_few room turn again more not = elim (cases_lt room turn) [
  | inl few ↦ few
  | inr many ↦ let clash : true ≡ false = sym (more many) ∙ not in cc
]

-- what is read of a later name, which isn't its end
later_fails : (turn limit : ℕ) (m : Moment) (again : Bool) (name : List ℕ) → (turn ≤ m.room → again ≡ true) → IsUnread (later_prefix limit m again name).stop → (m.room < turn) ⊎ MayFail name limit m
later_fails turn limit m again name more unread = by again refl
  where
    at : (room : ℕ) → IsUnread (prefix_of limit (m.file name) room).stop → ((m.file name ≡ None) ⊎ (room ≡ 0)) ⊎ IsSomeAnd (m.file name) (FailsWithin limit)
    at room unread = prefix_fails limit (m.file name) room (prefix_of limit (m.file name) room) refl unread

    by : (b : Bool) → again ≡ b → (m.room < turn) ⊎ MayFail name limit m
    by false is = inl (too_few m.room turn again more is)
    by true is = elim (at 1 (subst (λ (b : Bool). IsUnread (later_prefix limit m b name).stop) is unread)) [
      | inl absent ↦ elim absent [
        | inl none ↦ inr (inl (inl none))
        | inr zero ↦ cc
      ]
      | inr fails ↦ inr (inr fails)
    ]

module _ (ws : List (List ℕ)) (m : Moment) (again : Begins m) where
  -- a job that fails to read after its subject was read fails at its script
  unreadable : (subject : Subject) (script : Result Script Fault) (job : Result Job Fault) → Meets job (with_script subject script) → FailsToRead job → Unreadable script
  unreadable subject (Ok s) (Ok job) meets fails = ap (λ (asked : Asked). asked.script.stop) (sym meets.0) ∙ fails
  unreadable subject (Err due) (Ok job) meets fails = absurd meets
  unreadable subject (Ok s) (Err fault) meets fails = absurd meets
  unreadable subject (Err due) (Err fault) meets fails = sym meets ∙ fails

  script_cause : (turn : ℕ) (begins : Bool) (script : Option ℕ) → (turn ≤ m.room → begins ≡ true) → Unreadable (script_by script ws m begins) → LaterMayFail turn script_limit script ws m
  script_cause turn begins None more fails = let clash : End ≡ Failed = fails in cc
  script_cause turn begins (Some k) more fails = later_fails turn script_limit m begins (word k ws) more (script_unread (later_prefix script_limit m begins (word k ws)) fails)

  -- the script is the second or the third input
  script_room : (named : Option ℕ) → script_turn named ≤ m.room → script_begins named again ≡ true
  script_room None many = again.two many
  script_room (Some k) many = again.three many

  topology_cause : (named : Option ℕ) → topology_by named ws m again.second ≡ Err Read → LaterMayFail 2 topology_limit named ws m
  topology_cause None is = absurd (ok_is_err is)
  topology_cause (Some k) is = later_fails 2 topology_limit m again.second (word k ws) again.two (text_unread (later_prefix topology_limit m again.second (word k ws)) is)

  -- a subject that wasn't read
  subject_cause : (f : Form) → subject_of f ws (source_prefix f.source m (word 1 ws)) (topology_by f.topology ws m again.second) ≡ Err Read → FormMayFail (Some f) ws m
  subject_cause f is = elim (refused_by f ws (source_prefix f.source m (word 1 ws)) (topology_by f.topology ws m again.second) Read is) [
    | inl at ↦ inl (source_fails f.source m (word 1 ws) ((source_kind f f.source (source_prefix f.source m (word 1 ws)) Read refl at).unread refl))
    | inr later ↦ elim later [
      | inl it ↦ inr (inl (topology_cause f.topology it.2))
      | inr node ↦ absurd (node_is_read (sym node.0))
    ]
  ]

  pub job_cause : (f : Form) (job : Result Job Fault) → Meets job (asked_of f ws m again) → FailsToRead job → FormMayFail (Some f) ws m
  job_cause f job meets fails = by (subject_of f ws (source_prefix f.source m (word 1 ws)) (topology_by f.topology ws m again.second)) refl job meets fails
    where
      by : (v : Result Subject Fault) → subject_of f ws (source_prefix f.source m (word 1 ws)) (topology_by f.topology ws m again.second) ≡ v → (job : Result Job Fault) → Meets job (then_script v (script_by f.script ws m (script_begins f.topology again))) → FailsToRead job → FormMayFail (Some f) ws m
      by (Ok subject) is job meets fails =
          inr (inr (script_cause (script_turn f.topology) (script_begins f.topology again) f.script (script_room f.topology) (unreadable subject (script_by f.script ws m (script_begins f.topology again)) job meets fails)))
      by (Err due) is (Ok job) meets fails = absurd meets
      by (Err due) is (Err fault) meets fails =
          subject_cause f (is ∙ ap (λ (fault : Fault). Err fault) (sym meets ∙ fails))
