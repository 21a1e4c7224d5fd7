-- After a restart of all the masters are told nothing, and what they are told is as at load: none of them is asleep then, and
-- nothing waits.
use Rattle.std.proofs.Common.{◌≡◌, ℕ, ◌+◌, ◌<◌, Bool, true, false, if◌then◌else◌, List, [], ◌∷◌, ◌++◌, length, map, replicate, slice_get, unwrap_or, Option, Some, None, zero, suc, refl, sym, ◌∙◌, ap, arith}
use Rattle.std.specs.Prelude.{slice_set}
use Rattle.pm_base.specs.declared.names.Mode.{Mode}
use Rattle.pm_base.specs.declared.names.Mode.TheVariants.{Off, Active, Asleep, Suspending}
use Rattle.pm_base.specs.declared.names.NodeId.{NodeId}
use Rattle.pm_base.specs.declared.names.Unit.{Unit}
use Rattle.pm_base.specs.declared.names.Unit.TheVariants.{Node, Line}
use Rattle.pm_notify.specs.declared.notes.Waiting.{Waiting}
use Rattle.pm_notify.specs.MasterNotes.{MasterNotes, forgotten, waiting_in}
use Rattle.pm_notify.specs.NodeNotes.{no_notes}
use Rattle.pm_notify.specs.Notify.{loaded, notes_for, without_notes}
use Rattle.pm_object.specs.declared.object.MasterRec.{MasterRec}
use Rattle.pm_procs.specs.Modes.{same_mode}
use Rattle.pm_rows.specs.Modes.{loaded_modes, mode_in}
use Rattle.pm_topology.specs.declared.topology.Topology.{Topology}
use Rattle.pm_topology.specs.UnitMap.{all_at}
use Rattle.pm_topology.specs.Units.{units_of}
use Rattle.pm_values.specs.declared.turns.Turns.{Turns}
use Rattle.pm_tell.specs.declared.served.Served.{Served}
use Rattle.pm_tell.specs.Callbacks.{News, note_changes_at, note_changes_from, told_if, wakes}
use Rattle.pm_tell.specs.Served.{kept_at, kept_of, own_note}
use Rattle.pm_state.specs.Members.{mode_of_master}
use Rattle.pm_state.specs.State.{State, TalkHalf}
use Rattle.pm_state.specs.Talk.{Forget, Talk, take_of, talks, wait_of}
use Rattle.pm_tell.specs.Opening.{forget_at, forgets_from}
use Rattle.pm_state.specs.Values.{master_place}
use Rattle.pm_calls.specs.Verdict.{response_of}
use Rattle.pm_ipi.specs.Calls.{ack_of, node_of}
use Rattle.pm_tell.proofs.TalkLemmas.{talks_append}

-- ---- notes at load

abbrev no_master_notes : (t : Topology) → MasterNotes
no_master_notes t = all_at no_notes (units_of t)

still_none : (us : List Unit) → forgotten (all_at no_notes us) ≡ all_at no_notes us
still_none [] = refl
still_none (u ∷ us) = ap (λ later. (u, no_notes) ∷ later) (still_none us)

none_waits : (us : List Unit) → waiting_in (all_at no_notes us) ≡ []
none_waits [] = refl
none_waits (Node n ∷ us) = none_waits us
none_waits (Line l ∷ us) = none_waits us

-- a master that forgets where it asked for nothing
set_same : (count m : ℕ) (x : MasterNotes) → forgotten x ≡ x → slice_set (replicate count x) m (forgotten (notes_for m (replicate count x))) ≡ replicate count x
set_same zero m x same = refl
set_same (suc count) zero x same = ap (λ y. y ∷ replicate count x) same
set_same (suc count) (suc m) x same = ap (λ later. x ∷ later) (set_same count m x same)

-- and its notes, where it is there
master_notes_at : (count m : ℕ) (x : MasterNotes) → m < count → notes_for m (replicate count x) ≡ x
master_notes_at zero m x within = absurd (omega (arith, within))
master_notes_at (suc count) zero x within = refl
master_notes_at (suc count) (suc m) x within = master_notes_at count m x (omega (arith, within))

-- masters that forget leave notes as at load
forget_none : (t : Topology) (masters m : ℕ) (off : Bool) (half : TalkHalf) → half.notes ≡ loaded t masters → talks (if off then Forget m ∷ [] else []) half ≡ half
forget_none t masters m false half is = refl
forget_none t masters m true half is =
    let again : without_notes m half.notes ≡ half.notes =
    ap (without_notes m) is ∙ (set_same masters m (no_master_notes t) (still_none (units_of t)) ∙ sym is)
    in
    ap (λ notes. record half { notes = notes }) again

pub forgets_none : (t : Topology) (count : ℕ) (turns : ℕ → Turns) (m : ℕ) (masters : List MasterRec) (half : TalkHalf) → half.notes ≡ loaded t count → talks (forgets_from turns m masters) half ≡ half
forgets_none t count turns m [] half is = refl
forgets_none t count turns m (x ∷ masters) half is =
    talks_append (forget_at (turns m) m) (forgets_from turns (m + 1) masters) half
    ∙ (ap (talks (forgets_from turns (m + 1) masters)) (forget_none t count m (turns m).off half is)
    ∙ forgets_none t count turns (m + 1) masters half is)

-- ---- modes at load

offs_awake : (count m : ℕ) → same_mode (unwrap_or (slice_get (replicate count Off) m) Off) Asleep ≡ false
offs_awake zero m = refl
offs_awake (suc count) zero = refl
offs_awake (suc count) (suc m) = offs_awake count m

-- at load no master is asleep
pub none_asleep : (masters boot m : ℕ) → same_mode (mode_in m (loaded_modes masters boot)) Asleep ≡ false
none_asleep zero boot m = refl
none_asleep (suc masters) zero zero = refl
none_asleep (suc masters) zero (suc m) = offs_awake masters m
none_asleep (suc masters) (suc boot) zero = refl
none_asleep (suc masters) (suc boot) (suc m) = none_asleep masters boot m

-- ---- telling the masters

none_told : (k : ℕ) (woken : Bool) (us : List Unit) → map (take_of k) (told_if woken (all_at no_notes us)) ≡ []
none_told k true us = ap (map (take_of k)) (none_waits us)
none_told k false us = refl

-- a master that isn't asleep, and for which nothing waits, changes no notes
one_told : (news : News) (k : ℕ) (was is : Mode) (us : List Unit) → same_mode is Asleep ≡ false → note_changes_at news k was is (all_at no_notes us) ≡ []
one_told news k was Off us awake = refl
one_told news k was Active us awake = none_told k (wakes was Active) us
one_told news k was Asleep us awake = cc
one_told news k was Suspending us awake = none_told k (wakes was Suspending) us

pub all_told : (news : News) (was : ℕ → Mode) (t : Topology) (after : State) (count k : ℕ) (masters : List MasterRec) → k + length masters ≡ count
    → ((m : ℕ) → m < count → same_mode (mode_of_master after.fixed after.now.core m) Asleep ≡ false)
    → note_changes_from news was (loaded t count) after k masters ≡ []
all_told news was t after count k [] each awake = refl
all_told news was t after count k (x ∷ masters) each awake =
    let within : k < count = omega (arith, each) in
    let later : List Talk = note_changes_from news was (loaded t count) after (k + 1) masters in
    ap (λ notes. note_changes_at news k (was k) (mode_of_master after.fixed after.now.core k) notes ++ later) (master_notes_at count k (no_master_notes t) within)
    ∙ (ap (λ told. told ++ later) (one_told news k (was k) (mode_of_master after.fixed after.now.core k) (units_of t) (awake k within))
    ∙ all_told news was t after count (k + 1) masters (omega (arith, each)) awake)

-- and nothing is kept for the sender of a message
kept_nowhere : (m : ℕ) (asleep : Bool) (due : List Waiting) → asleep ≡ false → (if asleep then map (wait_of m) due else []) ≡ []
kept_nowhere m true due is = cc
kept_nowhere m false due is = refl

kept_at_none : (place : Option ℕ) (due : List Waiting) (after : State) → ((m : ℕ) → place ≡ Some m → same_mode (mode_of_master after.fixed after.now.core m) Asleep ≡ false) → kept_at place due after ≡ []
kept_at_none None due after awake = refl
kept_at_none (Some m) due after awake =
    kept_nowhere m (same_mode (mode_of_master after.fixed after.now.core m) Asleep) due (awake m refl)

pub kept_none : (served : Option Served) (after : State) → ((master : NodeId) (m : ℕ) → master_place master after ≡ Some m → same_mode (mode_of_master after.fixed after.now.core m) Asleep ≡ false) → kept_of served after ≡ []
kept_none None after awake = refl
kept_none (Some served) after awake =
    kept_at_none (master_place served.master after) (own_note (response_of served.verdict) (ack_of served.call) (node_of served.call)) after (awake served.master)
