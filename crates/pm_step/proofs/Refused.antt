-- A refused message changes nothing.
use Rattle.std.proofs.Common.{◌≡◌, ℕ, Bool, true, false, not, if◌then◌else◌, IsTrue, List, [], map, Option, Some, None, refl, ap, ◌∙◌}
use Rattle.std.specs.Prelude.{option_and_then}
use Rattle.pm_base.specs.declared.events.Event.{Event}
use Rattle.pm_base.specs.declared.events.Event.TheVariants.{Ipi, Pass}
use Rattle.pm_base.specs.declared.events.Message.{Message}
use Rattle.pm_base.specs.declared.names.Mode.{Mode}
use Rattle.pm_base.specs.declared.names.Mode.TheVariants.{Off, Active, Asleep, Suspending}
use Rattle.pm_base.specs.declared.names.NodeId.{NodeId}
use Rattle.pm_ipi.specs.Calls.{ack_of, call_of, node_of}
use Rattle.pm_ipi.specs.declared.calls.Call.{Call}
use Rattle.pm_ipi.specs.declared.calls.Call.TheVariants as calls
use Rattle.pm_notify.specs.declared.notes.Waiting.{Waiting}
use Rattle.pm_procs.specs.Modes.{is_awake, same_mode}
use Rattle.pm_base.proofs.Booleans.{both}
use Rattle.pm_tell.specs.declared.served.Served.{Served}
use Rattle.pm_calls.specs.declared.verdict.Effects.{Effects}
use Rattle.pm_tell.specs.Served.{kept_at, kept_of, own_note}
use Rattle.pm_state.specs.Members.{mode_of_master}
use Rattle.pm_calls.specs.Checks.{Cause, Fits, Stands, first_failing}
use Rattle.pm_state.specs.Prims.{Prim}
use Rattle.pm_state.specs.State.{State}
use Rattle.pm_calls.specs.calls.{called}
use Rattle.pm_step.proofs.RestsLaw.{Rests, rests_stays}
use Rattle.pm_step.specs.Step.{call_in, effect, call_at, may_call, is_refused, message_stages, stages, verdict}
use Rattle.pm_state.specs.Talk.{wait_of}
use Rattle.pm_state.specs.Values.{master_place}
use Rattle.pm_calls.specs.Verdict.{Called, is_refusal, response_of, says_of, stages_by, verdict_by, verdict_of}

-- nothing comes of it
record DoesNothing (call : Option Called) : Type 0 where
  pub stages : message_stages call ≡ []
  pub says : says_of (verdict call) ≡ None

refused_by : (cause : Cause) (stages : List (List Prim)) (effects : Effects) → IsTrue (is_refusal (verdict_by cause effects)) → (stages_by cause stages ≡ []) × (says_of (verdict_by cause effects) ≡ None)
refused_by (Stands Fits) stages effects fails = cc
refused_by _ stages effects fails = (refl, refl)

call_refused_if : (call : Call) (book : State) (m : ℕ) (heard : Bool) → IsTrue (is_refusal (verdict (if heard then Some (called m call book) else None))) → DoesNothing (if heard then Some (called m call book) else None)
call_refused_if call book m true fails =
    let nothing = refused_by (first_failing (called m call book).checks) (called m call book).stages (called m call book).effects fails in
    record { stages = nothing.0; says = nothing.1 }
call_refused_if call book m false fails = record { stages = refl; says = refl }

refused_at : (call : Call) (book : State) (place : Option ℕ) → IsTrue (is_refusal (verdict (option_and_then (call_at call book) place))) → DoesNothing (option_and_then (call_at call book) place)
refused_at call book None fails = record { stages = refl; says = refl }
refused_at call book (Some m) fails = call_refused_if call book m (may_call m book) fails

-- a master that may call is awake, so nothing is kept for it where the book stays
kept_awake : (m : ℕ) (mode : Mode) (due : List Waiting) → is_awake mode ≡ true → (if same_mode mode Asleep then map (wait_of m) due else []) ≡ []
kept_awake m Off due awake = cc
kept_awake m Active due awake = refl
kept_awake m Asleep due awake = cc
kept_awake m Suspending due awake = refl

nothing_kept : (m : ℕ) (mode : Mode) → (if same_mode mode Asleep then map (wait_of m) [] else []) ≡ []
nothing_kept m Off = refl
nothing_kept m Active = refl
nothing_kept m Asleep = refl
nothing_kept m Suspending = refl

abbrev served_as : NodeId → Call → Option Called → Served
served_as master call in_book = record { master = master; call = call; verdict = verdict in_book }

kept_if : (master : NodeId) (call : Call) (book : State) (m : ℕ) (heard : Bool) → master_place master book ≡ Some m → may_call m book ≡ heard
    → kept_of (Some (served_as master call (if heard then Some (called m call book) else None))) book ≡ []
kept_if master call book m false place heard = ap (λ p. kept_at p [] book) place ∙ nothing_kept m (mode_of_master book.fixed book.now.core m)
kept_if master call book m true place heard =
    let due : List Waiting = own_note (response_of (verdict_of (called m call book))) (ack_of call) (node_of call) in
    ap (λ p. kept_at p due book) place ∙ kept_awake m (mode_of_master book.fixed book.now.core m) due
    (both (not book.now.core.halted) (is_awake (mode_of_master book.fixed book.now.core m)) heard).1

none_kept : (master : NodeId) (call : Call) (book : State) (place : Option ℕ) → master_place master book ≡ place
    → kept_of (Some (served_as master call (option_and_then (call_at call book) place))) book ≡ []
none_kept master call book None is = ap (λ p. kept_at p [] book) is
none_kept master call book (Some m) is = kept_if master call book m (may_call m book) is refl

-- a message of which nothing comes
message_rests : (master : NodeId) (message : Message) (book : State) → DoesNothing (call_in master (call_of message) book) → Rests (Ipi master message) book
message_rests master message book nothing = record {
  stages = nothing.stages;
  says = nothing.says;
  kept = none_kept master (call_of message) book (master_place master book) refl;
  time = refl;
}

-- a refused message changes nothing
pub refused_stays : (event : Event) (book : State) → IsTrue (is_refused event book) → effect event book ≡ book
refused_stays (Ipi master message) book fails =
    rests_stays (Ipi master message) book
    (message_rests master message book (refused_at (call_of message) book (master_place master book) fails))
refused_stays _ book fails = cc

-- an event of which nothing comes changes nothing
pub pass_stays : (book : State) → effect Pass book ≡ book
pass_stays book = rests_stays Pass book (record { stages = refl; says = refl; kept = refl; time = refl })
