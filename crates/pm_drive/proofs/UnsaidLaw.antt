-- Modules, whose API words are those from 256 on, say nothing to the events that a power call is lowered to, and none of these is a
-- call on a clock.
use Rattle.std.proofs.Common.{◌≡◌, ℕ, ◌≤◌, ◌<◌, ◌&&◌, Bool, true, false, List, [], ◌∷◌, refl, ap, ◌∙◌, arith, Option, Some, None}
use Rattle.std.specs.Prelude.{if◌then◌else◌, is_some, nat_le, unwrap_or}
use Rattle.std.specs.Option.{option_map}
use Rattle.std.specs.List.{AllByRecursion as Each}
use Rattle.std.proofs.lemmas.Bool.Decides.{nat_tests}
use Rattle.pm_base.specs.declared.events.Event.{Event}
use Rattle.pm_base.specs.declared.events.Event.TheVariants.{Ipi, Pass, Wfi}
use Rattle.pm_base.specs.declared.events.Message.{Message}
use Rattle.pm_base.specs.declared.names.NodeId.{NodeId}
use Rattle.pm_topology.specs.declared.topology.Topology.{Topology}
use Rattle.pm_ipi.specs.declared.responses.Response.{Response}
use Rattle.pm_psci.specs.declared.calls.Function.{Function}
use Rattle.pm_psci.specs.declared.calls.Function.TheVariants.{AffinityInfo, CpuOff, CpuOn, SystemOff, SystemReset, Unknown}
use Rattle.pm_psci.specs.declared.calls.Smc as psci
use Rattle.pm_psci.specs.Calls.{function_of}
use Rattle.pm_psci.specs.Lowering.{lowered, or_pass, sent}
use Rattle.pm_psci.specs.Refusal.{refusal}
use Rattle.pm_clock_tree.specs.Calls.{clock_call}
use Rattle.pm_clock_tree.specs.declared.calls.ClockCall.{ClockCall}
use Rattle.pm_clock_tree.specs.Tree.{Tree}
use Rattle.pm_clocks.specs.Clocked.{answered, clock_answer, made, view_of, tree_after_core}
use Rattle.pm_modules.specs.Ranges.{Ranged, said_by}
use Rattle.pm_state.specs.State.{State}
use Rattle.pm_core.specs.Step.{effect, outputs}
use Rattle.pm_core.specs.declared.replies.Answer.{Answer}
use Rattle.pm_core.specs.declared.replies.Answer.TheVariants.{Ack, Drop, Reply, Silent}
use Rattle.pm_run.specs.Run.{core_of, cores_of}
use Rattle.pm_apply.specs.Part.{Kept, Part, part_of}
use Rattle.pm_drive.specs.Clocks.{clocked_core, clocked_cores}
use Rattle.pm_drive.specs.Drive.{Given, first_answers, give, later_answers}
use Rattle.pm_drive.specs.Completed.{completed, completed_core, completed_cores}

-- a word below a range isn't in it
below_range : (word first last : ℕ) → word < first → (nat_le first word && nat_le word last) ≡ false
below_range word first last below = grind (arith, nat_tests)

module _ (modules : List Ranged) (from : Each (λ (it : Ranged). 256 ≤ it.first) modules) where
  unsaid_to : (them : List Ranged) → Each (λ (it : Ranged). 256 ≤ it.first) them → (message : Message) → message.api < 256 → said_by them message ≡ None
  unsaid_to [] from message low = refl
  unsaid_to (it ∷ rest) from message low =
      let first : 256 ≤ it.first = from.0 in
      ap (λ (has : Bool). if has then Some (it.says message) else said_by rest message) (below_range message.api it.first it.last (omega arith))
      ∙ unsaid_to rest from.1 message low

  -- what the book answers to this event is what is told
  record IsUnsaid (event : Event) : Type 0 where
    told : (answer : Answer) → completed modules event answer ≡ answer

  message_unsaid : (sender : NodeId) (message : Message) → message.api < 256 → IsUnsaid (Ipi sender message)
  message_unsaid sender message low = record { told = by }
    where
      by : (answer : Answer) → completed modules (Ipi sender message) answer ≡ answer
      by (Reply master response) =
          ap (λ (said : Option Response). Reply master (unwrap_or said response)) (unsaid_to modules from message low)
      by Silent = refl
      by (Drop master) = refl
      by (Ack master node status point shown) = refl

  pass_unsaid : IsUnsaid Pass
  pass_unsaid = record { told = λ answer. refl }

  wait_unsaid : (proc : NodeId) → IsUnsaid (Wfi proc)
  wait_unsaid proc = record { told = λ answer. refl }

  lowered_unsaid : (t : Topology) (smc : psci.Smc) → Each IsUnsaid (lowered t smc)
  lowered_unsaid t smc = by (is_some (refusal t smc)) (function_of smc)
    where
      by : (refused : Bool) (function : Function) → Each IsUnsaid (or_pass (if refused then [] else sent t smc function))
      by true function = (pass_unsaid, tt)
      by false (CpuOn target entry) = (message_unsaid _ _ (omega arith), tt)
      by false CpuOff = (message_unsaid _ _ (omega arith), (wait_unsaid _, tt))
      by false (AffinityInfo target level) = (message_unsaid _ _ (omega arith), tt)
      by false SystemOff = (message_unsaid _ _ (omega arith), tt)
      by false SystemReset = (message_unsaid _ _ (omega arith), tt)
      by false Unknown = (pass_unsaid, tt)

  cores_unsaid : (events : List Event) → Each IsUnsaid events → (kept : Kept) (answers : List (List Bool)) (book : State)
      → completed_cores modules (give kept answers (cores_of events book)) ≡ give kept answers (cores_of events book)
  cores_unsaid [] unsaid kept answers book = refl
  cores_unsaid (event ∷ events) unsaid kept answers book =
      let p : Part = part_of kept (first_answers answers) (effect event book) (outputs event book) in
      let rest : List Given = give p.kept (later_answers answers) (cores_of events (effect event book)) in
      ap (λ (more : List Given). completed_core modules (record { core = core_of event book; part = p }) ∷ more)
      (cores_unsaid events unsaid.1 p.kept (later_answers answers) (effect event book))
      ∙ ap (λ (a : Answer). record { core = core_of event book; part = record p { answer = a } } ∷ rest) (unsaid.0.told p.answer)

  pub call_unsaid : (t : Topology) (smc : psci.Smc) (kept : Kept) (answers : List (List Bool)) (book : State)
      → completed_cores modules (give kept answers (cores_of (lowered t smc) book)) ≡ give kept answers (cores_of (lowered t smc) book)
  call_unsaid t smc kept answers book = cores_unsaid (lowered t smc) (lowered_unsaid t smc) kept answers book

-- ---- clocks

-- the event is no call on a clock, whatever the book answers
record IsUnasked (event : Event) : Type 0 where
  none : (answer : Answer) → made event answer ≡ None

answer_stays : (event : Event) → IsUnasked event → (answer : Answer) (book : State) (tree : Tree) → clock_answer event answer book tree ≡ answer
answer_stays event unasked answer book tree =
    ap (λ (call : Option (NodeId × ClockCall)). answered (view_of book) tree call answer) (unasked.none answer)

pass_unasked : IsUnasked Pass
pass_unasked = record { none = λ answer. refl }

wait_unasked : (proc : NodeId) → IsUnasked (Wfi proc)
wait_unasked proc = record { none = λ answer. refl }

-- a message whose word is none of the clocks'
message_unasked : (sender : NodeId) (message : Message) → clock_call message ≡ None → IsUnasked (Ipi sender message)
message_unasked sender message other = record { none = by }
  where
    by : (answer : Answer) → made (Ipi sender message) answer ≡ None
    by (Reply master response) = ap (option_map (λ call. (sender, call))) other
    by Silent = refl
    by (Drop master) = refl
    by (Ack master node status point shown) = refl

lowered_unasked : (t : Topology) (smc : psci.Smc) → Each IsUnasked (lowered t smc)
lowered_unasked t smc = by (is_some (refusal t smc)) (function_of smc)
  where
    by : (refused : Bool) (function : Function) → Each IsUnasked (or_pass (if refused then [] else sent t smc function))
    by true function = (pass_unasked, tt)
    by false (CpuOn target entry) = (message_unasked _ _ refl, tt)
    by false CpuOff = (message_unasked _ _ refl, (wait_unasked _, tt))
    by false (AffinityInfo target level) = (message_unasked _ _ refl, tt)
    by false SystemOff = (message_unasked _ _ refl, tt)
    by false SystemReset = (message_unasked _ _ refl, tt)
    by false Unknown = (pass_unasked, tt)

cores_unasked : (events : List Event) → Each IsUnasked events → (kept : Kept) (answers : List (List Bool)) (book : State) (tree : Tree)
    → clocked_cores tree (give kept answers (cores_of events book)) ≡ give kept answers (cores_of events book)
cores_unasked [] unasked kept answers book tree = refl
cores_unasked (event ∷ events) unasked kept answers book tree =
    let p : Part = part_of kept (first_answers answers) (effect event book) (outputs event book) in
    let g : Given = record { core = core_of event book; part = p } in
    let rest : List Given = give p.kept (later_answers answers) (cores_of events (effect event book)) in
    ap (λ (more : List Given). clocked_core tree g ∷ more)
    (cores_unasked events unasked.1 p.kept (later_answers answers) (effect event book) (tree_after_core g.core tree))
    ∙ ap (λ (a : Answer). record { core = core_of event book; part = record p { answer = a } } ∷ rest)
    (answer_stays event unasked.0 p.answer (effect event book) tree)

pub call_unasked : (t : Topology) (smc : psci.Smc) (kept : Kept) (answers : List (List Bool)) (book : State) (tree : Tree)
    → clocked_cores tree (give kept answers (cores_of (lowered t smc) book)) ≡ give kept answers (cores_of (lowered t smc) book)
call_unasked t smc kept answers book tree = cores_unasked (lowered t smc) (lowered_unasked t smc) kept answers book tree
