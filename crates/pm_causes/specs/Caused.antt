-- An answer has its causes, and only these: the status of a call, the answer to an event, and each answer of a run.
use Rattle.std.specs.Prelude.{◌≡◌, ◌↔◌, ◌⊎◌, ℕ, List, [], ◌∷◌, Some}
use Rattle.std.specs.List.{All}
use Rattle.pm_base.specs.declared.events.Event.{Event}
use Rattle.pm_base.specs.declared.events.Event.TheVariants.{Ipi}
use Rattle.pm_base.specs.declared.events.Message.{Message}
use Rattle.pm_base.specs.declared.names.NodeId.{NodeId}
use Rattle.pm_ipi.specs.declared.calls.Call.{Call}
use Rattle.pm_ipi.specs.Calls.{ack_of, call_of, node_of}
use Rattle.pm_ipi.specs.Status
use Rattle.pm_core.specs.declared.replies.Answer.{Answer}
use Rattle.pm_core.specs.declared.replies.Answer.TheVariants.{Drop, Silent}
use Rattle.pm_state.specs.State.{State}
use Rattle.pm_core.specs.Step.{acknowledged, effect}
use Rattle.pm_run.specs.Run.{Core}
use Rattle.pm_causes.specs.Answers.{IsDropped, IsHeard, IsSilent, told as told_by}
use Rattle.pm_causes.specs.Causes.{cause, checks_of, response, status, words}
use Rattle.pm_calls.specs.Checks.{AllHold, Acknowledge, Arguments, Capable, InUse, Known, Node, NotUsed, Permitted, Stands, UsedBy, WrongMode}

-- each status of a call of the master at place m comes exactly if one of its causes is the first of the call's seven
-- checks that fails
pub record StatusHasCauses (m : ℕ) (call : Call) (book : State) : Type 0 where
  pub success : (status m call book ≡ 0) ↔ AllHold (checks_of m call book)
  pub no_feature : (status m call book ≡ Status.no_feature) ↔ ((cause m call book ≡ Known) ⊎ (cause m call book ≡ Capable))
  pub unknown_argument : (status m call book ≡ Status.invalid_parameter) ↔ ((cause m call book ≡ Acknowledge) ⊎ ((told : List ℕ) × (cause m call book ≡ Arguments told)))
  pub no_node : (status m call book ≡ Status.invalid_node) ↔ (cause m call book ≡ Node)
  pub no_access : (status m call book ≡ Status.no_access) ↔ ((cause m call book ≡ Permitted) ⊎ (cause m call book ≡ Stands NotUsed))
  pub double_request : (status m call book ≡ Status.double_request) ↔ (cause m call book ≡ Stands InUse)
  pub used_by_other : (status m call book ≡ Status.node_used) ↔ ((other : NodeId) × (cause m call book ≡ Stands (UsedBy other)))
  pub other_told : (other : NodeId) → cause m call book ≡ Stands (UsedBy other) → words m call book ≡ other.0 ∷ 0 ∷ 0 ∷ []
  pub wrong_mode : (status m call book ≡ Status.failure) ↔ (cause m call book ≡ Stands WrongMode)

-- the answer to an event in a book has its causes
pub record HasCauses (event : Event) (book : State) (answer : Answer) : Type 0 where
  -- the sender of a message gets Drop exactly if it isn't heard
  pub dropped : (master : NodeId) → (answer ≡ Drop master) ↔ IsDropped master event book
  -- there is no answer exactly if the event is no message, or a heard one without an answer in its step
  pub silent : (answer ≡ Silent) ↔ IsSilent event book
  -- any other heard message is told the status of its call
  pub told : (sender : NodeId) (message : Message) (m : ℕ) → event ≡ Ipi sender message → IsHeard sender m book
      → (answer ≡ Silent) ⊎ (told_by answer ≡ Some (sender, status m (call_of message) book))
  -- with the words of the call, and in the form of its acknowledge kind: a reply, or the callback with the node that
  -- the call names
  pub formed : (sender : NodeId) (message : Message) (m : ℕ) → event ≡ Ipi sender message → IsHeard sender m book
      → (answer ≡ Silent)
      ⊎ (answer ≡ acknowledged (ack_of (call_of message)) sender (node_of (call_of message)) (response m (call_of message) book) (effect event book))
  pub statuses : (m : ℕ) (call : Call) → StatusHasCauses m call book

-- the answer of a core step has the causes of its own event, in the book before it
abbrev pub HasOwnCauses : Core → Type 0
HasOwnCauses core = HasCauses core.event core.before core.outputs.answer

-- the answers of all these core steps have their causes
abbrev pub HaveCauses : List Core → Type 0
HaveCauses cores = All HasOwnCauses cores
