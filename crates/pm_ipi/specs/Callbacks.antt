-- The callbacks (UG1200, callbacks of the power management API): their numbers, and the words that a master gets.
use Rattle.std.specs.Prelude.{ℕ, List, [], ◌∷◌, slice_index}

-- INIT_SUSPEND_CB, whose arguments are the reason, the latency, the state and the timeout
abbrev pub init_suspend : ℕ
init_suspend = 30

-- ACKNOWLEDGE_CB, whose arguments are the node, the status and the operating point
abbrev pub acknowledge : ℕ
acknowledge = 31

-- NOTIFY_CB, whose arguments are the node, the event and the operating point
abbrev pub notify : ℕ
notify = 32

-- the reason of a suspend that another master requests
abbrev pub reason_master : ℕ
reason_master = 201

-- the words of a callback: its number, and then its arguments
abbrev pub callback_words : ℕ → List ℕ → List ℕ
callback_words id args = id ∷ slice_index args 0 ∷ slice_index args 1 ∷ slice_index args 2 ∷ slice_index args 3 ∷ []
