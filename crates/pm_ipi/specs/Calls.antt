-- The calls by their words (UG1200, API calls), and how each is acknowledged.
use Rattle.std.specs.Prelude.{ℕ, ◌+◌, ◌-◌, ◌*◌, ◌^◌, ◌%◌, ◌==◌, if◌then◌else◌, List, [], ◌∷◌, find, slice_index, unwrap_or, Option, Some, None}
use Rattle.pm_base.specs.declared.caps.Caps.{Caps}
use Rattle.pm_base.specs.declared.names.LineId.{LineId}
use Rattle.pm_base.specs.declared.names.NodeId.{NodeId}
use Rattle.pm_base.specs.declared.names.Unit.{Unit}
use Rattle.pm_base.specs.declared.names.Unit.TheVariants.{Node, Line}
use Rattle.pm_base.specs.declared.events.Message.{Message}
use Rattle.pm_ipi.specs.declared.calls.Call.{Call}
use Rattle.pm_ipi.specs.declared.calls.Call.TheVariants.{GetApiVersion, SetConfiguration, GetNodeStatus, GetOpCharacteristic, RegisterNotifier, RequestSuspend, SelfSuspend, ForcePowerdown, AbortSuspend, RequestWakeup, SetWakeupSource, SystemShutdown, RequestNode, ReleaseNode, SetRequirement, SetMaxLatency, ResetAssert, ResetGetStatus, InitFinalize, Unknown}
use Rattle.pm_ipi.specs.declared.calls.Named.{Named}
use Rattle.pm_ipi.specs.declared.calls.Named.TheVariants.{Nothing, One, Two}
use Rattle.pm_ipi.specs.declared.calls.AckKind.{AckKind}
use Rattle.pm_ipi.specs.declared.calls.AckKind.TheVariants.{No, Blocking, NonBlocking}

-- the argument at a place of a message, counted from 0
abbrev pub argument : Message → ℕ → ℕ
argument message k = slice_index message.args k

-- an argument that is the number of a node
abbrev pub node_word : Message → ℕ → NodeId
node_word message k = record { 0 = argument message k }

-- an argument that is the number of a reset line
abbrev pub line_word : Message → ℕ → LineId
line_word message k = record { 0 = argument message k }

-- an argument that is a set of capabilities
abbrev pub caps_word : Message → ℕ → Caps
caps_word message k = record { 0 = argument message k }

-- the address of which these are the low and the high word
abbrev pub address_of : ℕ → ℕ → ℕ
address_of low high = high * 2 ^ 32 + low

-- the address at which a processor wakes: bit 0 of the low word says that there is one, and is no part of it
abbrev pub wake_address : ℕ → ℕ → Option ℕ
wake_address low high = if low % 2 == 1 then Some (address_of (low - 1) high) else None

-- the calls that these arguments make, one for each number
abbrev pub calls_by : Message → List Call
calls_by message =
    -- GET_API_VERSION: no argument
    GetApiVersion
    -- SET_CONFIGURATION: the address of the object that is put in force
    ∷ SetConfiguration (argument message 0)
    -- GET_NODE_STATUS: the node
    ∷ GetNodeStatus (node_word message 0)
    -- GET_OP_CHARACTERISTIC: the node, and which characteristic
    ∷ GetOpCharacteristic (node_word message 0) (argument message 1)
    -- REGISTER_NOTIFIER: the node, the event, whether the event wakes the master, which nothing depends on, and whether the master is
    -- told of it from now on
    ∷ RegisterNotifier (node_word message 0) (argument message 1) (argument message 2) (argument message 3)
    -- REQUEST_SUSPEND: the node that names the master that is asked, the acknowledge kind, and the latency and the state that the
    -- master is told
    ∷ RequestSuspend (node_word message 0) (argument message 1) (argument message 2) (argument message 3)
    -- SELF_SUSPEND: the processor, the latency and the state, which nothing depends on, and the low and the high word of the
    -- address at which it resumes
    ∷ SelfSuspend (node_word message 0) (address_of (argument message 3) (argument message 4))
    -- FORCE_POWERDOWN: the processor or power node, and the acknowledge kind
    ∷ ForcePowerdown (node_word message 0) (argument message 1)
    -- ABORT_SUSPEND: the reason, and then the processor
    ∷ AbortSuspend (node_word message 1) (argument message 0)
    -- REQUEST_WAKEUP: the processor, the low and the high word of the address at which it wakes, and the acknowledge kind
    ∷ RequestWakeup (node_word message 0) (wake_address (argument message 1) (argument message 2)) (argument message 3)
    -- SET_WAKEUP_SOURCE: the processor, the slave whose interrupt wakes it, and whether it does from now on
    ∷ SetWakeupSource (node_word message 0) (node_word message 1) (argument message 2)
    -- SYSTEM_SHUTDOWN: the type, and the subtype that says how much is shut down
    ∷ SystemShutdown (argument message 0) (argument message 1)
    -- REQUEST_NODE: the slave, the capabilities, the quality of service, which nothing depends on, and the acknowledge kind
    ∷ RequestNode (node_word message 0) (caps_word message 1) (argument message 3)
    -- RELEASE_NODE: the slave
    ∷ ReleaseNode (node_word message 0)
    -- SET_REQUIREMENT: the arguments of REQUEST_NODE
    ∷ SetRequirement (node_word message 0) (caps_word message 1) (argument message 3)
    -- SET_MAX_LATENCY: the slave and the latency
    ∷ SetMaxLatency (node_word message 0) (argument message 1)
    -- RESET_ASSERT: the reset line and the action
    ∷ ResetAssert (line_word message 0) (argument message 1)
    -- RESET_GET_STATUS: the reset line
    ∷ ResetGetStatus (line_word message 0)
    -- INIT_FINALIZE: no argument
    ∷ InitFinalize
    ∷ []

-- ---- the row of a call

-- what is asked of a call before it is served: its number, the nodes that it names and the reset line whose value it asks for, the
-- one of its acknowledgement first, and its acknowledge kind, if it has one
pub record Row : Type 0 where
  pub number : ℕ
  pub names : List Unit
  pub acknowledge : Option ℕ

abbrev pub row : ℕ → List Unit → Option ℕ → Row
row number names acknowledge = record { number = number; names = names; acknowledge = acknowledge }

-- what RESET_ASSERT is answered doesn't depend on the value of its line, so it names none; no call has the number 0
abbrev pub row_of : Call → Row
row_of GetApiVersion = row 1 [] None
row_of (SetConfiguration address) = row 2 [] None
row_of (GetNodeStatus node) = row 3 (Node node ∷ []) None
row_of (GetOpCharacteristic node characteristic) = row 4 (Node node ∷ []) None
row_of (RegisterNotifier node event wake enable) = row 5 (Node node ∷ []) None
row_of (RequestSuspend node ack latency state) = row 6 (Node node ∷ []) (Some ack)
row_of (SelfSuspend node address) = row 7 (Node node ∷ []) None
row_of (ForcePowerdown node ack) = row 8 (Node node ∷ []) (Some ack)
row_of (AbortSuspend node reason) = row 9 (Node node ∷ []) None
row_of (RequestWakeup node address ack) = row 10 (Node node ∷ []) (Some ack)
row_of (SetWakeupSource target source enable) = row 11 (Node target ∷ Node source ∷ []) None
row_of (SystemShutdown shutdown_type subtype) = row 12 [] None
row_of (RequestNode node caps ack) = row 13 (Node node ∷ []) (Some ack)
row_of (ReleaseNode node) = row 14 (Node node ∷ []) None
row_of (SetRequirement node caps ack) = row 15 (Node node ∷ []) (Some ack)
row_of (SetMaxLatency node latency) = row 16 (Node node ∷ []) None
row_of (ResetAssert line action) = row 17 [] None
row_of (ResetGetStatus line) = row 18 (Line line ∷ []) None
row_of InitFinalize = row 21 [] None
row_of Unknown = row 0 [] None

-- the units that a call names, in their order
abbrev pub listed : Named → List Unit
listed Nothing = []
listed (One unit) = unit ∷ []
listed (Two first second) = first ∷ second ∷ []

-- the call of a message, by its number
abbrev pub call_of : Message → Call
call_of message = unwrap_or (find (λ call. (row_of call).number == message.api) (calls_by message)) Unknown

-- the acknowledge kind among the arguments of a call, if it has one
abbrev pub acknowledge_of : Call → Option ℕ
acknowledge_of call = (row_of call).acknowledge

-- 1 wants nothing, 2 a reply, 3 the acknowledge callback
abbrev pub ack_kind : ℕ → Option AckKind
ack_kind word =
    if word == 1 then Some No
    else if word == 2 then Some Blocking
    else if word == 3 then Some NonBlocking
    else None

-- a word that is no kind wants a reply
abbrev pub kind_or_reply : Option AckKind → AckKind
kind_or_reply None = Blocking
kind_or_reply (Some kind) = kind

-- the kind of a call by that argument: a call without it is answered by a reply, and so is one whose argument is no kind
abbrev pub kind_by : Option ℕ → AckKind
kind_by None = Blocking
kind_by (Some word) = kind_or_reply (ack_kind word)

abbrev pub ack_of : Call → AckKind
ack_of call = kind_by (acknowledge_of call)

-- the node that an acknowledgement names: the first one that the call names, where it has an acknowledge kind
abbrev pub node_by : Option ℕ → List Unit → NodeId
node_by (Some word) (Node node ∷ names) = node
node_by _ _ = record { 0 = 0 }

abbrev pub node_of : Call → NodeId
node_of call = node_by (acknowledge_of call) (row_of call).names
