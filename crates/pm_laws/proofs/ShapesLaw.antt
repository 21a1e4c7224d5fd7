-- A call names what its shape names.
use Rattle.std.proofs.Common.{◌≡◌, Bool, true, false, List, [], ◌∷◌, refl}
use Rattle.pm_laws.proofs.Common.{Mode, Node, Unit, is_arming}
use Rattle.pm_base.specs.declared.names.Unit.TheVariants.{Line}
use Rattle.pm_ipi.specs.declared.calls.AckKind.TheVariants.{Blocking}
use Rattle.pm_ipi.specs.declared.calls.Call.{Call}
use Rattle.pm_ipi.specs.declared.calls.Call.TheVariants.{GetApiVersion}
use Rattle.pm_ipi.specs.Calls.{ack_of, row_of}
use Rattle.pm_calls.specs.calls.{shape_of}
use Rattle.pm_calls.specs.Shapes.{Shape, Constant, Node_status, Node_figures, Line_value, Own_row, Own_arming, Own_holds, Own_suspend, Own_abort, Own_notifier, Other_wakeup, Other_suspend, All_forced}

-- the nodes that a call of a shape names, and the reset line whose value it tells
abbrev pub names_of : Shape → List Unit
names_of (Constant call) = []
names_of (Node_status node call) = Node node ∷ []
names_of (Node_figures node call) = Node node ∷ []
names_of (Line_value line call) = Line line ∷ []
names_of (Own_row node by call) = Node node ∷ []
names_of (Own_arming target source enable) = Node target ∷ Node source ∷ []
names_of Own_holds = []
names_of (Own_suspend node address) = Node node ∷ []
names_of (Own_abort node reason) = Node node ∷ []
names_of (Own_notifier node event enable) = Node node ∷ []
names_of (Other_wakeup node address ack) = Node node ∷ []
names_of (Other_suspend node ack latency state) = Node node ∷ []
names_of (All_forced node ack) = Node node ∷ []
names_of _ = []

pub named_shaped : (call : Call) → (row_of call).names ≡ names_of (shape_of call)
named_shaped GetApiVersion = refl
named_shaped _ = refl

-- a change of a row that arms it
abbrev arms : Shape → Mode → Bool
arms (Own_row node by call) mode = is_arming (by mode)
arms _ mode = false

-- the call arms no row, or is the one that does nothing else
abbrev pub IsUnarmed : Shape → Type 0
IsUnarmed shape = (mode : Mode) → arms shape mode ≡ false

pub shape_unarmed : (call : Call) → IsUnarmed (shape_of call)
shape_unarmed GetApiVersion mode = refl
shape_unarmed _ mode = refl

-- a master may so read what is within the reach of another one
abbrev pub reads_within : Shape → Bool
reads_within (Node_status node call) = true
reads_within (Node_figures node call) = true
reads_within (Line_value line call) = true
reads_within (Own_arming target source enable) = true
reads_within _ = false

-- it is answered by a reply
pub reader_replies : (call : Call) → reads_within (shape_of call) ≡ true → ack_of call ≡ Blocking
reader_replies GetApiVersion is = cc
reader_replies _ is = cc
