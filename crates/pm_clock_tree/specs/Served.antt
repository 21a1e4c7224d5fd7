-- A call on a clock: its checks, in their order, what it changes, and what it is answered.
use Rattle.std.specs.Prelude.{ℕ, ◌==◌, Bool, true, false, not, ◌&&◌, ◌||◌, if◌then◌else◌, nat_le, List, [], ◌∷◌, find, map, slice_get, slice_set, is_some, unwrap_or, Option, Some, None}
use Rattle.std.specs.Option.{option_map, option_map_or}
use Rattle.pm_base.specs.declared.names.NodeId.{NodeId}
use Rattle.pm_ipi.specs.declared.responses.Response.{Response}
use Rattle.pm_ipi.specs.Responses.{refusal, success, used_by}
use Rattle.pm_ipi.specs.Status.{invalid_node, invalid_parameter, no_access}
use Rattle.pm_clock_tree.specs.declared.table.ClockDef.{ClockDef}
use Rattle.pm_clock_tree.specs.declared.tree.Setting.{Setting}
use Rattle.pm_clock_tree.specs.declared.calls.ClockAct.{ClockAct}
use Rattle.pm_clock_tree.specs.declared.calls.ClockAct.TheVariants.{Enable, Disable, State, SetDivider, Divider, SetParent, Parent}
use Rattle.pm_clock_tree.specs.declared.calls.ClockCall.{ClockCall}
use Rattle.pm_clock_tree.specs.Calls.{is_change, is_setting}
use Rattle.pm_clock_tree.specs.Table.{clock_place, def_of, is_root, parent_at}
use Rattle.pm_clock_tree.specs.Tree.{Holder, Seen, Tree, divider, has, index, runs}

-- ---- the checks

-- 1. there is no such clock, or it is a root and the call doesn't ask whether it runs
abbrev pub asks_state : ClockAct → Bool
asks_state State = true
asks_state act = false

abbrev pub is_missing : ClockCall → Bool
is_missing call = not (is_some (def_of call.clock)) && not (is_root call.clock && asks_state call.act)

-- 2. an argument is out of its range: a divider is from 1 to 63, and an index is one of a parent
abbrev pub is_index_of : ℕ → ClockDef → Bool
is_index_of index def = is_some (parent_at index def)

abbrev pub is_act_in_range : ℕ → ClockAct → Bool
is_act_in_range clock (SetDivider divider) = nat_le 1 divider && nat_le divider 63
is_act_in_range clock (SetParent index) = option_map_or (is_index_of index) (def_of clock) false
is_act_in_range clock act = true

abbrev pub is_in_range : ClockCall → Bool
is_in_range call = is_act_in_range call.clock call.act

-- 3. the call changes something, and the object in force doesn't let the caller use the clock's slave
abbrev pub may_change : Seen → NodeId → ClockCall → Bool
may_change seen master call =
    not (is_change call.act)
    || option_map_or (λ (def : ClockDef). seen.may_use master def.node) (def_of call.clock) false

-- 4. the call sets how the clock runs, and another master enables it: the first one in object order
abbrev pub is_rival : NodeId → ℕ → Holder → Bool
is_rival master k holder = not (holder.node.0 == master.0) && has k holder

abbrev pub rival_at : NodeId → Option ℕ → List Holder → Option NodeId
rival_at master None holders = None
rival_at master (Some k) holders = option_map (λ (holder : Holder). holder.node) (find (is_rival master k) holders)

abbrev pub rival : NodeId → ClockCall → Tree → Option NodeId
rival master call tree =
    if is_setting call.act then rival_at master (clock_place call.clock) tree.holders else None

-- the refusal of the first check that fails
abbrev pub refused : Seen → NodeId → ClockCall → Tree → Option Response
refused seen master call tree =
    if is_missing call then Some (refusal invalid_node)
    else if not (is_in_range call) then Some (refusal invalid_parameter)
    else if not (may_change seen master call) then Some (refusal no_access)
    else option_map used_by (rival master call tree)

-- ---- what it comes to

-- the word that is told: whether the clock runs, its divider, or the index of its parent
abbrev pub word_by : ClockAct → ℕ → Tree → ℕ
word_by State clock tree = if runs clock tree then 1 else 0
word_by Divider clock tree = divider clock tree
word_by Parent clock tree = index clock tree
word_by act clock tree = 0

abbrev pub told_word : ClockCall → Tree → ℕ
told_word call tree = word_by call.act call.clock tree

-- what a call by a master on a clock is answered
abbrev pub response : Seen → NodeId → ClockCall → Tree → Response
response seen master call tree =
    unwrap_or (refused seen master call tree) (success (told_word call tree ∷ 0 ∷ 0 ∷ []))

-- a master enables the clock at a place, or doesn't any more
abbrev pub with_enable : NodeId → ℕ → Bool → Holder → Holder
with_enable master k on holder =
    if holder.node.0 == master.0 then record holder { enables = slice_set holder.enables k on } else holder

-- the setting at a place is this, made of the one before
abbrev pub with_setting : (Setting → Setting) → ℕ → List Setting → List Setting
with_setting change k settings =
    option_map_or (λ setting. slice_set settings k (change setting)) (slice_get settings k) settings

abbrev pub with_divider : ℕ → Setting → Setting
with_divider divider setting = record setting { divider = divider }

abbrev pub with_index : ℕ → Setting → Setting
with_index index setting = record setting { index = index }

-- what an act of a master does to the clock at a place
abbrev pub changed : NodeId → ClockAct → ℕ → Tree → Tree
changed master Enable k tree = record tree { holders = map (with_enable master k true) tree.holders }
changed master Disable k tree = record tree { holders = map (with_enable master k false) tree.holders }
changed master (SetDivider divider) k tree =
    record tree { settings = with_setting (with_divider divider) k tree.settings }
changed master (SetParent index) k tree =
    record tree { settings = with_setting (with_index index) k tree.settings }
changed master act k tree = tree

abbrev pub changed_at : NodeId → ClockAct → Option ℕ → Tree → Tree
changed_at master act None tree = tree
changed_at master act (Some k) tree = changed master act k tree

-- the tree after a call: a refused one changes nothing
abbrev pub served : Seen → NodeId → ClockCall → Tree → Tree
served seen master call tree =
    if is_some (refused seen master call tree) then tree else changed_at master call.act (clock_place call.clock) tree
