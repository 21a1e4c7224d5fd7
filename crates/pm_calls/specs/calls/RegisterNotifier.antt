-- PM_REGISTER_NOTIFIER (UG1200).
use Rattle.std.specs.Prelude.{ℕ, Bool, true, false, ◌==◌, ◌&&◌, Option, Some, None, option_map}
use Rattle.pm_base.specs.declared.names.NodeId.{NodeId}
use Rattle.pm_notify.specs.declared.notes.NodeEvent.{NodeEvent}
use Rattle.pm_notify.specs.declared.notes.NodeEvent.TheVariants.{Change, ZeroUsers}
use Rattle.pm_notify.specs.Notes.{event_of}
use Rattle.pm_calls.specs.declared.verdict.Notifier.{Notifier}
use Rattle.pm_calls.specs.declared.verdict.Say.{Say}
use Rattle.pm_calls.specs.declared.verdict.Say.TheVariants.{Register}
use Rattle.pm_calls.specs.declared.views.Watched.{Watched}
use Rattle.pm_calls.specs.declared.views.Watched.TheVariants.{Nothing, PowerNode, SlaveNode}
use Rattle.pm_calls.specs.calls.SetWakeupSource.{is_switch}
use Rattle.pm_calls.specs.Checks.{Checks, in_range, unchecked}
use Rattle.pm_calls.specs.Verdict.{Called, effecting, saying}

-- masters can be told of the node: it is a slave or a power node
abbrev pub is_watchable : Watched → Bool
is_watchable Nothing = false
is_watchable PowerNode = true
is_watchable (SlaveNode permitted) = true

-- the event can happen to the node: any node changes, and only a slave has users
abbrev pub can_happen : Option NodeEvent → Watched → Bool
can_happen None view = false
can_happen (Some Change) view = true
can_happen (Some ZeroUsers) Nothing = false
can_happen (Some ZeroUsers) PowerNode = false
can_happen (Some ZeroUsers) (SlaveNode permitted) = true

-- the caller may be told of it: a slave needs a permission, and a power node none
abbrev pub may_watch : Watched → Bool
may_watch Nothing = false
may_watch PowerNode = true
may_watch (SlaveNode permitted) = permitted

-- the node is a slave or a power node, the event can happen to it, the switch is known, and the caller may be told
abbrev pub register_checks : (event enable : ℕ) → Watched → Checks
register_checks event enable view = record unchecked {
  node = is_watchable view;
  arguments = in_range (can_happen (event_of event) view && is_switch enable);
  permitted = may_watch view;
}

-- the notifier of the master at place m for an event of a node, set or removed
abbrev pub notifier_of : ℕ → NodeId → ℕ → NodeEvent → Notifier
notifier_of m node enable event = record { master = m; node = node; event = event; on = enable == 1 }

abbrev pub notifier_put : ℕ → NodeId → ℕ → NodeEvent → Say
notifier_put m node enable event = Register (notifier_of m node enable event)

-- the call that sets or removes the caller's notifier for this event
abbrev pub register_notifier : ℕ → NodeId → (event enable : ℕ) → Watched → Called
register_notifier m node event enable view =
    effecting (register_checks event enable view) (saying (option_map (notifier_put m node enable) (event_of event)))
