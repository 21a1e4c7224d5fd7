-- The words of the crates below, and of this one, that most proofs here use.
pub use Rattle.pm_base.specs.declared.events.Event.{Event}
pub use Rattle.pm_base.specs.declared.events.Event.TheVariants.{Boot, Gic, Ipi, Irq, Pass, Tick, Wfi}
pub use Rattle.pm_base.specs.declared.names.Mode.{Mode}
pub use Rattle.pm_base.specs.declared.names.Mode.TheVariants.{Active, Asleep, Off, Suspending}
pub use Rattle.pm_base.specs.declared.names.NodeId.{NodeId}
pub use Rattle.pm_base.specs.declared.names.Unit.{Unit}
pub use Rattle.pm_base.specs.declared.names.Unit.TheVariants.{Node}
pub use Rattle.pm_base.specs.Places.{is_place}
pub use Rattle.pm_state.specs.Members.{members_of, mode_of_master, owner_at}
pub use Rattle.pm_state.specs.Prims.{At_row, Clear, Enforce, Halt, Prim, Put_line, Put_proc, Reload, Settle, Shift, applies, apply, changed, proc_put, procs_with}
pub use Rattle.pm_state.specs.Sound.{AreNamed, ArmsOwn, HasNotes, IsSound, KnowsModes, MeetsRequirements, arms_own, is_armed_own, is_own}
pub use Rattle.pm_state.specs.State.{CoreHalf, Fixed, Now, State, TalkHalf, in_force}
pub use Rattle.pm_calls.specs.calls.{called}
pub use Rattle.pm_core.specs.Step.{acknowledged, answer_of, answered, call_in, effect, ended, forgets, call_at, may_call, message_stages, modes_in, news, opening, outputs, path, pulse, says, served, stages, talk, time_of, verdict}
pub use Rattle.pm_tell.specs.Telling.{notes_after}
pub use Rattle.pm_state.specs.Values.{chosen, forest, line_at, master_place, need_of, point, point_at, proc_child, runs, slave_child, state_at, value, value_at, value_in}
pub use Rattle.pm_calls.specs.Verdict.{Called, aborted_by, asked_by, changing, pulse_of, response_of, says_of, stages_by, stages_of, verdict_by, verdict_of}
pub use Rattle.pm_calls.specs.Views.{can_suspend, can_wake, is_asked, master_timeout, names_master, proc_view, proc_view_at, rival_node, row_view, row_view_at, status_view, status_view_at, suspend_view, suspendable, suspendable_at, wake_view, wake_view_at, wakeable, watched_at}
pub use Rattle.std.specs.Option.{option_or}
pub use Rattle.pm_state.specs.Nodes.{master_mode_at, master_node, mode, mode_by, named_master}
pub use Rattle.pm_laws.specs.Agree.{Agree, IsWithin, Same, SameEntries, SameEntry, SameKnown, SameLine, SameMasterNotes, SameNotes, SamePending, SameProc, SameRow, SameRows, SameTalk}
pub use Rattle.pm_laws.specs.Below.{BelowLaws}
pub use Rattle.pm_laws.specs.Border.{AreObjects, Border, HasSome, IsBeyond, IsClosed, IsClosedOver, IsPairClosed, IsUserKnown, is_told, line_beyond, node_beyond, none_within, unit_beyond}
pub use Rattle.pm_laws.specs.Both.{Both, BothFrom}
pub use Rattle.pm_laws.specs.Hidden.{changes_within, is_hidden, is_slave_within, is_within, owner_by, shape_within}
pub use Rattle.pm_laws.specs.ReachBorder.{IsAllBeyond, IsBorderOf, IsBorderOver, border_of, border_over, brings_in, configured_place, entry_beyond, master_beyond, number_beyond, reaches, reset_beyond, unit_border}
pub use Rattle.pm_laws.specs.Seen.{AreAlike, AreHidden, IsSeenAlike, IsUnseen, is_arming, seen, seen_part}
pub use Rattle.pm_laws.specs.SeenTalk.{IsTalkUnseen, asks_beyond, ends_beyond, is_about_beyond, notes_beyond, seen_talk, talk_part}
pub use Rattle.pm_base.specs.Masters.{is_master_number}
pub use Rattle.pm_object.specs.Grammar.{AreMasters, IsMaster, IsObject}
pub use Rattle.pm_object.specs.declared.object.MasterRec.{MasterRec}
pub use Rattle.pm_object.specs.declared.object.Object.{Object}
pub use Rattle.pm_procs.specs.Modes.{is_awake, mode_among, mode_number, same_mode}
pub use Rattle.pm_procs.specs.Procs.{all_turned_off, gone, members_at, mode_at, off, proc_at, turned_off}
pub use Rattle.pm_rows.specs.declared.row.Entry.{Entry}
pub use Rattle.pm_rows.specs.declared.row.Pair.{Pair}
pub use Rattle.pm_topology.specs.Places.{IsKind, KindLaws, is_below, kind_at, kind_of, proc_place}
pub use Rattle.pm_topology.specs.WellFormed.{IsWellFormed}
pub use Rattle.pm_topology.specs.declared.places.Kind.{Kind}
pub use Rattle.pm_topology.specs.declared.places.Kind.TheVariants.{Power, Slave, Unknown}
pub use Rattle.pm_topology.specs.declared.topology.Topology.{Topology}
