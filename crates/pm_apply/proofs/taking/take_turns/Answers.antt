use Rattle.std.proofs.Common.{◌+◌, ◌≤◌, ℕ, Option, List, ◌++◌, length, sym, ap, subst, arith}
use Rattle.std.specs.Prelude.{flat_map}
use Rattle.pm_base.specs.declared.names.LineId.{LineId}
use Rattle.pm_base.specs.declared.names.Unit.{Unit}
use Rattle.pm_topology.specs.declared.topology.Topology.{Topology}
use Rattle.pm_topology.specs.WellFormed.{IsWellFormed}
use Rattle.pm_state.specs.Values.{value}
use Rattle.pm_apply.specs.declared.turns.Turn.{Turn}
use Rattle.pm_apply.specs.Carried.{Takes}
use Rattle.pm_apply.specs.Left.{IsFollowed}
use Rattle.pm_apply.specs.Plan.{with_pulse}
use Rattle.pm_apply.specs.Room.{most_of}
use Rattle.pm_record.specs.Marks.{NoPowerLags}
use Rattle.pm_record.proofs.Below.{ChipLaws}
use Rattle.pm_apply.proofs.CountLemmas.{most_of_step}
use Rattle.pm_apply.proofs.TakesLemmas.{KeepsRest-trans, Takes-length, Takes-trans}
use Rattle.pm_apply.proofs.TakingLemmas.{followed_then, none_lowers, none_raises, none_settles, parts_are, parts_most, powers_rest}
use Rattle.pm_apply.proofs.TurnsLemmas.{lowers, raises, settles}
use Rattle.pm_apply.proofs.VisitsLemmas.{each_turn}
use Rattle.pm_apply.proofs.taking.take_turns.Goals as goal

pub has_power_marks-lagging-requires : goal.has_power_marks-lagging-requires
has_power_marks-lagging-requires g c = subst IsWellFormed (sym c.topology.ensures.topology) c.stays_sound.ensures.formed

pub raise-requires-clause-followed : goal.raise-requires-clause-followed
raise-requires-clause-followed g c =
    let t = c.args.book.now.fixed.topology in
    let values : Unit → ℕ = λ u. value u c.args.book.now in
    let laws : ChipLaws = record { units = c.units_stand_in_order.ensures; kinds = c.kinds_are_exact.ensures; table = c.unit_maps.ensures } in
    let pulse = c.args.out.now.pulse in
    let start : IsFollowed t values pulse c.args.kept.now = record { units = c.requires.«record».units; ready = c.requires.ready } in
    start

pub raise-requires-clause-room : goal.raise-requires-clause-room
raise-requires-clause-room g c =
    let t = c.args.book.now.fixed.topology in
    let values : Unit → ℕ = λ u. value u c.args.book.now in
    let laws : ChipLaws = record { units = c.units_stand_in_order.ensures; kinds = c.kinds_are_exact.ensures; table = c.unit_maps.ensures } in
    let pulse = c.args.out.now.pulse in
    let start : IsFollowed t values pulse c.args.kept.now = record { units = c.requires.«record».units; ready = c.requires.ready } in
    let fits = most_of_step t values c.units_stand_in_order.ensures pulse in
    let none = ap length c.requires.fresh in
    let most = parts_most t values pulse in
    omega (arith, fits, none, most, c.requires.room.done)

pub raise-requires-clause-rests : goal.raise-requires-clause-rests
raise-requires-clause-rests g c =
    λ no.
    let P : Topology → Type 0 = λ t. NoPowerLags t c.args.kept.now in
    subst P c.topology.ensures.topology (c.has_power_marks-lagging.ensures no)

pub settle-requires-clause-followed : goal.settle-requires-clause-followed
settle-requires-clause-followed g c =
    let t = c.args.book.now.fixed.topology in
    let values : Unit → ℕ = λ u. value u c.args.book.now in
    let laws : ChipLaws = record { units = c.units_stand_in_order.ensures; kinds = c.kinds_are_exact.ensures; table = c.unit_maps.ensures } in
    let pulse = c.args.out.now.pulse in
    let start : IsFollowed t values pulse c.args.kept.now = record { units = c.requires.«record».units; ready = c.requires.ready } in
    let raised = followed_then g.D.Device.Does laws t values pulse (flat_map (with_pulse pulse) (raises t)) c.args.kept.now c.raise.new.kept c.args.out.now.done.items c.raise.new.out.done.items c.args.dev.now c.raise.new.dev c.raise.ensures.takes
    (each_turn pulse (raises t) (none_raises t)) start
    in
    let P : Option LineId → Type 0 = λ p. IsFollowed t values p c.raise.new.kept in
    subst P (sym c.raise.ensures.rest.pulse) raised

pub settle-requires-clause-room : goal.settle-requires-clause-room
settle-requires-clause-room g c =
    let t = c.args.book.now.fixed.topology in
    let values : Unit → ℕ = λ u. value u c.args.book.now in
    let laws : ChipLaws = record { units = c.units_stand_in_order.ensures; kinds = c.kinds_are_exact.ensures; table = c.unit_maps.ensures } in
    let pulse = c.args.out.now.pulse in
    let start : IsFollowed t values pulse c.args.kept.now = record { units = c.requires.«record».units; ready = c.requires.ready } in
    let fits = most_of_step t values c.units_stand_in_order.ensures pulse in
    let none = ap length c.requires.fresh in
    let most = parts_most t values pulse in
    let first = Takes-length g.D.Device.Does t values (flat_map (with_pulse pulse) (raises t)) c.args.kept.now c.raise.new.kept c.args.out.now.done.items c.raise.new.out.done.items c.args.dev.now c.raise.new.dev c.raise.ensures.takes in
    let P : Option LineId → Type 0 = λ p. length c.raise.new.out.done.items + most_of t values (flat_map (with_pulse p) (settles t)) ≤ c.raise.new.out.done.room in
    subst P (sym c.raise.ensures.rest.pulse) (omega (arith, fits, none, most, first, c.raise.ensures.rest.room, c.requires.room.done))

pub lower-requires-clause-followed : goal.lower-requires-clause-followed
lower-requires-clause-followed g c =
    let t = c.args.book.now.fixed.topology in
    let values : Unit → ℕ = λ u. value u c.args.book.now in
    let laws : ChipLaws = record { units = c.units_stand_in_order.ensures; kinds = c.kinds_are_exact.ensures; table = c.unit_maps.ensures } in
    let pulse = c.args.out.now.pulse in
    let start : IsFollowed t values pulse c.args.kept.now = record { units = c.requires.«record».units; ready = c.requires.ready } in
    let raised = followed_then g.D.Device.Does laws t values pulse (flat_map (with_pulse pulse) (raises t)) c.args.kept.now c.raise.new.kept c.args.out.now.done.items c.raise.new.out.done.items c.args.dev.now c.raise.new.dev c.raise.ensures.takes
    (each_turn pulse (raises t) (none_raises t)) start
    in
    let P : Option LineId → Type 0 = λ p. Takes g.D.Device.Does t values (flat_map (with_pulse p) (settles t)) c.raise.new.kept c.settle.new.kept c.raise.new.out.done.items c.settle.new.out.done.items c.raise.new.dev c.settle.new.dev in
    let settle = subst P c.raise.ensures.rest.pulse c.settle.ensures.takes in
    let rest = KeepsRest-trans c.args.out.now c.raise.new.out c.settle.new.out c.raise.ensures.rest c.settle.ensures.rest in
    let settled = followed_then g.D.Device.Does laws t values pulse (flat_map (with_pulse pulse) (settles t)) c.raise.new.kept c.settle.new.kept c.raise.new.out.done.items c.settle.new.out.done.items c.raise.new.dev c.settle.new.dev settle
    (each_turn pulse (settles t) (none_settles t)) raised
    in
    let R : Option LineId → Type 0 = λ p. IsFollowed t values p c.settle.new.kept in
    subst R (sym rest.pulse) settled

pub lower-requires-clause-room : goal.lower-requires-clause-room
lower-requires-clause-room g c =
    let t = c.args.book.now.fixed.topology in
    let values : Unit → ℕ = λ u. value u c.args.book.now in
    let laws : ChipLaws = record { units = c.units_stand_in_order.ensures; kinds = c.kinds_are_exact.ensures; table = c.unit_maps.ensures } in
    let pulse = c.args.out.now.pulse in
    let start : IsFollowed t values pulse c.args.kept.now = record { units = c.requires.«record».units; ready = c.requires.ready } in
    let raised = followed_then g.D.Device.Does laws t values pulse (flat_map (with_pulse pulse) (raises t)) c.args.kept.now c.raise.new.kept c.args.out.now.done.items c.raise.new.out.done.items c.args.dev.now c.raise.new.dev c.raise.ensures.takes
    (each_turn pulse (raises t) (none_raises t)) start
    in
    let P : Option LineId → Type 0 = λ p. Takes g.D.Device.Does t values (flat_map (with_pulse p) (settles t)) c.raise.new.kept c.settle.new.kept c.raise.new.out.done.items c.settle.new.out.done.items c.raise.new.dev c.settle.new.dev in
    let settle = subst P c.raise.ensures.rest.pulse c.settle.ensures.takes in
    let rest = KeepsRest-trans c.args.out.now c.raise.new.out c.settle.new.out c.raise.ensures.rest c.settle.ensures.rest in
    let settled = followed_then g.D.Device.Does laws t values pulse (flat_map (with_pulse pulse) (settles t)) c.raise.new.kept c.settle.new.kept c.raise.new.out.done.items c.settle.new.out.done.items c.raise.new.dev c.settle.new.dev settle
    (each_turn pulse (settles t) (none_settles t)) raised
    in
    let fits = most_of_step t values c.units_stand_in_order.ensures pulse in
    let none = ap length c.requires.fresh in
    let most = parts_most t values pulse in
    let first = Takes-length g.D.Device.Does t values (flat_map (with_pulse pulse) (raises t)) c.args.kept.now c.raise.new.kept c.args.out.now.done.items c.raise.new.out.done.items c.args.dev.now c.raise.new.dev c.raise.ensures.takes in
    let second = Takes-length g.D.Device.Does t values (flat_map (with_pulse pulse) (settles t)) c.raise.new.kept c.settle.new.kept c.raise.new.out.done.items c.settle.new.out.done.items c.raise.new.dev c.settle.new.dev settle in
    let R : Option LineId → Type 0 = λ p. length c.settle.new.out.done.items + most_of t values (flat_map (with_pulse p) (lowers t)) ≤ c.settle.new.out.done.room in
    subst R (sym rest.pulse) (omega (arith, fits, none, most, first, second, rest.room, c.requires.room.done))

pub lower-requires-clause-rests : goal.lower-requires-clause-rests
lower-requires-clause-rests g c =
    λ no.
    let t = c.args.book.now.fixed.topology in
    let values : Unit → ℕ = λ u. value u c.args.book.now in
    let laws : ChipLaws = record { units = c.units_stand_in_order.ensures; kinds = c.kinds_are_exact.ensures; table = c.unit_maps.ensures } in
    let pulse = c.args.out.now.pulse in
    let start : IsFollowed t values pulse c.args.kept.now = record { units = c.requires.«record».units; ready = c.requires.ready } in
    let raised = followed_then g.D.Device.Does laws t values pulse (flat_map (with_pulse pulse) (raises t)) c.args.kept.now c.raise.new.kept c.args.out.now.done.items c.raise.new.out.done.items c.args.dev.now c.raise.new.dev c.raise.ensures.takes
    (each_turn pulse (raises t) (none_raises t)) start
    in
    let P : Option LineId → Type 0 = λ p. Takes g.D.Device.Does t values (flat_map (with_pulse p) (settles t)) c.raise.new.kept c.settle.new.kept c.raise.new.out.done.items c.settle.new.out.done.items c.raise.new.dev c.settle.new.dev in
    let settle = subst P c.raise.ensures.rest.pulse c.settle.ensures.takes in
    let rest = KeepsRest-trans c.args.out.now c.raise.new.out c.settle.new.out c.raise.ensures.rest c.settle.ensures.rest in
    let settled = followed_then g.D.Device.Does laws t values pulse (flat_map (with_pulse pulse) (settles t)) c.raise.new.kept c.settle.new.kept c.raise.new.out.done.items c.settle.new.out.done.items c.raise.new.dev c.settle.new.dev settle
    (each_turn pulse (settles t) (none_settles t)) raised
    in
    let S : Topology → Type 0 = λ t. NoPowerLags t c.args.kept.now in
    let none = subst S c.topology.ensures.topology (c.has_power_marks-lagging.ensures no) in
    powers_rest g.D.Device.Does laws t values pulse (flat_map (with_pulse pulse) (settles t)) c.raise.new.kept c.settle.new.kept c.raise.new.out.done.items c.settle.new.out.done.items c.raise.new.dev c.settle.new.dev settle
    (powers_rest g.D.Device.Does laws t values pulse (flat_map (with_pulse pulse) (raises t)) c.args.kept.now c.raise.new.kept c.args.out.now.done.items c.raise.new.out.done.items c.args.dev.now c.raise.new.dev c.raise.ensures.takes none)

pub returns-clause-takes : goal.returns-clause-takes
returns-clause-takes g c =
    let t = c.args.book.now.fixed.topology in
    let values : Unit → ℕ = λ u. value u c.args.book.now in
    let laws : ChipLaws = record { units = c.units_stand_in_order.ensures; kinds = c.kinds_are_exact.ensures; table = c.unit_maps.ensures } in
    let pulse = c.args.out.now.pulse in
    let start : IsFollowed t values pulse c.args.kept.now = record { units = c.requires.«record».units; ready = c.requires.ready } in
    let raised = followed_then g.D.Device.Does laws t values pulse (flat_map (with_pulse pulse) (raises t)) c.args.kept.now c.raise.new.kept c.args.out.now.done.items c.raise.new.out.done.items c.args.dev.now c.raise.new.dev c.raise.ensures.takes
    (each_turn pulse (raises t) (none_raises t)) start
    in
    let P : Option LineId → Type 0 = λ p. Takes g.D.Device.Does t values (flat_map (with_pulse p) (settles t)) c.raise.new.kept c.settle.new.kept c.raise.new.out.done.items c.settle.new.out.done.items c.raise.new.dev c.settle.new.dev in
    let settle = subst P c.raise.ensures.rest.pulse c.settle.ensures.takes in
    let rest = KeepsRest-trans c.args.out.now c.raise.new.out c.settle.new.out c.raise.ensures.rest c.settle.ensures.rest in
    let settled = followed_then g.D.Device.Does laws t values pulse (flat_map (with_pulse pulse) (settles t)) c.raise.new.kept c.settle.new.kept c.raise.new.out.done.items c.settle.new.out.done.items c.raise.new.dev c.settle.new.dev settle
    (each_turn pulse (settles t) (none_settles t)) raised
    in
    let Q : Option LineId → Type 0 = λ p. Takes g.D.Device.Does t values (flat_map (with_pulse p) (lowers t)) c.settle.new.kept c.lower.new.kept c.settle.new.out.done.items c.lower.new.out.done.items c.settle.new.dev c.lower.new.dev in
    let lower = subst Q rest.pulse c.lower.ensures.takes in
    let T : List Turn → Type 0 = λ turns. Takes g.D.Device.Does t values turns c.args.kept.now c.lower.new.kept c.args.out.now.done.items c.lower.new.out.done.items c.args.dev.now c.lower.new.dev in
    subst T (sym (parts_are t pulse))
    (Takes-trans g.D.Device.Does t values (flat_map (with_pulse pulse) (raises t)) (flat_map (with_pulse pulse) (settles t) ++ flat_map (with_pulse pulse) (lowers t))
    c.args.kept.now c.raise.new.kept c.lower.new.kept c.args.out.now.done.items c.raise.new.out.done.items c.lower.new.out.done.items c.args.dev.now c.raise.new.dev c.lower.new.dev c.raise.ensures.takes
    (Takes-trans g.D.Device.Does t values (flat_map (with_pulse pulse) (settles t)) (flat_map (with_pulse pulse) (lowers t))
    c.raise.new.kept c.settle.new.kept c.lower.new.kept c.raise.new.out.done.items c.settle.new.out.done.items c.lower.new.out.done.items c.raise.new.dev c.settle.new.dev c.lower.new.dev settle lower))

pub returns-clause-followed : goal.returns-clause-followed
returns-clause-followed g c =
    let t = c.args.book.now.fixed.topology in
    let values : Unit → ℕ = λ u. value u c.args.book.now in
    let laws : ChipLaws = record { units = c.units_stand_in_order.ensures; kinds = c.kinds_are_exact.ensures; table = c.unit_maps.ensures } in
    let pulse = c.args.out.now.pulse in
    let start : IsFollowed t values pulse c.args.kept.now = record { units = c.requires.«record».units; ready = c.requires.ready } in
    let raised = followed_then g.D.Device.Does laws t values pulse (flat_map (with_pulse pulse) (raises t)) c.args.kept.now c.raise.new.kept c.args.out.now.done.items c.raise.new.out.done.items c.args.dev.now c.raise.new.dev c.raise.ensures.takes
    (each_turn pulse (raises t) (none_raises t)) start
    in
    let P : Option LineId → Type 0 = λ p. Takes g.D.Device.Does t values (flat_map (with_pulse p) (settles t)) c.raise.new.kept c.settle.new.kept c.raise.new.out.done.items c.settle.new.out.done.items c.raise.new.dev c.settle.new.dev in
    let settle = subst P c.raise.ensures.rest.pulse c.settle.ensures.takes in
    let rest = KeepsRest-trans c.args.out.now c.raise.new.out c.settle.new.out c.raise.ensures.rest c.settle.ensures.rest in
    let settled = followed_then g.D.Device.Does laws t values pulse (flat_map (with_pulse pulse) (settles t)) c.raise.new.kept c.settle.new.kept c.raise.new.out.done.items c.settle.new.out.done.items c.raise.new.dev c.settle.new.dev settle
    (each_turn pulse (settles t) (none_settles t)) raised
    in
    let Q : Option LineId → Type 0 = λ p. Takes g.D.Device.Does t values (flat_map (with_pulse p) (lowers t)) c.settle.new.kept c.lower.new.kept c.settle.new.out.done.items c.lower.new.out.done.items c.settle.new.dev c.lower.new.dev in
    let lower = subst Q rest.pulse c.lower.ensures.takes in
    followed_then g.D.Device.Does laws t values pulse (flat_map (with_pulse pulse) (lowers t)) c.settle.new.kept c.lower.new.kept c.settle.new.out.done.items c.lower.new.out.done.items c.settle.new.dev c.lower.new.dev lower
    (each_turn pulse (lowers t) (none_lowers t)) settled

pub returns-clause-rest : goal.returns-clause-rest
returns-clause-rest g c =
    KeepsRest-trans c.args.out.now c.settle.new.out c.lower.new.out (KeepsRest-trans c.args.out.now c.raise.new.out c.settle.new.out c.raise.ensures.rest c.settle.ensures.rest) c.lower.ensures.rest
