-- A step keeps the record one of the chip, and a device that stands as the record still does after the step.
use Rattle.std.proofs.Common.{◌≡◌, ℕ, ◌≤◌, Bool, true, false, if◌then◌else◌, Option, Some, None, List, [], ◌∷◌, ◌++◌, map, reverse, refl, ap, sym, ◌∙◌, arith, inl, inr}
use Rattle.std.specs.Prelude.{flat_map}
use Rattle.std.specs.List.{list_any, list_all}
use Rattle.std.proofs.lemmas.Bool.{and_from, both_ways, or_left, or_right}
use Rattle.std.proofs.lemmas.List.Folds.{list_all-append}
use Rattle.pm_base.specs.declared.names.LineId.{LineId}
use Rattle.pm_base.specs.declared.names.Unit.{Unit}
use Rattle.pm_base.specs.declared.names.Unit.TheVariants.{Node, Line}
use Rattle.pm_base.specs.declared.names.Command.{Command}
use Rattle.pm_topology.specs.declared.topology.Topology.{Topology}
use Rattle.pm_topology.specs.WellFormed.{IsWellFormed}
use Rattle.pm_device.specs.Act.{values_after}
use Rattle.pm_topology.specs.UnitMap.{units_in}
use Rattle.pm_topology.specs.Units.{has_in, same_unit}
use Rattle.pm_core.specs.declared.outbox.Done.{Done}
use Rattle.pm_topology.specs.Units.{units_of}
use Rattle.pm_record.proofs.Below.{ChipLaws}
use Rattle.pm_apply.specs.declared.turns.Turn.{Turn}
use Rattle.pm_apply.specs.declared.turns.Turn.TheVariants.{PowerOn, Pulse, Apply, PowerOff}
use Rattle.pm_record.specs.Record.{Kept, kept_value, marked, IsRecordOf, after_answer}
use Rattle.pm_record.specs.Kinds.{is_power}
use Rattle.pm_apply.specs.Plan.{plan, due, turns_of, power_places, pulse_turn, with_pulse}
use Rattle.pm_apply.specs.Part.{orders_of}
use Rattle.pm_apply.proofs.PlanLemmas.{Along, along_plan, plan-recorded}
use Rattle.pm_apply.proofs.PlanLeads.{Leads, leads_none, leads_turn}
use Rattle.pm_record.proofs.RecordLemmas.{units_in-after_answer, units_in-marked, has_cell_of, kept_by, kept_stays, kept_value-marked}
use Rattle.pm_apply.proofs.RecordLemmas.{are_on, values_after-recorded}
use Rattle.pm_record.proofs.KindsLemmas.{power_is_power}
use Rattle.pm_apply.proofs.OrdersUnits.{is_listed, power_is_listed}
use Rattle.pm_apply.proofs.OrdersDue.{raises, pulses, settles, lowers}
use Rattle.pm_apply.proofs.PulseLemmas.{settle_pulses, turns_are}

-- ---- the record of a chip

-- a record of a chip has a cell for each unit of it
pub has_cell_in : (t : Topology) (kept : Kept) (x : Unit) → IsRecordOf t kept → is_listed t x ≡ true → has_in (units_in kept) x ≡ true
has_cell_in t kept x record_of has = has_cell_of (units_of t) kept x record_of.units has

module _ (laws : ChipLaws) (t : Topology) (values : Unit → ℕ) (well : IsWellFormed t) where
  -- a command with one of the values 0 and 1 on a power node leaves each of them up or down
  switch_keeps : (kept : Kept) (c : Command) (ok : Bool) → IsRecordOf t kept → is_listed t c.unit ≡ true → c.value ≤ 1 → IsRecordOf t (after_answer c ok kept)
  switch_keeps kept c ok record_of has small = record {
    units = units_in-after_answer laws c ok kept ∙ record_of.units;
    up_or_down = λ w p here.
        let before = record_of.up_or_down w p here in
        elim (kept_by laws c ok kept (Node p.node) (has_cell_in t kept c.unit record_of has)) [
          | inl same ↦ omega arith
          | inr now ↦ omega (arith, now.2)
        ];
  }

  -- a command on a unit that is no power node leaves them as they are
  settle_keeps : (kept : Kept) (c : Command) (ok : Bool) → IsRecordOf t kept → is_power t c.unit ≡ false → IsRecordOf t (after_answer c ok kept)
  settle_keeps kept c ok record_of other = record {
    units = units_in-after_answer laws c ok kept ∙ record_of.units;
    up_or_down = λ w p here.
        let before = record_of.up_or_down w p here in
        let same = kept_stays laws c ok kept (Node p.node) (λ is. both_ways (is_power t c.unit) other (ap (is_power t) is ∙ power_is_power laws t well w p here)) in
        omega arith;
  }

  -- the record after the command of a turn is one of the chip
  pub turn_keeps : (turn : Turn) (kept : Kept) (c : Command) (ok : Bool) → IsRecordOf t kept → due t values kept turn ≡ Some c → IsRecordOf t (after_answer c ok kept)
  turn_keeps (PowerOn w) kept c ok record_of is =
      let r = raises t values kept w c is in
      let unit : c.unit ≡ Node r.power.node = ap (λ (c : Command). c.unit) r.is in
      let value : c.value ≡ 1 = ap (λ (c : Command). c.value) r.is in
      switch_keeps kept c ok record_of (ap (is_listed t) unit ∙ power_is_listed laws t well w r.power r.here) (omega arith)
  turn_keeps (Pulse line) kept c ok record_of is =
      settle_keeps kept c ok record_of (ap (λ (c : Command). is_power t c.unit) (pulses t values kept line c is))
  turn_keeps (Apply unit) kept c ok record_of is =
      let s = settles t values kept unit c is in
      settle_keeps kept c ok record_of (ap (λ (c : Command). is_power t c.unit) s.is ∙ s.other)
  turn_keeps (PowerOff w) kept c ok record_of is =
      let l = lowers t values kept w c is in
      let unit : c.unit ≡ Node l.power.node = ap (λ (c : Command). c.unit) l.is in
      let value : c.value ≡ 0 = ap (λ (c : Command). c.value) l.is in
      switch_keeps kept c ok record_of (ap (is_listed t) unit ∙ power_is_listed laws t well w l.power l.here) (omega arith)

  turns_keep : (turns : List Turn) → Leads t values (λ kept front. IsRecordOf t kept) turns (λ kept front. IsRecordOf t kept)
  turns_keep [] = leads_none t values (λ kept front. IsRecordOf t kept) (λ kept front. IsRecordOf t kept) (λ kept front record_of. record_of)
  turns_keep (turn ∷ turns) =
      leads_turn t values (λ kept front. IsRecordOf t kept) (λ kept front. IsRecordOf t kept) (λ kept front. IsRecordOf t kept) turn turns
      (λ kept front record_of none. record_of) (λ kept front record_of c ok is. turn_keeps turn kept c ok record_of is) (turns_keep turns)

  -- whichever turns a step takes, and whatever fails
  pub record_after : (turns : List Turn) (kept : Kept) (answers : List Bool) → IsRecordOf t kept → IsRecordOf t (plan t values turns kept answers).kept
  record_after turns kept answers record_of = turns_keep turns kept [] answers record_of

-- marks change neither the units nor their values
pub marked_record : ChipLaws → (t : Topology) (values : Unit → ℕ) (kept : Kept) → IsRecordOf t kept → IsRecordOf t (marked values kept)
marked_record laws t values kept record_of = record {
  units = units_in-marked laws values kept ∙ record_of.units;
  up_or_down = λ w p here. let same = kept_value-marked laws values kept (Node p.node) in let up = record_of.up_or_down w p here in omega arith;
}

-- ---- the device

-- a turn on a unit of the chip
abbrev pub is_turn_of : Topology → Turn → Bool
is_turn_of t (PowerOn w) = true
is_turn_of t (Pulse line) = is_listed t (Line line)
is_turn_of t (Apply unit) = is_listed t unit
is_turn_of t (PowerOff w) = true

module _ (laws : ChipLaws) (t : Topology) where
  all_raise : (places : List ℕ) → list_all (is_turn_of t) (map PowerOn places) ≡ true
  all_raise [] = refl
  all_raise (w ∷ places) = all_raise places

  all_lower : (places : List ℕ) → list_all (is_turn_of t) (map PowerOff places) ≡ true
  all_lower [] = refl
  all_lower (w ∷ places) = all_lower places

  -- a unit that is pulsed is one of the chip
  pulse_by : (line : LineId) (u : Unit) (is : Bool) → same_unit (Line line) u ≡ is → is_listed t u ≡ true → list_all (is_turn_of t) (if is then Pulse line ∷ [] else []) ≡ true
  pulse_by line u true same has =
      and_from (is_listed t (Line line)) true (ap (is_listed t) (laws.units.same (Line line) u same) ∙ has) refl
  pulse_by line u false same has = refl

  all_pulse : (pulse : Option LineId) (u : Unit) → is_listed t u ≡ true → list_all (is_turn_of t) (pulse_turn pulse u) ≡ true
  all_pulse None u has = refl
  all_pulse (Some line) u has = pulse_by line u (same_unit (Line line) u) refl has

  all_settle : (pulse : Option LineId) (units : List Unit) → ((x : Unit) → list_any (λ u. same_unit u x) units ≡ true → is_listed t x ≡ true) → list_all (is_turn_of t) (flat_map (with_pulse pulse) (map Apply units)) ≡ true
  all_settle pulse [] among = refl
  all_settle pulse (u ∷ units) among =
      let has : is_listed t u ≡ true = among u (or_left _ _ (laws.units.itself u)) in
      let own : list_all (is_turn_of t) (Apply u ∷ []) ≡ true = and_from (is_listed t u) true has refl in
      let later = all_settle pulse units (λ x is. among x (or_right (same_unit u x) _ is)) in
      list_all-append (is_turn_of t) (pulse_turn pulse u ++ Apply u ∷ []) (flat_map (with_pulse pulse) (map Apply units))
      ∙ and_from _ _
      (list_all-append (is_turn_of t) (pulse_turn pulse u) (Apply u ∷ []) ∙ and_from _ _ (all_pulse pulse u has) own) later

  pub turns_are_of : (pulse : Option LineId) → list_all (is_turn_of t) (turns_of t pulse) ≡ true
  turns_are_of pulse =
      ap (list_all (is_turn_of t)) (turns_are t pulse)
      ∙ (list_all-append (is_turn_of t) (map PowerOn (power_places t)) (settle_pulses t pulse ++ map PowerOff (reverse (power_places t)))
      ∙ and_from _ _ (all_raise (power_places t))
      (list_all-append (is_turn_of t) (settle_pulses t pulse) (map PowerOff (reverse (power_places t)))
      ∙ and_from _ _ (all_settle pulse (units_of t) (λ x is. is)) (all_lower (reverse (power_places t)))))

module _ (laws : ChipLaws) (t : Topology) (values : Unit → ℕ) (well : IsWellFormed t) where
  -- the command of a turn is on a unit of the chip
  pub on_unit : (turn : Turn) (kept : Kept) (c : Command) → is_turn_of t turn ≡ true → due t values kept turn ≡ Some c → is_listed t c.unit ≡ true
  on_unit (PowerOn w) kept c of is =
      let r = raises t values kept w c is in
      ap (λ (c : Command). is_listed t c.unit) r.is ∙ power_is_listed laws t well w r.power r.here
  on_unit (Pulse line) kept c of is = ap (λ (c : Command). is_listed t c.unit) (pulses t values kept line c is) ∙ of
  on_unit (Apply unit) kept c of is = ap (λ (c : Command). is_listed t c.unit) (settles t values kept unit c is).is ∙ of
  on_unit (PowerOff w) kept c of is =
      let l = lowers t values kept w c is in
      ap (λ (c : Command). is_listed t c.unit) l.is ∙ power_is_listed laws t well w l.power l.here

  abbrev IsOn : Kept → Done → Type 0
  IsOn kept d = is_listed t d.command.unit ≡ true

  are_on-along : (done : List Done) (kept : Kept) → Along IsOn kept done → are_on (units_of t) done ≡ true
  are_on-along [] kept along = refl
  are_on-along (d ∷ done) kept along = and_from _ _ along.0 (are_on-along done (after_answer d.command d.ok kept) along.1)

  -- all commands of some turns are on units of the chip
  pub plan_is_on : (turns : List Turn) (kept : Kept) (answers : List Bool)
      → list_all (is_turn_of t) turns ≡ true → are_on (units_of t) (plan t values turns kept answers).done ≡ true
  plan_is_on turns kept answers of =
      are_on-along _ kept
      (along_plan t values IsOn (is_turn_of t) (λ turn kept c ok of is. on_unit turn kept c of is) turns kept answers of)

  -- the values after the commands of some turns are those of the record after them
  pub follows : (turns : List Turn) (kept : Kept) (answers : List Bool)
      → list_all (is_turn_of t) turns ≡ true → IsRecordOf t kept
      → (x : Unit) → values_after (orders_of (plan t values turns kept answers).done) (kept_value kept) x ≡ kept_value (plan t values turns kept answers).kept x
  follows turns kept answers of record_of x =
      values_after-recorded laws (units_of t) (plan t values turns kept answers).done kept record_of.units (plan_is_on turns kept answers of) x
      ∙ ap (λ kept. kept_value kept x) (sym (plan-recorded t values turns kept answers))
