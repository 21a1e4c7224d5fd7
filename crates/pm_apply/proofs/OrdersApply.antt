-- The other units take their values: one that isn't at its value has a failed command on it, or waits for a power node
-- on or above which a command failed.
use Rattle.std.proofs.Common.{◌≡◌, ◌≢◌, ℕ, Bool, true, false, ◌||◌, if◌then◌else◌, Option, Some, None, List, [], ◌∷◌, ◌++◌, map, refl, ap, sym, ◌∙◌, ◌⊎◌, inl, inr}
use Rattle.std.specs.Prelude.{flat_map, slice_get}
use Rattle.std.specs.List.{list_any}
use Rattle.std.proofs.lemmas.Bool.{or_right, or_from, both_ways}
use Rattle.pm_base.specs.declared.names.LineId.{LineId}
use Rattle.pm_base.specs.declared.names.NodeId.{NodeId}
use Rattle.pm_base.specs.declared.names.Unit.{Unit}
use Rattle.pm_base.specs.declared.names.Unit.TheVariants.{Node, Line}
use Rattle.pm_base.specs.declared.names.Command.{Command}
use Rattle.pm_topology.specs.declared.topology.Topology.{Topology}
use Rattle.pm_topology.specs.declared.topology.PowerDef.{PowerDef}
use Rattle.pm_topology.specs.Places.{parent_of}
use Rattle.pm_topology.specs.WellFormed.{IsWellFormed}
use Rattle.pm_topology.specs.Units.{needs_power, parent_of_unit, same_unit}
use Rattle.pm_core.specs.declared.outbox.Done.{Done}
use Rattle.pm_state.specs.Fed.{IsFed}
use Rattle.pm_record.proofs.Below.{ChipLaws}
use Rattle.pm_apply.specs.declared.turns.Turn.TheVariants.{Pulse, Apply}
use Rattle.pm_record.specs.Record.{Kept, kept_value, IsRecordOf, after_answer}
use Rattle.pm_record.specs.Kinds.{is_power}
use Rattle.pm_apply.specs.Plan.{due, done_as, is_fed, pulse_turn, with_pulse}
use Rattle.pm_apply.specs.Order.{FailedOn}
use Rattle.pm_apply.proofs.PlanLeads.{Leads, leads_append, leads_none, leads_turn}
use Rattle.pm_record.proofs.RecordLemmas.{kept_stays, was_refused}
use Rattle.pm_apply.proofs.RecordLaw.{has_cell_in, turn_keeps}
use Rattle.pm_record.proofs.KindsLemmas.{power_is_power}
use Rattle.pm_apply.proofs.OrdersUnits.{is_listed}
use Rattle.pm_apply.proofs.OrdersDue.{pulses, settles, waits}
use Rattle.pm_apply.proofs.OrdersFailed.{FailsAtOrAbove, fails_before, failed_before, failed_last, waits_for}

module _ (t : Topology) (values : Unit → ℕ) where
  -- a unit needs power for its value, and a command failed on the power node above it or higher
  pub record IsStarved (front : List Done) (unit : Unit) : Type 0 where
    pub node : NodeId
    pub u : ℕ
    pub is : unit ≡ Node node
    pub needs : needs_power t unit (values unit) ≡ true
    pub above : parent_of t node ≡ Some u
    pub failed : FailsAtOrAbove t front u

  -- why a unit isn't at its value
  abbrev pub Lags : List Done → Unit → Type 0
  Lags front unit = FailedOn front unit ⊎ IsStarved front unit

  pub lags_before : (front more : List Done) (unit : Unit) → Lags front unit → Lags (front ++ more) unit
  lags_before front more unit (inl failed) = inl (failed_before front more unit failed)
  lags_before front more unit (inr starved) = inr (record {
    node = starved.node;
    u = starved.u;
    is = starved.is;
    needs = starved.needs;
    above = starved.above;
    failed = fails_before t front more starved.u starved.failed;
  })

  -- each power node that should be up and isn't has a failed command on it or above it
  abbrev pub AllRaised : Kept → List Done → Type 0
  AllRaised kept front = (v : ℕ) (p : PowerDef) → slice_get t.powers v ≡ Some p → values (Node p.node) ≡ 1 → kept_value kept (Node p.node) ≡ 0 → FailsAtOrAbove t front v

  -- so it is, and each unit that is no power node, has had its turn and isn't at its value lags for such a reason
  pub record Settled (rest : List Unit) (kept : Kept) (front : List Done) : Type 0 where
    pub record_of : IsRecordOf t kept
    pub among : (x : Unit) → list_any (λ u. same_unit u x) rest ≡ true → is_listed t x ≡ true
    pub raised : AllRaised kept front
    pub settled : (x : Unit) → is_listed t x ≡ true → is_power t x ≡ false → kept_value kept x ≢ values x → list_any (λ u. same_unit u x) rest ≡ false → Lags front x

module _ (laws : ChipLaws) (t : Topology) (values : Unit → ℕ) (well : IsWellFormed t) (fed : IsFed t values) where
  -- a unit that needs power and has none by the record
  starved : (kept : Kept) (front : List Done) (unit : Unit) → AllRaised t values kept front
      → needs_power t unit (values unit) ≡ true → is_fed t kept (parent_of_unit t unit) ≡ false → IsStarved t values front unit
  starved kept front (Line line) raised needs unfed = cc
  starved kept front (Node node) raised needs unfed =
      let waits = waits_for t values laws well fed kept node needs unfed in
      record {
        node = node;
        u = waits.u;
        is = refl;
        needs = needs;
        above = waits.above;
        failed = raised waits.u waits.power waits.is waits.value waits.down;
      }

  module _ (u : Unit) (rest : List Unit) (kept : Kept) (front : List Done) (s : Settled t values (u ∷ rest) kept front) where
    settled_none : due t values kept (Apply u) ≡ None → Settled t values rest kept front
    settled_none none = record {
      record_of = s.record_of;
      among = λ x is. s.among x (or_right (same_unit u x) _ is);
      raised = s.raised;
      settled = λ x has other lags off. by_turn x (same_unit u x) refl has other lags off;
    }
      where
        by_turn : (x : Unit) (same : Bool) → same_unit u x ≡ same → is_listed t x ≡ true → is_power t x ≡ false → kept_value kept x ≢ values x → list_any (λ u. same_unit u x) rest ≡ false → Lags t values front x
        by_turn x false is has other lags off = s.settled x has other lags (or_from (same_unit u x) _ is off)
        by_turn x true is has other lags off =
            let at = laws.units.same u x is in
            let why = waits t values kept x (ap (λ unit. due t values kept (Apply unit)) (sym at) ∙ none) other lags in
            inr (starved kept front x s.raised why.0 why.1)

    settled_some : (c : Command) (ok : Bool) → due t values kept (Apply u) ≡ Some c → Settled t values rest (after_answer c ok kept) (front ++ done_as c kept ok ∷ [])
    settled_some c ok is = record {
      record_of = turn_keeps laws t values well (Apply u) kept c ok s.record_of is;
      among = λ x is. s.among x (or_right (same_unit u x) _ is);
      raised = λ v p here value down.
          fails_before t front (done_as c kept ok ∷ []) v
          (s.raised v p here value (sym (kept_stays laws c ok kept (Node p.node) (not_power v p here)) ∙ down));
      settled = λ x has other lags off. by_turn x (same_unit u x) refl has other lags off;
    }
      where
        unit : c.unit ≡ u
        unit = ap (λ (c : Command). c.unit) (settles t values kept u c is).is

        value : c.value ≡ values u
        value = ap (λ (c : Command). c.value) (settles t values kept u c is).is

        not_power : (v : ℕ) (p : PowerDef) → slice_get t.powers v ≡ Some p → c.unit ≡ Node p.node → ⊥
        not_power v p here same =
            both_ways (is_power t u) (settles t values kept u c is).other
            (ap (is_power t) (sym unit ∙ same) ∙ power_is_power laws t well v p here)

        by_turn : (x : Unit) (same : Bool) → same_unit u x ≡ same → is_listed t x ≡ true → is_power t x ≡ false → kept_value (after_answer c ok kept) x ≢ values x → list_any (λ u. same_unit u x) rest ≡ false → Lags t values (front ++ done_as c kept ok ∷ []) x
        by_turn x false is has other lags off =
            let apart : c.unit ≡ x → ⊥ = λ same. both_ways (same_unit u x) is (ap (same_unit u) (sym (sym unit ∙ same)) ∙ laws.units.itself u) in
            let before : kept_value kept x ≢ values x = λ same. lags (kept_stays laws c ok kept x apart ∙ same) in
            lags_before t values front (done_as c kept ok ∷ []) x (s.settled x has other before (or_from (same_unit u x) _ is off))
        by_turn x true is has other lags off =
            let at : c.unit ≡ x = unit ∙ laws.units.same u x is in
            let wants : c.value ≡ values x = value ∙ ap values (laws.units.same u x is) in
            let cell = has_cell_in t kept c.unit s.record_of (ap (is_listed t) at ∙ has) in
            let fails = was_refused laws c ok kept cell (λ same. lags (ap (kept_value (after_answer c ok kept)) (sym at) ∙ same ∙ wants)) in
            inl (failed_last front (done_as c kept ok) x at fails)

    -- the pulse of a line that has its turn yet to come changes nothing of this
    pulsed_some : (line : LineId) → same_unit (Line line) u ≡ true → (c : Command) (ok : Bool) → due t values kept (Pulse line) ≡ Some c → Settled t values (u ∷ rest) (after_answer c ok kept) (front ++ done_as c kept ok ∷ [])
    pulsed_some line same c ok is = record {
      record_of = turn_keeps laws t values well (Pulse line) kept c ok s.record_of is;
      among = s.among;
      raised = λ v p here value down.
          fails_before t front (done_as c kept ok ∷ []) v
          (s.raised v p here value (sym (kept_stays laws c ok kept (Node p.node) (no_node p.node)) ∙ down));
      settled = λ x has other lags off.
          let none : same_unit u x ≡ false = or_first (same_unit u x) (list_any (λ u. same_unit u x) rest) off in
          let apart : c.unit ≡ x → ⊥ = λ at. both_ways (same_unit u x) none (ap (same_unit u) (sym (sym (unit ∙ laws.units.same (Line line) u same) ∙ at)) ∙ laws.units.itself u) in
          lags_before t values front (done_as c kept ok ∷ []) x (s.settled x has other (λ at. lags (kept_stays laws c ok kept x apart ∙ at)) off);
    }
      where
        unit : c.unit ≡ Line line
        unit = ap (λ (c : Command). c.unit) (pulses t values kept line c is)

        no_node : (node : NodeId) → c.unit ≡ Node node → ⊥
        no_node node at = let clash : Line line ≡ Node node = sym unit ∙ at in cc

        or_first : (a b : Bool) → (a || b) ≡ false → a ≡ false
        or_first true b off = cc
        or_first false b off = refl

  one_pulse : (line : LineId) (u : Unit) (rest : List Unit) (is : Bool) → same_unit (Line line) u ≡ is → Leads t values (Settled t values (u ∷ rest)) (if is then Pulse line ∷ [] else []) (Settled t values (u ∷ rest))
  one_pulse line u rest true same =
      let I = Settled t values (u ∷ rest) in
      leads_turn t values I I I (Pulse line) [] (λ kept front s none. s) (λ kept front s. pulsed_some u rest kept front s line same)
      (leads_none t values I I (λ kept front s. s))
  one_pulse line u rest false same =
      let I = Settled t values (u ∷ rest) in leads_none t values I I (λ kept front s. s)

  pulse_leads : (pulse : Option LineId) (u : Unit) (rest : List Unit) → Leads t values (Settled t values (u ∷ rest)) (pulse_turn pulse u) (Settled t values (u ∷ rest))
  pulse_leads None u rest = leads_none t values (Settled t values (u ∷ rest)) (Settled t values (u ∷ rest)) (λ kept front s. s)
  pulse_leads (Some line) u rest = one_pulse line u rest (same_unit (Line line) u) refl

  own_leads : (u : Unit) (units : List Unit) → Leads t values (Settled t values (u ∷ units)) (Apply u ∷ []) (Settled t values units)
  own_leads u units =
      leads_turn t values (Settled t values (u ∷ units)) (Settled t values units) (Settled t values units) (Apply u) []
      (settled_none u units) (settled_some u units) (leads_none t values (Settled t values units) (Settled t values units) (λ kept front s. s))

  pub settle_all : (pulse : Option LineId) (units : List Unit) → Leads t values (Settled t values units) (flat_map (with_pulse pulse) (map Apply units)) (Settled t values [])
  settle_all pulse [] = leads_none t values (Settled t values []) (Settled t values []) (λ kept front s. s)
  settle_all pulse (u ∷ units) =
      leads_append t values (Settled t values (u ∷ units)) (Settled t values units) (Settled t values []) (pulse_turn pulse u ++ Apply u ∷ []) (flat_map (with_pulse pulse) (map Apply units))
      (leads_append t values (Settled t values (u ∷ units)) (Settled t values (u ∷ units)) (Settled t values units) (pulse_turn pulse u) (Apply u ∷ []) (pulse_leads pulse u units) (own_leads u units))
      (settle_all pulse units)
