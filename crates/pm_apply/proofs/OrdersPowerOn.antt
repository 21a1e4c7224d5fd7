-- Power nodes go up: one that should be up and isn't has a failed command on it or above it.
use Rattle.std.proofs.Common.{◌≡◌, ℕ, ◌+◌, ◌<◌, Bool, Some, None, List, [], ◌∷◌, ◌++◌, map, ap, sym, ◌∙◌, subst, arith, inl, inr, zero, suc}
use Rattle.std.specs.Prelude.{slice_get, option_and_then}
use Rattle.std.specs.List.{range_with_len}
use Rattle.std.proofs.lemmas.Bool.{cases_lt, eq-eqb}
use Rattle.pm_base.specs.declared.names.Unit.{Unit}
use Rattle.pm_base.specs.declared.names.Unit.TheVariants.{Node}
use Rattle.pm_base.specs.declared.names.Command.{Command}
use Rattle.pm_topology.specs.declared.topology.Topology.{Topology}
use Rattle.pm_topology.specs.declared.topology.PowerDef.{PowerDef}
use Rattle.pm_topology.specs.Places.{here as at_it}
use Rattle.pm_topology.specs.WellFormed.{IsWellFormed}
use Rattle.pm_core.specs.declared.outbox.Done.{Done}
use Rattle.pm_state.specs.Fed.{IsFed}
use Rattle.pm_record.proofs.Below.{ChipLaws}
use Rattle.pm_apply.specs.declared.turns.Turn.TheVariants.{PowerOn}
use Rattle.pm_record.specs.Record.{Kept, kept_value, IsRecordOf, after_answer}
use Rattle.pm_apply.specs.Plan.{due, done_as, is_fed}
use Rattle.pm_apply.proofs.PlanLeads.{Leads, leads_none, leads_turn}
use Rattle.pm_record.proofs.RecordLemmas.{kept_by, was_refused}
use Rattle.pm_apply.proofs.RecordLaw.{has_cell_in, turn_keeps}
use Rattle.pm_apply.proofs.OrdersUnits.{is_listed, stands_earlier, parent_of_power, power_needs, power_is_listed}
use Rattle.pm_apply.proofs.OrdersDue.{raises, starves}
use Rattle.pm_apply.proofs.OrdersFailed.{FailsAtOrAbove, fails_before, fails_higher, failed_last, waits_for}

module _ (laws : ChipLaws) (t : Topology) (values : Unit → ℕ) (well : IsWellFormed t) (fed : IsFed t values) where
  -- of the power nodes before this place, each that should be up and isn't has a failed command on it or above it
  pub record Raised (w : ℕ) (kept : Kept) (front : List Done) : Type 0 where
    pub record_of : IsRecordOf t kept
    pub explained : (v : ℕ) (p : PowerDef) → v < w → slice_get t.powers v ≡ Some p → values (Node p.node) ≡ 1 → kept_value kept (Node p.node) ≡ 0 → FailsAtOrAbove t front v

  -- where the turn of one has no command, its parent is down in the record, and a command failed there or above
  raise_skips : (w : ℕ) (kept : Kept) (front : List Done) → Raised w kept front → due t values kept (PowerOn w) ≡ None
      → (p : PowerDef) → slice_get t.powers w ≡ Some p → values (Node p.node) ≡ 1 → kept_value kept (Node p.node) ≡ 0 → FailsAtOrAbove t front w
  raise_skips w kept front r none p here value down =
      let parent = parent_of_power laws t well w p here in
      let unfed = ap (is_fed t kept) parent ∙ starves t values kept w p here none value down in
      let needs = power_needs laws t well w p (values (Node p.node)) here ∙ eq-eqb (values (Node p.node)) 1 value in
      let waits = waits_for t values laws well fed kept p.node needs unfed in
      let at : p.parent ≡ Some waits.u = sym parent ∙ waits.above in
      fails_higher t front w waits.u (ap (option_and_then (λ (p : PowerDef). p.parent)) here ∙ at)
      (r.explained waits.u waits.power (stands_earlier laws t well w p waits.u here at) waits.is waits.value waits.down)

  raised_none : (w : ℕ) (kept : Kept) (front : List Done) → Raised w kept front → due t values kept (PowerOn w) ≡ None → Raised (w + 1) kept front
  raised_none w kept front r none = record {
    record_of = r.record_of;
    explained = λ v p below here value down.
        elim (cases_lt v w) [
          | inl earlier ↦ r.explained v p earlier here value down
          | inr later ↦
              let same : w ≡ v = omega arith in
              subst (FailsAtOrAbove t front) same (raise_skips w kept front r none p (ap (slice_get t.powers) same ∙ here) value down)
        ];
  }

  -- where the turn has a command, and the power node isn't up then, that command failed
  raise_fails : (w : ℕ) (kept : Kept) (front : List Done) (c : Command) (ok : Bool) → Raised w kept front → due t values kept (PowerOn w) ≡ Some c
      → (p : PowerDef) → slice_get t.powers w ≡ Some p → kept_value (after_answer c ok kept) (Node p.node) ≡ 0 → FailsAtOrAbove t (front ++ done_as c kept ok ∷ []) w
  raise_fails w kept front c ok r is p here down =
      let raised = raises t values kept w c is in
      let same : raised.power ≡ p = cc in
      let unit : c.unit ≡ Node p.node = ap (λ (c : Command). c.unit) raised.is ∙ ap (λ (p : PowerDef). Node p.node) same in
      let value : c.value ≡ 1 = ap (λ (c : Command). c.value) raised.is in
      let has = has_cell_in t kept c.unit r.record_of (ap (is_listed t) unit ∙ power_is_listed laws t well w p here) in
      let off : kept_value (after_answer c ok kept) c.unit ≡ c.value → ⊥ = λ at. let up : kept_value (after_answer c ok kept) (Node p.node) ≡ c.value = ap (kept_value (after_answer c ok kept)) (sym unit) ∙ at in absurd (omega arith) in
      record { u = w; power = p; is = here; above = at_it; failed = failed_last front (done_as c kept ok) (Node p.node) unit (was_refused laws c ok kept has off) }

  raised_some : (w : ℕ) (kept : Kept) (front : List Done) → Raised w kept front → (c : Command) (ok : Bool) → due t values kept (PowerOn w) ≡ Some c
      → Raised (w + 1) (after_answer c ok kept) (front ++ done_as c kept ok ∷ [])
  raised_some w kept front r c ok is = record {
    record_of = turn_keeps laws t values well (PowerOn w) kept c ok r.record_of is;
    explained = λ v p below here value down.
        elim (cases_lt v w) [
          | inl earlier ↦ fails_before t front (done_as c kept ok ∷ []) v (r.explained v p earlier here value (was_down p down))
          | inr later ↦
              let same : w ≡ v = omega arith in
              subst (FailsAtOrAbove t (front ++ done_as c kept ok ∷ [])) same (raise_fails w kept front c ok r is p (ap (slice_get t.powers) same ∙ here) down)
        ];
  }
    where
      was_down : (p : PowerDef) → kept_value (after_answer c ok kept) (Node p.node) ≡ 0 → kept_value kept (Node p.node) ≡ 0
      was_down p down =
          let raised = raises t values kept w c is in
          let unit : c.unit ≡ Node raised.power.node = ap (λ (c : Command). c.unit) raised.is in
          let value : c.value ≡ 1 = ap (λ (c : Command). c.value) raised.is in
          elim (kept_by laws c ok kept (Node p.node) (has_cell_in t kept c.unit r.record_of (ap (is_listed t) unit ∙ power_is_listed laws t well w raised.power raised.here))) [
            | inl stays ↦ sym stays ∙ down
            | inr now ↦ absurd (omega (arith, now.2))
          ]

  pub raise_from : (left w all : ℕ) → w + left ≡ all → Leads t values (Raised w) (map PowerOn (range_with_len w left)) (Raised all)
  raise_from zero w all is =
      leads_none t values (Raised w) (Raised all)
      (λ kept front r. record { record_of = r.record_of; explained = λ v p below. r.explained v p (omega arith) })
  raise_from (suc left) w all is =
      leads_turn t values (Raised w) (Raised (w + 1)) (Raised all) (PowerOn w) (map PowerOn (range_with_len (w + 1) left))
      (raised_none w) (raised_some w) (raise_from left (w + 1) all (omega arith))
