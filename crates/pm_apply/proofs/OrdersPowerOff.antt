-- Power nodes go down: one that should be down and isn't has a failed command on it or on a unit below it.
use Rattle.std.proofs.Common.{◌≡◌, ◌≢◌, ℕ, ◌+◌, ◌≤◌, Bool, true, false, ◌&&◌, Some, None, List, [], ◌∷◌, ◌++◌, map, refl, ap, sym, ◌∙◌, subst, arith, ◌⊎◌, inl, inr, zero, suc}
use Rattle.std.specs.Prelude.{slice_get}
use Rattle.std.proofs.lemmas.Bool.{cases_lt, cases_Bool, and_parts, both_ways, eqb-true, eqb-false, false_from_ne_true}
use Rattle.pm_topology.specs.Units.{needs_power, parent_of_unit}
use Rattle.pm_base.specs.declared.names.NodeId.{NodeId}
use Rattle.pm_base.specs.declared.names.Unit.{Unit}
use Rattle.pm_base.specs.declared.names.Unit.TheVariants.{Node, Line}
use Rattle.pm_base.specs.declared.names.Command.{Command}
use Rattle.pm_topology.specs.declared.topology.Topology.{Topology}
use Rattle.pm_topology.specs.declared.topology.PowerDef.{PowerDef}
use Rattle.pm_topology.specs.Places.{parent_of, parent_at, power_parent, IsAtOrAbove, IsBelow, here as at_it, higher}
use Rattle.pm_topology.specs.WellFormed.{IsWellFormed}
use Rattle.pm_core.specs.declared.outbox.Done.{Done}
use Rattle.pm_state.specs.Fed.{IsFed}
use Rattle.pm_topology.specs.UnitMap.{units_in}
use Rattle.pm_topology.specs.Units.{has_in, units_of}
use Rattle.pm_record.proofs.Below.{ChipLaws}
use Rattle.pm_apply.specs.declared.turns.Turn.TheVariants.{PowerOff}
use Rattle.pm_base.specs.Places.{is_place}
use Rattle.pm_record.specs.Record.{IsRecordOf, Kept, kept_value, after_answer}
use Rattle.pm_record.specs.Kinds.{is_power}
use Rattle.pm_apply.specs.Plan.{due, done_as, is_used}
use Rattle.pm_apply.specs.Order.{FailedOn}
use Rattle.pm_apply.proofs.PlanLeads.{Leads, leads_none, leads_turn}
use Rattle.pm_record.proofs.RecordLemmas.{kept_by, kept_stays, was_refused}
use Rattle.pm_apply.proofs.RecordLaw.{has_cell_in, turn_keeps}
use Rattle.pm_record.proofs.KindsLemmas.{power_is_power, power_kind}
use Rattle.pm_apply.proofs.OrdersUnits.{is_listed, IsPowerAt, parent_of_power, passes_one, power_is_listed, power_needs, power_place_of, stands_earlier}
use Rattle.pm_apply.proofs.OrdersDue.{lowers, stays_used}
use Rattle.pm_apply.proofs.OrdersFailed.{fails_before, failed_before, failed_last}
use Rattle.pm_apply.proofs.OrdersApply.{AllRaised, Lags, lags_before}
use Rattle.pm_apply.proofs.UsedLemmas.{is_place_of}

-- the places below this one, the highest first
abbrev pub downs : ℕ → List ℕ
downs zero = []
downs (suc n) = n ∷ downs n

-- a command failed on the power node at a place or on a unit below it
pub record FailsAtOrBelow (t : Topology) (done : List Done) (v : ℕ) (power : PowerDef) : Type 0 where
  pub node : NodeId
  pub failed : FailedOn done (Node node)
  pub at : (node ≡ power.node) ⊎ IsBelow t v node

lower_before : (t : Topology) (front more : List Done) (v : ℕ) (p : PowerDef) → FailsAtOrBelow t front v p → FailsAtOrBelow t (front ++ more) v p
lower_before t front more v p f = record { node = f.node; failed = failed_before front more (Node f.node) f.failed; at = f.at }

-- what is above the parent is above what the node is above
above_more : (powers : List PowerDef) (v w x : ℕ) → power_parent powers v ≡ Some w → IsAtOrAbove powers v x → IsAtOrAbove powers w x
above_more powers v w _ parent at_it = higher v w parent at_it
above_more powers v w _ parent (higher x u is up) = higher x u is (above_more powers v w u parent up)

-- a node directly below a power node that needs power by the record
record IsUser (t : Topology) (kept : Kept) (w : ℕ) : Type 0 where
  node : NodeId
  above : parent_of t node ≡ Some w
  needs : needs_power t (Node node) (kept_value kept (Node node)) ≡ true
  has : is_listed t (Node node) ≡ true

user_at : (t : Topology) (kept : Kept) (w : ℕ) (unit : Unit) → (is_place w (parent_of_unit t unit) && needs_power t unit (kept_value kept unit)) ≡ true → is_listed t unit ≡ true → IsUser t kept w
user_at t kept w (Line line) passes has = cc
user_at t kept w (Node node) passes has =
    let parts = and_parts (is_place w (parent_of t node)) (needs_power t (Node node) (kept_value kept (Node node))) passes in
    record { node = node; above = is_place_of w (parent_of t node) parts.0; needs = parts.1; has = has }

user_of : ChipLaws → (t : Topology) (kept : Kept) (w : ℕ) → is_used t kept w ≡ true → IsUser t kept w
user_of laws t kept w used =
    let found = passes_one laws (λ u. is_place w (parent_of_unit t u) && needs_power t u (kept_value kept u)) (units_of t) used in
    user_at t kept w found.0 found.1 found.2

module _ (laws : ChipLaws) (t : Topology) (values : Unit → ℕ) (well : IsWellFormed t) (fed : IsFed t values) where
  -- each power node that should be up and each other unit is explained, and so is each power node from this place on that
  -- should be down
  pub record Lowered (w : ℕ) (kept : Kept) (front : List Done) : Type 0 where
    pub record_of : IsRecordOf t kept
    pub raised : AllRaised t values kept front
    pub settled : (x : Unit) → is_listed t x ≡ true → is_power t x ≡ false → kept_value kept x ≢ values x → Lags t values front x
    pub lowered : (v : ℕ) (p : PowerDef) → w ≤ v → slice_get t.powers v ≡ Some p → values (Node p.node) ≡ 0 → kept_value kept (Node p.node) ≡ 1 → FailsAtOrBelow t front v p

  module _ (w : ℕ) (kept : Kept) (front : List Done) (l : Lowered (w + 1) kept front) where
    -- a user that is a power node should be down too: a command failed on it or below it
    used_by_power : (p : PowerDef) (node : NodeId) → parent_of t node ≡ Some w
        → needs_power t (Node node) (kept_value kept (Node node)) ≡ true → needs_power t (Node node) (values (Node node)) ≡ false
        → (v : ℕ) (q : PowerDef) → IsPowerAt t (Node node) v q → FailsAtOrBelow t front w p
    used_by_power p node above needs idle v q at =
        let is : node ≡ q.node = node_is at.is in
        let up : kept_value kept (Node q.node) ≡ 1 = eqb-true (kept_value kept (Node q.node)) 1 (sym (power_needs laws t well v q (kept_value kept (Node q.node)) at.here) ∙ ap (λ n. needs_power t (Node n) (kept_value kept (Node n))) (sym is) ∙ needs) in
        let off : values (Node q.node) ≢ 1 = eqb-false (values (Node q.node)) 1 (sym (power_needs laws t well v q (values (Node q.node)) at.here) ∙ ap (λ n. needs_power t (Node n) (values (Node n))) (sym is) ∙ idle) in
        let small = fed.up_or_down v q at.here in
        let parent : power_parent t.powers v ≡ Some w = sym (ap (parent_at t) (power_kind laws t well v q at.here)) ∙ ap (parent_of t) (sym is) ∙ above in
        let later = stands_earlier laws t well v q w at.here (sym (parent_of_power laws t well v q at.here) ∙ ap (parent_of t) (sym is) ∙ above) in
        let f = l.lowered v q (omega arith) at.here (omega arith) up in
        record {
          node = f.node;
          failed = f.failed;
          at = elim f.at [
            | inl same ↦ inr (w, ap (parent_of t) (same ∙ sym is) ∙ above, at_it)
            | inr below ↦ inr (below.0, below.1, above_more t.powers v w below.0 parent below.2)
          ];
        }
      where
        node_is : {a b : NodeId} → Node a ≡ Node b → a ≡ b
        node_is same = cc

    -- another user that needs no power for its value has had its command, which failed
    used_by_other : (p : PowerDef) (node : NodeId) → parent_of t node ≡ Some w → is_listed t (Node node) ≡ true
        → needs_power t (Node node) (kept_value kept (Node node)) ≡ true → needs_power t (Node node) (values (Node node)) ≡ false
        → is_power t (Node node) ≡ false → FailsAtOrBelow t front w p
    used_by_other p node above has needs idle other =
        let differs : kept_value kept (Node node) ≢ values (Node node) = λ same. both_ways _ idle (ap (needs_power t (Node node)) (sym same) ∙ needs) in
        elim (l.settled (Node node) has other differs) [
          | inl failed ↦ record { node = node; failed = failed; at = inr (w, above, at_it) }
          | inr starved ↦ absurd (both_ways _ idle starved.needs)
        ]

    lower_skips : due t values kept (PowerOff w) ≡ None → (p : PowerDef) → slice_get t.powers w ≡ Some p → values (Node p.node) ≡ 0 → kept_value kept (Node p.node) ≡ 1 → FailsAtOrBelow t front w p
    lower_skips none p here value up =
        let user = user_of laws t kept w (stays_used t values kept w p here none value up) in
        let idle : needs_power t (Node user.node) (values (Node user.node)) ≡ false =
        false_from_ne_true _ (λ needs. let on = fed.fed user.node w p user.above here needs in absurd (omega arith)) in
        elim (cases_Bool (is_power t (Node user.node))) [
          | inl power ↦
              let at = power_place_of laws t (Node user.node) power in
              used_by_power p user.node user.above user.needs idle at.0 at.1 at.2
          | inr other ↦ used_by_other p user.node user.above user.has user.needs idle other
        ]

    lowered_none : due t values kept (PowerOff w) ≡ None → Lowered w kept front
    lowered_none none = record {
      record_of = l.record_of;
      raised = l.raised;
      settled = l.settled;
      lowered = λ v p from here value up.
          elim (cases_lt w v) [
            | inl later ↦ l.lowered v p (omega arith) here value up
            | inr not_later ↦
                let same : w ≡ v = omega arith in
                subst (λ v. FailsAtOrBelow t front v p) same (lower_skips none p (ap (slice_get t.powers) same ∙ here) value up)
          ];
    }

    module _ (c : Command) (ok : Bool) (is : due t values kept (PowerOff w) ≡ Some c) where
      abbrev q : PowerDef
      q = (lowers t values kept w c is).power

      here : slice_get t.powers w ≡ Some q
      here = (lowers t values kept w c is).here

      unit : c.unit ≡ Node q.node
      unit = ap (λ (c : Command). c.unit) (lowers t values kept w c is).is

      value_is : c.value ≡ 0
      value_is = ap (λ (c : Command). c.value) (lowers t values kept w c is).is

      has_cell : has_in (units_in kept) c.unit ≡ true
      has_cell = has_cell_in t kept c.unit l.record_of (ap (is_listed t) unit ∙ power_is_listed laws t well w q here)

      -- one that should be up and isn't wasn't before
      raised_still : AllRaised t values (after_answer c ok kept) (front ++ done_as c kept ok ∷ [])
      raised_still v p there value down =
          elim (kept_by laws c ok kept (Node p.node) has_cell) [
            | inl stays ↦ fails_before t front (done_as c kept ok ∷ []) v (l.raised v p there value (sym stays ∙ down))
            | inr now ↦
                let same : values (Node p.node) ≡ values (Node q.node) = ap values (sym now.0 ∙ unit) in
                let off : values (Node q.node) ≡ 0 = (lowers t values kept w c is).value in
                absurd (omega arith)
          ]

      settled_still : (x : Unit) → is_listed t x ≡ true → is_power t x ≡ false → kept_value (after_answer c ok kept) x ≢ values x → Lags t values (front ++ done_as c kept ok ∷ []) x
      settled_still x has other differs =
          let apart : c.unit ≡ x → ⊥ = λ same. both_ways (is_power t x) other (ap (is_power t) (sym same ∙ unit) ∙ power_is_power laws t well w q here) in
          lags_before t values front (done_as c kept ok ∷ []) x (l.settled x has other (λ same. differs (kept_stays laws c ok kept x apart ∙ same)))

      -- the power node is down then, or its command failed
      lower_fails : (p : PowerDef) → slice_get t.powers w ≡ Some p → kept_value (after_answer c ok kept) (Node p.node) ≡ 1 → FailsAtOrBelow t (front ++ done_as c kept ok ∷ []) w p
      lower_fails p there up =
          let found : Some q ≡ Some p = sym here ∙ there in
          let same : q ≡ p = cc in
          let at : c.unit ≡ Node p.node = unit ∙ ap (λ (p : PowerDef). Node p.node) same in
          let off : kept_value (after_answer c ok kept) c.unit ≡ c.value → ⊥ = λ is. let on : kept_value (after_answer c ok kept) (Node p.node) ≡ c.value = ap (kept_value (after_answer c ok kept)) (sym at) ∙ is in absurd (omega (arith, value_is)) in
          record { node = p.node; failed = failed_last front (done_as c kept ok) (Node p.node) at (was_refused laws c ok kept has_cell off); at = inl refl }

      lowered_still : (v : ℕ) (p : PowerDef) → w ≤ v → slice_get t.powers v ≡ Some p → values (Node p.node) ≡ 0 → kept_value (after_answer c ok kept) (Node p.node) ≡ 1 → FailsAtOrBelow t (front ++ done_as c kept ok ∷ []) v p
      lowered_still v p from there value up =
          elim (cases_lt w v) [
            | inl later ↦
                elim (kept_by laws c ok kept (Node p.node) has_cell) [
                  | inl stays ↦ lower_before t front (done_as c kept ok ∷ []) v p (l.lowered v p (omega arith) there value (sym stays ∙ up))
                  | inr now ↦ absurd (omega (arith, value_is, now.2))
                ]
            | inr not_later ↦
                let same : w ≡ v = omega arith in
                subst (λ v. FailsAtOrBelow t (front ++ done_as c kept ok ∷ []) v p) same (lower_fails p (ap (slice_get t.powers) same ∙ there) up)
          ]

      lowered_some : Lowered w (after_answer c ok kept) (front ++ done_as c kept ok ∷ [])
      lowered_some = record {
        record_of = turn_keeps laws t values well (PowerOff w) kept c ok l.record_of is;
        raised = raised_still;
        settled = settled_still;
        lowered = lowered_still;
      }

  pub lower_all : (n : ℕ) → Leads t values (Lowered n) (map PowerOff (downs n)) (Lowered 0)
  lower_all zero = leads_none t values (Lowered 0) (Lowered 0) (λ kept front l. l)
  lower_all (suc n) =
      leads_turn t values (Lowered (suc n)) (Lowered n) (Lowered 0) (PowerOff n) (map PowerOff (downs n))
      (λ kept front l. lowered_none n kept front (next n kept front l)) (λ kept front l. lowered_some n kept front (next n kept front l)) (lower_all n)
    where
      next : (n : ℕ) (kept : Kept) (front : List Done) → Lowered (suc n) kept front → Lowered (n + 1) kept front
      next n kept front l = record { record_of = l.record_of; raised = l.raised; settled = l.settled; lowered = λ v p from. l.lowered v p (omega arith) }
