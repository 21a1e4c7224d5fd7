-- A unit lags after a step only where a command failed in it: on the unit, above it or below it.
use Rattle.std.proofs.Common.{◌≡◌, ◌≢◌, ℕ, ◌+◌, Bool, Option, Some, List, [], ◌∷◌, ◌++◌, length, map, reverse, refl, ap, sym, ◌∙◌, subst, arith, inl, inr, zero, suc}
use Rattle.std.specs.Prelude.{slice_get}
use Rattle.std.specs.List.{range_with_len}
use Rattle.std.proofs.lemmas.Bool.{cases_Bool, cases_lt, both_ways}
use Rattle.std.proofs.lemmas.List.{reverse-append}
use Rattle.std.proofs.lemmas.Option.{slice_get_within}
use Rattle.pm_base.specs.declared.names.LineId.{LineId}
use Rattle.pm_base.specs.declared.names.Unit.{Unit}
use Rattle.pm_base.specs.declared.names.Unit.TheVariants.{Node, Line}
use Rattle.pm_topology.specs.declared.topology.Topology.{Topology}
use Rattle.pm_topology.specs.declared.topology.PowerDef.{PowerDef}
use Rattle.pm_topology.specs.Places.{parent_at, IsAtOrAbove, here as at_it, higher}
use Rattle.pm_topology.specs.WellFormed.{IsWellFormed}
use Rattle.pm_core.specs.declared.outbox.Done.{Done}
use Rattle.pm_state.specs.Fed.{IsFed}
use Rattle.pm_topology.specs.Units.{units_of}
use Rattle.pm_record.proofs.Below.{ChipLaws}
use Rattle.pm_apply.specs.declared.turns.Turn.{Turn}
use Rattle.pm_apply.specs.declared.turns.Turn.TheVariants.{PowerOn, PowerOff}
use Rattle.pm_record.specs.Record.{Kept, kept_value, IsRecordOf}
use Rattle.pm_record.specs.Kinds.{is_power}
use Rattle.pm_apply.specs.Plan.{plan, turns_of, power_places}
use Rattle.pm_apply.specs.Order.{IsOnPath, IsExplained, LagsAreExplained}
use Rattle.pm_apply.proofs.PlanLeads.{Leads, leads_append}
use Rattle.pm_record.proofs.KindsLemmas.{power_kind}
use Rattle.pm_apply.proofs.OrdersUnits.{is_listed, listed-is, IsPowerAt, power_place_of}
use Rattle.pm_apply.proofs.OrdersFailed.{FailsAtOrAbove}
use Rattle.pm_apply.proofs.OrdersPowerOn.{Raised, raise_from}
use Rattle.pm_apply.proofs.OrdersApply.{IsStarved, Lags, Settled, settle_all}
use Rattle.pm_apply.proofs.PulseLemmas.{settle_pulses, turns_are}
use Rattle.pm_apply.proofs.OrdersPowerOff.{FailsAtOrBelow, Lowered, downs, lower_all}

-- ---- the places, from the last one down

range_more : (n at last : ℕ) → at + n ≡ last → range_with_len at (suc n) ≡ range_with_len at n ++ last ∷ []
range_more zero at last is = let same : at ≡ last = omega arith in ap (λ n. n ∷ []) same
range_more (suc n) at last is = ap (λ places. at ∷ places) (range_more n (at + 1) last (omega arith))

reversed : (n : ℕ) → reverse (range_with_len 0 n) ≡ downs n
reversed zero = refl
reversed (suc n) =
    ap reverse (range_more n 0 n (omega arith))
    ∙ reverse-append (range_with_len 0 n) (n ∷ [])
    ∙ ap (λ places. n ∷ places) (reversed n)

module _ (laws : ChipLaws) (t : Topology) (values : Unit → ℕ) (well : IsWellFormed t) (fed : IsFed t values) where
  -- ---- from phase to phase

  abbrev n : ℕ
  n = length t.powers

  from_raised : (kept : Kept) (front : List Done) → Raised laws t values well fed n kept front → Settled t values (units_of t) kept front
  from_raised kept front r = record {
    record_of = r.record_of;
    among = λ x has. has;
    raised = λ v p here. r.explained v p (slice_get_within t.powers v p here) here;
    settled = λ x has other lags off. absurd (both_ways (is_listed t x) off has);
  }

  from_settled : (kept : Kept) (front : List Done) → Settled t values [] kept front → Lowered laws t values well fed n kept front
  from_settled kept front s = record {
    record_of = s.record_of;
    raised = s.raised;
    settled = λ x has other lags. s.settled x has other lags refl;
    lowered = λ v p from here. let within = slice_get_within t.powers v p here in absurd (omega arith);
  }

  abbrev Begins : Kept → List Done → Type 0
  Begins kept front = IsRecordOf t kept

  raises_lead : Leads t values Begins (map PowerOn (power_places t)) (Settled t values (units_of t))
  raises_lead kept front answers record_of =
      from_raised _ _ (raise_from laws t values well fed n 0 n (omega arith) kept front answers (record { record_of = record_of; explained = λ v p below. absurd (omega arith) }))

  settles_lead : (pulse : Option LineId) → Leads t values (Settled t values (units_of t)) (settle_pulses t pulse) (Lowered laws t values well fed n)
  settles_lead pulse kept front answers s = from_settled _ _ (settle_all laws t values well fed pulse (units_of t) kept front answers s)

  lowers_lead : Leads t values (Lowered laws t values well fed n) (map PowerOff (reverse (power_places t))) (Lowered laws t values well fed 0)
  lowers_lead =
      subst (λ places. Leads t values (Lowered laws t values well fed n) (map PowerOff places) (Lowered laws t values well fed 0)) (sym (reversed n)) (lower_all laws t values well fed n)

  step_leads : (pulse : Option LineId) → Leads t values Begins (turns_of t pulse) (Lowered laws t values well fed 0)
  step_leads pulse =
      let P : List Turn → Type 0 = λ turns. Leads t values Begins turns (Lowered laws t values well fed 0) in
      subst P (sym (turns_are t pulse))
      (leads_append t values Begins (Settled t values (units_of t)) (Lowered laws t values well fed 0) (map PowerOn (power_places t)) (settle_pulses t pulse ++ map PowerOff (reverse (power_places t)))
      raises_lead
      (leads_append t values (Settled t values (units_of t)) (Lowered laws t values well fed n) (Lowered laws t values well fed 0) (settle_pulses t pulse) (map PowerOff (reverse (power_places t)))
      (settles_lead pulse) lowers_lead))

  -- ---- the paths

  -- what is at a power node or above it is on its path
  path_up : (u w : ℕ) (p q : PowerDef) → slice_get t.powers w ≡ Some p → slice_get t.powers u ≡ Some q → IsAtOrAbove t.powers u w → IsOnPath t (Node p.node) (Node q.node)
  path_up u _ p q here is at_it =
      let found : Some p ≡ Some q = sym here ∙ is in
      let same : p ≡ q = cc in
      inl (ap (λ (p : PowerDef). p.node) same)
  path_up u _ p q here is (higher w v step up) =
      inr (inl (record { w = u; power = q; is = is; named = refl; below = (v, ap (parent_at t) (power_kind laws t well w p here) ∙ step, up) }))

  above_on_path : (done : List Done) (w : ℕ) (p : PowerDef) → slice_get t.powers w ≡ Some p → FailsAtOrAbove t done w → IsExplained t done (Node p.node)
  above_on_path done w p here f = record { other = Node f.power.node; path = path_up f.u w p f.power here f.is f.above; failed = f.failed }

  below_on_path : (done : List Done) (w : ℕ) (p : PowerDef) → slice_get t.powers w ≡ Some p → FailsAtOrBelow t done w p → IsExplained t done (Node p.node)
  below_on_path done w p here f = record {
    other = Node f.node;
    path = elim f.at [
      | inl same ↦ inl (sym same)
      | inr below ↦ inr (inr (record { w = w; power = p; is = here; named = refl; below = below }))
    ];
    failed = f.failed;
  }

  starved_on_path : (done : List Done) (unit : Unit) → IsStarved t values done unit → IsExplained t done unit
  starved_on_path done unit starved =
      let f = starved.failed in
      subst (IsExplained t done) (sym starved.is) (record {
        other = Node f.power.node;
        path = inr (inl (record { w = f.u; power = f.power; is = f.is; named = refl; below = (starved.u, starved.above, f.above) }));
        failed = f.failed;
      })

  own_path : (unit : Unit) → IsOnPath t unit unit
  own_path (Node node) = inl refl
  own_path (Line line) = refl

  -- ---- each unit

  module _ (kept : Kept) (done : List Done) (l : Lowered laws t values well fed 0 kept done) where
    power_explained : (unit : Unit) (w : ℕ) (p : PowerDef) → IsPowerAt t unit w p → kept_value kept unit ≢ values unit → IsExplained t done unit
    power_explained unit w p at lags =
        let differs : kept_value kept (Node p.node) ≢ values (Node p.node) = λ same. lags (ap (kept_value kept) at.is ∙ same ∙ ap values (sym at.is)) in
        let record_small = l.record_of.up_or_down w p at.here in
        let value_small = fed.up_or_down w p at.here in
        subst (IsExplained t done) (sym at.is)
        (elim (cases_lt 0 (values (Node p.node))) [
          | inl up ↦ above_on_path done w p at.here (l.raised w p at.here (omega arith) (omega arith))
          | inr down ↦ below_on_path done w p at.here (l.lowered w p (omega arith) at.here (omega arith) (omega arith))
        ])

    other_explained : (unit : Unit) → Lags t values done unit → IsExplained t done unit
    other_explained unit (inl failed) = record { other = unit; path = own_path unit; failed = failed }
    other_explained unit (inr starved) = starved_on_path done unit starved

    each_explained : LagsAreExplained t values kept done
    each_explained unit has lags =
        elim (cases_Bool (is_power t unit)) [
          | inl power ↦ let at = power_place_of laws t unit power in power_explained unit at.0 at.1 at.2 lags
          | inr other ↦ other_explained unit (l.settled unit (listed-is laws t unit ∙ has) other lags)
        ]

  -- for any record and any answers
  pub explained : (pulse : Option LineId) (kept : Kept) (answers : List Bool) → IsRecordOf t kept → LagsAreExplained t values (plan t values (turns_of t pulse) kept answers).kept (plan t values (turns_of t pulse) kept answers).done
  explained pulse kept answers record_of = each_explained _ _ (step_leads pulse kept [] answers record_of)
