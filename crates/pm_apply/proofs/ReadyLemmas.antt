-- The record before the turns of a step.
use Rattle.std.proofs.Common.{◌≡◌, ℕ, true, List, ◌++◌, Option, sym, ap, ◌∙◌, inl, inr}
use Rattle.std.proofs.lemmas.Bool.{both_ways}
use Rattle.pm_base.specs.declared.names.LineId.{LineId}
use Rattle.pm_base.specs.declared.names.Unit.{Unit}
use Rattle.pm_topology.specs.declared.topology.Topology.{Topology}
use Rattle.pm_topology.specs.UnitMap.{units_in}
use Rattle.pm_topology.specs.Units.{has_in, has_unit}
use Rattle.pm_record.specs.Marks.{Marks, pulsed}
use Rattle.pm_record.specs.Record.{Kept, IsRecordOf, lags_in, marked}
use Rattle.pm_record.proofs.Below.{ChipLaws}
use Rattle.pm_record.proofs.MarkingLemmas.{marks_trans, record_marked, same_units, same_values}
use Rattle.pm_apply.specs.Carried.{DifferencesAreMarked}
use Rattle.pm_apply.specs.Visits.{IsReady}

module _ (laws : ChipLaws) (t : Topology) (values : Unit → ℕ) (pulse : Option LineId) (moved : List Unit) (before middle after : Kept)
    (record_of : IsRecordOf t before) (found : DifferencesAreMarked t values moved before)
    (one : Marks moved before middle) (two : Marks (pulsed pulse) middle after) where
  both_marks : Marks (moved ++ pulsed pulse) before after
  both_marks = marks_trans laws moved (pulsed pulse) before middle after one two

  pub alike_then : (values : Unit → ℕ) → marked values after ≡ marked values before
  alike_then values = both_marks.alike values

  pub record_then : IsRecordOf t after
  record_then = record_marked laws t (moved ++ pulsed pulse) before after record_of both_marks

  pub ready_then : IsReady values pulse after
  ready_then = record {
    stands = λ x has idle.
        let there : has_in (units_in before) x ≡ true = ap (λ us. has_in us x) (sym (same_units laws (moved ++ pulsed pulse) before after both_marks)) ∙ has in
        let known : has_unit t x ≡ true = sym (laws.units.found t x) ∙ (ap (λ us. has_in us x) (sym record_of.units) ∙ there) in
        elim (found x known) [
          | inl moves ↦ absurd (both_ways (lags_in after x) idle (two.others x (one.these x moves there)))
          | inr rest ↦ elim rest [
            | inl lags ↦ absurd (both_ways (lags_in after x) idle (both_marks.others x lags))
            | inr stands ↦ same_values laws (moved ++ pulsed pulse) before after both_marks x ∙ stands
          ]
        ];
    line = λ x line has.
        two.these x line (ap (λ us. has_in us x) (sym (same_units laws (pulsed pulse) middle after two)) ∙ has);
  }
