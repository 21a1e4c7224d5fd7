-- A step in which no unit moved and no line is pulsed, over a record in which no unit lags: no command is given, and nothing
-- changes.
use Rattle.std.proofs.Common.{◌≡◌, ℕ, true, false, Option, None, List, [], length, refl, sym, ap, ◌∙◌, inl, inr, arith}
use Rattle.std.proofs.lemmas.Bool.{both_ways}
use Rattle.std.proofs.lemmas.List.{drop_all}
use Rattle.pm_base.specs.declared.names.LineId.{LineId}
use Rattle.pm_base.specs.declared.names.Unit.{Unit}
use Rattle.pm_topology.specs.declared.topology.Topology.{Topology}
use Rattle.pm_topology.specs.WellFormed.{IsWellFormed}
use Rattle.pm_topology.specs.Units.{has_in, has_unit, rises}
use Rattle.pm_device.specs.Act.{Act}
use Rattle.pm_core.specs.declared.outbox.Done.{Done}
use Rattle.pm_core.specs.declared.outbox.Outbox.{Outbox}
use Rattle.pm_core.specs.Outbox.{outputs_in}
use Rattle.pm_apply.specs.declared.carrying.Carrying.{Carrying}
use Rattle.pm_apply.specs.Carried.{DifferencesAreMarked, Takes}
use Rattle.pm_apply.specs.Failing.{falls_short, told_answer}
use Rattle.pm_apply.specs.Left.{left_from}
use Rattle.pm_apply.specs.Plan.{turns_of, unit_turns}
use Rattle.pm_record.specs.Record.{IsRecordOf, Kept, lags_in, marked}
use Rattle.pm_apply.specs.Visits.{IsReady}
use Rattle.pm_record.proofs.Below.{ChipLaws}
use Rattle.pm_apply.proofs.FailingLemmas.{part_by}
use Rattle.pm_apply.proofs.GapLemmas.{idle_gap}
use Rattle.pm_apply.proofs.LeftLemmas.{Passes-gap, left_all, way_end, way_passes, way_start}
use Rattle.pm_record.proofs.UnmarkedLemmas.{NoneLags, marks_stay}
use Rattle.pm_apply.proofs.UnmarkedLemmas.{all_rest}

module _ (laws : ChipLaws) (t : Topology) (values : Unit → ℕ) (kept : Kept) (well : IsWellFormed t) (record_of : IsRecordOf t kept)
    (none : NoneLags kept) (found : DifferencesAreMarked t values [] kept) where
  -- each unit has the book's value
  rests_ready : IsReady values None kept
  rests_ready = record {
    stands = λ x has idle.
        let known : has_unit t x ≡ true = sym (laws.units.found t x) ∙ (ap (λ us. has_in us x) (sym record_of.units) ∙ has) in
        elim (found x known) [
          | inl moves ↦ (let gone : false ≡ true = moves in cc)
          | inr rest ↦ elim rest [
            | inl lags ↦ absurd (both_ways (lags_in kept x) idle lags)
            | inr stands ↦ stands
          ]
        ];
    line = λ x line has. (let gone : false ≡ true = line in cc);
  }

  -- its marks are right
  pub rests_marked : kept ≡ marked values kept
  rests_marked = marks_stay laws.units values kept (ap rises record_of.units ∙ (laws.units.are t).rising) rests_ready.stands none

  -- none of its turns has a command
  pub rests_takes : {D : Type 0} (Does : Act → D → D → Type 0) (done : List Done) (m : D) → Takes Does t values (turns_of t None) kept kept done done m m
  rests_takes Does done m =
      let first : Carrying = record { place = 0; pulsed = false } in
      let end : Carrying = record { place = length (unit_turns t); pulsed = false } in
      let gap = idle_gap laws t values None kept rests_ready 0 (length (unit_turns t)) (omega arith) (λ k after before. all_rest laws t kept well record_of.units none k before) in
      let passes = Passes-gap t None values kept first (length (unit_turns t)) refl gap in
      let nothing = ap (left_from None false) (drop_all (length (unit_turns t)) (unit_turns t) (omega arith)) in
      way_end Does t values None kept done m end kept done m
      (way_passes Does t values None kept done m first end kept done m (way_start Does t values None kept done m first (left_all None (unit_turns t))) passes)
      nothing

-- the answer stays
pub rests_told : (values : Unit → ℕ) (out : Outbox) (kept : Kept) → out.moved.items ≡ [] → out.pulse ≡ None → out.answer ≡ (part_by values (outputs_in out) out.done.items kept).answer
rests_told values out kept moved pulse =
    sym (
    ap (λ (moved : List Unit). told_answer (falls_short values moved out.pulse out.done.items kept) out.answer) moved
    ∙ ap (λ (pulse : Option LineId). told_answer (falls_short values [] pulse out.done.items kept) out.answer) pulse
    )
