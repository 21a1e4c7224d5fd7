use Rattle.std.proofs.Common.{◌≡◌, ℕ, true, Some, length, slice_get, ap, sym, subst, ◌∙◌}
use Rattle.std.proofs.lemmas.List.{length-map}
use Rattle.pm_base.specs.BoundedList.{Bounded}
use Rattle.pm_base.specs.declared.names.Unit.{Unit}
use Rattle.pm_topology.specs.UnitMap.{remade, units_in}
use Rattle.pm_topology.specs.Units.{rises}
use Rattle.pm_record.specs.Record.{Kept, mark}
use Rattle.pm_record.proofs.UnmarkedLemmas.{marks_stay}
use Rattle.pm_record.proofs.kept.Kept.mark.Goals as goal

pub returns-then-not-has_marks : goal.returns-then-not-has_marks
returns-then-not-has_marks g c =
    let P : Kept → Type 0 = λ kept. rises (units_in kept) ≡ true in
    marks_stay c.units_stand_in_order.ensures (g.W.Wanted.value c.args.wanted.now) c.args.self.now (subst P c.self.view_is c.len-units.ensures.rising) c.requires.stands
    (c.has_marks.ensures c.if-not-has_marks.true)

pub mark_all-requires-clause-known : goal.mark_all-requires-clause-known
mark_all-requires-clause-known g c =
    λ place unit here.
    let P : Kept → Type 0 = λ kept. slice_get (units_in kept) place ≡ Some unit in
    c.requires.known place unit (subst P c.self.view_is here)

pub invariant_of-self : goal.invariant_of-self
invariant_of-self g c =
    let values : Unit → ℕ = g.W.Wanted.value c.args.wanted.now in
    let old = c.self.inside.values in
    let long : length c.mark_all.new.values ≡ length old = ap (λ (kept : Kept). length kept) c.mark_all.ensures.marked ∙ length-map old (remade (mark values)) in
    record {
      marks = record {
        lags = c.mark_all.ensures.lags;
        room = c.mark_all.ensures.room
            ∙ (ap (λ (p : Bounded ℕ). p.room) c.clear.ensures ∙ (ap (λ (p : Bounded ℕ). p.room) c.swap.ensures.x_after ∙ (c.self.invariant.marks.other ∙ sym long)));
        other = ap (λ (p : Bounded ℕ). p.room) c.swap.ensures.y_after ∙ (c.self.invariant.marks.room ∙ sym long);
      };
    }
