use Rattle.std.proofs.Common.{◌≡◌, ◌∷◌, [], Some, length, true, ap, sym, subst, ◌∙◌, arith}
use Rattle.pm_topology.specs.UnitMap.{place_of}
use Rattle.pm_record.specs.Record.{Kept, kept_of}
use Rattle.pm_record.specs.Marks.{LagsWithin, Marks}
use Rattle.pm_record.proofs.ListedLemmas.{lags_marked, marks_nowhere, place_within, set_length}
use Rattle.pm_record.proofs.MarkingLemmas.{marks_one}
use Rattle.pm_record.proofs.kept.Kept.mark_one.Goals as goal

pub insert-requires : goal.insert-requires
insert-requires c =
    let at : place_of c.self.inside.values c.args.unit ≡ Some c.in-Some.place = sym c.place.ensures.place ∙ c.in-Some.is in
    omega (arith, place_within c.self.inside.values c.args.unit c.in-Some.place at, c.self.invariant.marks.room)

pub invariant_of-self : goal.invariant_of-self
invariant_of-self c =
    let at : place_of c.self.inside.values c.args.unit ≡ Some c.in-Some.place = sym c.place.ensures.place ∙ c.in-Some.is in
    let P : Kept → Type 0 = λ kept. LagsWithin c.insert.new.self.items kept in
    let long = ap (λ (kept : Kept). length kept) c.set_mark.ensures.entries
    ∙ set_length (record { units = c.units_stand_in_order.ensures; kinds = c.kinds_are_exact.ensures; table = c.unit_maps.ensures }) c.args.unit (record (kept_of c.self.inside.values c.args.unit) { lags = true }) c.self.inside.values
    in
    record {
      marks = record {
        lags = subst P (sym c.set_mark.ensures.entries)
            (lags_marked c.unit_map_places.ensures c.args.unit c.self.inside.values c.in-Some.place c.self.inside.marked.items c.insert.new.self.items c.set_mark.ensures.rising at c.self.invariant.marks.lags c.insert.ensures.has);
        room = c.insert.ensures.room ∙ (c.self.invariant.marks.room ∙ sym long);
        other = c.self.invariant.marks.other ∙ sym long;
      };
    }

pub returns : goal.returns
returns c =
    let P : Kept → Type 0 = λ after. Marks (c.args.unit ∷ []) c.self.inside.values after in
    let Q : Kept → Type 0 = λ before. Marks (c.args.unit ∷ []) before c.set_mark.new.values in
    subst Q c.self.view_is
    (subst P (sym c.set_mark.ensures.entries) (marks_one (record { units = c.units_stand_in_order.ensures; kinds = c.kinds_are_exact.ensures; table = c.unit_maps.ensures }) c.args.unit c.self.inside.values c.set_mark.ensures.rising))

pub returns-in_default : goal.returns-in_default
returns-in_default c =
    let P : Kept → Type 0 = λ kept. Marks (c.args.unit ∷ []) kept kept in
    subst P c.self.view_is
    (marks_nowhere (record { units = c.units_stand_in_order.ensures; kinds = c.kinds_are_exact.ensures; table = c.unit_maps.ensures }) c.args.unit c.self.inside.values c.place.ensures.rising (sym c.place.ensures.place ∙ c.in_default.is))
