use Rattle.std.proofs.Common.{◌≡◌, Some, slice_get, ap, length, sym, subst, ◌∙◌}
use Rattle.pm_topology.specs.UnitMap.{units_in}
use Rattle.pm_record.specs.Record.{Kept, kept_of}
use Rattle.pm_record.specs.Marks.{LagsWithin}
use Rattle.pm_record.proofs.FoundLemmas.{stands_at_place}
use Rattle.pm_record.proofs.ListedLemmas.{lags_keep, set_length}
use Rattle.pm_record.proofs.kept.Kept.log_at.Goals as goal

pub keep_at-requires : goal.keep_at-requires
keep_at-requires c =
    let P : Kept → Type 0 = λ kept. slice_get (units_in kept) c.args.place ≡ Some c.args.command.unit in
    stands_at_place c.units_stand_in_order.ensures c.self.inside.values c.args.place c.args.command.unit c.len-units.ensures.rising (subst P (sym c.self.view_is) c.requires)

pub invariant_of-self : goal.invariant_of-self
invariant_of-self c =
    let P : Kept → Type 0 = λ kept. LagsWithin c.self.inside.marked.items kept in
    let long = ap (λ (kept : Kept). length kept) c.keep_at.ensures.entries
    ∙ set_length (record { units = c.units_stand_in_order.ensures; kinds = c.kinds_are_exact.ensures; table = c.unit_maps.ensures }) c.args.command.unit (record (kept_of c.self.inside.values c.args.command.unit) { value = c.args.command.value }) c.self.inside.values
    in
    record {
      marks = record {
        lags = subst P (sym c.keep_at.ensures.entries) (lags_keep c.units_stand_in_order.ensures c.args.command.unit c.args.command.value c.self.inside.values c.self.inside.marked.items c.len-units.ensures.rising c.self.invariant.marks.lags);
        room = c.self.invariant.marks.room ∙ sym long;
        other = c.self.invariant.marks.other ∙ sym long;
      };
    }
