use Rattle.std.proofs.Common.{◌≡◌, ℕ, true, false, List, length, map, slice_get, Some, sym, ◌∙◌, ap, inl, inr}
use Rattle.pm_topology.specs.declared.places.Kind.TheVariants.{Slave}
use Rattle.pm_topology.specs.Units.{units_of}
use Rattle.pm_topology.specs.UnitMap.{units_in}
use Rattle.pm_state.specs.Changes.{is_in}
use Rattle.pm_state.specs.Values.{placed}
use Rattle.pm_values.specs.Behind.{kinds_of_units, renewed_on, rests}
use Rattle.pm_values.specs.Caches.{IsChosen, kind_of_unit, use_of}
use Rattle.pm_values.specs.Kinds.{rests_at}
use Rattle.pm_values.specs.declared.caches.UnitKind.{UnitKind}
use Rattle.pm_values.specs.declared.caches.UnitKind.TheVariants.{Entry, Reset}
use Rattle.pm_values.proofs.BringLaw.{found_anew, line_clear, unlisted, use_same, written_settled}
use Rattle.pm_values.proofs.CachesLaw.{chosen_room, written_back}
use Rattle.pm_values.proofs.ClearLaw.{clear_kept, clear_rests}
use Rattle.pm_values.proofs.KindsLaw.{are_apart}
use Rattle.pm_values.proofs.LinesLaw.{line_within}
use Rattle.pm_values.proofs.RestLaw.{nothing_found}
use Rattle.pm_values.proofs.caches.Caches.bring.Goals as goal

pub wake_lines-requires-clause-kinds : goal.wake_lines-requires-clause-kinds
wake_lines-requires-clause-kinds c =
    c.choose_written.ensures.chosen.kinds ∙ (c.requires.room.places.kinds ∙ ap kinds_of_units (sym c.topology.ensures.topology))

pub wake_lines-requires-clause-units : goal.wake_lines-requires-clause-units
wake_lines-requires-clause-units c =
    ap units_in c.choose_written.ensures.chosen.values ∙ (c.requires.room.places.units ∙ ap units_of (sym c.topology.ensures.topology))

pub wake_changed-requires : goal.wake_changed-requires
wake_changed-requires c = record {
  states = c.choose_written.ensures.chosen.states;
  needs = c.choose_written.ensures.chosen.needs;
  runs = c.choose_written.ensures.chosen.runs;
  power = c.choose_written.ensures.chosen.power;
}

pub log_values-requires-clause-room : goal.log_values-requires-clause-room
log_values-requires-clause-room c =
    let cw = c.choose_written.ensures.chosen in
    let wc = c.wake_changed.ensures.chosen in
    let chosen_by : IsChosen c.args.tables.now c.args.self.now c.wake_changed.new.self = record {
      states = wc.states;
      needs = wc.needs;
      runs = wc.runs;
      power = wc.power;
      kinds = wc.kinds ∙ (c.wake_lines.ensures.items ∙ cw.kinds);
      used = wc.used ∙ cw.used;
      values = wc.values ∙ cw.values;
    }
    in
    chosen_room c.args.tables.now c.args.self.now c.wake_changed.new.self c.args.moved.now c.args.starts.now c.args.notices.now c.requires.room chosen_by

pub log_values-requires-clause-chosen : goal.log_values-requires-clause-chosen
log_values-requires-clause-chosen c = record {
  states = c.wake_changed.ensures.chosen.states;
  needs = c.wake_changed.ensures.chosen.needs;
  runs = c.wake_changed.ensures.chosen.runs;
  power = c.wake_changed.ensures.chosen.power;
}

pub log_values-requires-clause-settled : goal.log_values-requires-clause-settled
log_values-requires-clause-settled c =
    let cw = c.choose_written.ensures.chosen in
    let wc = c.wake_changed.ensures.chosen in
    let chosen_by : IsChosen c.args.tables.now c.args.self.now c.wake_changed.new.self = record {
      states = wc.states;
      needs = wc.needs;
      runs = wc.runs;
      power = wc.power;
      kinds = wc.kinds ∙ (c.wake_lines.ensures.items ∙ cw.kinds);
      used = wc.used ∙ cw.used;
      values = wc.values ∙ cw.values;
    }
    in
    let book = c.args.tables.now in
    let t = book.fixed.topology in
    let w = c.args.changes.now in
    let behind = c.requires.behind in
    let old_kinds : c.args.self.now.kinds.items ≡ map (kind_of_unit t) (units_of t) = c.requires.room.places.kinds in
    let new_kinds : c.wake_changed.new.self.kinds.items ≡ map (kind_of_unit t) (units_of t) = chosen_by.kinds ∙ old_kinds in
    let before_lines : (k : ℕ) → rests_at c.wake_changed.new.self.kinds.awake k ≡ true → rests_at c.wake_lines.new.kinds.awake k ≡ true =
    λ k is. c.wake_changed.ensures.less k is
    in
    written_settled w book c.args.along.now c.args.self.now c.wake_changed.new.self behind chosen_by c.wake_changed.ensures.stay
    (λ k s at is.
    let there : slice_get c.choose_written.new.self.kinds.items k ≡ Some (Entry (Slave s)) =
    ap (λ (ks : List UnitKind). slice_get ks k) (sym (wc.kinds ∙ c.wake_lines.ensures.items)) ∙ at
    in
    let within = (are_apart c.units_stand_in_order.ensures c.kinds_are_exact.ensures t c.wake_changed.new.self.kinds.items new_kinds).within k s at in
    elim (c.choose_written.ensures.rests k s there (c.wake_lines.ensures.less k (before_lines k is))) [
      | inl none ↦ inl (unlisted w book s behind.places within none)
      | inr kept ↦ inr kept
    ])
    (λ k l at is.
    let there : slice_get c.choose_written.new.self.kinds.items k ≡ Some (Reset (Some l)) =
    ap (λ (ks : List UnitKind). slice_get ks k) (sym (wc.kinds ∙ c.wake_lines.ensures.items)) ∙ at
    in
    let within = line_within c.units_stand_in_order.ensures t c.wake_changed.new.self.kinds.items c.args.self.now.values l new_kinds c.requires.room.places.units k at in
    line_clear w book l behind.places within (λ among.
    let awake : rests_at c.wake_lines.new.kinds.awake k ≡ false =
    c.wake_lines.ensures.woken k l there (ap (is_in l) c.lines.ensures ∙ among)
    in
    let clash : false ≡ true = sym awake ∙ before_lines k is in
    cc))

pub log_uses_on-requires : goal.log_uses_on-requires
log_uses_on-requires c =
    ap length c.deref_mut.ensures.value
    ∙ (ap (λ v. length v.items) c.log_values.ensures.written.used ∙ (ap length (c.wake_changed.ensures.chosen.used ∙ c.choose_written.ensures.chosen.used) ∙ c.requires.room.places.used))

pub returns-clause-kept : goal.returns-clause-kept
returns-clause-kept c =
    let cw = c.choose_written.ensures.chosen in
    let wc = c.wake_changed.ensures.chosen in
    let chosen_by : IsChosen c.args.tables.now c.args.self.now c.wake_changed.new.self = record {
      states = wc.states;
      needs = wc.needs;
      runs = wc.runs;
      power = wc.power;
      kinds = wc.kinds ∙ (c.wake_lines.ensures.items ∙ cw.kinds);
      used = wc.used ∙ cw.used;
      values = wc.values ∙ cw.values;
    }
    in
    let written = c.log_values.ensures.written in
    let behind = c.requires.behind in
    let book = c.args.tables.now in
    let w = c.args.changes.now in
    let logged = c.log_uses_on in
    let before_is = c.deref_mut.ensures.value ∙ (ap (λ v. v.items) written.used ∙ (chosen_by.used ∙ behind.kept.used)) in
    let used : logged.new.used ≡ placed (use_of book.now.core) 0 book.fixed.topology.slaves =
    logged.ensures
    ∙ (ap (λ (ps : List ℕ). renewed_on ps use_of book c.deref_mut.result.now) c.slaves.ensures
    ∙ found_anew use_of w book behind.before c.deref_mut.result.now behind.places before_is (use_same w behind.before book.now.core behind.keeps))
    in
    record {
      kinds = ap (λ v. v.items) written.kinds ∙ (chosen_by.kinds ∙ behind.kept.kinds);
      states = ap (λ v. v.items) written.states ∙ chosen_by.states;
      needs = ap (λ v. v.items) written.needs ∙ chosen_by.needs;
      runs = ap (λ v. v.items) written.runs ∙ chosen_by.runs;
      used = written_back logged.new.used c.log_values.new.self.used.items c.log_values.new.self.used.len (logged.auto.used ∙ c.deref_mut.ensures.len) ∙ used;
      power = written.power ∙ chosen_by.power;
      values = written.values;
    }

pub returns-then-has_no_unit-clause-kept : goal.returns-then-has_no_unit-clause-kept
returns-then-has_no_unit-clause-kept c =
    clear_kept c.kinds_are_exact.ensures c.args.changes.now c.args.tables.now c.args.self.now c.requires.behind (c.has_no_unit.ensures c.if-has_no_unit.true)

pub returns-then-has_no_unit-clause-found : goal.returns-then-has_no_unit-clause-found
returns-then-has_no_unit-clause-found c =
    let clear = c.has_no_unit.ensures c.if-has_no_unit.true in
    nothing_found c.kinds_are_exact.ensures c.args.tables.now c.args.along.now c.args.self.now c.args.moved.now c.args.starts.now c.args.notices.now
    c.clear.new.self
    (clear_rests c.kinds_are_exact.ensures c.args.changes.now c.args.tables.now c.args.along.now c.args.self.now c.requires.behind clear (c.requires.still clear.procs))
    c.requires.room.none c.clear.ensures
