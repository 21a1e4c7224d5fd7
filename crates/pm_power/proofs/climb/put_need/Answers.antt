use Rattle.std.proofs.Common.{false, ◌≡◌, ℕ, ◌+◌, ◌<◌, ◌≤◌, Some, None, Option, Bool, cond, refl, sym, ◌∙◌, ap, subst, arith, length}
use Rattle.std.specs.Prelude.{slice_set, slice_index, nat_lt, IfSome, ◌||◌, List}
use Rattle.std.proofs.lemmas.Option.{slice_get-get_or}
use Rattle.pm_power.specs.Uses.{AreCounted, changes, levels, with_need, counted_by, room}
use Rattle.pm_power.proofs.Following.{need_put, climb_ends, climb_goes_on, turns, level_step, count_has_few, within_put, within_from, room_falls, get_at, earlier, apart_from_test, same_from_test, put_nothing, need_changes}
use Rattle.pm_power.proofs.climb.put_need.Goals as goal

pub levels-init : goal.levels-init
levels-init g c = record {
  counted = need_put c.args.children.now c.args.powers.now c.args.counts.now c.args.ups.now c.args.k c.child_at-child.result c.args.on c.requires.counted c.child_at-child.ensures (apart_from_test c.child_at-child.result.needs c.args.on c.if-child-on.false);
  within = c.requires.within.parents c.args.k c.child_at-child.result c.child_at-child.ensures;
  cost = omega arith;
}

pub count-requires-clause-few : goal.count-requires-clause-few
count-requires-clause-few g c =
    let P : Option ℕ → Type 0 = λ at. AreCounted (slice_set c.args.children.now c.args.k (with_need c.args.on c.child_at-child.result)) c.args.powers.now c.levels.counts c.levels.ups c.args.on at in
    let Q : Option ℕ → Type 0 = λ at. IfSome at (λ w. w < length c.args.powers.now) in
    count_has_few _ _ _ _ c.args.on (Some c.in-Some.w) c.in-Some.w (subst P c.in-Some.is c.levels.invariant.counted)
    (within_put c.args.children.now c.args.powers.now c.args.k c.child_at-child.result c.args.on c.requires.within c.child_at-child.ensures)
    (subst Q c.in-Some.is c.levels.invariant.within)

pub returns-clause-within : goal.returns-clause-within
returns-clause-within g c =
    within_put c.args.children.now c.args.powers.now c.args.k c.child_at-child.result c.args.on c.requires.within c.child_at-child.ensures

pub levels-preserved-then-up-ups : goal.levels-preserved-then-up-ups
levels-preserved-then-up-ups g c =
    let P : Option ℕ → Type 0 = λ at. AreCounted (slice_set c.args.children.now c.args.k (with_need c.args.on c.child_at-child.result)) c.args.powers.now c.levels.counts c.levels.ups c.args.on at in
    let Q : Option ℕ → Type 0 = λ at. IfSome at (λ w. w < length c.args.powers.now) in
    let R : Option ℕ → Type 0 = λ at. c.levels.steps + levels c.args.powers.now at ≤ c.args.steps.now + levels c.args.powers.now (Some c.child_at-child.result.parent) in
    let S : List ℕ → Type 0 = λ counts. AreCounted (slice_set c.args.children.now c.args.k (with_need c.args.on c.child_at-child.result)) c.args.powers.now counts c.levels.ups c.args.on None in
    let counted = subst P c.in-Some.is c.levels.invariant.counted in
    let within : c.in-Some.w < length c.args.powers.now = subst Q c.in-Some.is c.levels.invariant.within in
    let cost = subst R c.in-Some.is c.levels.invariant.cost in
    let up : c.is_up-up.result ≡ (c.power_at-power.result.held || nat_lt 0 (slice_index (counted_by c.args.on c.in-Some.w c.levels.counts) c.in-Some.w)) =
    c.is_up-up.ensures ∙ ap (λ n. c.power_at-power.result.held || nat_lt 0 n) (c.value.ensures ∙ ap (λ cs. slice_index cs c.in-Some.w) c.count.ensures.count)
    in
    let level = level_step c.args.powers.now c.in-Some.w c.power_at-power.result c.requires.after c.power_at-power.ensures in
    record {
      counted = subst S (sym c.count.ensures.count)
          (climb_ends _ _ _ _ c.args.on c.in-Some.w c.power_at-power.result c.is_up-up.result counted c.power_at-power.ensures within up
          (get_at c.levels.ups c.in-Some.w false c.is_up-up.result (omega (arith, counted.up_places)) (same_from_test c.is_up-up.result _ c.if-up-ups.true)));
      within = tt;
      cost = omega (arith, c.count.ensures.steps, cost, level);
    }

pub levels-smaller : goal.levels-smaller
levels-smaller g c =
    let Q : Option ℕ → Type 0 = λ at. IfSome at (λ w. w < length c.args.powers.now) in
    let within : c.in-Some.w < length c.args.powers.now = subst Q c.in-Some.is c.levels.invariant.within in
    let below = earlier c.args.powers.now c.in-Some.w c.power_at-power.result c.requires.after c.power_at-power.ensures within in
    let R : Option ℕ → Type 0 = λ at. room c.power_at-power.result.parent < room at in
    subst R (sym c.in-Some.is) (room_falls c.power_at-power.result.parent c.in-Some.w below)

pub levels-preserved : goal.levels-preserved
levels-preserved g c =
    let P : Option ℕ → Type 0 = λ at. AreCounted (slice_set c.args.children.now c.args.k (with_need c.args.on c.child_at-child.result)) c.args.powers.now c.levels.counts c.levels.ups c.args.on at in
    let Q : Option ℕ → Type 0 = λ at. IfSome at (λ w. w < length c.args.powers.now) in
    let R : Option ℕ → Type 0 = λ at. c.levels.steps + levels c.args.powers.now at ≤ c.args.steps.now + levels c.args.powers.now (Some c.child_at-child.result.parent) in
    let S : List ℕ → Type 0 = λ counts. AreCounted (slice_set c.args.children.now c.args.k (with_need c.args.on c.child_at-child.result)) c.args.powers.now counts (slice_set c.levels.ups c.in-Some.w c.is_up-up.result) c.args.on c.power_at-power.result.parent in
    let counted = subst P c.in-Some.is c.levels.invariant.counted in
    let within : c.in-Some.w < length c.args.powers.now = subst Q c.in-Some.is c.levels.invariant.within in
    let cost = subst R c.in-Some.is c.levels.invariant.cost in
    let up : c.is_up-up.result ≡ (c.power_at-power.result.held || nat_lt 0 (slice_index (counted_by c.args.on c.in-Some.w c.levels.counts) c.in-Some.w)) =
    c.is_up-up.ensures ∙ ap (λ n. c.power_at-power.result.held || nat_lt 0 n) (c.value.ensures ∙ ap (λ cs. slice_index cs c.in-Some.w) c.count.ensures.count)
    in
    let level = level_step c.args.powers.now c.in-Some.w c.power_at-power.result c.requires.after c.power_at-power.ensures in
    let below = earlier c.args.powers.now c.in-Some.w c.power_at-power.result c.requires.after c.power_at-power.ensures within in
    let there = slice_get-get_or c.levels.ups c.in-Some.w false (omega (arith, counted.up_places)) in
    record {
      counted = subst S (sym c.count.ensures.count)
          (climb_goes_on _ _ _ _ c.args.on c.in-Some.w c.power_at-power.result c.is_up-up.result _ counted c.power_at-power.ensures within up there
          (turns _ _ _ _ c.args.on c.in-Some.w c.power_at-power.result c.is_up-up.result _ counted c.power_at-power.ensures within up there (apart_from_test c.is_up-up.result _ c.if-up-ups.false)));
      within = within_from c.power_at-power.result.parent c.in-Some.w (length c.args.powers.now) below within;
      cost = omega (arith, c.count.ensures.steps, cost, level);
    }

pub returns-then-child-on-clause-children : goal.returns-then-child-on-clause-children
returns-then-child-on-clause-children g c = record {
  child = c.child_at-child.result;
  here = c.child_at-child.ensures;
  put = put_nothing c.args.children.now c.args.k c.child_at-child.result c.args.on c.child_at-child.ensures (same_from_test c.child_at-child.result.needs c.args.on c.if-child-on.true);
  cost = omega arith;
}

pub returns-clause-children : goal.returns-clause-children
returns-clause-children g c =
    let child = c.child_at-child.result in
    let due : cond (changes child.needs c.args.on) (levels c.args.powers.now (Some child.parent)) 0 ≡ levels c.args.powers.now (Some child.parent) =
    ap (λ (b : Bool). cond b (levels c.args.powers.now (Some child.parent)) 0) (need_changes child.needs c.args.on (apart_from_test child.needs c.args.on c.if-child-on.false))
    in
    record { child = child; here = c.child_at-child.ensures; put = refl; cost = omega (arith, due, c.levels.invariant.cost) }
