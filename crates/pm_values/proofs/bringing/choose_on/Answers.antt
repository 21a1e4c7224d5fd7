use Rattle.std.proofs.Common.{◌≡◌, ℕ, ◌==◌, ◌&&◌, true, not, List, get_or, take, slice_get, unwrap_or, Option, Some, refl, arith, sym, subst, ◌∙◌, ap, inl}
use Rattle.std.proofs.lemmas.Option.{slice_get-get_or}
use Rattle.pm_topology.specs.declared.places.Kind.TheVariants.{Slave}
use Rattle.pm_state.specs.Changes.{is_in}
use Rattle.pm_state.specs.Values.{chosen, need_of, state_at}
use Rattle.pm_values.specs.Behind.{is_as_kept}
use Rattle.pm_values.specs.Caches.{freed_by}
use Rattle.pm_values.specs.declared.caches.UnitKind.{UnitKind}
use Rattle.pm_values.specs.declared.caches.UnitKind.TheVariants.{Entry}
use Rattle.pm_values.proofs.RenewedLaw.{renewed_left, renewed_none, renewed_place, right_place}
use Rattle.pm_values.proofs.FollowLaw.{more_needs, no_need}
use Rattle.pm_values.proofs.bringing.choose_on.Goals as goal

pub loop-s-init : goal.loop-s-init
loop-s-init c =
    let slaves = c.args.tables.now.fixed.topology.slaves in
    let core = c.args.tables.now.now.core in
    record {
      states_places = c.requires.states;
      needs_places = c.requires.needs;
      kinds = c.rest.ensures;
      states = sym (renewed_none (chosen core) 0 slaves c.args.states.now c.requires.states);
      needs = sym (renewed_none (need_of core) 0 slaves c.args.needs.now c.requires.needs);
      follow = no_need c.args.needs.now c.args.power.now;
      rests = λ j s there is. inl refl;
    }

pub loop-s-preserved : goal.loop-s-preserved
loop-s-preserved c =
    let slaves = c.args.tables.now.fixed.topology.slaves in
    let core = c.args.tables.now.now.core in
    let places = c.args.places.now in
    let k = c.loop-s.s-index in
    let p : ℕ = get_or places k 0 in
    let at : slice_get places k ≡ Some p = slice_get-get_or places k 0 c.loop-s-test.true in
    record {
      states_places = c.choose_and_wake.auto.states ∙ c.loop-s.invariant.states_places;
      needs_places = c.choose_and_wake.auto.needs ∙ c.loop-s.invariant.needs_places;
      kinds = c.choose_and_wake.ensures.kinds ∙ c.loop-s.invariant.kinds;
      states = renewed_place (chosen core) places k p slaves c.args.states.now c.loop-s.states c.choose_and_wake.new.states at
          c.loop-s.invariant.states c.choose_and_wake.ensures.states;
      needs = renewed_place (need_of core) places k p slaves c.args.needs.now c.loop-s.needs c.choose_and_wake.new.needs at
          c.loop-s.invariant.needs c.choose_and_wake.ensures.needs;
      follow = more_needs c.args.needs.now c.loop-s.needs c.choose_and_wake.new.needs c.args.power.now c.loop-s.power c.choose_and_wake.new.power
          c.loop-s.invariant.follow c.choose_and_wake.ensures.power;
      rests = λ j s there is.
          right_place (is_as_kept c.args.states.now c.args.used.now s c.args.tables.now ≡ true) places k p s at
          (c.loop-s.invariant.rests j s there (c.choose_and_wake.ensures.others j is))
          (λ same none.
          let own : slice_get c.loop-s.kinds.items j ≡ Some (Entry (Slave p)) =
          ap (λ (ks : List UnitKind). slice_get ks j) c.loop-s.invariant.kinds ∙ (there ∙ ap (λ n. Some (Entry (Slave n))) (sym same))
          in
          let kept : is_as_kept c.loop-s.states c.args.used.now s c.args.tables.now ≡ true =
          ap (λ n. is_as_kept c.loop-s.states c.args.used.now n c.args.tables.now) (sym same) ∙ c.choose_and_wake.ensures.rests j own is
          in
          let item : slice_get c.loop-s.states s ≡ slice_get c.args.states.now s =
          ap (λ (ss : List ℕ). slice_get ss s) c.loop-s.invariant.states
          ∙ renewed_left (chosen core) (λ s. is_in s (take k places)) 0 s s slaves c.args.states.now (omega arith) none
          in
          let So : Option ℕ → Type 0 = λ o. ((state_at s (slice_get slaves s) core == unwrap_or o 0) && not (freed_by c.args.used.now core.rows (Entry (Slave s)))) ≡ true in
          subst So item kept);
    }
