use Rattle.std.proofs.Common.{◌≡◌, ℕ, ◌==◌, ◌&&◌, ◌||◌, Bool, true, false, List, get_or, take, slice_get, Some, refl, ap, sym, ◌∙◌}
use Rattle.std.proofs.lemmas.Bool.{eqb-true}
use Rattle.std.proofs.lemmas.Option.{slice_get-get_or}
use Rattle.pm_state.specs.Changes.{is_in}
use Rattle.pm_values.specs.declared.caches.UnitKind.{UnitKind}
use Rattle.pm_values.specs.declared.caches.UnitKind.TheVariants.{Reset}
use Rattle.pm_values.specs.Kinds.{rests_at}
use Rattle.pm_values.proofs.BringLaw.{awake_still}
use Rattle.pm_values.proofs.RenewedLaw.{in_next}
use Rattle.pm_values.proofs.bringing.wake_lines.Goals as goal

pub loop-l-init : goal.loop-l-init
loop-l-init c = record { items = refl; woken = λ k j at among. cc; less = λ k is. is }

pub wake_line-requires-clause-kinds : goal.wake_line-requires-clause-kinds
wake_line-requires-clause-kinds c = c.loop-l.invariant.items ∙ c.requires.kinds

pub loop-l-preserved : goal.loop-l-preserved
loop-l-preserved c =
    let places = c.args.places.now in
    let i = c.loop-l.l-index in
    let p : ℕ = get_or places i 0 in
    let there : slice_get places i ≡ Some p = slice_get-get_or places i 0 c.loop-l-test.true in
    record {
      items = c.wake_line.ensures.items ∙ c.loop-l.invariant.items;
      woken = λ k j at among.
          let here : (b : Bool) → (p == j) ≡ b → (before : Bool) → is_in j (take i places) ≡ before → (before || (b && true)) ≡ true → rests_at c.wake_line.new.kinds.awake k ≡ false =
          λ b is before was so. by k j at b is before was so
          in
          here (p == j) refl (is_in j (take i places)) refl (sym (in_next {A = ℕ} (λ s slave. 0) places i p j there) ∙ among);
      less = λ k is. c.loop-l.invariant.less k (c.wake_line.ensures.less k is);
    }
  where
    by : (k j : ℕ) → slice_get c.args.kinds.now.items k ≡ Some (Reset (Some j)) → (b : Bool) → (get_or c.args.places.now c.loop-l.l-index 0 == j) ≡ b → (before : Bool) → is_in j (take c.loop-l.l-index c.args.places.now) ≡ before
        → (before || (b && true)) ≡ true → rests_at c.wake_line.new.kinds.awake k ≡ false
    by k j at b is true was so =
        awake_still c.loop-l.kinds.awake c.wake_line.new.kinds.awake k (c.wake_line.ensures.less k) (c.loop-l.invariant.woken k j at was)
    by k j at true is false was so =
        let same : get_or c.args.places.now c.loop-l.l-index 0 ≡ j = eqb-true _ _ is in
        c.wake_line.ensures.woken k
        (ap (λ (ks : List UnitKind). slice_get ks k) c.loop-l.invariant.items ∙ (at ∙ ap (λ n. Some (Reset (Some n))) (sym same)))
    by k j at false is false was so = cc
