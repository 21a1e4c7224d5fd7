use Rattle.std.proofs.Common.{◌≡◌, ℕ, true, false, take, slice_get, Some}
use Rattle.pm_state.specs.Changes.{is_in}
use Rattle.pm_values.specs.declared.caches.UnitKind.TheVariants.{Reset}
use Rattle.pm_values.specs.Kinds.{RestLess, rests_at}
use Rattle.pm_values.proofs.bringing.wake_lines.Given as goal

-- the units of the lines before this place of the list don't rest
abbrev pub invariant-loop-l : goal.invariant-loop-l
invariant-loop-l l = record {
  items : l.kinds.items ≡ l.fn.kinds.items;
  woken : (k j : ℕ) → slice_get l.fn.kinds.items k ≡ Some (Reset (Some j)) → is_in j (take l.l-index l.places) ≡ true
      → rests_at l.kinds.awake k ≡ false;
  less : RestLess l.fn.kinds.awake l.kinds.awake;
}
