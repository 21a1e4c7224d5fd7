use Rattle.std.proofs.Common.{◌≡◌, ℕ, ◌⊎◌, true, false, length, take, slice_get, Some}
use Rattle.pm_topology.specs.declared.places.Kind.TheVariants.{Slave}
use Rattle.pm_state.specs.Changes.{is_in}
use Rattle.pm_state.specs.Values.{chosen, need_of}
use Rattle.pm_values.specs.Behind.{is_as_kept, renewed_on}
use Rattle.pm_values.specs.Caches.{FollowNeeds}
use Rattle.pm_values.specs.declared.caches.UnitKind.TheVariants.{Entry}
use Rattle.pm_values.specs.Kinds.{rests_at}
use Rattle.pm_values.proofs.bringing.choose_on.Given as goal

-- the states and needs of the slaves before this place of the list are found anew, and only those of them rest that are as
-- they are kept
abbrev pub invariant-loop-s : goal.invariant-loop-s
invariant-loop-s l = record {
  states_places : length l.states ≡ length l.tables.fixed.topology.slaves;
  needs_places : length l.needs ≡ length l.tables.fixed.topology.slaves;
  kinds : l.kinds.items ≡ l.fn.kinds.items;
  states : l.states ≡ renewed_on (take l.s-index l.places) chosen l.tables l.fn.states;
  needs : l.needs ≡ renewed_on (take l.s-index l.places) need_of l.tables l.fn.needs;
  follow : FollowNeeds l.fn.needs l.needs l.fn.power l.power;
  rests : (j s : ℕ) → slice_get l.fn.kinds.items j ≡ Some (Entry (Slave s)) → rests_at l.kinds.awake j ≡ true
      → (is_in s (take l.s-index l.places) ≡ false) ⊎ (is_as_kept l.fn.states l.used s l.tables ≡ true);
}
