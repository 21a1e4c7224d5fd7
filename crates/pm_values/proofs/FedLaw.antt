-- In the values of a book each node that needs power stands under a power node that is up.
use Rattle.std.proofs.Common.{◌≡◌, ℕ, ◌+◌, ◌≤◌, ◌==◌, ◌⊎◌, Bool, true, false, cond, slice_get, Option, Some, None, refl, arith, ap, sym, ◌∙◌, subst, length, inl, inr}
use Rattle.std.specs.Option.{option_map_or}
use Rattle.std.specs.Prelude.{option_map, option_and_then}
use Rattle.pm_base.proofs.Booleans.{at_most_one}
use Rattle.pm_base.proofs.ListLemmas.{slice_get-append_left, slice_get-append_right}
use Rattle.pm_topology.specs.declared.topology.PowerDef.{PowerDef}
use Rattle.pm_topology.specs.declared.topology.ProcDef.{ProcDef}
use Rattle.pm_topology.specs.declared.topology.SlaveDef.{SlaveDef}
use Rattle.pm_topology.specs.declared.places.Kind.{Kind}
use Rattle.pm_topology.specs.declared.places.Kind.TheVariants.{Proc, Slave, Power, Unknown}
use Rattle.pm_topology.specs.Places.{kind_of, parent_at}
use Rattle.pm_topology.specs.Units.{kind_needs_power, needs_in}
use Rattle.pm_topology.specs.WellFormed.{IsWellFormed}
use Rattle.pm_power.specs.Forest.{is_up, IsHeld, ChildNeeds, PowerNeeds}
use Rattle.pm_state.specs.Fed.{IsFed}
use Rattle.pm_state.specs.State.{State}
use Rattle.pm_state.specs.Values.{placed, runs, state_at, slave_child, proc_child, forest, value_at, value}
use Rattle.pm_values.proofs.Below.{ValueLaws}
use Rattle.pm_values.proofs.MetLaw.{power_value, power_meets}
use Rattle.pm_state.proofs.PlacedLemmas.{slice_get-placed}

-- a slave that needs power in its state is a child that needs the power node above it
slave_feeds : (book : State) (s w : ℕ) (got : Option SlaveDef)
    → slice_get book.fixed.topology.slaves s ≡ got
    → option_map (λ (s : SlaveDef). s.parent) got ≡ Some w
    → option_map_or (needs_in (state_at s got book.now.core)) got false ≡ true
    → ChildNeeds (forest book.fixed book.now.core) w
slave_feeds book s w None here parent need = cc
slave_feeds book s w (Some slave) here parent need =
    let core = book.now.core in
    let made : slice_get (placed (slave_child core) 0 book.fixed.topology.slaves) s ≡ Some (slave_child core s slave) =
    slice_get-placed (slave_child core) 0 book.fixed.topology.slaves s s (omega arith) ∙ ap (option_map (slave_child core s)) here
    in (
      s,
      slave_child core s slave,
      slice_get-append_left (placed (slave_child core) 0 book.fixed.topology.slaves) (placed (proc_child core) 0 book.fixed.topology.procs) s (slave_child core s slave) made,
      (let e : Some slave.parent ≡ Some w = parent in cc),
      need,
    )

-- a processor that runs is one, too
proc_feeds : (book : State) (p w : ℕ) (got : Option ProcDef)
    → slice_get book.fixed.topology.procs p ≡ got
    → option_map (λ (p : ProcDef). p.parent) got ≡ Some w
    → runs book.now.core p ≡ true
    → ChildNeeds (forest book.fixed book.now.core) w
proc_feeds book p w None here parent need = cc
proc_feeds book p w (Some proc) here parent need =
    let core = book.now.core in
    let slaves = placed (slave_child core) 0 book.fixed.topology.slaves in
    let procs = placed (proc_child core) 0 book.fixed.topology.procs in
    let made : slice_get procs p ≡ Some (proc_child core p proc) =
    slice_get-placed (proc_child core) 0 book.fixed.topology.procs p p (omega arith) ∙ ap (option_map (proc_child core p)) here
    in (
      length slaves + p,
      proc_child core p proc,
      slice_get-append_right slaves procs p ∙ made,
      (let e : Some proc.parent ≡ Some w = parent in cc),
      need,
    )

-- a power node that is up needs the one above it
power_feeds : (book : State) (v w : ℕ) (got : Option PowerDef)
    → slice_get book.fixed.topology.powers v ≡ got
    → option_and_then (λ (p : PowerDef). p.parent) got ≡ Some w
    → is_up (forest book.fixed book.now.core) v ≡ true
    → PowerNeeds (forest book.fixed book.now.core) w
power_feeds book v w None here parent up = cc
power_feeds book v w (Some power) here parent up = (v, power, here, parent, up)

one_where : (b : Bool) → (cond b 1 0 == 1) ≡ true → b ≡ true
one_where true is = refl
one_where false is = cc

-- what needs power in its value keeps the power node above it up
pub feeds : (book : State) (kind : Kind) (w : ℕ)
    → IsWellFormed book.fixed.topology
    → parent_at book.fixed.topology kind ≡ Some w
    → kind_needs_power book.fixed.topology kind (value_at kind book.fixed book.now.core) ≡ true
    → IsHeld (forest book.fixed book.now.core) w ⊎ (ChildNeeds (forest book.fixed book.now.core) w ⊎ PowerNeeds (forest book.fixed book.now.core) w)
feeds book (Slave s) w well parent need = inr (inl (slave_feeds book s w (slice_get book.fixed.topology.slaves s) refl parent need))
feeds book (Power v) w well parent need =
    inr (inr (power_feeds book v w (slice_get book.fixed.topology.powers v) refl parent (one_where (is_up (forest book.fixed book.now.core) v) need)))
feeds book (Proc p) w well parent need =
    inr (inl (proc_feeds book p w (slice_get book.fixed.topology.procs p) refl parent (one_where (runs book.now.core p) need)))
feeds book Unknown w well parent need = cc

pub values_fed : ValueLaws → (book : State) → IsWellFormed book.fixed.topology → IsFed book.fixed.topology (λ u. value u book)
values_fed laws book well =
    record {
      fed = λ node w power parent here need. (power_meets laws w book power well here).1 (feeds book (kind_of book.fixed.topology node) w well parent need);
      up_or_down = λ w power here.
          let P : ℕ → Type 0 = λ n. n ≤ 1 in
          subst P (sym (power_value laws w book power well here)) (at_most_one (is_up (forest book.fixed book.now.core) w));
    }
