-- Two books of one object agree beyond the reach of a master at load.
use Rattle.std.proofs.Common.{◌≡◌, ◌==◌, ◌++◌, ℕ, Bool, true, false, IsTrue, List, [], ◌∷◌, map, Option, Some, None, nat_eq, refl, ap, subst, sym}
use Rattle.std.specs.List.{AllByRecursion as Each, list_any}
use Rattle.std.specs.Prelude.{if◌then◌else◌, option_to_list}
use Rattle.std.specs.Option.{option_eq}
use Rattle.std.proofs.lemmas.Bool.{eqb-true}
use Rattle.pm_base.specs.declared.names.NodeId.{NodeId}
use Rattle.pm_object.specs.declared.attached.Attached.{Attached}
use Rattle.pm_object.specs.declared.object.MasterRec.{MasterRec}
use Rattle.pm_object.specs.declared.object.Object.{Object}
use Rattle.pm_object.specs.Attached.{have_same_masters}
use Rattle.pm_object.specs.Grammar.{IsObject}
use Rattle.pm_topology.specs.declared.topology.Topology.{Topology}
use Rattle.pm_state.specs.Load.{load_of}
use Rattle.pm_state.specs.State.{State, usable_among}
use Rattle.pm_laws.specs.Agree.{Agree}
use Rattle.pm_laws.specs.Border.{AreObjects}
use Rattle.pm_laws.specs.ReachBorder.{border_of}
use Rattle.test_two_runs.specs.Sides.{AreSides, at_4096}

-- the master is one of the object
abbrev pub IsNamed : NodeId → Object → Type 0
IsNamed m object = IsTrue (list_any (λ (r : MasterRec). r.node == m.0) object.masters)

-- the objects of a run are well formed if the loaded one and the attached ones are
usable_formed : (object : Object) (others : List Object) → Each IsObject others → Each IsObject (usable_among object (map at_4096 others))
usable_formed object [] formed = tt
usable_formed object (other ∷ others) formed = by (have_same_masters object.masters other.masters) (usable_formed object others formed.1)
  where
    by : (same : Bool) → Each IsObject (usable_among object (map at_4096 others))
        → Each IsObject (option_to_list (if same then Some other else None) ++ usable_among object (map at_4096 others))
    by true later = (formed.0, later)
    by false later = later

pub objects_formed : (object : Object) (others : List Object) (attached : List Attached) (chip : Topology) → IsObject object → Each IsObject others
    → attached ≡ map at_4096 others → AreObjects (record { object = object; topology = chip; attached = attached })
objects_formed object others attached chip is formed made =
    (is, subst (λ (list : List Attached). Each IsObject (usable_among object list)) (sym made) (usable_formed object others formed))

pub sides_at_load : (m : NodeId) (object : Object) (attached : List Attached) (chip : Topology) (loud quiet : State)
    → AreObjects (record { object = object; topology = chip; attached = attached }) → IsNamed m object
    → Agree (border_of (record { object = object; topology = chip; attached = attached }) m) (load_of object attached chip) (load_of object attached chip)
    → loud ≡ load_of object attached chip → quiet ≡ load_of object attached chip → AreSides m loud quiet
sides_at_load m object attached chip loud quiet are named agree first second =
    let start : State = load_of object attached chip in
    subst (λ (b : State). AreSides m b quiet) (sym first) (subst (λ (b : State). AreSides m start b) (sym second) (record { object = are; named = named; agree = agree }))

-- places that are found equal are equal
pub same_place : (one other : Option ℕ) → option_eq nat_eq one other ≡ true → one ≡ other
same_place None None is = refl
same_place None (Some k) is = cc
same_place (Some j) None is = cc
same_place (Some j) (Some k) is = ap Some (eqb-true j k is)
