-- The objects of a script's run are well formed if the loaded one is.
use Rattle.std.proofs.Common.{◌≡◌, Bool, true, false, if◌then◌else◌, List, [], ◌∷◌, Some, None, refl}
use Rattle.std.specs.List.{AllByRecursion as Each}
use Rattle.std.specs.Prelude.{option_to_list}
use Rattle.pm_base.proofs.Elements.{AllByRecursion-append}
use Rattle.pm_base.specs.declared.events.Event.{Event}
use Rattle.pm_object.specs.declared.attached.Attached.{Attached}
use Rattle.pm_object.specs.declared.attached.Content.{Content}
use Rattle.pm_object.specs.declared.attached.Content.TheVariants as content
use Rattle.pm_object.specs.declared.object.Object.{Object}
use Rattle.pm_object.specs.Attached.{IsFormed, have_same_masters, usable, usable_content}
use Rattle.pm_object.specs.Grammar.{IsObject}
use Rattle.pm_block.specs.Block.{attached_by}
use Rattle.pm_topology.specs.declared.topology.Topology.{Topology}
use Rattle.pm_state.specs.State.{objects_of, usable_among}
use Rattle.pm_run.specs.Run.{fixed_of, setup_for}

-- the object, if one can be put in force, among the contents attached at an address
one_formed : (object : Object) (it : Content) → ((o : Object) → it ≡ content.Object o → IsObject o) → Each IsObject (option_to_list (usable_content object it))
one_formed object (content.Object o) formed = by (have_same_masters object.masters o.masters)
  where
    by : (same : Bool) → Each IsObject (option_to_list (if same then Some o else None))
    by true = (formed o refl, tt)
    by false = tt
one_formed object (content.Bad fault) formed = tt

usable_formed : (object : Object) (attached : List Attached) → Each IsFormed attached → Each IsObject (usable_among object attached)
usable_formed object [] formed = tt
usable_formed object (it ∷ later) formed =
    AllByRecursion-append IsObject (option_to_list (usable object it)) (usable_among object later)
    (one_formed object it.content formed.0) (usable_formed object later formed.1)

pub objects_formed : ((events : List Event) → Each IsFormed (attached_by events)) → (object : Object) (t : Topology) (events : List Event) → IsObject object
    → Each IsObject (objects_of (fixed_of (setup_for object t events)))
objects_formed formed object t events is = (is, usable_formed object (attached_by events) (formed events))
