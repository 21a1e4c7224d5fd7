-- The objects of a book at load are well formed.
use Rattle.std.proofs.Common.{◌≡◌, Bool, true, false, cond, List, [], ◌∷◌, Some, None, refl}
use Rattle.std.specs.Prelude.{option_to_list}
use Rattle.std.specs.List.{AllByRecursion as Each}
use Rattle.pm_base.proofs.Elements.{AllByRecursion-append}
use Rattle.pm_object.specs.Attached.{IsFormed, have_same_masters, usable, usable_content}
use Rattle.pm_object.specs.Grammar.{IsObject}
use Rattle.pm_object.specs.declared.attached.Attached.{Attached}
use Rattle.pm_object.specs.declared.attached.Content.{Content}
use Rattle.pm_object.specs.declared.attached.Content.TheVariants as content
use Rattle.pm_object.specs.declared.object.Object.{Object}
use Rattle.pm_state.specs.State.{usable_among}

by_test : (object : Object) (same : Bool) → IsObject object → Each IsObject (option_to_list (cond same (Some object) None))
by_test object true formed = (formed, tt)
by_test object false formed = tt

by_content : (loaded : Object) (c : Content) → ((object : Object) → c ≡ content.Object object → IsObject object) → Each IsObject (option_to_list (usable_content loaded c))
by_content loaded (content.Bad fault) formed = tt
by_content loaded (content.Object object) formed = by_test object (have_same_masters loaded.masters object.masters) (formed object refl)

pub among_formed : (loaded : Object) (attached : List Attached) → Each IsFormed attached → Each IsObject (usable_among loaded attached)
among_formed loaded [] each = tt
among_formed loaded (a ∷ later) each =
    AllByRecursion-append IsObject (option_to_list (usable loaded a)) (usable_among loaded later) (by_content loaded a.content each.0) (among_formed loaded later each.1)
