-- What stands at an address: nothing, words that are no object, an object that can't be put in force, or one that can.
use Rattle.std.specs.Prelude.{ℕ, ◌+◌, ◌==◌, Bool, if◌then◌else◌, is_some, find, option_and_then, Option, List, [], ◌∷◌}
use Rattle.pm_object.specs.Attached.{usable}
use Rattle.pm_object.specs.declared.attached.Attached.{Attached}
use Rattle.pm_object.specs.declared.attached.Content.{Content}
use Rattle.pm_object.specs.declared.attached.Content.TheVariants as content
use Rattle.pm_object.specs.declared.object.Object.{Object}
use Rattle.pm_state.specs.declared.objects.Found.{Found}
use Rattle.pm_state.specs.declared.objects.Found.TheVariants as found
use Rattle.pm_state.specs.State.{Fixed}

-- what a content is, by whether it can be put in force: it is then the object at place k of the run
abbrev pub found_as : ℕ → Content → Bool → Found
found_as k (content.Bad fault) is_usable = found.Unreadable fault
found_as k (content.Object object) is_usable = if is_usable then found.Usable k else found.Unusable

-- what is attached can be put in force in place of the loaded object
abbrev pub is_usable : Object → Attached → Bool
is_usable object attached = is_some (usable object attached)

-- what stands at an address among these, the first usable one of which is the object at place k of the run
abbrev pub found_from : Object → ℕ → ℕ → List Attached → Found
found_from object address k [] = found.Nothing
found_from object address k (attached ∷ later) =
    if attached.address == address then found_as k attached.content (is_usable object attached)
    else found_from object address (if is_usable object attached then k + 1 else k) later

-- what stands at an address. The object at place 0 of the run is the loaded one
abbrev pub found_at : ℕ → Fixed → Found
found_at address fixed = found_from fixed.object address 1 fixed.attached

-- what is attached first at an address, where that can be put in force
abbrev pub first_attached : ℕ → List Attached → Option Attached
first_attached address attached = find (λ (a : Attached). a.address == address) attached

abbrev pub usable_first : Object → ℕ → List Attached → Option Object
usable_first object address attached = option_and_then (usable object) (first_attached address attached)
