-- The objects that the first lines of a script attach, and which of them can be put in force.
use Rattle.std.specs.Prelude.{◌≡◌, Bool, true, false, ◌==◌, ◌&&◌, if◌then◌else◌, List, [], ◌∷◌, Option, Some, None}
use Rattle.pm_object.specs.Grammar.{IsObject}
use Rattle.pm_object.specs.declared.object.MasterRec.{MasterRec}
use Rattle.pm_object.specs.declared.object.Object.{Object}
use Rattle.pm_object.specs.declared.attached.Attached.{Attached}
use Rattle.pm_object.specs.declared.attached.Content.{Content}
use Rattle.pm_object.specs.declared.attached.Content.TheVariants as content

-- two masters have the same node and the same mask; what else is said of them may differ
abbrev pub is_same_master : MasterRec → MasterRec → Bool
is_same_master a b = (a.node == b.node) && (a.mask == b.mask)

-- these masters have the nodes and the masks of those, in the same order
abbrev pub have_same_masters : List MasterRec → List MasterRec → Bool
have_same_masters [] [] = true
have_same_masters [] (b ∷ bs) = false
have_same_masters (a ∷ more) [] = false
have_same_masters (a ∷ more) (b ∷ bs) = is_same_master a b && have_same_masters more bs

-- a content that can be put in force in place of the loaded object: an object with the same masters
abbrev pub usable_content : Object → Content → Option Object
usable_content loaded (content.Object object) = if have_same_masters loaded.masters object.masters then Some object else None
usable_content loaded (content.Bad fault) = None

abbrev pub usable : Object → Attached → Option Object
usable loaded attached = usable_content loaded attached.content

-- where what is attached is an object, that is well formed
abbrev pub IsFormed : Attached → Type 0
IsFormed attached = (object : Object) → attached.content ≡ content.Object object → IsObject object
