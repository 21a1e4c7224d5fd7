-- What a slot holds, to its user.
use Rattle.std.specs.Prelude.{◌≡◌, Option, Some, None, option_map}
use Rattle.pm_controller.specs.Controls.{Controls}
use Rattle.pm_slot.specs.declared.held.Held.{Held}

-- the controller in it, if there is one
abbrev pub inside : Held → Option Controls
inside held = option_map (λ controller. controller.value) held.controller

-- there is a controller, of which this holds
abbrev pub OfSome : (Controls → Type 0) → Option Controls → Type 0
OfSome P (Some c) = P c
OfSome P None = ⊥

abbrev pub Holds : (Controls → Type 0) → Held → Type 0
Holds P held = OfSome P (inside held)

-- there is a controller in both, and the one leads to the other so
abbrev pub Between : (Controls → Controls → Type 0) → Option Controls → Option Controls → Type 0
Between R (Some old) (Some new) = R old new
Between R _ _ = ⊥

abbrev pub Leads : (Controls → Controls → Type 0) → Held → Held → Type 0
Leads R old new = Between R (inside old) (inside new)
