-- What a device of units shows at a moment, and on which units an order is refused.
use Rattle.std.specs.Prelude.{ℕ, ◌+◌, ◌-◌, ◌^◌, ◌≤◌, ◌==◌, min, Bool, true, false, not, ◌&&◌, ◌||◌, nat_lt, if◌then◌else◌, List, [], ◌∷◌, ◌++◌, filter}
use Rattle.std.specs.List.{list_any, list_all}
use Rattle.pm_base.specs.declared.names.Unit.{Unit}
use Rattle.pm_base.specs.declared.names.Unit.TheVariants.{Node, Line}

-- the value of each unit, the units that the device has, its broken nodes in rising order, and how often it refused
pub record DeviceMoment : Type 0 where
  pub value : Unit → ℕ
  pub has : Unit → Bool
  pub broken : List ℕ
  pub faults : ℕ

-- a unit is one of these broken nodes
abbrev pub is_broken : List ℕ → Unit → Bool
is_broken broken (Node n) = list_any (λ m. m == n.0) broken
is_broken broken (Line l) = false

-- an order on this unit is refused: the device doesn't have it, or it is a broken node
abbrev pub fails : DeviceMoment → Unit → Bool
fails now unit = not (now.has unit) || is_broken now.broken unit

-- a count of faults rose by this much, or stands at its last value
abbrev pub RoseBy : ℕ → ℕ → ℕ → Type 0
RoseBy by before now = min (before + by) (2 ^ 64 - 1) ≤ now

-- a list of numbers rises: each is less than all later ones
abbrev pub rises : List ℕ → Bool
rises [] = true
rises (n ∷ ns) = list_all (nat_lt n) ns && rises ns

-- the broken nodes once a node of the device is broken or mended
abbrev pub rigged : ℕ → Bool → List ℕ → List ℕ
rigged node broken before =
    filter (λ m. nat_lt m node) before ++ ((if broken then node ∷ [] else []) ++ filter (λ m. nat_lt node m) before)
