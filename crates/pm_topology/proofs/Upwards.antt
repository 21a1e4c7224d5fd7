-- One step of the way up.
use Rattle.std.proofs.Common.{◌≡◌, ℕ, ◌+◌, ◌-◌, ◌<◌, ◌==◌, ◌||◌, Bool, true, false, Option, Some, None, List, length, refl, zero, suc, arith}
use Rattle.std.specs.List.{list_any}
use Rattle.pm_topology.specs.declared.topology.PowerDef.{PowerDef}
use Rattle.pm_topology.specs.Places.{upwards, power_parent}
use Rattle.pm_base.proofs.Booleans.{unequal}

passes : (a b : Bool) → a ≡ false → (a || b) ≡ b
passes false b e = refl
passes true b e = cc

-- from nowhere one meets nothing
pub stops : (powers : List PowerDef) (w left : ℕ) → list_any (λ v. v == w) (upwards left powers None) ≡ false
stops powers w zero = refl
stops powers w (suc left) = refl

-- with a step to go, one meets the node that one stands at, and then what is above it
pub climbs : (powers : List PowerDef) (w left next v : ℕ)
    → left ≡ suc next
    → list_any (λ v. v == w) (upwards left powers (Some v))
    ≡ ((v == w) || list_any (λ v. v == w) (upwards next powers (power_parent powers v)))
climbs powers w left next v e = rw e refl

-- where one doesn't stand at w, the rest of the way meets it exactly where the whole does
pub climb_on : (powers : List PowerDef) (w k v : ℕ) (at next : Option ℕ) (whole : Bool)
    → k < length powers
    → at ≡ Some v
    → (v ≡ w → ⊥)
    → next ≡ power_parent powers v
    → list_any (λ v. v == w) (upwards (length powers - k) powers at) ≡ whole
    → list_any (λ v. v == w) (upwards (length powers - (k + 1)) powers next) ≡ whole
climb_on powers w k v at next whole within is differs steps holds =
    let left : length powers - k ≡ suc (length powers - (k + 1)) = omega arith in
    let opened = climbs powers w (length powers - k) (length powers - (k + 1)) v left in
    let off = unequal v w differs in
    let on = passes (v == w) (list_any (λ v. v == w) (upwards (length powers - (k + 1)) powers (power_parent powers v))) off in
    cc
