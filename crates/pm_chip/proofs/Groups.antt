-- A group of slaves is put one by one.
use Rattle.std.proofs.Common.{◌≡◌, ℕ, ◌+◌, ◌-◌, ◌<◌, List, [], ◌∷◌, ◌++◌, refl, suc, arith, append_assoc}
use Rattle.pm_base.specs.Names.{numbered_node as node}
use Rattle.pm_topology.specs.declared.topology.SlaveDef.{SlaveDef}
use Rattle.pm_chip.specs.declared.classes.Class.{Class}
use Rattle.pm_chip.specs.Chip.{slaves_from}
use Rattle.pm_chip.specs.Classes.{states_of}

-- the first of a group that isn't empty
pub slaves_from-first :
    (first count rest parent : ℕ) (class : Class)
    → count ≡ suc rest
    → slaves_from first count parent class
    ≡ record { node = node first; parent = parent; states = states_of class } ∷ slaves_from (first + 1) rest parent class
slaves_from-first first count rest parent class e = rw e refl

-- after one more slave, what was put and what is left still make the whole
pub put_step :
    (done new whole : List SlaveDef) (slave : SlaveDef) (first place count parent : ℕ) (class : Class)
    → place < count
    → new ≡ done ++ slave ∷ []
    → slave ≡ record { node = node (first + place); parent = parent; states = states_of class }
    → done ++ slaves_from (first + place) (count - place) parent class ≡ whole
    → new ++ slaves_from (first + (place + 1)) (count - (place + 1)) parent class ≡ whole
put_step done new whole slave first place count parent class within put made holds =
    let left : count - place ≡ suc (count - (place + 1)) = omega arith in
    let next : first + place + 1 ≡ first + (place + 1) = omega arith in
    let opened = slaves_from-first (first + place) (count - place) (count - (place + 1)) parent class left in
    let joined = append_assoc done (slave ∷ []) (slaves_from (first + (place + 1)) (count - (place + 1)) parent class) in
    cc
