-- The pairs of a master and a slave that the object permits, each with what is fixed of its row.
use Rattle.std.specs.Prelude.{ℕ, ◌+◌, ◌==◌, ◌&&◌, ◌||◌, Bool, false, if◌then◌else◌, List, [], ◌∷◌, ◌++◌, find, map, Option, Some, None, is_some, bit_and}
use Rattle.std.specs.Option.{option_map, option_or}
use Rattle.pm_base.specs.declared.caps.Caps.{Caps}
use Rattle.pm_object.specs.declared.object.Object.{Object}
use Rattle.pm_object.specs.declared.object.MasterRec.{MasterRec}
use Rattle.pm_object.specs.declared.object.SlaveRec.{SlaveRec}
use Rattle.pm_object.specs.declared.object.PreGroup.{PreGroup}
use Rattle.pm_object.specs.declared.object.PreRec.{PreRec}
use Rattle.pm_topology.specs.declared.topology.SlaveDef.{SlaveDef}
use Rattle.pm_topology.specs.declared.topology.Topology.{Topology}
use Rattle.pm_perms.specs.Permits.{slave_record, mask_has, is_shareable}
use Rattle.pm_base.specs.declared.names.Mode.{Mode}
use Rattle.pm_procs.specs.Modes.{is_awake}
use Rattle.pm_rows.specs.Modes.{mode_in}
use Rattle.pm_rows.specs.declared.row.Pair.{Pair}
use Rattle.pm_rows.specs.declared.row.RowSeed.{RowSeed}
use Rattle.pm_state.specs.declared.pairs.Permitted.{Permitted}
use Rattle.pm_state.specs.Choice.{all_of}
use Rattle.pm_base.specs.Places.{is_place}

-- the first preallocation of a group for a slave, where the group has the master's bit
abbrev pub first_for : MasterRec → SlaveDef → PreGroup → Option PreRec
first_for master slave group =
    if mask_has group.mask master.mask then find (λ (r : PreRec). r.node == slave.node.0) group.recs else None

abbrev pub first_among : MasterRec → SlaveDef → List PreGroup → Option PreRec
first_among master slave [] = None
first_among master slave (group ∷ groups) = option_or (first_for master slave group) (first_among master slave groups)

-- the preallocation of a master for a slave: the first one in object order
abbrev pub preallocation : Object → MasterRec → SlaveDef → Option PreRec
preallocation object master slave = first_among master slave object.groups

-- these capabilities, without those that the slave lacks
abbrev pub cut_to : Caps → ℕ → Caps
cut_to all word = record { 0 = bit_and word all.0 }

-- the capabilities with which a master starts from off
abbrev pub preset_by : Caps → Option PreRec → Caps
preset_by all None = record { 0 = 0 }
preset_by all (Some r) = cut_to all r.preset

-- bit 1 of the flags: the slave is in use from the load on
abbrev pub has_use_flag : PreRec → Bool
has_use_flag r = bit_and r.flags 2 == 2

-- the capabilities with which a preallocation has a slave in use, if it does
abbrev pub current_by : Caps → Option PreRec → Option Caps
current_by all None = None
current_by all (Some r) = if has_use_flag r then Some (cut_to all r.current) else None

-- the pair of the master at place m and the slave at place s, whose record this is
abbrev pub permitted_of : Object → ℕ → MasterRec → ℕ → SlaveDef → SlaveRec → Permitted
permitted_of object m master s slave r = record {
  pair = record {
    master = m;
    slave = s;
    shareable = is_shareable r;
    all = all_of slave.states;
    preset = preset_by (all_of slave.states) (preallocation object master slave);
  };
  current = current_by (all_of slave.states) (preallocation object master slave);
}

-- the permitted pairs of these masters, the first of which has place m, with one slave
abbrev pub permitted_of_masters : Object → ℕ → ℕ → SlaveDef → SlaveRec → List MasterRec → List Permitted
permitted_of_masters object m s slave r [] = []
permitted_of_masters object m s slave r (master ∷ masters) =
    (if mask_has r.mask master.mask then permitted_of object m master s slave r ∷ [] else [])
    ++ permitted_of_masters object (m + 1) s slave r masters

-- the permitted pairs with one slave: none where the object has no record of it
abbrev pub permitted_on : Object → ℕ → SlaveDef → Option SlaveRec → List Permitted
permitted_on object s slave None = []
permitted_on object s slave (Some r) = permitted_of_masters object 0 s slave r object.masters

-- the permitted pairs with these slaves, the first of which has place s
abbrev pub permitted_from : Object → ℕ → List SlaveDef → List Permitted
permitted_from object s [] = []
permitted_from object s (slave ∷ slaves) =
    permitted_on object s slave (slave_record object slave.node) ++ permitted_from object (s + 1) slaves

-- the permitted pairs of a master of the object and a slave of the chip, slave by slave
abbrev pub permitted_in : Object → Topology → List Permitted
permitted_in object t = permitted_from object 0 t.slaves

abbrev pub pair_permitted : Permitted → Pair
pair_permitted p = p.pair

abbrev pub pairs_of : Object → Topology → List Pair
pairs_of object t = map pair_permitted (permitted_in object t)

-- ---- the rows at load, and rows that are made anew

-- the row of a pair that begins so
abbrev pub seed_with : Pair → Option Caps → Bool → RowSeed
seed_with pair start hold = record {
  master = pair.master;
  slave = pair.slave;
  shareable = pair.shareable;
  all = pair.all;
  preset = pair.preset;
  start = start;
  hold = hold;
}

-- at load the rows of the master at place boot, which is active then, are held, and used as the object has it
abbrev pub seed_at_load : ℕ → Permitted → RowSeed
seed_at_load boot p = seed_with p.pair (if p.pair.master == boot then p.current else None) (p.pair.master == boot)

abbrev pub seeds_at_load : ℕ → Object → Topology → List RowSeed
seeds_at_load boot object t = map (seed_at_load boot) (permitted_in object t)

-- in these modes of the masters a pair asks to be used: the object has it in use, and its master is active or suspending
abbrev pub claims : List Mode → Permitted → Bool
claims known p = is_some p.current && is_awake (mode_in p.pair.master known)

-- such a pair with the slave at place s
abbrev pub claims_on : List Mode → ℕ → Permitted → Bool
claims_on known s p = (p.pair.slave == s) && claims known p

-- the master that takes a slave: the first one, in the order of the object, that asks for it
abbrev pub taker : List Mode → ℕ → List Permitted → Option ℕ
taker known s ps = option_map (λ (p : Permitted). p.pair.master) (find (claims_on known s) ps)

-- the capabilities with which a pair is used anew, if it is: it asks to be, and where the slave can't be shared, its master takes
-- the slave
abbrev pub start_anew : List Mode → List Permitted → Permitted → Option Caps
start_anew known ps p =
    if claims known p && (p.pair.shareable || is_place p.pair.master (taker known p.pair.slave ps)) then p.current else None

-- the rows of an object that is put in force, none of which is held
abbrev pub seed_anew : List Mode → List Permitted → Permitted → RowSeed
seed_anew known ps p = seed_with p.pair (start_anew known ps p) false

abbrev pub seeds_among : List Mode → List Permitted → List RowSeed
seeds_among known ps = map (seed_anew known ps) ps

abbrev pub seeds_anew : Object → Topology → List Mode → List RowSeed
seeds_anew object t known = seeds_among known (permitted_in object t)
