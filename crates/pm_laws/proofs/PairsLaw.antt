-- Each permitted pair is one of a master of the object and a slave of the chip which that master may use.
use Rattle.std.proofs.Common.{◌≡◌, ℕ, ◌+◌, Bool, true, false, if◌then◌else◌, map, unwrap_or, List, [], ◌∷◌, slice_get, Option, Some, None, refl, ap, ◌∙◌}
use Rattle.std.specs.List.{AllByRecursion as Each}
use Rattle.std.specs.Option.{option_map, option_map_or}
use Rattle.std.proofs.lemmas.Option.{slice_get-map}
use Rattle.pm_laws.proofs.Common.{MasterRec, Object, Pair, Topology}
use Rattle.pm_base.proofs.Elements.{AllByRecursion-append}
use Rattle.pm_object.specs.declared.object.SlaveRec.{SlaveRec}
use Rattle.pm_topology.specs.declared.topology.SlaveDef.{SlaveDef}
use Rattle.pm_perms.specs.Permits.{mask_has, slave_record}
use Rattle.pm_grants.specs.declared.grants.MasterMasks.{MasterMasks}
use Rattle.pm_grants.specs.Grants.{bit_of, grants_of, mask_at, master_masks, permits_use, slave_mask}
use Rattle.pm_state.specs.declared.pairs.Permitted.{Permitted}
use Rattle.pm_state.specs.Pairs.{pair_permitted, pairs_of, permitted_from, permitted_in, permitted_of, permitted_of_masters, permitted_on}
use Rattle.pm_laws.proofs.Places.{StandsFrom, stands_first, stands_from_start, stands_later}

-- the object permits the pair
pub record IsPermitted (object : Object) (t : Topology) (pair : Pair) : Type 0 where
  pub master : MasterRec
  pub configured : slice_get object.masters pair.master ≡ Some master
  pub slave : SlaveDef
  pub there : slice_get t.slaves pair.slave ≡ Some slave
  pub entry : SlaveRec
  pub recorded : slave_record object slave.node ≡ Some entry
  pub has : mask_has entry.mask master.mask ≡ true

module _ (object : Object) (t : Topology) where
  abbrev Of : Permitted → Type 0
  Of p = IsPermitted object t p.pair

  masters_permitted : (m s : ℕ) (slave : SlaveDef) (r : SlaveRec) (masters : List MasterRec)
      → slice_get t.slaves s ≡ Some slave
      → slave_record object slave.node ≡ Some r
      → StandsFrom object.masters m masters
      → Each Of (permitted_of_masters object m s slave r masters)
  masters_permitted m s slave r [] at is stands = tt
  masters_permitted m s slave r (master ∷ masters) at is stands =
      AllByRecursion-append Of (if mask_has r.mask master.mask then permitted_of object m master s slave r ∷ [] else [])
      (permitted_of_masters object (m + 1) s slave r masters) (one (mask_has r.mask master.mask) refl)
      (masters_permitted (m + 1) s slave r masters at is (stands_later object.masters m master masters stands))
    where
      one : (b : Bool) → mask_has r.mask master.mask ≡ b → Each Of (if b then permitted_of object m master s slave r ∷ [] else [])
      one true has = (
        record {
          master = master;
          configured = stands_first object.masters m master masters stands;
          slave = slave;
          there = at;
          entry = r;
          recorded = is;
          has = has;
        },
        tt,
      )
      one false has = tt

  slave_permitted : (s : ℕ) (slave : SlaveDef) (r : Option SlaveRec)
      → slice_get t.slaves s ≡ Some slave
      → slave_record object slave.node ≡ r
      → Each Of (permitted_on object s slave r)
  slave_permitted s slave None at is = tt
  slave_permitted s slave (Some r) at is = masters_permitted 0 s slave r object.masters at is (stands_from_start object.masters)

  slaves_permitted : (s : ℕ) (slaves : List SlaveDef) → StandsFrom t.slaves s slaves → Each Of (permitted_from object s slaves)
  slaves_permitted s [] stands = tt
  slaves_permitted s (slave ∷ slaves) stands =
      AllByRecursion-append Of (permitted_on object s slave (slave_record object slave.node)) (permitted_from object (s + 1) slaves)
      (slave_permitted s slave (slave_record object slave.node) (stands_first t.slaves s slave slaves stands) refl)
      (slaves_permitted (s + 1) slaves (stands_later t.slaves s slave slaves stands))

  map_each : (ps : List Permitted) → Each Of ps → Each (IsPermitted object t) (map pair_permitted ps)
  map_each [] each = tt
  map_each (p ∷ ps) each = (each.0, map_each ps each.1)

  pub pairs_permitted : Each (IsPermitted object t) (pairs_of object t)
  pairs_permitted = map_each (permitted_in object t) (slaves_permitted 0 t.slaves (stands_from_start t.slaves))

  -- so that master may use the slave
  pub permitted_use : (pair : Pair) → IsPermitted object t pair → permits_use (grants_of object t) pair.master pair.slave ≡ true
  permitted_use pair permitted =
      let mask : SlaveDef → ℕ = slave_mask object in
      let of_slave : mask_at (map mask t.slaves) pair.slave ≡ permitted.entry.mask =
      ap (λ o. unwrap_or o 0) (slice_get-map mask t.slaves pair.slave ∙ ap (option_map mask) permitted.there)
      ∙ ap (λ r. unwrap_or (option_map (λ (r : SlaveRec). r.mask) r) 0) permitted.recorded
      in
      let of_master : bit_of (grants_of object t) pair.master ≡ permitted.master.mask =
      ap (λ got. option_map_or (λ (x : MasterMasks). x.bit) got 0)
      (slice_get-map master_masks object.masters pair.master ∙ ap (option_map master_masks) permitted.configured)
      in
      ap (λ mask. mask_has mask (bit_of (grants_of object t) pair.master)) of_slave ∙ (ap (mask_has permitted.entry.mask) of_master ∙ permitted.has)
