-- The items that lead to a topology are that topology's.
use Rattle.std.proofs.Common.{◌≡◌, ℕ, zero, suc, ◌+◌, ◌<◌, Bool, true, false, ◌==◌, ◌&&◌, not, cond, List, [], ◌∷◌, ◌++◌, length, map, Option, Some, None, Result, Ok, Err, refl, sym, ap, subst, ◌∙◌, arith, length-append, append_assoc, ◌⊎◌, inl, inr}
use Rattle.std.specs.Prelude.{IfSome}
use Rattle.std.specs.Option.{option_map, option_map_or}
use Rattle.std.specs.List.{AllByRecursion, flat_map}
use Rattle.std.proofs.lemmas.Bool.{eqb-true}
use Rattle.std.proofs.lemmas.List.{append-nil, map-append}
use Rattle.std.proofs.lemmas.List.Concat.{flat_map-append}
use Rattle.std.proofs.lemmas.Option.{slice_get_within}
use Rattle.pm_base.proofs.Booleans.{both}
use Rattle.pm_base.proofs.Elements.{AllByRecursion-append}
use Rattle.pm_base.proofs.Searches.{position-first}
use Rattle.pm_base.specs.declared.names.NodeId.{NodeId}
use Rattle.pm_topology.specs.declared.topology.SlaveState.{SlaveState}
use Rattle.pm_topology.specs.declared.topology.SlaveDef.{SlaveDef}
use Rattle.pm_topology.specs.declared.topology.ProcDef.{ProcDef}
use Rattle.pm_topology.specs.declared.topology.PowerDef.{PowerDef}
use Rattle.pm_topology.specs.declared.topology.LineDef.{LineDef}
use Rattle.pm_topology.specs.declared.topology.MasterDef.{MasterDef}
use Rattle.pm_topology.specs.declared.topology.Topology.{Topology}
use Rattle.pm_topofile.specs.declared.fault.TopoTextCause.{TopoTextCause}
use Rattle.pm_topofile.specs.declared.item.PowerLine.{PowerLine}
use Rattle.pm_topofile.specs.declared.item.ProcLine.{ProcLine}
use Rattle.pm_topofile.specs.declared.item.SlaveLine.{SlaveLine}
use Rattle.pm_topofile.specs.declared.item.Item.{Item}
use Rattle.pm_topofile.specs.declared.item.Item.TheVariants.{Empty, Power, Proc, Slave, State, Line, Owner}
use Rattle.pm_topofile.specs.Means.{node_at, power_item, proc_item, slave_items, entry_items, owner_item, AreOwners}
use Rattle.pm_topology.specs.Places.{power_place}
use Rattle.pm_topofile.specs.Taking.{nothing, before_masters, before_lines, before_slaves, before_procs, stands, optional_place, under, with_state, with_members, with_power, with_proc, with_slave, placed, taken}
use Rattle.pm_topofile.proofs.LastLemmas.{with_state-last, with_members-same, with_members-other}
use Rattle.pm_topofile.proofs.MeansLines.{IsSaid, items_taken, good_first}

-- ---- what was taken

split_ok : {X E : Type 0} (b : Bool) (r : Result X E) (e : E) (x : X) → cond b r (Err e) ≡ Ok x → (b ≡ true) × (r ≡ Ok x)
split_ok true r e x is = (refl, is)
split_ok false r e x is = cc

taken_placed : (item : Item) (t u : Topology) → taken item t ≡ Ok u → (stands item t ≡ true) × (placed item t ≡ Ok u)
unfolding taken
taken_placed item t u is = split_ok (stands item t) (placed item t) _ u is

under_some : {P : Type 0} (parent : Option P) (made : P → Topology) (u : Topology) → under parent made ≡ Ok u → (p : P) × (parent ≡ Some p) × (made p ≡ u)
under_some None made u is = cc
under_some (Some p) made u is = (p, refl, cc)

none_of_test : {X : Type 0} (xs : List X) → (length xs == 0) ≡ true → xs ≡ []
none_of_test [] e = refl
none_of_test (x ∷ xs) e = absurd (let none = eqb-true (length (x ∷ xs)) 0 e in omega arith)

-- ---- parents by their numbers

abbrev named : ℕ → NodeId
named n = record { 0 = n }

record IsAt (powers : List PowerDef) (node : NodeId) (place : ℕ) : Type 0 where
  pub within : place < length powers
  pub named : node_at powers place ≡ node

is_at : (powers : List PowerDef) (node : NodeId) (place : ℕ) → power_place powers node.0 ≡ Some place → IsAt powers node place
is_at powers node place is =
    let first = position-first (λ (p : PowerDef). p.node.0 == node.0) powers place is in
    let number : first.element.node.0 ≡ node.0 = eqb-true first.element.node.0 node.0 first.passes in
    let same : first.element.node ≡ node = ap (λ (n : ℕ). named n) number in
    record {
      within = slice_get_within powers place first.element first.here;
      named = ap (λ (e : Option PowerDef). option_map_or (λ (p : PowerDef). p.node) e (record { 0 = 0 })) first.here ∙ same;
    }

-- further power nodes change no number of an earlier one
named_still : (powers more : List PowerDef) (place : ℕ) → place < length powers → node_at (powers ++ more) place ≡ node_at powers place
named_still [] more place within = absurd (omega arith)
named_still (p ∷ powers) more zero within = refl
named_still (p ∷ powers) more (suc place) within = named_still powers more place (omega arith)

-- ---- the items so far

abbrev IsEarly : ℕ → PowerDef → Type 0
IsEarly n p = IfSome p.parent (λ w. w < n)

pub record SoFar (done : List Item) (t : Topology) : Type 0 where
  pub owners : List Item
  pub are : done ≡ entry_items t owners
  pub owned : AreOwners owners t.masters
  pub early : AllByRecursion (IsEarly (length t.powers)) t.powers

-- ---- power nodes

parent_still : (powers more : List PowerDef) (parent : Option ℕ) → IfSome parent (λ w. w < length powers) → option_map (node_at (powers ++ more)) parent ≡ option_map (node_at powers) parent
parent_still powers more None early = refl
parent_still powers more (Some w) early = ap (λ (n : NodeId). Some n) (named_still powers more w early)

item_still : (powers more : List PowerDef) (p : PowerDef) → IsEarly (length powers) p → power_item (powers ++ more) p ≡ power_item powers p
item_still powers more p early =
    ap (λ (parent : Option NodeId). Power (record { node = p.node; parent = parent; held = p.held; figure = p.figure; latency = p.latency })) (parent_still powers more p.parent early)

items_still : (powers more front : List PowerDef) → AllByRecursion (IsEarly (length powers)) front → map (power_item (powers ++ more)) front ≡ map (power_item powers) front
items_still powers more [] early = refl
items_still powers more (p ∷ front) early =
    ap (λ (item : Item). item ∷ map (power_item (powers ++ more)) front) (item_still powers more p early.0)
    ∙ ap (λ (items : List Item). power_item powers p ∷ items) (items_still powers more front early.1)

-- a parent that was found by its number
record IsFound (powers more : List PowerDef) (named : Option NodeId) (parent : Option ℕ) : Type 0 where
  pub early : IfSome parent (λ w. w < length powers)
  pub again : option_map (node_at (powers ++ more)) parent ≡ named

is_found : (powers more : List PowerDef) (named : Option NodeId) (parent : Option ℕ) → optional_place named powers ≡ Some parent → IsFound powers more named parent
is_found powers more None parent is =
    let none : None ≡ parent = cc in
    subst (IsFound powers more None) none (record { early = tt; again = refl })
is_found powers more (Some node) parent is = at (power_place powers node.0) refl is
  where
    at : (place : Option ℕ) → power_place powers node.0 ≡ place → option_map Some place ≡ Some parent → IsFound powers more (Some node) parent
    at None there is = cc
    at (Some w) there is =
        let one : Some w ≡ parent = cc in
        let by = is_at powers node w there in
        subst (IsFound powers more (Some node)) one
        (record { early = by.within; again = ap (λ (n : NodeId). Some n) (named_still powers more w by.within ∙ by.named) })

all_earlier : (n m : ℕ) (front : List PowerDef) → n < m → AllByRecursion (IsEarly n) front → AllByRecursion (IsEarly m) front
all_earlier n m [] less early = tt
all_earlier n m (p ∷ front) less early = (one p.parent early.0, all_earlier n m front less early.1)
  where
    one : (parent : Option ℕ) → IfSome parent (λ w. w < n) → IfSome parent (λ w. w < m)
    one None early = tt
    one (Some w) early = omega arith

-- items of a topology of power nodes alone
powers_alone : (t : Topology) (done owners : List Item) → done ≡ entry_items t owners → t.procs ≡ [] → t.slaves ≡ [] → t.lines ≡ [] → owners ≡ [] → done ≡ map (power_item t.powers) t.powers
powers_alone t done owners are procs slaves lines none =
    are
    ∙ ap (λ (xs : List ProcDef). map (power_item t.powers) t.powers ++ (map (proc_item t.powers) xs ++ (flat_map (slave_items t.powers) t.slaves ++ (map Line t.lines ++ owners)))) procs
    ∙ ap (λ (xs : List SlaveDef). map (power_item t.powers) t.powers ++ (flat_map (slave_items t.powers) xs ++ (map Line t.lines ++ owners))) slaves
    ∙ ap (λ (xs : List LineDef). map (power_item t.powers) t.powers ++ (map Line xs ++ owners)) lines
    ∙ ap (λ (xs : List Item). map (power_item t.powers) t.powers ++ xs) none
    ∙ append-nil (map (power_item t.powers) t.powers)

alone_powers : (t : Topology) (items : List Item) → map (power_item t.powers) t.powers ≡ items → t.procs ≡ [] → t.slaves ≡ [] → t.lines ≡ [] → items ≡ entry_items t []
alone_powers t items are procs slaves lines =
    sym (powers_alone t (entry_items t []) [] refl procs slaves lines refl ∙ are)

owners_none : (owners : List Item) (masters : List MasterDef) → masters ≡ [] → AreOwners owners masters → owners ≡ []
owners_none owners [] none owned = owned
owners_none owners (m ∷ masters) none owned = cc

none_owned : (masters : List MasterDef) → masters ≡ [] → AreOwners [] masters
none_owned [] none = refl
none_owned (m ∷ masters) none = cc

take_power : (done : List Item) (t u : Topology) (p : PowerLine) → SoFar done t → before_procs t ≡ true → under (optional_place p.parent t.powers) (with_power p t) ≡ Ok u → SoFar (done ++ Power p ∷ []) u
take_power done t u p so_far stand is =
    let a = both (length t.procs == 0) (before_slaves t) stand in
    let b = both (length t.slaves == 0) (before_lines t) a.1 in
    let c = both (length t.lines == 0) (before_masters t) b.1 in
    let procs = none_of_test t.procs a.0 in
    let slaves = none_of_test t.slaves b.0 in
    let lines = none_of_test t.lines c.0 in
    let masters = none_of_test t.masters c.1 in
    let got = under_some (optional_place p.parent t.powers) (with_power p t) u is in
    let new : PowerDef = record { node = p.node; parent = got.0; held = p.held; figure = p.figure; latency = p.latency } in
    let found = is_found t.powers (new ∷ []) p.parent got.0 got.1 in
    let before = powers_alone t done so_far.owners so_far.are procs slaves lines (owners_none so_far.owners t.masters masters so_far.owned) in
    let again : power_item (t.powers ++ new ∷ []) new ≡ Power p =
    ap (λ (parent : Option NodeId). Power (record { node = p.node; parent = parent; held = p.held; figure = p.figure; latency = p.latency })) found.again in
    let all : map (power_item (t.powers ++ new ∷ [])) (t.powers ++ new ∷ []) ≡ done ++ Power p ∷ [] =
    map-append (power_item (t.powers ++ new ∷ [])) t.powers (new ∷ [])
    ∙ ap (λ (items : List Item). items ++ power_item (t.powers ++ new ∷ []) new ∷ []) (items_still t.powers (new ∷ []) t.powers so_far.early ∙ sym before)
    ∙ ap (λ (item : Item). done ++ item ∷ []) again in
    let more : length t.powers < length (t.powers ++ new ∷ []) = let long = length-append t.powers (new ∷ []) in omega arith in
    let after : SoFar (done ++ Power p ∷ []) (with_power p t got.0) = record {
      owners = [];
      are = alone_powers (with_power p t got.0) (done ++ Power p ∷ []) all procs slaves lines;
      owned = none_owned t.masters masters;
      early = AllByRecursion-append (IsEarly (length (t.powers ++ new ∷ []))) t.powers (new ∷ [])
          (all_earlier (length t.powers) (length (t.powers ++ new ∷ [])) t.powers more so_far.early) (at_end got.0 (length t.powers) (length (t.powers ++ new ∷ [])) more found.early, tt);
    } in
    subst (SoFar (done ++ Power p ∷ [])) got.2 after
  where
    at_end : (parent : Option ℕ) (n m : ℕ) → n < m → IfSome parent (λ w. w < n) → IfSome parent (λ w. w < m)
    at_end None n m less early = tt
    at_end (Some w) n m less early = omega arith

-- ---- processors

-- with no later entry of any kind, one more at the end of a list is one more item at the end
seam : {X : Type 0} (front : List Item) (f : X → Item) (xs : List X) (x : X) → front ++ map f (xs ++ x ∷ []) ≡ (front ++ map f xs) ++ f x ∷ []
seam front f xs x = ap (λ (items : List Item). front ++ items) (map-append f xs (x ∷ [])) ∙ sym (append_assoc front (map f xs) (f x ∷ []))

procs_alone : (t : Topology) (done owners : List Item) → done ≡ entry_items t owners → t.slaves ≡ [] → t.lines ≡ [] → owners ≡ [] → done ≡ map (power_item t.powers) t.powers ++ map (proc_item t.powers) t.procs
procs_alone t done owners are slaves lines none =
    are
    ∙ ap (λ (xs : List SlaveDef). map (power_item t.powers) t.powers ++ (map (proc_item t.powers) t.procs ++ (flat_map (slave_items t.powers) xs ++ (map Line t.lines ++ owners)))) slaves
    ∙ ap (λ (xs : List LineDef). map (power_item t.powers) t.powers ++ (map (proc_item t.powers) t.procs ++ (map Line xs ++ owners))) lines
    ∙ ap (λ (xs : List Item). map (power_item t.powers) t.powers ++ (map (proc_item t.powers) t.procs ++ xs)) none
    ∙ ap (λ (xs : List Item). map (power_item t.powers) t.powers ++ xs) (append-nil (map (proc_item t.powers) t.procs))

take_proc : (done : List Item) (t u : Topology) (p : ProcLine) → SoFar done t → before_slaves t ≡ true → under (power_place t.powers p.parent.0) (with_proc p t) ≡ Ok u → SoFar (done ++ Proc p ∷ []) u
take_proc done t u p so_far stand is =
    let b = both (length t.slaves == 0) (before_lines t) stand in
    let c = both (length t.lines == 0) (before_masters t) b.1 in
    let slaves = none_of_test t.slaves b.0 in
    let lines = none_of_test t.lines c.0 in
    let masters = none_of_test t.masters c.1 in
    let got = under_some (power_place t.powers p.parent.0) (with_proc p t) u is in
    let new : ProcDef = record { node = p.node; parent = got.0; figure = p.figure; latency = p.latency } in
    let by = is_at t.powers p.parent got.0 got.1 in
    let before = procs_alone t done so_far.owners so_far.are slaves lines (owners_none so_far.owners t.masters masters so_far.owned) in
    let again : proc_item t.powers new ≡ Proc p =
    ap (λ (parent : NodeId). Proc (record { node = p.node; parent = parent; figure = p.figure; latency = p.latency })) by.named in
    let v : Topology = with_proc p t got.0 in
    let now = procs_alone v (entry_items v []) [] refl slaves lines refl in
    let all : entry_items v [] ≡ done ++ Proc p ∷ [] =
    now ∙ seam (map (power_item t.powers) t.powers) (proc_item t.powers) t.procs new
    ∙ ap (λ (items : List Item). items ++ proc_item t.powers new ∷ []) (sym before)
    ∙ ap (λ (item : Item). done ++ item ∷ []) again in
    subst (SoFar (done ++ Proc p ∷ [])) got.2 (record { owners = []; are = sym all; owned = none_owned t.masters masters; early = so_far.early })

-- ---- slaves and their states

slaves_alone : (t : Topology) (done owners : List Item) → done ≡ entry_items t owners → t.lines ≡ [] → owners ≡ []
    → done ≡ (map (power_item t.powers) t.powers ++ map (proc_item t.powers) t.procs) ++ flat_map (slave_items t.powers) t.slaves
slaves_alone t done owners are lines none =
    are
    ∙ ap (λ (xs : List LineDef). map (power_item t.powers) t.powers ++ (map (proc_item t.powers) t.procs ++ (flat_map (slave_items t.powers) t.slaves ++ (map Line xs ++ owners)))) lines
    ∙ ap (λ (xs : List Item). map (power_item t.powers) t.powers ++ (map (proc_item t.powers) t.procs ++ (flat_map (slave_items t.powers) t.slaves ++ xs))) none
    ∙ ap (λ (xs : List Item). map (power_item t.powers) t.powers ++ (map (proc_item t.powers) t.procs ++ xs)) (append-nil (flat_map (slave_items t.powers) t.slaves))
    ∙ sym (append_assoc (map (power_item t.powers) t.powers) (map (proc_item t.powers) t.procs) (flat_map (slave_items t.powers) t.slaves))

-- one more item at the end of the last slave's
flat_seam : (front : List Item) (f : SlaveDef → List Item) (xs : List SlaveDef) (x : SlaveDef) (items : List Item) (item : Item) → f x ≡ items ++ item ∷ []
    → front ++ flat_map f (xs ++ x ∷ []) ≡ (front ++ (flat_map f xs ++ items)) ++ item ∷ []
flat_seam front f xs x items item is =
    ap (λ (l : List Item). front ++ l) (flat_map-append f xs (x ∷ []) ∙ ap (λ (l : List Item). flat_map f xs ++ l) (append-nil (f x) ∙ is) ∙ sym (append_assoc (flat_map f xs) items (item ∷ [])))
    ∙ sym (append_assoc front (flat_map f xs ++ items) (item ∷ []))

take_slave : (done : List Item) (t u : Topology) (s : SlaveLine) → SoFar done t → before_lines t ≡ true → under (power_place t.powers s.parent.0) (with_slave s t) ≡ Ok u → SoFar (done ++ Slave s ∷ []) u
take_slave done t u s so_far stand is =
    let c = both (length t.lines == 0) (before_masters t) stand in
    let lines = none_of_test t.lines c.0 in
    let masters = none_of_test t.masters c.1 in
    let got = under_some (power_place t.powers s.parent.0) (with_slave s t) u is in
    let new : SlaveDef = record { node = s.node; parent = got.0; states = [] } in
    let by = is_at t.powers s.parent got.0 got.1 in
    let before = slaves_alone t done so_far.owners so_far.are lines (owners_none so_far.owners t.masters masters so_far.owned) in
    let front = map (power_item t.powers) t.powers ++ map (proc_item t.powers) t.procs in
    let again : slave_items t.powers new ≡ [] ++ Slave s ∷ [] =
    ap (λ (parent : NodeId). Slave (record { node = s.node; parent = parent }) ∷ []) by.named in
    let v : Topology = with_slave s t got.0 in
    let now = slaves_alone v (entry_items v []) [] refl lines refl in
    let all : entry_items v [] ≡ done ++ Slave s ∷ [] =
    now ∙ flat_seam front (slave_items t.powers) t.slaves new [] (Slave s) again
    ∙ ap (λ (items : List Item). (front ++ items) ++ Slave s ∷ []) (append-nil (flat_map (slave_items t.powers) t.slaves))
    ∙ ap (λ (items : List Item). items ++ Slave s ∷ []) (sym before) in
    subst (SoFar (done ++ Slave s ∷ [])) got.2 (record { owners = []; are = sym all; owned = none_owned t.masters masters; early = so_far.early })

-- a list that isn't empty has a last element
last_of : {X : Type 0} (xs : List X) → not (length xs == 0) ≡ true → (front : List X) × (x : X) × (xs ≡ front ++ x ∷ [])
last_of [] e = cc
last_of {X} (x ∷ xs) e = from x xs
  where
    from : (x : X) (xs : List X) → (front : List X) × (y : X) × (x ∷ xs ≡ front ++ y ∷ [])
    from x [] = ([], x, refl)
    from x (next ∷ xs) = let later = from next xs in (x ∷ later.0, later.1, ap (λ (l : List X). x ∷ l) later.2)

take_state : (done : List Item) (t : Topology) (s : SlaveState) → SoFar done t → (not (length t.slaves == 0) && before_lines t) ≡ true → SoFar (done ++ State s ∷ []) (record t { slaves = with_state s t.slaves })
take_state done t s so_far stand =
    let a = both (not (length t.slaves == 0)) (before_lines t) stand in
    let c = both (length t.lines == 0) (before_masters t) a.1 in
    let lines = none_of_test t.lines c.0 in
    let masters = none_of_test t.masters c.1 in
    let last = last_of t.slaves a.0 in
    let old : SlaveDef = last.1 in
    let new : SlaveDef = record old { states = old.states ++ s ∷ [] } in
    let slaves : with_state s t.slaves ≡ last.0 ++ new ∷ [] = ap (with_state s) last.2 ∙ with_state-last s last.0 old in
    let front = map (power_item t.powers) t.powers ++ map (proc_item t.powers) t.procs in
    let before = slaves_alone t done so_far.owners so_far.are lines (owners_none so_far.owners t.masters masters so_far.owned)
    ∙ ap (λ (xs : List SlaveDef). front ++ flat_map (slave_items t.powers) xs) last.2
    ∙ ap (λ (l : List Item). front ++ l) (flat_map-append (slave_items t.powers) last.0 (old ∷ []) ∙ ap (λ (l : List Item). flat_map (slave_items t.powers) last.0 ++ l) (append-nil (slave_items t.powers old))) in
    let again : slave_items t.powers new ≡ slave_items t.powers old ++ State s ∷ [] =
    ap (λ (l : List Item). Slave (record { node = old.node; parent = node_at t.powers old.parent }) ∷ l) (map-append State old.states (s ∷ [])) in
    let v : Topology = record t { slaves = with_state s t.slaves } in
    let now = slaves_alone v (entry_items v []) [] refl lines refl in
    let all : entry_items v [] ≡ done ++ State s ∷ [] =
    now ∙ ap (λ (xs : List SlaveDef). front ++ flat_map (slave_items t.powers) xs) slaves
    ∙ flat_seam front (slave_items t.powers) last.0 new (slave_items t.powers old) (State s) again
    ∙ ap (λ (items : List Item). items ++ State s ∷ []) (sym before) in
    record { owners = []; are = sym all; owned = none_owned t.masters masters; early = so_far.early }

-- ---- reset lines

-- these items and what comes behind them
behind : (t : Topology) (owners more : List Item) → entry_items t owners ++ more ≡ entry_items t (owners ++ more)
behind t owners more =
    let a = map (power_item t.powers) t.powers in
    let b = map (proc_item t.powers) t.procs in
    let c = flat_map (slave_items t.powers) t.slaves in
    let d = map Line t.lines in
    append_assoc a (b ++ (c ++ (d ++ owners))) more
    ∙ ap (λ (l : List Item). a ++ l) (append_assoc b (c ++ (d ++ owners)) more
    ∙ ap (λ (l : List Item). b ++ l) (append_assoc c (d ++ owners) more
    ∙ ap (λ (l : List Item). c ++ l) (append_assoc d owners more)))

take_line : (done : List Item) (t : Topology) (l : LineDef) → SoFar done t → before_masters t ≡ true → SoFar (done ++ Line l ∷ []) (record t { lines = t.lines ++ l ∷ [] })
take_line done t l so_far stand =
    let masters = none_of_test t.masters stand in
    let none = owners_none so_far.owners t.masters masters so_far.owned in
    let v : Topology = record t { lines = t.lines ++ l ∷ [] } in
    let a = map (power_item t.powers) t.powers in
    let b = map (proc_item t.powers) t.procs in
    let c = flat_map (slave_items t.powers) t.slaves in
    let all : done ++ Line l ∷ [] ≡ entry_items v [] =
    ap (λ (items : List Item). items ++ Line l ∷ []) (so_far.are ∙ ap (entry_items t) none)
    ∙ behind t [] (Line l ∷ [])
    ∙ ap (λ (items : List Item). a ++ (b ++ (c ++ items))) (sym (map-append Line t.lines (l ∷ [])) ∙ sym (append-nil (map Line (t.lines ++ l ∷ [])))) in
    record { owners = []; are = all; owned = none_owned t.masters masters; early = so_far.early }

-- ---- masters

-- a new master
owner_new : (owners : List Item) (masters : List MasterDef) (node : NodeId) (procs : List NodeId) → AreOwners owners masters → AreOwners (owners ++ owner_item node procs ∷ []) (masters ++ record { node = node; procs = procs } ∷ [])
owner_new owners [] node procs owned =
    (procs ∷ [], [], omega arith, ap (λ (items : List Item). items ++ owner_item node procs ∷ []) owned, append-nil procs, refl)
owner_new owners (m ∷ masters) node procs (parts, later, some, are, joined, rest) =
    (parts, later ++ owner_item node procs ∷ [], some, ap (λ (items : List Item). items ++ owner_item node procs ∷ []) are ∙ append_assoc (map (owner_item m.node) parts) later (owner_item node procs ∷ []), joined, owner_new later masters node procs rest)

-- more processors of the last one
owner_more : (owners : List Item) (front : List MasterDef) (m : MasterDef) (procs : List NodeId) → AreOwners owners (front ++ m ∷ []) → AreOwners (owners ++ owner_item m.node procs ∷ []) (front ++ record m { procs = m.procs ++ procs } ∷ [])
owner_more owners [] m procs (parts, later, some, are, joined, rest) =
    let more : flat_map (λ (part : List NodeId). part) (parts ++ procs ∷ []) ≡ m.procs ++ procs =
    flat_map-append (λ (part : List NodeId). part) parts (procs ∷ []) ∙ ap (λ (l : List NodeId). l ++ (procs ++ [])) joined ∙ ap (λ (l : List NodeId). m.procs ++ l) (append-nil procs) in
    let all : owners ++ owner_item m.node procs ∷ [] ≡ map (owner_item m.node) (parts ++ procs ∷ []) ++ [] =
    ap (λ (items : List Item). items ++ owner_item m.node procs ∷ []) (are ∙ ap (λ (l : List Item). map (owner_item m.node) parts ++ l) rest ∙ append-nil (map (owner_item m.node) parts))
    ∙ sym (map-append (owner_item m.node) parts (procs ∷ [])) ∙ sym (append-nil (map (owner_item m.node) (parts ++ procs ∷ []))) in
    (parts ++ procs ∷ [], [], let long = length-append parts (procs ∷ []) in omega arith, all, more, refl)
owner_more owners (first ∷ front) m procs (parts, later, some, are, joined, rest) =
    (parts, later ++ owner_item m.node procs ∷ [], some, ap (λ (items : List Item). items ++ owner_item m.node procs ∷ []) are ∙ append_assoc (map (owner_item first.node) parts) later (owner_item m.node procs ∷ []), joined, owner_more later front m procs rest)

abbrev nodes_of : List ℕ → List NodeId
nodes_of numbers = map (λ n. record { 0 = n }) numbers

numbers_again : (numbers : List ℕ) → map (λ (n : NodeId). n.0) (nodes_of numbers) ≡ numbers
numbers_again [] = refl
numbers_again (n ∷ numbers) = ap (λ (l : List ℕ). n ∷ l) (numbers_again numbers)

abbrev owner_of : NodeId → List ℕ → Item
owner_of node numbers = Owner node (record { items = numbers })

-- a list is empty, or has a last element
ends : {X : Type 0} (xs : List X) → (xs ≡ []) ⊎ ((front : List X) × (x : X) × (xs ≡ front ++ x ∷ []))
ends [] = inl refl
ends (x ∷ xs) = inr (from x xs)
  where
    from : {X : Type 0} (x : X) (xs : List X) → (front : List X) × (y : X) × (x ∷ xs ≡ front ++ y ∷ [])
    from x [] = ([], x, refl)
    from {X} x (next ∷ xs) = let later = from next xs in (x ∷ later.0, later.1, ap (λ (l : List X). x ∷ l) later.2)

abbrev master : NodeId → List NodeId → MasterDef
master node procs = record { node = node; procs = procs }

-- the masters with these processors of one of them, and the items that say so
owned_more : (owners : List Item) (masters : List MasterDef) (node : NodeId) (procs : List NodeId) → AreOwners owners masters
    → AreOwners (owners ++ owner_item node procs ∷ []) (with_members node procs masters)
owned_more owners masters node procs owned =
    elim (ends masters) [
      | inl none ↦ subst (AreOwners (owners ++ owner_item node procs ∷ [])) (ap (λ (ms : List MasterDef). ms ++ master node procs ∷ []) none ∙ sym (ap (with_members node procs) none)) (owner_new owners masters node procs owned)
      | inr last ↦ by last.0 last.1 last.2 (last.1.node.0 == node.0) refl
    ]
  where
    by : (front : List MasterDef) (m : MasterDef) → masters ≡ front ++ m ∷ [] → (same : Bool) → (m.node.0 == node.0) ≡ same
        → AreOwners (owners ++ owner_item node procs ∷ []) (with_members node procs masters)
    by front m is true same =
        let number : m.node.0 ≡ node.0 = eqb-true m.node.0 node.0 same in
        let one : m.node ≡ node = ap (λ (n : ℕ). named n) number in
        let more = owner_more owners front m procs (subst (AreOwners owners) is owned) in
        let here = subst (λ (n : NodeId). AreOwners (owners ++ owner_item n procs ∷ []) (front ++ record m { procs = m.procs ++ procs } ∷ [])) one more in
        subst (AreOwners (owners ++ owner_item node procs ∷ [])) (sym (ap (with_members node procs) is ∙ with_members-same node procs front m same)) here
    by front m is false other =
        subst (AreOwners (owners ++ owner_item node procs ∷ [])) (ap (λ (ms : List MasterDef). ms ++ master node procs ∷ []) is ∙ sym (ap (with_members node procs) is ∙ with_members-other node procs front m other)) (owner_new owners masters node procs owned)

take_owner : (done : List Item) (t : Topology) (node : NodeId) (numbers : List ℕ) → SoFar done t
    → SoFar (done ++ owner_of node numbers ∷ []) (record t { masters = with_members node (nodes_of numbers) t.masters })
take_owner done t node numbers so_far =
    let item : owner_item node (nodes_of numbers) ≡ owner_of node numbers = ap (owner_of node) (numbers_again numbers) in
    let all : done ++ owner_of node numbers ∷ [] ≡ entry_items t (so_far.owners ++ owner_item node (nodes_of numbers) ∷ []) =
    ap (λ (items : List Item). items ++ owner_of node numbers ∷ []) so_far.are
    ∙ behind t so_far.owners (owner_of node numbers ∷ [])
    ∙ ap (λ (it : Item). entry_items t (so_far.owners ++ it ∷ [])) (sym item) in
    record {
      owners = so_far.owners ++ owner_item node (nodes_of numbers) ∷ [];
      are = all;
      owned = owned_more so_far.owners t.masters node (nodes_of numbers) so_far.owned;
      early = so_far.early;
    }

-- ---- item by item

abbrev good : Topology → Result Topology TopoTextCause
good t = Ok t

same_of : (t u : Topology) → good t ≡ Ok u → t ≡ u
same_of t u is = cc

step : (item : Item) (done : List Item) (t u : Topology) → IsSaid item → SoFar done t → taken item t ≡ Ok u → SoFar (done ++ item ∷ []) u
step Empty done t u said so_far is = absurd said
step (Power p) done t u said so_far is = let parts = taken_placed (Power p) t u is in take_power done t u p so_far parts.0 parts.1
step (Proc p) done t u said so_far is = let parts = taken_placed (Proc p) t u is in take_proc done t u p so_far parts.0 parts.1
step (Slave s) done t u said so_far is = let parts = taken_placed (Slave s) t u is in take_slave done t u s so_far parts.0 parts.1
step (State s) done t u said so_far is =
    let parts = taken_placed (State s) t u is in
    subst (SoFar (done ++ State s ∷ [])) (same_of _ u parts.1) (take_state done t s so_far parts.0)
step (Line l) done t u said so_far is =
    let parts = taken_placed (Line l) t u is in
    subst (SoFar (done ++ Line l ∷ [])) (same_of _ u parts.1) (take_line done t l so_far parts.0)
step (Owner node procs) done t u said so_far is =
    let parts = taken_placed (Owner node procs) t u is in
    subst (SoFar (done ++ Owner node procs ∷ [])) (same_of _ u parts.1) (take_owner done t node procs.items so_far)

steps : (items done : List Item) (t u : Topology) → AllByRecursion IsSaid items → SoFar done t → items_taken t items ≡ Ok u → SoFar (done ++ items) u
steps [] done t u said so_far is =
    subst (SoFar (done ++ [])) (same_of t u is) (subst (λ (items : List Item). SoFar items t) (sym (append-nil done)) so_far)
steps (item ∷ items) done t u said so_far is =
    let first = good_first (taken item t) (λ mid. items_taken mid items) u is in
    let later = steps items (done ++ item ∷ []) first.0 u said.1 (step item done t first.0 said.0 so_far first.1) first.2 in
    subst (λ (all : List Item). SoFar all u) (append_assoc done (item ∷ []) items) later

pub items_found : (items : List Item) (u : Topology) → AllByRecursion IsSaid items → items_taken nothing items ≡ Ok u → SoFar items u
items_found items u said is = steps items [] nothing u said (record { owners = []; are = refl; owned = refl; early = tt }) is
