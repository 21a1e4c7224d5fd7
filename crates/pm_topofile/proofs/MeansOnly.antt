-- The items of a topology that keeps the rules lead to it.
use Rattle.std.proofs.Common.{◌≡◌, ◌≢◌, ℕ, ◌+◌, ◌<◌, List, [], ◌∷◌, ◌++◌, length, map, slice_get, Option, Some, None, Ok, refl, sym, ap, subst, ◌∙◌, arith, append_assoc}
use Rattle.std.specs.Prelude.{IfSome}
use Rattle.std.specs.Option.{option_map}
use Rattle.std.specs.List.{flat_map}
use Rattle.std.proofs.lemmas.List.{append-nil}
use Rattle.std.proofs.lemmas.Option.{slice_get_within}
use Rattle.pm_base.proofs.ListLemmas.{slice_get-append_left}
use Rattle.pm_base.specs.declared.names.NodeId.{NodeId}
use Rattle.pm_topology.specs.declared.topology.SlaveDef.{SlaveDef}
use Rattle.pm_topology.specs.declared.topology.PowerDef.{PowerDef}
use Rattle.pm_topology.specs.declared.topology.MasterDef.{MasterDef}
use Rattle.pm_topology.specs.declared.topology.Topology.{Topology}
use Rattle.pm_topology.specs.WellFormed.{AreDistinct, IsWellFormed}
use Rattle.pm_topofile.specs.declared.item.Item.{Item}
use Rattle.pm_topofile.specs.declared.item.Item.TheVariants.{Slave, State, Line}
use Rattle.pm_topofile.specs.Means.{node_at, power_item, proc_item, slave_items, owner_item, AreOwners, AreItemsOf}
use Rattle.pm_topology.specs.Places.{power_place}
use Rattle.pm_topofile.specs.Taking.{nothing, optional_place, taken}
use Rattle.pm_topofile.proofs.MeansLines.{items_taken}
use Rattle.pm_topofile.proofs.Printed.{at_seam, placed_at, front_distinct, in_front, with_powers, takes_power, with_procs, takes_proc, with_slaves, with_states, takes_slave, takes_state, with_lines, takes_line, with_masters, master, takes_new, takes_more}

-- items lead from one topology to another, and a rest of them is left
abbrev pub Walks : List Item → Topology → Topology → List Item → Type 0
Walks items from to rest = items_taken from items ≡ items_taken to rest

walks_one : (item : Item) (from to : Topology) (rest : List Item) → taken item from ≡ Ok to → Walks (item ∷ rest) from to rest
walks_one item from to rest is = rw is refl

-- the items of entries lead from some entries to more of them
module _ {X : Type 0} (says : X → List Item) (D : List X → Topology) (whole : List X)
    (step : (front : List X) (x : X) (back : List X) → front ++ x ∷ back ≡ whole → (rest : List Item) → Walks (says x ++ rest) (D front) (D (front ++ x ∷ [])) rest) where
  walks_all : (xs front : List X) → front ++ xs ≡ whole → (rest : List Item) → Walks (flat_map says xs ++ rest) (D front) (D (front ++ xs)) rest
  walks_all [] front is rest = ap (λ (all : List X). items_taken (D all) rest) (sym (append-nil front))
  walks_all (x ∷ xs) front is rest =
      let one : (front ++ x ∷ []) ++ xs ≡ front ++ x ∷ xs = append_assoc front (x ∷ []) xs in
      let first = step front x xs is (flat_map says xs ++ rest) in
      let later = walks_all xs (front ++ x ∷ []) (one ∙ is) rest in
      ap (items_taken (D front)) (append_assoc (says x) (flat_map says xs) rest)
      ∙ first ∙ later ∙ ap (λ (all : List X). items_taken (D all) rest) one

single : {X : Type 0} (f : X → Item) (xs : List X) → map f xs ≡ flat_map (λ x. f x ∷ []) xs
single f [] = refl
single f (x ∷ xs) = ap (λ (items : List Item). f x ∷ items) (single f xs)

walks_map : {X : Type 0} (f : X → Item) (D : List X → Topology) (whole : List X)
    → ((front : List X) (x : X) (back : List X) → front ++ x ∷ back ≡ whole → taken (f x) (D front) ≡ Ok (D (front ++ x ∷ [])))
    → (rest : List Item) → Walks (map f whole ++ rest) (D []) (D whole) rest
walks_map {X} f D whole takes rest =
    ap (λ (items : List Item). items_taken (D []) (items ++ rest)) (single f whole)
    ∙ walks_all (λ (x : X). f x ∷ []) D whole (λ front x back is later. walks_one (f x) (D front) (D (front ++ x ∷ [])) later (takes front x back is)) whole [] refl rest

-- ---- parents

parent_at : (powers front back : List PowerDef) (w : ℕ) → front ++ back ≡ powers → AreDistinct (λ (p : PowerDef). p.node.0) powers → w < length front → power_place front (node_at powers w).0 ≡ Some w
parent_at powers front back w is distinct within =
    let q = in_front front back powers w is within in
    let found = placed_at front w q.0 (front_distinct (λ (p : PowerDef). p.node.0) front back powers is distinct) q.1 in
    rw q.2 found

optional_at : (powers front back : List PowerDef) (parent : Option ℕ) → front ++ back ≡ powers → AreDistinct (λ (p : PowerDef). p.node.0) powers → IfSome parent (λ w. w < length front) → optional_place (option_map (node_at powers) parent) front ≡ Some parent
optional_at powers front back None is distinct early = refl
optional_at powers front back (Some w) is distinct early = rw (parent_at powers front back w is distinct early) refl

-- ---- the kinds

walk_powers : (t : Topology) → IsWellFormed t → (rest : List Item) → Walks (map (power_item t.powers) t.powers ++ rest) (with_powers []) (with_powers t.powers) rest
walk_powers t w rest =
    walks_map (power_item t.powers) with_powers t.powers
    (λ front p back is. takes_power front p (option_map (node_at t.powers) p.parent)
    (optional_at t.powers front (p ∷ back) p.parent is w.powers_distinct (w.power_parents (length front) p (at_seam front p back t.powers is)))) rest

walk_procs : (t : Topology) → IsWellFormed t → (rest : List Item) → Walks (map (proc_item t.powers) t.procs ++ rest) (with_procs t.powers []) (with_procs t.powers t.procs) rest
walk_procs t w rest =
    walks_map (proc_item t.powers) (with_procs t.powers) t.procs
    (λ front p back is. takes_proc t.powers front p (node_at t.powers p.parent)
    (parent_at t.powers t.powers [] p.parent (append-nil t.powers) w.powers_distinct (w.proc_parents (length front) p (at_seam front p back t.procs is)))) rest

walk_slave : (t : Topology) (front : List SlaveDef) (s : SlaveDef) (rest : List Item) → power_place t.powers (node_at t.powers s.parent).0 ≡ Some s.parent
    → Walks (slave_items t.powers s ++ rest) (with_slaves t.powers t.procs front) (with_slaves t.powers t.procs (front ++ s ∷ [])) rest
walk_slave t front s rest place =
    walks_one (Slave (record { node = s.node; parent = node_at t.powers s.parent })) (with_slaves t.powers t.procs front) (with_slaves t.powers t.procs (front ++ with_states s [] ∷ [])) (map State s.states ++ rest)
    (takes_slave t.powers t.procs front s (node_at t.powers s.parent) place)
    ∙ walks_map State (λ states. with_slaves t.powers t.procs (front ++ with_states s states ∷ [])) s.states
    (λ before e after is. takes_state t.powers t.procs front s before e) rest

walk_slaves : (t : Topology) → IsWellFormed t → (rest : List Item) → Walks (flat_map (slave_items t.powers) t.slaves ++ rest) (with_slaves t.powers t.procs []) (with_slaves t.powers t.procs t.slaves) rest
walk_slaves t w rest =
    walks_all (slave_items t.powers) (with_slaves t.powers t.procs) t.slaves
    (λ front s back is later. walk_slave t front s later
    (parent_at t.powers t.powers [] s.parent (append-nil t.powers) w.powers_distinct (w.slave_parents (length front) s (at_seam front s back t.slaves is)))) t.slaves [] refl rest

walk_lines : (t : Topology) (rest : List Item) → Walks (map Line t.lines ++ rest) (with_lines t.powers t.procs t.slaves []) (with_lines t.powers t.procs t.slaves t.lines) rest
walk_lines t rest =
    walks_map Line (with_lines t.powers t.procs t.slaves) t.lines (λ front l back is. takes_line t.powers t.procs t.slaves front l) rest

-- ---- masters

-- further lines of a master
walk_parts : (t : Topology) (front : List MasterDef) (node : NodeId) (parts : List (List NodeId)) (before : List NodeId) (rest : List Item)
    → Walks (map (owner_item node) parts ++ rest) (with_masters t (front ++ master node before ∷ [])) (with_masters t (front ++ master node (before ++ flat_map (λ (part : List NodeId). part) parts) ∷ [])) rest
walk_parts t front node [] before rest = ap (λ (all : List NodeId). items_taken (with_masters t (front ++ master node all ∷ [])) rest) (sym (append-nil before))
walk_parts t front node (part ∷ parts) before rest =
    walks_one (owner_item node part) (with_masters t (front ++ master node before ∷ [])) (with_masters t (front ++ master node (before ++ part) ∷ [])) (map (owner_item node) parts ++ rest) (takes_more t front node before part)
    ∙ walk_parts t front node parts (before ++ part) rest
    ∙ ap (λ (all : List NodeId). items_taken (with_masters t (front ++ master node all ∷ [])) rest) (append_assoc before part (flat_map (λ (part : List NodeId). part) parts))

-- all lines of a master
walk_master : (t : Topology) (front : List MasterDef) (node : NodeId) (parts : List (List NodeId)) (rest : List Item) → 0 < length parts
    → ((k : ℕ) (m : MasterDef) → slice_get front k ≡ Some m → m.node.0 ≢ node.0)
    → Walks (map (owner_item node) parts ++ rest) (with_masters t front) (with_masters t (front ++ master node (flat_map (λ (part : List NodeId). part) parts) ∷ [])) rest
walk_master t front node [] rest some others = absurd (omega arith)
walk_master t front node (part ∷ parts) rest some others =
    walks_one (owner_item node part) (with_masters t front) (with_masters t (front ++ master node part ∷ [])) (map (owner_item node) parts ++ rest) (takes_new t front node part others)
    ∙ walk_parts t front node parts part rest

walk_owners : (t : Topology) (masters front whole : List MasterDef) (items : List Item) → front ++ masters ≡ whole → AreDistinct (λ (m : MasterDef). m.node.0) whole → AreOwners items masters
    → Walks items (with_masters t front) (with_masters t whole) []
walk_owners t [] front whole items is distinct owned =
    ap (items_taken (with_masters t front)) owned
    ∙ ap (λ (all : List MasterDef). items_taken (with_masters t all) []) (sym (append-nil front) ∙ is)
walk_owners t (m ∷ masters) front whole items is distinct (parts, later, some, are, joined, rest) =
    let others : (k : ℕ) (x : MasterDef) → slice_get front k ≡ Some x → x.node.0 ≢ m.node.0 = λ k x here same.
    let at = distinct k (length front) x m (subst (λ xs. slice_get xs k ≡ Some x) is (slice_get-append_left front (m ∷ masters) k x here)) (at_seam front m masters whole is) same in
    let within : k < length front = slice_get_within front k x here in
    absurd (omega arith) in
    let one : (front ++ m ∷ []) ++ masters ≡ whole = append_assoc front (m ∷ []) masters ∙ is in
    ap (items_taken (with_masters t front)) are
    ∙ walk_master t front m.node parts later some others
    ∙ ap (λ (procs : List NodeId). items_taken (with_masters t (front ++ master m.node procs ∷ [])) later) joined
    ∙ walk_owners t masters (front ++ m ∷ []) whole later one distinct rest

pub items_lead : (items : List Item) (t : Topology) → IsWellFormed t → AreItemsOf items t → items_taken nothing items ≡ Ok t
items_lead items t w listed =
    let fourth = map Line t.lines ++ listed.owners in
    let third = flat_map (slave_items t.powers) t.slaves ++ fourth in
    let second = map (proc_item t.powers) t.procs ++ third in
    ap (items_taken nothing) listed.are
    ∙ walk_powers t w second
    ∙ walk_procs t w third
    ∙ walk_slaves t w fourth
    ∙ walk_lines t listed.owners
    ∙ walk_owners t t.masters [] t.masters listed.owners refl w.masters_distinct listed.owned
