-- The printed text of a topology leads to that topology.
use Rattle.std.proofs.Common.{◌≡◌, ◌≢◌, ℕ, zero, suc, ◌+◌, ◌-◌, ◌*◌, ◌/◌, ◌^◌, ◌<◌, ◌≤◌, Bool, true, false, ◌==◌, eqb, nat_lt, List, [], ◌∷◌, ◌++◌, length, take, drop, slice_get, Option, Some, None, Result, Ok, Err, inl, inr, refl, ap, sym, ◌∙◌, subst, arith, length-append, length-take, length-drop, append_assoc}
use Rattle.std.specs.Prelude.{option_and_then, IfSome, IfOk}
use Rattle.std.specs.List.{position_or_len, flat_map, AllByRecursion}
use Rattle.std.proofs.lemmas.Bool.Decides.{nat_tests}
use Rattle.std.proofs.lemmas.List.{append-nil, take-append-drop, length-map}
use Rattle.std.proofs.lemmas.Option.{slice_get_within, slice_get_cases}
use Rattle.pm_base.proofs.Booleans.{unequal, equal}
use Rattle.pm_base.proofs.ListLemmas.{slice_get-append_left, slice_get-append_right}
use Rattle.pm_base.specs.declared.names.NodeId.{NodeId}
use Rattle.pm_topology.specs.declared.topology.SlaveState.{SlaveState}
use Rattle.pm_topology.specs.declared.topology.SlaveDef.{SlaveDef}
use Rattle.pm_topology.specs.declared.topology.ProcDef.{ProcDef}
use Rattle.pm_topology.specs.declared.topology.PowerDef.{PowerDef}
use Rattle.pm_topology.specs.declared.topology.LineDef.{LineDef}
use Rattle.pm_topology.specs.declared.topology.MasterDef.{MasterDef}
use Rattle.pm_topology.specs.declared.topology.Topology.{Topology}
use Rattle.pm_topology.specs.WellFormed.{AreDistinct, IsSupported}
use Rattle.pm_topofile.specs.declared.table.Keyword.TheVariants as keywords
use Rattle.pm_topofile.specs.declared.item.Item.TheVariants.{Power, Proc, Slave, State, Line, Owner}
use Rattle.pm_topology.proofs.WellFormedLaw.{faultless_where}
use Rattle.pm_topofile.specs.Meaning.{meaning, most_bytes}
use Rattle.pm_topology.specs.Places.{power_place}
use Rattle.pm_topofile.specs.Taking.{nothing, optional_place, taken, with_members}
use Rattle.pm_topofile.specs.Printing.{IsSmall, AreSmall, IsSmallSlave, HasSmallNumbers, line_text, power_at, power_words, proc_words, slave_words, state_words, reset_words, owner_words, power_text, proc_text, slave_text, state_text, reset_text, owner_line, owner_lines, owner_text, number_of, text_of}
use Rattle.pm_topofile.proofs.Lengths.{small_parts, text_short, within_limits}
use Rattle.pm_topofile.proofs.LastLemmas.{with_state-last, with_members-same}
use Rattle.pm_topofile.proofs.Leads.{Leads, number_in, leads_on, leads_line, leads_all, says_power, says_proc, says_slave, says_state, says_line, says_owner, numbers_of, nodes_again, AreSmallNodes, nodes_small, small_nodes}

-- ---- places

-- the entry at a place of a whole list
pub at_seam : {X : Type 0} (front : List X) (x : X) (back whole : List X) → front ++ x ∷ back ≡ whole → slice_get whole (length front) ≡ Some x
at_seam front x back whole is =
    let here : slice_get (front ++ x ∷ back) (length front + 0) ≡ Some x = slice_get-append_right front (x ∷ back) 0 in
    let at : length front + 0 ≡ length front = omega arith in
    subst (λ xs. slice_get xs (length front) ≡ Some x) is (subst (λ k. slice_get (front ++ x ∷ back) k ≡ Some x) at here)

pub first_passing : {X : Type 0} (p : X → Bool) (xs : List X) (w : ℕ) (q : X) → slice_get xs w ≡ Some q → p q ≡ true → ((k : ℕ) (x : X) → k < w → slice_get xs k ≡ Some x → p x ≡ false) → position_or_len p xs ≡ w
first_passing p [] w q here passes others = cc
first_passing {X} p (x ∷ xs) zero q here passes others =
    let same : p x ≡ true = cc in
    rw same refl
first_passing p (x ∷ xs) (suc w) q here passes others =
    let fails : p x ≡ false = others zero x (omega arith) refl in
    rw fails (omega (arith, first_passing p xs w q here passes (λ k y within there. others (suc k) y (omega arith) there)))

-- the place of an entry by its number
pub placed_at : (powers : List PowerDef) (w : ℕ) (q : PowerDef) → AreDistinct (λ (p : PowerDef). p.node.0) powers → slice_get powers w ≡ Some q → power_place powers q.node.0 ≡ Some w
placed_at powers w q distinct here =
    let test : PowerDef → Bool = λ p. p.node.0 == q.node.0 in
    let at : position_or_len test powers ≡ w = first_passing test powers w q here (equal q.node.0 q.node.0 refl) (λ k p within there. unequal p.node.0 q.node.0 (λ same. let one = distinct k w p q there here same in absurd (omega arith))) in
    let within : w < length powers = slice_get_within powers w q here in
    rw at (grind (arith, nat_tests))

pub front_distinct : {X : Type 0} (number : X → ℕ) (front back whole : List X) → front ++ back ≡ whole → AreDistinct number whole → AreDistinct number front
front_distinct number front back whole is distinct j k x y here there same =
    distinct j k x y (subst (λ xs. slice_get xs j ≡ Some x) is (slice_get-append_left front back j x here)) (subst (λ xs. slice_get xs k ≡ Some y) is (slice_get-append_left front back k y there)) same

-- an entry of a front of a list, by its place
pub in_front : {X : Type 0} (front back whole : List X) (w : ℕ) → front ++ back ≡ whole → w < length front → (x : X) × (slice_get front w ≡ Some x) × (slice_get whole w ≡ Some x)
in_front {X} front back whole w is within =
    elim ((slice_get_cases front w).1) [
      | inl there ↦ (there.0, there.2, subst (λ xs. slice_get xs w ≡ Some there.0) is (slice_get-append_left front back w there.0 there.2))
      | inr past ↦ absurd (let more = past.0 in omega arith)
    ]

-- the first of some words
small_head : (w : Option ℕ) (ws : List (Option ℕ)) → AreSmall (w ∷ ws) → IsSmall w × AreSmall ws
small_head w ws small = small

-- ---- power nodes

-- a parent by its number: that of an earlier power node
record IsNamed (powers front : List PowerDef) (parent : Option ℕ) (named : Option NodeId) : Type 0 where
  pub number : option_and_then (power_at powers) parent ≡ number_in named
  pub place : optional_place named front ≡ Some parent

named_parent : (front back powers : List PowerDef) (parent : Option ℕ) → front ++ back ≡ powers → AreDistinct (λ (p : PowerDef). p.node.0) powers → IfSome parent (λ w. w < length front) → (named : Option NodeId) × IsNamed powers front parent named
named_parent front back powers None is distinct early = (None, record { number = refl; place = refl })
named_parent front back powers (Some w) is distinct early =
    let q = in_front front back powers w is early in
    let found = placed_at front w q.0 (front_distinct (λ (p : PowerDef). p.node.0) front back powers is distinct) q.1 in
    (Some q.0.node, record { number = rw q.2 refl; place = rw found refl })

abbrev pub with_powers : List PowerDef → Topology
with_powers front = record { slaves = []; procs = []; powers = front; lines = []; masters = [] }

pub takes_power : (front : List PowerDef) (p : PowerDef) (named : Option NodeId) → optional_place named front ≡ Some p.parent → taken (Power (record { node = p.node; parent = named; held = p.held; figure = p.figure; latency = p.latency })) (with_powers front) ≡ Ok (with_powers (front ++ p ∷ []))
unfolding taken
takes_power front p named place = rw place refl

lead_power : (powers front back : List PowerDef) (p : PowerDef) → AreDistinct (λ (p : PowerDef). p.node.0) powers → front ++ p ∷ back ≡ powers → IfSome p.parent (λ w. w < length front) → AreSmall (power_words powers p) → (rest : List ℕ) → Leads (power_text powers p ++ rest) (with_powers front) (with_powers (front ++ p ∷ [])) rest
lead_power powers front back p distinct is early small rest =
    let named = named_parent front (p ∷ back) powers p.parent is distinct early in
    let parent : IsSmall (number_in named.0) = subst IsSmall named.1.number small.1.0 in
    leads_line keywords.Power (power_words powers p) rest (Power (record { node = p.node; parent = named.0; held = p.held; figure = p.figure; latency = p.latency })) (with_powers front) (with_powers (front ++ p ∷ [])) small (omega arith)
    (rw named.1.number (says_power (record { node = p.node; parent = named.0; held = p.held; figure = p.figure; latency = p.latency }) small.0 parent small.1.1.1.0 small.1.1.1.1.0))
    (takes_power front p named.0 named.1.place)

-- ---- processors

abbrev pub with_procs : List PowerDef → List ProcDef → Topology
with_procs powers front = record { slaves = []; procs = front; powers = powers; lines = []; masters = [] }

-- the power node at a place, as lines name it
pub record IsParent (powers : List PowerDef) (place : ℕ) (node : NodeId) : Type 0 where
  pub number : power_at powers place ≡ Some node.0
  pub found : power_place powers node.0 ≡ Some place

pub parent_of : (powers : List PowerDef) (place : ℕ) → AreDistinct (λ (p : PowerDef). p.node.0) powers → place < length powers → (node : NodeId) × IsParent powers place node
parent_of powers place distinct within =
    let q = in_front powers [] powers place (append-nil powers) within in
    (q.0.node, record { number = rw q.1 refl; found = placed_at powers place q.0 distinct q.1 })

pub takes_proc : (powers : List PowerDef) (front : List ProcDef) (p : ProcDef) (node : NodeId) → power_place powers node.0 ≡ Some p.parent → taken (Proc (record { node = p.node; parent = node; figure = p.figure; latency = p.latency })) (with_procs powers front) ≡ Ok (with_procs powers (front ++ p ∷ []))
unfolding taken
takes_proc powers front p node place = rw place refl

lead_proc : (powers : List PowerDef) (front : List ProcDef) (p : ProcDef) → AreDistinct (λ (p : PowerDef). p.node.0) powers → p.parent < length powers → AreSmall (proc_words powers p) → (rest : List ℕ) → Leads (proc_text powers p ++ rest) (with_procs powers front) (with_procs powers (front ++ p ∷ [])) rest
lead_proc powers front p distinct within small rest =
    let parent = parent_of powers p.parent distinct within in
    let fits : IsSmall (Some parent.0.0) = subst IsSmall parent.1.number small.1.0 in
    leads_line keywords.Proc (proc_words powers p) rest (Proc (record { node = p.node; parent = parent.0; figure = p.figure; latency = p.latency })) (with_procs powers front) (with_procs powers (front ++ p ∷ [])) small (omega arith)
    (rw parent.1.number (says_proc (record { node = p.node; parent = parent.0; figure = p.figure; latency = p.latency }) small.0 fits small.1.1.0 small.1.1.1.0))
    (takes_proc powers front p parent.0 parent.1.found)

-- ---- slaves and their states

abbrev pub with_slaves : List PowerDef → List ProcDef → List SlaveDef → Topology
with_slaves powers procs front = record { slaves = front; procs = procs; powers = powers; lines = []; masters = [] }

abbrev pub with_states : SlaveDef → List SlaveState → SlaveDef
with_states s states = record { node = s.node; parent = s.parent; states = states }

pub takes_slave : (powers : List PowerDef) (procs : List ProcDef) (front : List SlaveDef) (s : SlaveDef) (node : NodeId) → power_place powers node.0 ≡ Some s.parent → taken (Slave (record { node = s.node; parent = node })) (with_slaves powers procs front) ≡ Ok (with_slaves powers procs (front ++ with_states s [] ∷ []))
unfolding taken
takes_slave powers procs front s node place = rw place refl

pub takes_state : (powers : List PowerDef) (procs : List ProcDef) (front : List SlaveDef) (s : SlaveDef) (states : List SlaveState) (state : SlaveState) → taken (State state) (with_slaves powers procs (front ++ with_states s states ∷ [])) ≡ Ok (with_slaves powers procs (front ++ with_states s (states ++ state ∷ []) ∷ []))
unfolding taken
takes_state powers procs front s states state =
    let some : eqb (length (front ++ with_states s states ∷ [])) 0 ≡ false = let long = length-append front (with_states s states ∷ []) in grind (arith, nat_tests) in
    rw (some, with_state-last state front (with_states s states)) refl

lead_state : (powers : List PowerDef) (procs : List ProcDef) (front : List SlaveDef) (s : SlaveDef) (states : List SlaveState) (state : SlaveState) → state.caps.0 < 8 → AreSmall (state_words state) → (rest : List ℕ) → Leads (state_text state ++ rest) (with_slaves powers procs (front ++ with_states s states ∷ [])) (with_slaves powers procs (front ++ with_states s (states ++ state ∷ []) ∷ [])) rest
lead_state powers procs front s states state caps small rest =
    leads_line keywords.State (state_words state) rest (State state) (with_slaves powers procs (front ++ with_states s states ∷ [])) (with_slaves powers procs (front ++ with_states s (states ++ state ∷ []) ∷ [])) small (omega arith)
    (says_state state caps small.1.0 small.1.1.1.0)
    (takes_state powers procs front s states state)

-- what holds of the entries of a list holds of that at a seam
all_at_seam : {X : Type 0} (P : X → Type 0) (front : List X) (x : X) (back whole : List X) → front ++ x ∷ back ≡ whole → AllByRecursion P whole → P x
all_at_seam {X} P front x back whole is all = at front (subst (λ xs. AllByRecursion P xs) (sym is) all)
  where
    at : (ys : List X) → AllByRecursion P (ys ++ x ∷ back) → P x
    at [] all = all.0
    at (y ∷ ys) all = at ys all.1

lead_slave : (powers : List PowerDef) (procs : List ProcDef) (front : List SlaveDef) (s : SlaveDef) → AreDistinct (λ (p : PowerDef). p.node.0) powers → s.parent < length powers → ((k : ℕ) (e : SlaveState) → slice_get s.states k ≡ Some e → e.caps.0 < 8) → IsSmallSlave powers s → (rest : List ℕ) → Leads (slave_text powers s ++ rest) (with_slaves powers procs front) (with_slaves powers procs (front ++ s ∷ [])) rest
lead_slave powers procs front s distinct within caps small rest =
    let parent = parent_of powers s.parent distinct within in
    let fits : IsSmall (Some parent.0.0) = subst IsSmall parent.1.number small.words.1.0 in
    let more = flat_map state_text s.states ++ rest in
    let first = leads_line keywords.Slave (slave_words powers s) more (Slave (record { node = s.node; parent = parent.0 })) (with_slaves powers procs front) (with_slaves powers procs (front ++ with_states s [] ∷ [])) small.words (omega arith)
    (rw parent.1.number (says_slave (record { node = s.node; parent = parent.0 }) small.words.0 fits))
    (takes_slave powers procs front s parent.0 parent.1.found) in
    let later = leads_all state_text (λ states. with_slaves powers procs (front ++ with_states s states ∷ [])) s.states
    (λ before e after is rest. lead_state powers procs front s before e (caps (length before) e (at_seam before e after s.states is)) (all_at_seam (λ state. AreSmall (state_words state)) before e after s.states is small.states) rest)
    s.states [] refl rest in
    subst (λ (text : List ℕ). Leads text (with_slaves powers procs front) (with_slaves powers procs (front ++ s ∷ [])) rest) (sym (append_assoc (line_text keywords.Slave (slave_words powers s)) (flat_map state_text s.states) rest))
    (leads_on (line_text keywords.Slave (slave_words powers s) ++ more) more rest (with_slaves powers procs front) (with_slaves powers procs (front ++ with_states s [] ∷ [])) (with_slaves powers procs (front ++ s ∷ [])) first later)

-- ---- reset lines

abbrev pub with_lines : List PowerDef → List ProcDef → List SlaveDef → List LineDef → Topology
with_lines powers procs slaves front = record { slaves = slaves; procs = procs; powers = powers; lines = front; masters = [] }

pub takes_line : (powers : List PowerDef) (procs : List ProcDef) (slaves : List SlaveDef) (front : List LineDef) (l : LineDef) → taken (Line l) (with_lines powers procs slaves front) ≡ Ok (with_lines powers procs slaves (front ++ l ∷ []))
unfolding taken
takes_line powers procs slaves front l = refl

lead_line : (powers : List PowerDef) (procs : List ProcDef) (slaves : List SlaveDef) (front : List LineDef) (l : LineDef) → AreSmall (reset_words l) → (rest : List ℕ) → Leads (reset_text l ++ rest) (with_lines powers procs slaves front) (with_lines powers procs slaves (front ++ l ∷ [])) rest
lead_line powers procs slaves front l small rest =
    leads_line keywords.Line (reset_words l) rest (Line l) (with_lines powers procs slaves front) (with_lines powers procs slaves (front ++ l ∷ [])) small (omega arith)
    (says_line l small.0 small.1.0)
    (takes_line powers procs slaves front l)

-- ---- masters

abbrev pub with_masters : Topology → List MasterDef → Topology
with_masters t front = record { slaves = t.slaves; procs = t.procs; powers = t.powers; lines = t.lines; masters = front }

abbrev pub master : NodeId → List NodeId → MasterDef
master node procs = record { node = node; procs = procs }

pub with_members-new : (node : NodeId) (procs : List NodeId) (front : List MasterDef) → ((k : ℕ) (m : MasterDef) → slice_get front k ≡ Some m → m.node.0 ≢ node.0) → with_members node procs front ≡ front ++ master node procs ∷ []
with_members-new node procs [] others = refl
with_members-new node procs (m ∷ []) others = rw (unequal m.node.0 node.0 (others zero m refl)) refl
with_members-new node procs (m ∷ next ∷ front) others = ap (λ (more : List MasterDef). m ∷ more) (with_members-new node procs (next ∷ front) (λ k x here. others (suc k) x here))

pub takes_new : (t : Topology) (front : List MasterDef) (node : NodeId) (procs : List NodeId) → ((k : ℕ) (m : MasterDef) → slice_get front k ≡ Some m → m.node.0 ≢ node.0) → taken (Owner node (record { items = numbers_of procs })) (with_masters t front) ≡ Ok (with_masters t (front ++ master node procs ∷ []))
unfolding taken
takes_new t front node procs others = rw (nodes_again procs, with_members-new node procs front others) refl

pub takes_more : (t : Topology) (front : List MasterDef) (node : NodeId) (before procs : List NodeId) → taken (Owner node (record { items = numbers_of procs })) (with_masters t (front ++ master node before ∷ [])) ≡ Ok (with_masters t (front ++ master node (before ++ procs) ∷ []))
unfolding taken
takes_more t front node before procs = rw (nodes_again procs, with_members-same node procs front (master node before) (equal node.0 node.0 refl)) refl

lead_owner_line : (node : NodeId) (procs : List NodeId) (from to : Topology) → node.0 < 2 ^ 32 → AreSmallNodes procs → 0 < length procs → length procs ≤ 16 → taken (Owner node (record { items = numbers_of procs })) from ≡ Ok to → (rest : List ℕ) → Leads (owner_line node procs ++ rest) from to rest
lead_owner_line node procs from to named small some few takes rest =
    leads_line keywords.Owner (owner_words node procs) rest (Owner node (record { items = numbers_of procs })) from to (named, nodes_small procs small) (omega (arith, length-map procs number_of))
    (says_owner node procs named small some few) takes

-- the first 16 processors, and the others
record Parted (procs : List NodeId) (full : ℕ) : Type 0 where
  pub first : AreSmallNodes (take 16 procs)
  pub later : AreSmallNodes (drop 16 procs)
  pub long : length (take 16 procs) ≡ 16
  pub least : 16 * full < length (drop 16 procs)
  pub most : length (drop 16 procs) ≤ 16 * full + 16

parted : (procs : List NodeId) (full : ℕ) → AreSmallNodes procs → 16 * suc full < length procs → length procs ≤ 16 * suc full + 16 → Parted procs full
parted procs full small least most =
    let both = small_parts (take 16 procs) (drop 16 procs) (subst AreSmallNodes (sym (take-append-drop 16 procs)) small) in
    record {
      first = both.0;
      later = both.1;
      long = omega (arith, length-take 16 procs);
      least = omega (arith, length-drop 16 procs);
      most = omega (arith, length-drop 16 procs);
    }

-- further lines of a master
lead_more : (t : Topology) (front : List MasterDef) (node : NodeId) → node.0 < 2 ^ 32 → (full : ℕ) (before procs : List NodeId) → AreSmallNodes procs → 16 * full < length procs → length procs ≤ 16 * full + 16 → (rest : List ℕ) → Leads (owner_lines full node procs ++ rest) (with_masters t (front ++ master node before ∷ [])) (with_masters t (front ++ master node (before ++ procs) ∷ [])) rest
lead_more t front node named zero before procs small least most rest =
    lead_owner_line node procs (with_masters t (front ++ master node before ∷ [])) (with_masters t (front ++ master node (before ++ procs) ∷ [])) named small (omega arith) (omega arith) (takes_more t front node before procs) rest
lead_more t front node named (suc full) before procs small least most rest =
    let parts = parted procs full small least most in
    let long = parts.long in
    let left = owner_lines full node (drop 16 procs) ++ rest in
    let mid = with_masters t (front ++ master node (before ++ take 16 procs) ∷ []) in
    let first = lead_owner_line node (take 16 procs) (with_masters t (front ++ master node before ∷ [])) mid named parts.first (omega arith) (omega arith) (takes_more t front node before (take 16 procs)) left in
    let later = lead_more t front node named full (before ++ take 16 procs) (drop 16 procs) parts.later parts.least parts.most rest in
    let whole : before ++ take 16 procs ++ drop 16 procs ≡ before ++ procs = append_assoc before (take 16 procs) (drop 16 procs) ∙ ap (λ xs. before ++ xs) (take-append-drop 16 procs) in
    subst (λ (text : List ℕ). Leads text (with_masters t (front ++ master node before ∷ [])) (with_masters t (front ++ master node (before ++ procs) ∷ [])) rest) (sym (append_assoc (owner_line node (take 16 procs)) (owner_lines full node (drop 16 procs)) rest))
    (leads_on (owner_line node (take 16 procs) ++ left) left rest (with_masters t (front ++ master node before ∷ [])) mid (with_masters t (front ++ master node (before ++ procs) ∷ [])) first (subst (λ (all : List NodeId). Leads left mid (with_masters t (front ++ master node all ∷ [])) rest) whole later))

-- all lines of a master
lead_lines : (t : Topology) (front : List MasterDef) (node : NodeId) → node.0 < 2 ^ 32 → ((k : ℕ) (m : MasterDef) → slice_get front k ≡ Some m → m.node.0 ≢ node.0) → (full : ℕ) (procs : List NodeId) → AreSmallNodes procs → 16 * full < length procs → length procs ≤ 16 * full + 16 → (rest : List ℕ) → Leads (owner_lines full node procs ++ rest) (with_masters t front) (with_masters t (front ++ master node procs ∷ [])) rest
lead_lines t front node named others zero procs small least most rest =
    lead_owner_line node procs (with_masters t front) (with_masters t (front ++ master node procs ∷ [])) named small (omega arith) (omega arith) (takes_new t front node procs others) rest
lead_lines t front node named others (suc full) procs small least most rest =
    let parts = parted procs full small least most in
    let long = parts.long in
    let left = owner_lines full node (drop 16 procs) ++ rest in
    let mid = with_masters t (front ++ master node (take 16 procs) ∷ []) in
    let first = lead_owner_line node (take 16 procs) (with_masters t front) mid named parts.first (omega arith) (omega arith) (takes_new t front node (take 16 procs) others) left in
    let later = lead_more t front node named full (take 16 procs) (drop 16 procs) parts.later parts.least parts.most rest in
    subst (λ (text : List ℕ). Leads text (with_masters t front) (with_masters t (front ++ master node procs ∷ [])) rest) (sym (append_assoc (owner_line node (take 16 procs)) (owner_lines full node (drop 16 procs)) rest))
    (leads_on (owner_line node (take 16 procs) ++ left) left rest (with_masters t front) mid (with_masters t (front ++ master node procs ∷ [])) first (subst (λ (all : List NodeId). Leads left mid (with_masters t (front ++ master node all ∷ [])) rest) (take-append-drop 16 procs) later))

lead_owner : (t : Topology) (front back masters : List MasterDef) (m : MasterDef) → front ++ m ∷ back ≡ masters → AreDistinct (λ (m : MasterDef). m.node.0) masters → 0 < length m.procs → AreSmall (owner_words m.node m.procs) → (rest : List ℕ) → Leads (owner_text m ++ rest) (with_masters t front) (with_masters t (front ++ m ∷ [])) rest
lead_owner t front back masters m is distinct some small rest =
    let others : (k : ℕ) (x : MasterDef) → slice_get front k ≡ Some x → x.node.0 ≢ m.node.0 = λ k x here same.
    let at = distinct k (length front) x m (subst (λ xs. slice_get xs k ≡ Some x) is (slice_get-append_left front (m ∷ back) k x here)) (at_seam front m back masters is) same in
    let within : k < length front = slice_get_within front k x here in
    absurd (omega arith) in
    lead_lines t front m.node small.0 others ((length m.procs - 1) / 16) m.procs (small_nodes m.procs small.1) (omega arith) (omega arith) rest

-- ---- the whole text

pub lead_all : (t : Topology) → IsSupported t → HasSmallNumbers t → Leads (text_of t) nothing t []
unfolding text_of
lead_all t ok small =
    let w = ok.well_formed in
    let owners = flat_map owner_text t.masters in
    let resets = flat_map reset_text t.lines ++ owners in
    let slaves = flat_map (slave_text t.powers) t.slaves ++ resets in
    let procs = flat_map (proc_text t.powers) t.procs ++ slaves in
    let first = leads_all (power_text t.powers) with_powers t.powers (λ front p back is rest. lead_power t.powers front back p w.powers_distinct is (w.power_parents (length front) p (at_seam front p back t.powers is)) (all_at_seam (λ p. AreSmall (power_words t.powers p)) front p back t.powers is small.powers) rest) t.powers [] refl procs in
    let second = leads_all (proc_text t.powers) (with_procs t.powers) t.procs (λ front p back is rest. lead_proc t.powers front p w.powers_distinct (w.proc_parents (length front) p (at_seam front p back t.procs is)) (all_at_seam (λ p. AreSmall (proc_words t.powers p)) front p back t.procs is small.procs) rest) t.procs [] refl slaves in
    let third = leads_all (slave_text t.powers) (with_slaves t.powers t.procs) t.slaves (λ front s back is rest. lead_slave t.powers t.procs front s w.powers_distinct (w.slave_parents (length front) s (at_seam front s back t.slaves is)) (ok.known (length front) s (at_seam front s back t.slaves is)) (all_at_seam (IsSmallSlave t.powers) front s back t.slaves is small.slaves) rest) t.slaves [] refl resets in
    let fourth = leads_all reset_text (with_lines t.powers t.procs t.slaves) t.lines (λ front l back is rest. lead_line t.powers t.procs t.slaves front l (all_at_seam (λ l. AreSmall (reset_words l)) front l back t.lines is small.lines) rest) t.lines [] refl owners in
    let fifth = leads_all owner_text (with_masters t) t.masters (λ front m back is rest. lead_owner t front back t.masters m is w.masters_distinct (w.members (length front) m (at_seam front m back t.masters is)).0 (all_at_seam (λ m. AreSmall (owner_words m.node m.procs)) front m back t.masters is small.masters) rest) t.masters [] refl [] in
    let ended : owners ++ [] ≡ owners = append-nil owners in
    leads_on (flat_map (power_text t.powers) t.powers ++ procs) procs [] nothing (with_powers t.powers) t first
    (leads_on procs slaves [] (with_powers t.powers) (with_procs t.powers t.procs) t second
    (leads_on slaves resets [] (with_procs t.powers t.procs) (with_slaves t.powers t.procs t.slaves) t third
    (leads_on resets owners [] (with_slaves t.powers t.procs t.slaves) (with_lines t.powers t.procs t.slaves t.lines) t fourth
    (subst (λ (text : List ℕ). Leads text (with_lines t.powers t.procs t.slaves t.lines) t []) ended fifth))))

-- the law
pub read_again : (t : Topology) → IsSupported t → HasSmallNumbers t → meaning (text_of t) ≡ Ok t
unfolding meaning
read_again t ok small =
    let short = text_short t (within_limits t ok.well_formed) small in
    let fits : nat_lt most_bytes (length (text_of t)) ≡ false = grind (arith, nat_tests) in
    let read = lead_all t ok small 1 in
    rw (fits, read.1, faultless_where t ok.well_formed) refl

-- the same of what was printed
pub again_where : {V E : Type 0} (items : V → List ℕ) (t : Topology) (result : Result V E)
    → ((u : Topology) → IsSupported u → HasSmallNumbers u → meaning (text_of u) ≡ Ok u)
    → IfOk result (λ text. items text ≡ text_of t) → IfOk result (λ _. HasSmallNumbers t)
    → IsSupported t → IfOk result (λ text. meaning (items text) ≡ Ok t)
again_where items t (Ok text) law printed small ok = subst (λ bytes. meaning bytes ≡ Ok t) (sym printed) (law t ok small)
again_where items t (Err e) law printed small ok = tt
