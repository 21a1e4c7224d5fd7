-- The lines of a text lead to a topology as their items do, one after another.
use Rattle.std.proofs.Common.{◌≡◌, ℕ, ◌+◌, List, [], ◌∷◌, Option, Some, None, Result, Ok, Err, refl, sym, ap, subst, ◌∙◌}
use Rattle.std.specs.Prelude.{⊤, option_and_then}
use Rattle.std.specs.Option.{option_map}
use Rattle.std.specs.List.{AllByRecursion}
use Rattle.pm_topology.specs.declared.topology.Topology.{Topology}
use Rattle.pm_topofile.specs.declared.fault.TopoTextCause.{TopoTextCause}
use Rattle.pm_topofile.specs.declared.fault.TopologyError.{TopologyError}
use Rattle.pm_topofile.specs.declared.item.Item.{Item}
use Rattle.pm_topofile.specs.declared.item.Item.TheVariants.{Empty, Power, Proc, Slave, State, Line, Owner}
use Rattle.pm_topofile.specs.Means.{item_before, items_in}
use Rattle.pm_topofile.specs.Reading.{item_of}
use Rattle.pm_topofile.specs.Taking.{taken}
use Rattle.pm_topofile.specs.Meaning.{item_taken, line_taken, lines_taken}
use Rattle.pm_topofile.proofs.Known.{good_line, good_before}

-- what these items lead to, one after another
abbrev pub on_ok : Result Topology TopoTextCause → (Topology → Result Topology TopoTextCause) → Result Topology TopoTextCause
on_ok (Ok t) next = next t
on_ok (Err cause) next = Err cause

abbrev pub items_taken : Topology → List Item → Result Topology TopoTextCause
items_taken t [] = Ok t
items_taken t (item ∷ items) = on_ok (taken item t) (λ u. items_taken u items)

-- an item that says something
abbrev pub IsSaid : Item → Type 0
IsSaid Empty = ⊥
IsSaid item = ⊤

abbrev good : Topology → Result Topology TopoTextCause
good t = Ok t

nothing_taken : (t mid : Topology) → taken Empty t ≡ Ok mid → t ≡ mid
unfolding taken
nothing_taken t mid is = cc

before_taken : (item : Item) (t mid u : Topology) (items : List Item) → taken item t ≡ Ok mid → items_taken mid items ≡ Ok u → items_taken t (item_before item items) ≡ Ok u
before_taken Empty t mid u items is later = subst (λ (x : Topology). items_taken x items ≡ Ok u) (sym (nothing_taken t mid is)) later
before_taken (Power p) t mid u items is later = rw is later
before_taken (Proc p) t mid u items is later = rw is later
before_taken (Slave s) t mid u items is later = rw is later
before_taken (State s) t mid u items is later = rw is later
before_taken (Line l) t mid u items is later = rw is later
before_taken (Owner node procs) t mid u items is later = rw is later

before_said : (item : Item) (items : List Item) → AllByRecursion IsSaid items → AllByRecursion IsSaid (item_before item items)
before_said Empty items said = said
before_said (Power p) items said = (tt, said)
before_said (Proc p) items said = (tt, said)
before_said (Slave s) items said = (tt, said)
before_said (State s) items said = (tt, said)
before_said (Line l) items said = (tt, said)
before_said (Owner node procs) items said = (tt, said)

-- the items of lines that lead from a topology to another
pub record HasItems (t u : Topology) (lines : List (List ℕ)) : Type 0 where
  pub items : List Item
  pub are : items_in lines ≡ Some items
  pub said : AllByRecursion IsSaid items
  pub lead : items_taken t items ≡ Ok u

item_there : (found : Option Item) (t mid : Topology) → item_taken found t ≡ Ok mid → (item : Item) × (found ≡ Some item) × (taken item t ≡ Ok mid)
item_there None t mid is = cc
item_there (Some item) t mid is = (item, refl, is)

line_item : (n : ℕ) (text : List ℕ) (t mid : Topology) → line_taken n text t ≡ Ok mid → (item : Item) × (item_of text ≡ Some item) × (taken item t ≡ Ok mid)
unfolding line_taken
line_item n text t mid is = item_there (item_of text) t mid (good_line n (item_taken (item_of text) t) mid is)

items_joined : (a : Option Item) (b : Option (List Item)) (item : Item) (items : List Item) → a ≡ Some item → b ≡ Some items
    → option_and_then (λ first. option_map (item_before first) b) a ≡ Some (item_before item items)
items_joined a b item items is are = rw (is, are) refl

pub lines_items : (lines : List (List ℕ)) (n : ℕ) (t u : Topology) → lines_taken n t lines ≡ Ok u → HasItems t u lines
lines_items [] n t u is =
    let same : t ≡ u = cc in
    record { items = []; are = refl; said = tt; lead = ap (λ (x : Topology). good x) same }
lines_items (text ∷ lines) n t u is =
    let first = good_before (line_taken n text t) (λ next. lines_taken (n + 1) next lines) u is in
    let one = line_item n text t first.0 first.1 in
    let later = lines_items lines (n + 1) first.0 u first.2 in
    record {
      items = item_before one.0 later.items;
      are = items_joined (item_of text) (items_in lines) one.0 later.items one.1 later.are;
      said = before_said one.0 later.items later.said;
      lead = before_taken one.0 t first.0 u later.items one.2 later.lead;
    }

-- ---- back

-- the item of a line and the items of those after it
items_parted : (a : Option Item) (b : Option (List Item)) (all : List Item)
    → option_and_then (λ first. option_map (item_before first) b) a ≡ Some all
    → (item : Item) × (items : List Item) × (a ≡ Some item) × (b ≡ Some items) × (item_before item items ≡ all)
items_parted None b all is = cc
items_parted (Some item) None all is = cc
items_parted (Some item) (Some items) all is = (item, items, refl, refl, cc)

pub good_first : (r : Result Topology TopoTextCause) (next : Topology → Result Topology TopoTextCause) (u : Topology) → on_ok r next ≡ Ok u → (mid : Topology) × (r ≡ Ok mid) × (next mid ≡ Ok u)
good_first (Ok t) next u is = (t, refl, is)
good_first (Err cause) next u is = cc

empty_taken : (t : Topology) → taken Empty t ≡ Ok t
unfolding taken
empty_taken t = refl

taken_before : (item : Item) (t u : Topology) (items : List Item) → items_taken t (item_before item items) ≡ Ok u
    → (mid : Topology) × (taken item t ≡ Ok mid) × (items_taken mid items ≡ Ok u)
taken_before Empty t u items is = (t, empty_taken t, is)
taken_before (Power p) t u items is = good_first (taken (Power p) t) (λ mid. items_taken mid items) u is
taken_before (Proc p) t u items is = good_first (taken (Proc p) t) (λ mid. items_taken mid items) u is
taken_before (Slave s) t u items is = good_first (taken (Slave s) t) (λ mid. items_taken mid items) u is
taken_before (State s) t u items is = good_first (taken (State s) t) (λ mid. items_taken mid items) u is
taken_before (Line l) t u items is = good_first (taken (Line l) t) (λ mid. items_taken mid items) u is
taken_before (Owner node procs) t u items is = good_first (taken (Owner node procs) t) (λ mid. items_taken mid items) u is

line_leads : (n : ℕ) (text : List ℕ) (t mid : Topology) (item : Item) → item_of text ≡ Some item → taken item t ≡ Ok mid → line_taken n text t ≡ Ok mid
unfolding line_taken
line_leads n text t mid item is leads = rw (is, leads) refl

abbrev whole : Topology → Result Topology TopologyError
whole t = Ok t

pub items_lines : (lines : List (List ℕ)) (n : ℕ) (t u : Topology) (all : List Item) → items_in lines ≡ Some all → items_taken t all ≡ Ok u → lines_taken n t lines ≡ Ok u
items_lines [] n t u all are is =
    let none : [] ≡ all = cc in
    let same : items_taken t [] ≡ Ok u = ap (items_taken t) none ∙ is in
    let one : t ≡ u = cc in
    ap (λ (x : Topology). whole x) one
items_lines (text ∷ lines) n t u all are is =
    let parts = items_parted (item_of text) (items_in lines) all are in
    let first = taken_before parts.0 t u parts.1 (ap (items_taken t) parts.4 ∙ is) in
    let later = items_lines lines (n + 1) first.0 u parts.1 parts.3 first.2 in
    rw (line_leads n text t first.0 parts.0 parts.2 first.1) later
