-- The notes that wait in a master's notes stand in the order in which they are told.
use Rattle.std.proofs.Common.{◌≡◌, ℕ, ◌&&◌, Bool, true, false, ◌==◌, nat_lt, List, [], ◌∷◌, ◌++◌, map, refl}
use Rattle.std.specs.Prelude.{Option, Some, None}
use Rattle.std.specs.List.{list_all}
use Rattle.pm_base.specs.declared.names.NodeId.{NodeId}
use Rattle.pm_base.specs.declared.names.Unit.{Unit}
use Rattle.pm_base.specs.declared.names.Unit.TheVariants.{Node, Line}
use Rattle.pm_base.proofs.Booleans.{both, equal, first_passes, later_passes, pair_of}
use Rattle.pm_topology.specs.UnitMap.{units_in}
use Rattle.pm_topology.specs.Units.{is_before, rises}
use Rattle.pm_notify.specs.declared.notes.Note.{Note}
use Rattle.pm_notify.specs.declared.notes.Note.TheVariants.{Ack, Change, ZeroUsers}
use Rattle.pm_notify.specs.declared.notes.Waiting.{Waiting}
use Rattle.pm_notify.specs.declared.node_notes.Slots.{Slots}
use Rattle.pm_notify.specs.Laws.{are_told_in_order}
use Rattle.pm_notify.specs.MasterNotes.{MasterNotes, waiting_about, waiting_in}
use Rattle.pm_notify.specs.NodeNotes.{notes_in}
use Rattle.pm_notify.specs.Notes.{is_told_before, kind_number}
use Rattle.pm_notify.proofs.TakeLemmas.{about, slots_of}

all_of : (p : Waiting → Bool) (xs ys : List Waiting) → list_all p xs ≡ true → list_all p ys ≡ true → list_all p (xs ++ ys) ≡ true
all_of p [] ys first later = later
all_of p (x ∷ xs) ys first later =
    let parts = both (p x) (list_all p xs) first in
    pair_of (p x) (list_all p (xs ++ ys)) parts.0 (all_of p xs ys parts.1 later)

-- ---- notes about one node

by_kind : (n : NodeId) (a b : Note) → nat_lt (kind_number a) (kind_number b) ≡ true → is_told_before (about n a) (about n b) ≡ true
by_kind n a b is =
    later_passes (nat_lt n.0 n.0) ((n.0 == n.0) && nat_lt (kind_number a) (kind_number b)) (pair_of (n.0 == n.0) (nat_lt (kind_number a) (kind_number b)) (equal n.0 n.0 refl) is)

told_of : (n : NodeId) (ack : Option ℕ) (change users : Bool) → are_told_in_order (map (about n) (notes_in (slots_of ack change users))) ≡ true
told_of n None false false = refl
told_of n None false true = refl
told_of n None true false = refl
told_of n None true true = pair_of _ _ (pair_of _ _ (by_kind n Change ZeroUsers refl) refl) refl
told_of n (Some status) false false = refl
told_of n (Some status) false true = pair_of _ _ (pair_of _ _ (by_kind n (Ack status) ZeroUsers refl) refl) refl
told_of n (Some status) true false = pair_of _ _ (pair_of _ _ (by_kind n (Ack status) Change refl) refl) refl
told_of n (Some status) true true = pair_of _ _
    (pair_of _ _ (by_kind n (Ack status) Change refl) (pair_of _ _ (by_kind n (Ack status) ZeroUsers refl) refl))
    (pair_of _ _ (pair_of _ _ (by_kind n Change ZeroUsers refl) refl) refl)

told_about : (u : Unit) (slots : Slots) → are_told_in_order (waiting_about u slots) ≡ true
told_about (Node n) slots = told_of n slots.ack slots.change slots.zero_users
told_about (Line l) slots = refl

-- ---- notes about a node and those about later ones

before_notes : (w : Waiting) (n : NodeId) (of_node : List Note) → nat_lt w.node.0 n.0 ≡ true → list_all (is_told_before w) (map (about n) of_node) ≡ true
before_notes w n [] less = refl
before_notes w n (note ∷ of_node) less =
    pair_of (is_told_before w (about n note)) (list_all (is_told_before w) (map (about n) of_node))
    (first_passes (nat_lt w.node.0 n.0) ((w.node.0 == n.0) && nat_lt (kind_number w.note) (kind_number note)) less)
    (before_notes w n of_node less)

before_unit : (w : Waiting) (u : Unit) (slots : Slots) → is_before (Node w.node) u ≡ true → list_all (is_told_before w) (waiting_about u slots) ≡ true
before_unit w (Node n) slots less = before_notes w n (notes_in slots) less
before_unit w (Line l) slots less = refl

before_master_notes : (w : Waiting) (notes : MasterNotes) → list_all (is_before (Node w.node)) (units_in notes) ≡ true → list_all (is_told_before w) (waiting_in notes) ≡ true
before_master_notes w [] later = refl
before_master_notes w (e ∷ notes) later =
    let parts = both (is_before (Node w.node) e.0) (list_all (is_before (Node w.node)) (units_in notes)) later in
    all_of (is_told_before w) (waiting_about e.0 e.1.slots) (waiting_in notes) (before_unit w e.0 e.1.slots parts.0) (before_master_notes w notes parts.1)

joined : (n : NodeId) (of_node : List Note) (notes : MasterNotes) → list_all (is_before (Node n)) (units_in notes) ≡ true
    → are_told_in_order (map (about n) of_node) ≡ true → are_told_in_order (waiting_in notes) ≡ true
    → are_told_in_order (map (about n) of_node ++ waiting_in notes) ≡ true
joined n [] notes later here there = there
joined n (note ∷ of_node) notes later here there =
    let parts = both (list_all (is_told_before (about n note)) (map (about n) of_node)) (are_told_in_order (map (about n) of_node)) here in
    pair_of (list_all (is_told_before (about n note)) (map (about n) of_node ++ waiting_in notes)) (are_told_in_order (map (about n) of_node ++ waiting_in notes))
    (all_of (is_told_before (about n note)) (map (about n) of_node) (waiting_in notes) parts.0 (before_master_notes (about n note) notes later))
    (joined n of_node notes later parts.1 there)

joined_unit : (u : Unit) (slots : Slots) (notes : MasterNotes) → list_all (is_before u) (units_in notes) ≡ true
    → are_told_in_order (waiting_in notes) ≡ true → are_told_in_order (waiting_about u slots ++ waiting_in notes) ≡ true
joined_unit (Node n) slots notes later there = joined n (notes_in slots) notes later (told_about (Node n) slots) there
joined_unit (Line l) slots notes later there = there

pub told_in_order : (notes : MasterNotes) → rises (units_in notes) ≡ true → are_told_in_order (waiting_in notes) ≡ true
told_in_order [] rising = refl
told_in_order (e ∷ notes) rising =
    let parts = both (list_all (is_before e.0) (units_in notes)) (rises (units_in notes)) rising in
    joined_unit e.0 e.1.slots notes parts.0 (told_in_order notes parts.1)
