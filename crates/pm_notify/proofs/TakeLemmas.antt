-- What waits in a master's notes: the first note, and the rest once it was taken out.
use Rattle.std.proofs.Common.{◌≡◌, ℕ, ◌+◌, ◌*◌, ◌≤◌, Bool, true, false, cond, List, [], ◌∷◌, ◌++◌, drop, length, map, refl, ap, sym, ◌∙◌, arith, suc, zero}
use Rattle.std.specs.Prelude.{Option, Some, None, slice_get, unwrap_or}
use Rattle.std.specs.List.{list_all}
use Rattle.std.proofs.lemmas.List.{length-append, length-map}
use Rattle.std.proofs.lemmas.Bool.Decides.{nat_tests}
use Rattle.std.proofs.Math.Seq.{drop-length, drop-nil}
use Rattle.pm_base.specs.declared.names.NodeId.{NodeId}
use Rattle.pm_base.specs.declared.names.Unit.{Unit}
use Rattle.pm_base.specs.declared.names.Unit.TheVariants.{Node, Line}
use Rattle.pm_base.proofs.Booleans.{both, equal}
use Rattle.pm_topology.specs.UnitMap.{TableLaws, units_in, value_of, with_value}
use Rattle.pm_topology.specs.Units.{is_before, rises, same_unit}
use Rattle.pm_notify.specs.declared.notes.Note.{Note}
use Rattle.pm_notify.specs.declared.notes.Note.TheVariants.{Ack, Change, ZeroUsers}
use Rattle.pm_notify.specs.declared.notes.Waiting.{Waiting}
use Rattle.pm_notify.specs.declared.node_notes.NodeNotes.{NodeNotes}
use Rattle.pm_notify.specs.declared.node_notes.Slots.{Slots}
use Rattle.pm_notify.specs.MasterNotes.{MasterNotes, first_waiting_at, notes_at, waiting_about, waiting_in, without_note}
use Rattle.pm_notify.specs.NodeNotes.{emptied, no_notes, notes_in}
use Rattle.pm_notify.specs.Notify.{IsInOrder, first_for, notes_for, taken, taken_out, waiting_for}
use Rattle.pm_notify.proofs.MasterNotesLemmas.{master_notes_changed, units_kept}

-- ---- units in order

pub before_differs : (u v : Unit) → is_before u v ≡ true → same_unit u v ≡ false
before_differs (Node a) (Node b) is = grind (arith, nat_tests)
before_differs (Node a) (Line b) is = refl
before_differs (Line a) (Node b) is = refl
before_differs (Line a) (Line b) is = grind (arith, nat_tests)

pub after_differs : (u v : Unit) → is_before u v ≡ true → same_unit v u ≡ false
after_differs (Node a) (Node b) is = grind (arith, nat_tests)
after_differs (Node a) (Line b) is = refl
after_differs (Line a) (Node b) is = refl
after_differs (Line a) (Line b) is = grind (arith, nat_tests)

-- a node that comes before all of the notes isn't in them
unchanged : (u : Unit) (of_node : NodeNotes) (notes : MasterNotes) → list_all (is_before u) (units_in notes) ≡ true → with_value u of_node notes ≡ notes
unchanged u of_node [] later = refl
unchanged u of_node (e ∷ notes) later =
    let parts = both (is_before u e.0) (list_all (is_before u) (units_in notes)) later in
    ap (λ b. cond b (e.0, of_node) e ∷ with_value u of_node notes) (after_differs u e.0 parts.0) ∙ ap (λ es. e ∷ es) (unchanged u of_node notes parts.1)

-- ---- what waits about one unit

pub cons_head : {X : Type 0} (x y : X) (xs ys : List X) → x ∷ xs ≡ y ∷ ys → x ≡ y
cons_head x y xs ys e = cc

pub cons_tail : {X : Type 0} (x y : X) (xs ys : List X) → x ∷ xs ≡ y ∷ ys → xs ≡ ys
cons_tail x y xs ys e = cc

-- a note about a node, as it waits
abbrev pub about : NodeId → Note → Waiting
about n note = record { node = n; note = note }

noted_about : (n : NodeId) (of_node : List Note) (w : Waiting) (ws : List Waiting) → map (about n) of_node ≡ w ∷ ws → n ≡ w.node
noted_about n [] w ws is = cc
noted_about n (note ∷ of_node) w ws is = ap (λ (v : Waiting). v.node) (cons_head (about n note) w (map (about n) of_node) ws is)

about_unit : (u : Unit) (slots : Slots) (w : Waiting) (ws : List Waiting) → waiting_about u slots ≡ w ∷ ws → u ≡ Node w.node
about_unit (Node n) slots w ws is = ap Node (noted_about n (notes_in slots) w ws is)
about_unit (Line l) slots w ws is = cc

-- the slots with these parts
abbrev pub slots_of : Option ℕ → Bool → Bool → Slots
slots_of ack change zero_users = record { ack = ack; change = change; zero_users = zero_users }

rest_of : (n : NodeId) (ack : Option ℕ) (change users : Bool) (w : Waiting) (ws : List Waiting)
    → map (about n) (notes_in (slots_of ack change users)) ≡ w ∷ ws
    → map (about n) (notes_in (emptied w.note (slots_of ack change users))) ≡ ws
rest_of n (Some status) change users w ws is =
    ap (λ (v : Waiting). map (about n) (notes_in (emptied v.note (slots_of (Some status) change users)))) (sym (cons_head (about n (Ack status)) w _ ws is))
    ∙ cons_tail (about n (Ack status)) w _ ws is
rest_of n None true users w ws is =
    ap (λ (v : Waiting). map (about n) (notes_in (emptied v.note (slots_of None true users)))) (sym (cons_head (about n Change) w _ ws is))
    ∙ cons_tail (about n Change) w _ ws is
rest_of n None false true w ws is =
    ap (λ (v : Waiting). map (about n) (notes_in (emptied v.note (slots_of None false true)))) (sym (cons_head (about n ZeroUsers) w _ ws is))
    ∙ cons_tail (about n ZeroUsers) w _ ws is
rest_of n None false false w ws is = cc

rest_about : (u : Unit) (slots : Slots) (w : Waiting) (ws : List Waiting) → waiting_about u slots ≡ w ∷ ws → waiting_about u (emptied w.note slots) ≡ ws
rest_about (Node n) slots w ws is = rest_of n slots.ack slots.change slots.zero_users w ws is
rest_about (Line l) slots w ws is = cc

-- ---- the first note is taken out

-- the first note is about the first unit, or is the first one about the later ones
first_of_two : (u : Unit) (e : Unit × NodeNotes) (notes : MasterNotes) (w : Waiting) → is_before u e.0 ≡ true
    → (here : List Waiting) → waiting_about e.0 e.1.slots ≡ here → slice_get (here ++ waiting_in notes) 0 ≡ Some w
    → (slice_get (waiting_in notes) 0 ≡ Some w → is_before u (Node w.node) ≡ true)
    → is_before u (Node w.node) ≡ true
first_of_two u e notes w before [] none is later = later is
first_of_two u e notes w before (v ∷ vs) some is later =
    let same : v ≡ w = cc in
    ap (λ (x : Waiting). is_before u (Node x.node)) (sym same) ∙ ap (is_before u) (sym (about_unit e.0 e.1.slots v vs some)) ∙ before

first_comes_later : (u : Unit) (notes : MasterNotes) (w : Waiting) → list_all (is_before u) (units_in notes) ≡ true → slice_get (waiting_in notes) 0 ≡ Some w → is_before u (Node w.node) ≡ true
first_comes_later u [] w later is = cc
first_comes_later u (e ∷ notes) w later is =
    let parts = both (is_before u e.0) (list_all (is_before u) (units_in notes)) later in
    first_of_two u e notes w parts.0 (waiting_about e.0 e.1.slots) refl is (first_comes_later u notes w parts.1)

-- the notes about the first unit are passed over, and the rest of the notes changes
abbrev changed_with : Bool → Note → Unit × NodeNotes → Unit → MasterNotes → MasterNotes
changed_with b note e u notes =
    let of_node = unwrap_or (cond b (Some e.1) (value_of notes u)) no_notes in
    cond b (e.0, record of_node { slots = emptied note of_node.slots }) e ∷ with_value u (record of_node { slots = emptied note of_node.slots }) notes

taken_later : (e : Unit × NodeNotes) (notes : MasterNotes) (w : Waiting)
    → same_unit e.0 (Node w.node) ≡ false
    → waiting_in (without_note w.node w.note (e ∷ notes)) ≡ waiting_about e.0 e.1.slots ++ waiting_in (without_note w.node w.note notes)
taken_later e notes w other = ap (λ b. waiting_in (changed_with b w.note e (Node w.node) notes)) other

taken_here : (e : Unit × NodeNotes) (notes : MasterNotes) (w : Waiting) (ws : List Waiting)
    → list_all (is_before e.0) (units_in notes) ≡ true
    → waiting_about e.0 e.1.slots ≡ w ∷ ws
    → waiting_in (without_note w.node w.note (e ∷ notes)) ≡ ws ++ waiting_in notes
taken_here e notes w ws later is =
    let here : e.0 ≡ Node w.node = about_unit e.0 e.1.slots w ws is in
    let same : same_unit e.0 (Node w.node) ≡ true = ap (λ u. same_unit u (Node w.node)) here ∙ equal w.node.0 w.node.0 refl in
    let of_node : NodeNotes = record e.1 { slots = emptied w.note e.1.slots } in
    ap (λ b. waiting_in (changed_with b w.note e (Node w.node) notes)) same
    ∙ ap (λ u. waiting_about e.0 of_node.slots ++ waiting_in (with_value u of_node notes)) (sym here)
    ∙ ap (λ rest. waiting_about e.0 of_node.slots ++ waiting_in rest) (unchanged e.0 of_node notes later)
    ∙ ap (λ about. about ++ waiting_in notes) (rest_about e.0 e.1.slots w ws is)

taken_from_two : (e : Unit × NodeNotes) (notes : MasterNotes) (w : Waiting) → list_all (is_before e.0) (units_in notes) ≡ true
    → (here : List Waiting) → waiting_about e.0 e.1.slots ≡ here → slice_get (here ++ waiting_in notes) 0 ≡ Some w
    → (slice_get (waiting_in notes) 0 ≡ Some w → waiting_in (without_note w.node w.note notes) ≡ drop 1 (waiting_in notes))
    → waiting_in (without_note w.node w.note (e ∷ notes)) ≡ drop 1 (here ++ waiting_in notes)
taken_from_two e notes w later [] none is next =
    taken_later e notes w (before_differs e.0 (Node w.node) (first_comes_later e.0 notes w later is))
    ∙ ap (λ about. about ++ waiting_in (without_note w.node w.note notes)) none
    ∙ next is
taken_from_two e notes w later (v ∷ vs) some is next =
    let same : v ≡ w = cc in
    taken_here e notes w vs later (some ∙ ap (λ x. x ∷ vs) same)

pub first_taken : (notes : MasterNotes) (w : Waiting) → rises (units_in notes) ≡ true → slice_get (waiting_in notes) 0 ≡ Some w → waiting_in (without_note w.node w.note notes) ≡ drop 1 (waiting_in notes)
first_taken [] w rising is = cc
first_taken (e ∷ notes) w rising is =
    let parts = both (list_all (is_before e.0) (units_in notes)) (rises (units_in notes)) rising in
    taken_from_two e notes w parts.0 (waiting_about e.0 e.1.slots) refl is (first_taken notes w parts.1)

-- ---- the first note, place by place

first_of_about : (here later : List Waiting) (w : Waiting) → slice_get here 0 ≡ Some w → slice_get (here ++ later) 0 ≡ Some w
first_of_about [] later w is = cc
first_of_about (v ∷ vs) later w is = is

pub first_found : (notes : MasterNotes) (place : ℕ) (w : Waiting) → first_waiting_at notes place ≡ Some w → slice_get (waiting_in (drop place notes)) 0 ≡ Some w
first_found [] place w is = cc
first_found (e ∷ notes) zero w is = first_of_about (waiting_about e.0 e.1.slots) (waiting_in notes) w is
first_found (e ∷ notes) (suc place) w is = first_found notes place w is

first_of_later : (here later : List Waiting) → slice_get here 0 ≡ None → slice_get (here ++ later) 0 ≡ slice_get later 0
first_of_later [] later is = refl
first_of_later (v ∷ vs) later is = cc

pub none_found : (notes : MasterNotes) (place : ℕ) → first_waiting_at notes place ≡ None → slice_get (waiting_in (drop place notes)) 0 ≡ slice_get (waiting_in (drop (suc place) notes)) 0
none_found [] zero is = refl
none_found [] (suc place) is = refl
none_found (e ∷ notes) zero is = first_of_later (waiting_about e.0 e.1.slots) (waiting_in notes) is
none_found (e ∷ notes) (suc place) is = none_found notes place is

-- ---- a take by a master

none_left : (ws : List Waiting) → slice_get ws 0 ≡ None → ws ≡ drop 1 ws
none_left [] is = refl
none_left (w ∷ ws) is = cc

pub next : (m : ℕ) (notify : List MasterNotes) → IsInOrder m notify → waiting_for m (taken_out m (first_for m notify) notify) ≡ drop 1 (waiting_for m notify)
next m notify order = at (first_for m notify) refl
  where
    at : (first : Option Waiting) → first_for m notify ≡ first → waiting_for m (taken_out m first notify) ≡ drop 1 (waiting_for m notify)
    at None is = none_left (waiting_for m notify) is
    at (Some w) is =
        ap waiting_in (master_notes_changed (without_note w.node w.note) refl m m notify
        ∙ ap (λ b. cond b (without_note w.node w.note (notes_for m notify)) (notes_for m notify)) (equal m m refl))
        ∙ first_taken (notes_for m notify) w order is

module _ (tables : TableLaws NodeNotes) where
  order_kept : (m : ℕ) (first : Option Waiting) (notify : List MasterNotes) → IsInOrder m notify → IsInOrder m (taken_out m first notify)
  order_kept m None notify order = order
  order_kept m (Some w) notify order =
      ap rises (units_kept (without_note w.node w.note) refl
      (λ notes. tables.set_units (Node w.node) (record (notes_at w.node notes) { slots = emptied w.note (notes_at w.node notes).slots }) notes) m m notify)
      ∙ order

  pub all_next : (times m : ℕ) (notify : List MasterNotes) → IsInOrder m notify → waiting_for m (taken times m notify) ≡ drop times (waiting_for m notify)
  all_next zero m notify order = refl
  all_next (suc times) m notify order =
      all_next times m (taken_out m (first_for m notify) notify) (order_kept m (first_for m notify) notify order)
      ∙ ap (drop times) (next m notify order)
      ∙ dropped_once (waiting_for m notify)
    where
      dropped_once : (ws : List Waiting) → drop times (drop 1 ws) ≡ drop (suc times) ws
      dropped_once [] = drop-nil times
      dropped_once (w ∷ ws) = refl

  pub drained : (m : ℕ) (notify : List MasterNotes) → IsInOrder m notify → first_for m (taken (length (waiting_for m notify)) m notify) ≡ None
  drained m notify order =
      ap (λ (ws : List Waiting). slice_get ws 0) (all_next (length (waiting_for m notify)) m notify order ∙ drop-length (waiting_for m notify))

-- ---- how many notes wait

few_in : (ack : Option ℕ) (change users : Bool) → length (notes_in (slots_of ack change users)) ≤ 3
few_in None false false = omega arith
few_in None false true = omega arith
few_in None true false = omega arith
few_in None true true = omega arith
few_in (Some status) false false = omega arith
few_in (Some status) false true = omega arith
few_in (Some status) true false = omega arith
few_in (Some status) true true = omega arith

few_about : (u : Unit) (slots : Slots) → length (waiting_about u slots) ≤ 3
few_about (Node n) slots = rw length-map (few_in slots.ack slots.change slots.zero_users)
few_about (Line l) slots = omega arith

pub few : (notes : MasterNotes) → length (waiting_in notes) ≤ 3 * length notes
few [] = omega arith
few (e ∷ notes) =
    let here = few_about e.0 e.1.slots in
    let later = few notes in
    omega (arith, length-append (waiting_about e.0 e.1.slots) (waiting_in notes))
