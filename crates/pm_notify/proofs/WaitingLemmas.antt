-- What waits in a master's notes is exactly what stands in its slots, in the order in which it is told.
use Rattle.std.proofs.Common.{◌≡◌, ℕ, ◌⊎◌, ⊎_elim, Bool, true, false, cond, List, [], ◌∷◌, ◌++◌, map, refl, ap, sym, ◌∙◌, arith, subst}
use Rattle.std.specs.Prelude.{Option, Some, None, unwrap_or, Contains, ◌↔◌, option_to_list}
use Rattle.std.specs.List.{list_all}
use Rattle.std.specs.Option.{option_map}
use Rattle.std.proofs.lemmas.List.Elements.{Contains-append_cases, Contains-append_left, Contains-append_right, Contains-push, Contains-push_cases}
use Rattle.pm_base.specs.declared.names.NodeId.{NodeId}
use Rattle.pm_base.specs.declared.names.Unit.{Unit}
use Rattle.pm_base.specs.declared.names.Unit.TheVariants.{Node, Line}
use Rattle.pm_base.proofs.Booleans.{both, equal}
use Rattle.pm_topology.specs.UnitMap.{units_in, value_of}
use Rattle.pm_topology.specs.Units.{UnitLaws, is_before, rises, same_unit}
use Rattle.pm_notify.specs.declared.notes.Note.{Note}
use Rattle.pm_notify.specs.declared.notes.Note.TheVariants.{Ack, Change, ZeroUsers}
use Rattle.pm_notify.specs.declared.notes.Waiting.{Waiting}
use Rattle.pm_notify.specs.declared.node_notes.NodeNotes.{NodeNotes}
use Rattle.pm_notify.specs.declared.node_notes.Slots.{Slots}
use Rattle.pm_notify.specs.MasterNotes.{MasterNotes, notes_at, waiting_about, waiting_in}
use Rattle.pm_notify.specs.NodeNotes.{no_notes, note_like}
use Rattle.pm_notify.proofs.NodeLemmas.{none_waits}
use Rattle.pm_notify.proofs.TakeLemmas.{about, before_differs}

nothing_in : {X : Type 0} (x : X) → Contains [] x → ⊥
nothing_in x (k, within, at) = omega arith

-- ---- what waits stands in its slot

-- the one note of a slot
in_slot_alone : (n : NodeId) (found : Option Note) (w : Waiting) → Contains (map (about n) (option_to_list found)) w → (note : Note) × (found ≡ Some note) × (about n note ≡ w)
in_slot_alone n None w has = absurd (nothing_in w has)
in_slot_alone n (Some note) w has = ⊎_elim
    (λ none. absurd (nothing_in w none))
    (λ same. (note, refl, same))
    (Contains-push_cases [] (about n note) w has)

-- a note stands in the slot of its kind
ack_stands : (slots : Slots) (note : Note) → note_like (Ack 0) slots ≡ Some note → note_like note slots ≡ Some note
ack_stands slots note is = at slots.ack refl is
  where
    at : (ack : Option ℕ) → slots.ack ≡ ack → option_map Ack ack ≡ Some note → note_like note slots ≡ Some note
    at None none is = cc
    at (Some status) some is =
        let same : Ack status ≡ note = cc in
        let P : Note → Type 0 = λ note. note_like note slots ≡ Some note in
        subst P same (ap (option_map Ack) some)

change_stands : (slots : Slots) (note : Note) → note_like Change slots ≡ Some note → note_like note slots ≡ Some note
change_stands slots note is = at slots.change refl is
  where
    at : (b : Bool) → slots.change ≡ b → cond b (Some Change) None ≡ Some note → note_like note slots ≡ Some note
    at false none is = cc
    at true some is =
        let same : Change ≡ note = cc in
        let P : Note → Type 0 = λ note. note_like note slots ≡ Some note in
        subst P same (ap (λ b. cond b (Some Change) None) some)

users_stand : (slots : Slots) (note : Note) → note_like ZeroUsers slots ≡ Some note → note_like note slots ≡ Some note
users_stand slots note is = at slots.zero_users refl is
  where
    at : (b : Bool) → slots.zero_users ≡ b → cond b (Some ZeroUsers) None ≡ Some note → note_like note slots ≡ Some note
    at false none is = cc
    at true some is =
        let same : ZeroUsers ≡ note = cc in
        let P : Note → Type 0 = λ note. note_like note slots ≡ Some note in
        subst P same (ap (λ b. cond b (Some ZeroUsers) None) some)

-- what waits about a node is about it, and stands in its slot
pub record Stands (n : NodeId) (slots : Slots) (w : Waiting) : Type 0 where
  pub node : n ≡ w.node
  pub slot : note_like w.note slots ≡ Some w.note

stands_by : (n : NodeId) (slots : Slots) (like : Note) (w : Waiting)
    → ((note : Note) → note_like like slots ≡ Some note → note_like note slots ≡ Some note)
    → Contains (map (about n) (option_to_list (note_like like slots))) w → Stands n slots w
stands_by n slots like w stands has =
    let found = in_slot_alone n (note_like like slots) w has in
    record {
      node = ap (λ (v : Waiting). v.node) found.2;
      slot = let P : Waiting → Type 0 = λ v. note_like v.note slots ≡ Some v.note in subst P found.2 (stands found.0 found.1);
    }

map_both : (n : NodeId) (xs ys : List Note) → map (about n) (xs ++ ys) ≡ map (about n) xs ++ map (about n) ys
map_both n [] ys = refl
map_both n (x ∷ xs) ys = ap (λ ws. about n x ∷ ws) (map_both n xs ys)

-- the notes that wait about a node, slot by slot
about_node : (n : NodeId) (slots : Slots) → waiting_about (Node n) slots
    ≡ map (about n) (option_to_list (note_like (Ack 0) slots))
    ++ (map (about n) (option_to_list (note_like Change slots)) ++ map (about n) (option_to_list (note_like ZeroUsers slots)))
about_node n slots =
    map_both n (option_to_list (note_like (Ack 0) slots)) (option_to_list (note_like Change slots) ++ option_to_list (note_like ZeroUsers slots))
    ∙ ap (λ ws. map (about n) (option_to_list (note_like (Ack 0) slots)) ++ ws) (map_both n (option_to_list (note_like Change slots)) (option_to_list (note_like ZeroUsers slots)))

stands_about : (n : NodeId) (slots : Slots) (w : Waiting) → Contains (waiting_about (Node n) slots) w → Stands n slots w
stands_about n slots w has = ⊎_elim
    (λ ack. stands_by n slots (Ack 0) w (ack_stands slots) ack)
    (λ later. ⊎_elim
    (λ change. stands_by n slots Change w (change_stands slots) change)
    (λ users. stands_by n slots ZeroUsers w (users_stand slots) users)
    (Contains-append_cases (map (about n) (option_to_list (note_like Change slots))) (map (about n) (option_to_list (note_like ZeroUsers slots))) w later))
    (Contains-append_cases (map (about n) (option_to_list (note_like (Ack 0) slots))) _ w
    (let P : List Waiting → Type 0 = λ ws. Contains ws w in subst P (about_node n slots) has))

stands_unit : (u : Unit) (slots : Slots) (w : Waiting) → Contains (waiting_about u slots) w → (u ≡ Node w.node) × (note_like w.note slots ≡ Some w.note)
stands_unit (Node n) slots w has = let stands = stands_about n slots w has in (ap Node stands.node, stands.slot)
stands_unit (Line l) slots w has = absurd (nothing_in w has)

-- what waits in notes comes after all units that come before those of the notes
pub waits_later : (u : Unit) (notes : MasterNotes) (w : Waiting) → list_all (is_before u) (units_in notes) ≡ true → Contains (waiting_in notes) w → is_before u (Node w.node) ≡ true
waits_later u [] w later has = absurd (nothing_in w has)
waits_later u (e ∷ notes) w later has =
    let parts = both (is_before u e.0) (list_all (is_before u) (units_in notes)) later in
    ⊎_elim
    (λ here. ap (is_before u) (sym (stands_unit e.0 e.1.slots w here).0) ∙ parts.0)
    (λ there. waits_later u notes w parts.1 there)
    (Contains-append_cases (waiting_about e.0 e.1.slots) (waiting_in notes) w has)

pub waits_in_slot : (notes : MasterNotes) (w : Waiting) → rises (units_in notes) ≡ true → Contains (waiting_in notes) w → note_like w.note (notes_at w.node notes).slots ≡ Some w.note
waits_in_slot [] w rising has = absurd (nothing_in w has)
waits_in_slot (e ∷ notes) w rising has =
    let parts = both (list_all (is_before e.0) (units_in notes)) (rises (units_in notes)) rising in
    ⊎_elim
    (λ here.
    let stands = stands_unit e.0 e.1.slots w here in
    let same : same_unit e.0 (Node w.node) ≡ true = ap (λ u. same_unit u (Node w.node)) stands.0 ∙ equal w.node.0 w.node.0 refl in
    ap (λ b. note_like w.note (unwrap_or (cond b (Some e.1) (value_of notes (Node w.node))) no_notes).slots) same ∙ stands.1)
    (λ there.
    let other : same_unit e.0 (Node w.node) ≡ false = before_differs e.0 (Node w.node) (waits_later e.0 notes w parts.0 there) in
    ap (λ b. note_like w.note (unwrap_or (cond b (Some e.1) (value_of notes (Node w.node))) no_notes).slots) other ∙ waits_in_slot notes w parts.1 there)
    (Contains-append_cases (waiting_about e.0 e.1.slots) (waiting_in notes) w has)

-- ---- what stands in a slot waits

slot_waits : (n : NodeId) (found : Option Note) (note : Note) → found ≡ Some note → Contains (map (about n) (option_to_list found)) (about n note)
slot_waits n found note is =
    let P : Option Note → Type 0 = λ o. Contains (map (about n) (option_to_list o)) (about n note) in
    subst P (sym is) (Contains-push [] (about n note))

stands_among : (n : NodeId) (slots : Slots) (note : Note) → note_like note slots ≡ Some note → Contains (waiting_about (Node n) slots) (about n note)
stands_among n slots note is =
    let P : List Waiting → Type 0 = λ ws. Contains ws (about n note) in
    subst P (sym (about_node n slots)) (at note is)
  where
    at : (note : Note) → note_like note slots ≡ Some note
        → Contains (map (about n) (option_to_list (note_like (Ack 0) slots))
        ++ (map (about n) (option_to_list (note_like Change slots)) ++ map (about n) (option_to_list (note_like ZeroUsers slots)))) (about n note)
    at (Ack status) is = Contains-append_left (map (about n) (option_to_list (note_like (Ack 0) slots))) _ _ (slot_waits n (note_like (Ack 0) slots) (Ack status) is)
    at Change is = Contains-append_right (map (about n) (option_to_list (note_like (Ack 0) slots))) _ _
        (Contains-append_left (map (about n) (option_to_list (note_like Change slots))) _ _ (slot_waits n (note_like Change slots) Change is))
    at ZeroUsers is = Contains-append_right (map (about n) (option_to_list (note_like (Ack 0) slots))) _ _
        (Contains-append_right (map (about n) (option_to_list (note_like Change slots))) _ _ (slot_waits n (note_like ZeroUsers slots) ZeroUsers is))

-- it waits about the first unit, or about a later one
module _ (units : UnitLaws) where
  waits_among : (e : Unit × NodeNotes) (notes : MasterNotes) (w : Waiting) (b : Bool) → same_unit e.0 (Node w.node) ≡ b
      → note_like w.note (unwrap_or (cond b (Some e.1) (value_of notes (Node w.node))) no_notes).slots ≡ Some w.note
      → (note_like w.note (notes_at w.node notes).slots ≡ Some w.note → Contains (waiting_in notes) w)
      → Contains (waiting_about e.0 e.1.slots ++ waiting_in notes) w
  waits_among e notes w true same is later =
      let P : Unit → Type 0 = λ u. Contains (waiting_about u e.1.slots) w in
      Contains-append_left (waiting_about e.0 e.1.slots) (waiting_in notes) w
      (subst P (sym (units.same e.0 (Node w.node) same)) (stands_among w.node e.1.slots w.note is))
  waits_among e notes w false other is later = Contains-append_right (waiting_about e.0 e.1.slots) (waiting_in notes) w (later is)

  pub slot_is_waiting : (notes : MasterNotes) (w : Waiting) → note_like w.note (notes_at w.node notes).slots ≡ Some w.note → Contains (waiting_in notes) w
  slot_is_waiting [] w is = let none = none_waits w.note in cc
  slot_is_waiting (e ∷ notes) w is = waits_among e notes w (same_unit e.0 (Node w.node)) refl is (slot_is_waiting notes w)

  pub exactly_waits : (notes : MasterNotes) (w : Waiting) → rises (units_in notes) ≡ true → Contains (waiting_in notes) w ↔ (note_like w.note (notes_at w.node notes).slots ≡ Some w.note)
  exactly_waits notes w rising = (waits_in_slot notes w rising, slot_is_waiting notes w)
