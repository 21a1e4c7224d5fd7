-- A master has a row on a slave exactly where the object permits the pair.
use Rattle.std.proofs.Common.{◌≡◌, ℕ, ◌+◌, ◌≤◌, Bool, true, false, ◌&&◌, ◌==◌, cond, if◌then◌else◌, nat_lt, is_some, List, [], ◌∷◌, length, position, slice_get, get_or, Option, Some, None, refl, zero, suc, sym, ◌∙◌, ap, subst, arith}
use Rattle.std.specs.Prelude.{count_by, find, option_map}
use Rattle.std.specs.List.{position_or_len}
use Rattle.std.proofs.lemmas.Bool.{eqb-true, eq-eqb, ltb-false}
use Rattle.std.proofs.lemmas.List.Folds.{find_at}
use Rattle.std.proofs.lemmas.List.Quantifiers.{position-Some}
use Rattle.std.proofs.lemmas.Option.{slice_get-get_or, slice_get_past}
use Rattle.pm_base.specs.declared.names.NodeId.{NodeId}
use Rattle.pm_object.specs.declared.object.Object.{Object}
use Rattle.pm_object.specs.declared.object.MasterRec.{MasterRec}
use Rattle.pm_object.specs.declared.object.SlaveRec.{SlaveRec}
use Rattle.pm_topology.specs.declared.topology.SlaveDef.{SlaveDef}
use Rattle.pm_rows.specs.declared.row.Entry.{Entry}
use Rattle.pm_perms.specs.Permits.{mask_has, may_use, may_use_by, slave_record, master_record}
use Rattle.pm_rows.specs.Sound.{is_pair}
use Rattle.pm_topology.specs.declared.topology.Topology.{Topology}
use Rattle.pm_state.specs.Pairs.{pair_permitted, pairs_of, permitted_from, permitted_in, permitted_of, permitted_of_masters, permitted_on}
use Rattle.pm_rows.specs.Rows.{entry_at}
use Rattle.pm_state.specs.Sound.{IsSound}
use Rattle.pm_state.specs.State.{State, in_force}
use Rattle.pm_state.specs.Values.{slave_place, master_place}
use Rattle.pm_state.specs.Nodes.{row, row_at}
use Rattle.pm_base.proofs.Counts.{count_by-append}
use Rattle.pm_state.proofs.RowLaws.{RowLaws}
use Rattle.pm_rows.proofs.Lists.{count_mapped_same}
use Rattle.pm_state.proofs.ObjectsLaw.{of_run, place_same}
use Rattle.pm_state.proofs.PairsLaw.{is_permitted, masters_before, other_master, head_at, pairs_elsewhere, pairs_before}

-- what a search by place and a search by element find
abbrev FindsAt : {X : Type 0} → (X → Bool) → List X → Option ℕ → Type 0
FindsAt p xs None = find p xs ≡ None
FindsAt {X} p xs (Some k) = (x : X) × (slice_get xs k ≡ Some x) × (find p xs ≡ Some x) × (p x ≡ true)

finds_where : {X : Type 0} (p : X → Bool) (xs : List X) (b : Bool) → nat_lt (position_or_len p xs) (length xs) ≡ b → FindsAt p xs (cond b (Some (position_or_len p xs)) None)
finds_where p xs false is = find_at p xs ∙ slice_get_past xs (position_or_len p xs) (ltb-false (position_or_len p xs) (length xs) is)
finds_where p [] true is = cc
finds_where p (x ∷ xs) true is =
    let k : ℕ = position_or_len p (x ∷ xs) in
    let at = position-Some p (x ∷ xs) k x (ap (λ b. cond b (Some k) None) is) in
    let there : slice_get (x ∷ xs) k ≡ Some (get_or (x ∷ xs) k x) = slice_get-get_or (x ∷ xs) k x at.0 in
    (get_or (x ∷ xs) k x, there, find_at p (x ∷ xs) ∙ there, at.1)

finds : {X : Type 0} (p : X → Bool) (xs : List X) (found : Option ℕ) → position p xs ≡ found → FindsAt p xs found
finds p xs found is =
    let P : Option ℕ → Type 0 = λ o. FindsAt p xs o in
    subst P is (finds_where p xs (nat_lt (position_or_len p xs) (length xs)) refl)

one_pair : (object : Object) (master : MasterRec) (b : Bool) (k m s place : ℕ) (slave : SlaveDef) (r : SlaveRec) → k ≡ m → place ≡ s → count_by (is_permitted m s) (if b then permitted_of object k master place slave r ∷ [] else []) ≡ cond b 1 0
one_pair object master false k m s place slave r same at = refl
one_pair object master true k m s place slave r same at = rw (eq-eqb k m same, eq-eqb place s at) refl

-- the master at place m has one pair on a slave if it may use it, and else none
master_pairs : (object : Object) (i m s k : ℕ) (slave : SlaveDef) (r : SlaveRec) (masters : List MasterRec) (master : MasterRec) → m ≡ k + i → slice_get masters i ≡ Some master → count_by (is_permitted m s) (permitted_of_masters object k s slave r masters) ≡ cond (mask_has r.mask master.mask) 1 0
master_pairs object i m s k slave r [] master at here = cc
master_pairs object zero m s k slave r (x ∷ xs) master at here =
    let same : x ≡ master = cc in
    let later : count_by (is_permitted m s) (permitted_of_masters object (k + 1) s slave r xs) ≡ 0 = masters_before object m s (k + 1) s slave r xs (omega arith) in
    let head : count_by (is_permitted m s) (if mask_has r.mask x.mask then permitted_of object k x s slave r ∷ [] else []) ≡ cond (mask_has r.mask x.mask) 1 0 = one_pair object x (mask_has r.mask x.mask) k m s s slave r (omega arith) refl in
    let spread = count_by-append (is_permitted m s) (if mask_has r.mask x.mask then permitted_of object k x s slave r ∷ [] else []) (permitted_of_masters object (k + 1) s slave r xs) in
    let whole : count_by (is_permitted m s) (permitted_of_masters object k s slave r (x ∷ xs)) ≡ cond (mask_has r.mask x.mask) 1 0 = omega arith in
    whole ∙ ap (λ (x : MasterRec). cond (mask_has r.mask x.mask) 1 0) same
master_pairs object (suc i) m s k slave r (x ∷ xs) master at here =
    let later : count_by (is_permitted m s) (permitted_of_masters object (k + 1) s slave r xs) ≡ cond (mask_has r.mask master.mask) 1 0 = master_pairs object i m s (k + 1) slave r xs master (omega arith) here in
    let head : count_by (is_permitted m s) (if mask_has r.mask x.mask then permitted_of object k x s slave r ∷ [] else []) ≤ cond (is_permitted m s (permitted_of object k x s slave r)) 1 0 = head_at (is_permitted m s) (mask_has r.mask x.mask) (permitted_of object k x s slave r) in
    let none : cond (is_permitted m s (permitted_of object k x s slave r)) 1 0 ≤ 0 = other_master k m s s (λ same. omega arith) in
    let spread = count_by-append (is_permitted m s) (if mask_has r.mask x.mask then permitted_of object k x s slave r ∷ [] else []) (permitted_of_masters object (k + 1) s slave r xs) in
    omega arith

-- the pairs on the slave at a place are those with that slave
slave_pairs : (object : Object) (i m s k : ℕ) (slaves : List SlaveDef) (slave : SlaveDef) → s ≡ k + i → slice_get slaves i ≡ Some slave → count_by (is_permitted m s) (permitted_from object k slaves) ≡ count_by (is_permitted m s) (permitted_on object s slave (slave_record object slave.node))
slave_pairs object i m s k [] slave at here = cc
slave_pairs object zero m s k (x ∷ xs) slave at here =
    let same : x ≡ slave = cc in
    let placed : k ≡ s = omega arith in
    let later : count_by (is_permitted m s) (permitted_from object (k + 1) xs) ≡ 0 = pairs_before object m s (k + 1) xs (omega arith) in
    let first : count_by (is_permitted m s) (permitted_on object k x (slave_record object x.node)) ≡ count_by (is_permitted m s) (permitted_on object s slave (slave_record object slave.node)) =
    ap (λ (x : SlaveDef). count_by (is_permitted m s) (permitted_on object k x (slave_record object x.node))) same
    ∙ ap (λ k. count_by (is_permitted m s) (permitted_on object k slave (slave_record object slave.node))) placed
    in
    let spread = count_by-append (is_permitted m s) (permitted_on object k x (slave_record object x.node)) (permitted_from object (k + 1) xs) in
    omega arith
slave_pairs object (suc i) m s k (x ∷ xs) slave at here =
    let head : count_by (is_permitted m s) (permitted_on object k x (slave_record object x.node)) ≡ 0 = pairs_elsewhere object m s k x (slave_record object x.node) (λ same. omega arith) in
    let later : count_by (is_permitted m s) (permitted_from object (k + 1) xs) ≡ count_by (is_permitted m s) (permitted_on object s slave (slave_record object slave.node)) = slave_pairs object i m s (k + 1) xs slave (omega arith) here in
    let spread = count_by-append (is_permitted m s) (permitted_on object k x (slave_record object x.node)) (permitted_from object (k + 1) xs) in
    omega arith

abbrev used_by : MasterRec → Option SlaveRec → Bool
used_by master r = may_use_by (Some master) r

pairs_with : (object : Object) (m s : ℕ) (slave : SlaveDef) (master : MasterRec) (r : Option SlaveRec) → slice_get object.masters m ≡ Some master → count_by (is_permitted m s) (permitted_on object s slave r) ≡ cond (used_by master r) 1 0
pairs_with object m s slave master None here = refl
pairs_with object m s slave master (Some r) here = master_pairs object m m s 0 slave r object.masters master (omega arith) here

bit_of : (b : Bool) → nat_lt 0 (cond b 1 0) ≡ b
bit_of true = refl
bit_of false = refl

mapped : (o : Option Entry) → is_some (option_map (λ (entry : Entry). entry.row) o) ≡ is_some o
mapped None = refl
mapped (Some entry) = refl

-- the row of a pair is there exactly where the object's record of the slave has the master's bit
entry_there : RowLaws → (m s : ℕ) (book : State) (master : MasterRec) (slave : SlaveDef) → IsSound book → slice_get (in_force book).masters m ≡ Some master → slice_get book.fixed.topology.slaves s ≡ Some slave → is_some (entry_at m s book.now.core.rows) ≡ used_by master (slave_record (in_force book) slave.node)
entry_there rows m s book master slave sound here there =
    let object : Object = in_force book in
    let t : Topology = book.fixed.topology in
    let count : count_by (is_pair m s) (pairs_of object t) ≡ cond (used_by master (slave_record object slave.node)) 1 0 =
    count_mapped_same (is_pair m s) pair_permitted (permitted_in object t)
    ∙ slave_pairs object s m s 0 t.slaves slave (omega arith) there
    ∙ pairs_with object m s slave master (slave_record object slave.node) here
    in
    rows.there (pairs_of object t) book.now.core.rows m s sound.rows
    ∙ (ap (nat_lt 0) count ∙ bit_of (used_by master (slave_record object slave.node)))

none_used : (b : Bool) → b && false ≡ false
none_used true = refl
none_used false = refl

row_there : RowLaws → (master slave : NodeId) (book : State) (m s : Option ℕ) → IsSound book → position (λ (x : MasterRec). x.node == master.0) (in_force book).masters ≡ m → slave_place slave book ≡ s → is_some (row_at m s book) ≡ is_some s && may_use_by (master_record (in_force book) master) (slave_record (in_force book) slave)
row_there rows master slave book None s sound m_is s_is =
    let none : master_record (in_force book) master ≡ None = finds (λ (x : MasterRec). x.node == master.0) (in_force book).masters None m_is in
    sym (ap (λ o. is_some s && may_use_by o (slave_record (in_force book) slave)) none ∙ none_used (is_some s))
row_there rows master slave book (Some m) None sound m_is s_is = refl
row_there rows master slave book (Some m) (Some s) sound m_is s_is =
    let object : Object = in_force book in
    let by = finds (λ (x : MasterRec). x.node == master.0) object.masters (Some m) m_is in
    let on = finds (λ (x : SlaveDef). x.node.0 == slave.0) book.fixed.topology.slaves (Some s) s_is in
    let number : on.0.node.0 ≡ slave.0 = eqb-true on.0.node.0 slave.0 on.3 in
    mapped (entry_at m s book.now.core.rows)
    ∙ (entry_there rows m s book by.0 on.0 sound by.1 on.1
    ∙ (ap (λ n. used_by by.0 (find (λ (r : SlaveRec). r.node == n) object.slaves)) number
    ∙ ap (λ o. may_use_by o (slave_record object slave)) (sym by.2)))

-- a configured master has the same place in the object in force
in_force_place : (master : NodeId) (book : State) → IsSound book → master_place master book ≡ position (λ (x : MasterRec). x.node == master.0) (in_force book).masters
in_force_place master book sound =
    place_same master.0 book.fixed.object.masters (in_force book).masters (of_run book.fixed sound.force.place (in_force book) sound.force.there)

pub row_permitted : RowLaws → (master slave : NodeId) (book : State) → IsSound book → is_some (row master slave book) ≡ may_use (in_force book) book.fixed.topology master slave
row_permitted rows master slave book sound =
    row_there rows master slave book (master_place master book) (slave_place slave book) sound (sym (in_force_place master book sound)) refl
