-- The items of each section of a well-formed object are taken one after another.
use Rattle.std.proofs.Common.{◌≡◌, ◌≢◌, ℕ, ◌+◌, ◌<◌, ◌≤◌, true, false, not, ◌==◌, eqb, cond, None, List, [], ◌∷◌, ◌++◌, length, map, refl, ap, sym, ◌∙◌, subst, arith, append_assoc, length-append, add-zero, bit_and, count_ones}
use Rattle.std.specs.Prelude.{⊤}
use Rattle.std.specs.List.{flat_map, list_any, All}
use Rattle.std.proofs.lemmas.Bool.Decides.{nat_tests}
use Rattle.std.proofs.lemmas.List.{append-nil}
use Rattle.std.proofs.lemmas.List.Folds.{list_any_none}
use Rattle.pm_base.proofs.Elements.{next_one}
use Rattle.pm_object.specs.declared.object.MasterRec.{MasterRec}
use Rattle.pm_object.specs.declared.object.SlaveRec.{SlaveRec}
use Rattle.pm_object.specs.declared.object.PreRec.{PreRec}
use Rattle.pm_object.specs.declared.object.PreGroup.{PreGroup}
use Rattle.pm_object.specs.declared.object.Pair.{Pair}
use Rattle.pm_object.specs.declared.object.Object.{Object}
use Rattle.pm_object.specs.declared.object.Section.{Section}
use Rattle.pm_object.specs.declared.object.Section.TheVariants as sections
use Rattle.pm_object.specs.Bodies.{body_of, with_body, no_body}
use Rattle.pm_base.specs.Masters.{is_master_number, splits_lockstep}
use Rattle.pm_object.specs.Grammar.{master_words, slave_words, preset_words, pair_words, group_words, section_words, IsMaster, AreApart, AreMasters, HaveOwnKeys, HasOwnNodes, IsBody}
use Rattle.pm_objtext.specs.declared.item.Item.{Item}
use Rattle.pm_objtext.specs.declared.item.Item.TheVariants.{Master, Slave, Group, Prefer, Power, Reset, Shutdown, Config, Gpo}
use Rattle.pm_objtext.specs.declared.stage.Stage.{Stage}
use Rattle.pm_objtext.specs.declared.stage.Stage.TheVariants as stages
use Rattle.pm_object.specs.Reading.{is_bad_node, is_bad_mask}
use Rattle.pm_objtext.specs.Stage.{is_single}
use Rattle.pm_objtext.specs.Items.{group_items, record_items}
use Rattle.pm_objtext.specs.SoFar.{SoFar, say}
use Rattle.pm_objtext.specs.Causes.{cause_of}
use Rattle.pm_objtext.proofs.GroupsLemmas.{last_recs-push, with_preset-push}
use Rattle.pm_objtext.proofs.Walks.{draft_of, Goes, Goes-none, Goes-first, Goes-append, clear, records_go, keys_apart}

-- nothing more is asked of a record
abbrev Any_one : {X : Type 0} → X → Type 0
Any_one x = ⊤

-- ---- slaves and pairs

-- records with keys of their own, which an object takes one by one
keyed_go : {X : Type 0} (item : X → Item) (words : X → List ℕ) (key : X → ℕ) (s : Section) (put : List X → Object)
    → ((k : ℕ) (xs : List X) (x : X) → list_any (λ e. key e == key x) xs ≡ false → k + length (words x) ≤ 4096 → (cause_of (item x) (draft_of (stages.In s false) k (put xs)) ≡ None) × (say (item x) (draft_of (stages.In s false) k (put xs)) ≡ draft_of (stages.In s false) (k + length (words x)) (put (xs ++ x ∷ []))))
    → (rest front : List X) (size : ℕ) → HaveOwnKeys key (front ++ rest) → size + length (flat_map words rest) ≤ 4096 → Goes (map item rest) (draft_of (stages.In s false) size (put front)) (draft_of (stages.In s false) (size + length (flat_map words rest)) (put (front ++ rest)))
keyed_go item words key s put step rest front size own fits =
    records_go item words (λ a b. key a ≢ key b) Any_one (λ k xs. draft_of (stages.In s false) k (put xs)) (λ k xs x apart _ small. step k xs x (keys_apart key xs x apart) small) rest front size own (λ _ _ _. tt) fits

-- ---- masters

fine_node : (front : List MasterRec) (m : MasterRec) → All (λ e. AreApart e m) front → IsMaster m → is_bad_node front m.node ≡ false
fine_node front m apart is =
    let known : is_master_number m.node ≡ true = is.node in
    let whole : list_any (λ e. splits_lockstep e.node m.node) front ≡ false = list_any_none (λ e. splits_lockstep e.node m.node) front (λ k d within. let one = apart k d within in one.modes) in
    rw (known, whole) refl

fine_mask : (front : List MasterRec) (m : MasterRec) → All (λ e. AreApart e m) front → IsMaster m → is_bad_mask front m.mask ≡ false
fine_mask front m apart is =
    let known : eqb (count_ones m.mask) 1 ≡ true = rw is.one_bit refl in
    let own : list_any (λ e. not (bit_and e.mask m.mask == 0)) front ≡ false = list_any_none (λ e. not (bit_and e.mask m.mask == 0)) front (λ k d within. let one = apart k d within in rw one.bits refl) in
    rw (known, own) refl

masters_go : (p : Object) (rest front : List MasterRec) (size : ℕ) → AreMasters (front ++ rest) → size + length (flat_map master_words rest) ≤ 4096 → Goes (map Master rest) (draft_of (stages.In sections.Masters false) size (record p { masters = front })) (draft_of (stages.In sections.Masters false) (size + length (flat_map master_words rest)) (record p { masters = front ++ rest }))
masters_go p rest front size are fits =
    records_go Master master_words AreApart IsMaster (λ k xs. draft_of (stages.In sections.Masters false) k (record p { masters = xs }))
    (λ k xs x apart is small. (
      clear (Master x) (draft_of (stages.In sections.Masters false) k (record p { masters = xs })) refl
          (keys_apart (λ (m : MasterRec). m.node) xs x (λ i d within. let one = apart i d within in one.nodes))
          (rw (fine_node xs x apart is, fine_mask xs x apart is) refl) small,
      refl,
    ))
    rest front size are.apart are.each fits

-- ---- preallocation groups

some_group : (groups : List PreGroup) (group : PreGroup) → not (eqb (length (groups ++ group ∷ [])) 0) ≡ true
some_group groups group =
    let some : 0 < length (groups ++ group ∷ []) = omega (arith, length-append groups (group ∷ [])) in
    grind (arith, nat_tests)

-- the object with these groups
abbrev grouped : Object → List PreGroup → Object
grouped p groups = record p { groups = groups }

presets_go : (p : Object) (groups : List PreGroup) (mask : ℕ) (rest front : List PreRec) (size : ℕ) → HaveOwnKeys (λ r. r.node) (front ++ rest) → size + length (flat_map preset_words rest) ≤ 4096 → Goes (map Prefer rest) (draft_of (stages.In sections.Prealloc false) size (grouped p (groups ++ record { mask = mask; recs = front } ∷ []))) (draft_of (stages.In sections.Prealloc false) (size + length (flat_map preset_words rest)) (grouped p (groups ++ record { mask = mask; recs = front ++ rest } ∷ [])))
presets_go p groups mask rest front size own fits =
    records_go Prefer preset_words (λ a b. a.node ≢ b.node) Any_one (λ k xs. draft_of (stages.In sections.Prealloc false) k (grouped p (groups ++ record { mask = mask; recs = xs } ∷ [])))
    (λ k xs x apart _ small. (
      clear (Prefer x) (draft_of (stages.In sections.Prealloc false) k (grouped p (groups ++ record { mask = mask; recs = xs } ∷ [])))
          (some_group groups (record { mask = mask; recs = xs }))
          (ap (λ (recs : List PreRec). list_any (λ e. e.node == x.node) recs) (last_recs-push groups (record { mask = mask; recs = xs })) ∙ keys_apart (λ (r : PreRec). r.node) xs x apart) refl small,
      ap (λ (gs : List PreGroup). draft_of (stages.In sections.Prealloc false) (k + 4) (grouped p gs)) (with_preset-push x groups (record { mask = mask; recs = xs })),
    ))
    rest front size own (λ _ _ _. tt) fits

-- the same size, written otherwise
to_size : (items : List Item) (from : SoFar) (stage : Stage) (p : Object) (a b : ℕ) → a ≡ b → Goes items from (draft_of stage a p) → Goes items from (draft_of stage b p)
to_size items from stage p a b same go = subst (λ k. Goes items from (draft_of stage k p)) same go

group_go : (p : Object) (front : List PreGroup) (group : PreGroup) (size : ℕ) → HasOwnNodes group → size + length (group_words group) ≤ 4096 → Goes (group_items group) (draft_of (stages.In sections.Prealloc false) size (grouped p front)) (draft_of (stages.In sections.Prealloc false) (size + length (group_words group)) (grouped p (front ++ group ∷ [])))
group_go p front group size own fits =
    Goes-first (Group group.mask) (map Prefer group.recs) (draft_of (stages.In sections.Prealloc false) size (grouped p front)) (draft_of (stages.In sections.Prealloc false) (size + 2) (grouped p (front ++ record { mask = group.mask; recs = [] } ∷ []))) _
    (clear (Group group.mask) (draft_of (stages.In sections.Prealloc false) size (grouped p front)) refl refl refl (omega arith), refl)
    (to_size (map Prefer group.recs) _ (stages.In sections.Prealloc false) (grouped p (front ++ group ∷ [])) (size + 2 + length (flat_map preset_words group.recs)) (size + length (group_words group)) (omega arith)
    (presets_go p front group.mask group.recs [] (size + 2) own (omega arith)))

groups_go : (p : Object) (rest front : List PreGroup) (size : ℕ) → All HasOwnNodes (front ++ rest) → size + length (flat_map group_words rest) ≤ 4096 → Goes (flat_map group_items rest) (draft_of (stages.In sections.Prealloc false) size (grouped p front)) (draft_of (stages.In sections.Prealloc false) (size + length (flat_map group_words rest)) (grouped p (front ++ rest)))
groups_go p [] front size own fits =
    rw (append-nil front, add-zero size) (Goes-none (draft_of (stages.In sections.Prealloc false) size (grouped p front)))
groups_go p (group ∷ rest) front size own fits =
    let long : size + length (group_words group) + length (flat_map group_words rest) ≡ size + length (group_words group ++ flat_map group_words rest) = omega (arith, length-append (group_words group) (flat_map group_words rest)) in
    let one : front ++ group ∷ [] ++ rest ≡ front ++ group ∷ rest = append_assoc front (group ∷ []) rest in
    let first = group_go p front group size (next_one HasOwnNodes front group rest own) (omega arith) in
    let later = groups_go p rest (front ++ group ∷ []) (size + length (group_words group)) (subst (All HasOwnNodes) (sym one) own) (omega arith) in
    to_size (group_items group ++ flat_map group_items rest) (draft_of (stages.In sections.Prealloc false) size (grouped p front)) (stages.In sections.Prealloc false) (grouped p (front ++ group ∷ rest)) _ _ long
    (Goes-append (group_items group) (flat_map group_items rest) (draft_of (stages.In sections.Prealloc false) size (grouped p front)) (draft_of (stages.In sections.Prealloc false) (size + length (group_words group)) (grouped p (front ++ group ∷ []))) _ first
    (subst (λ gs. Goes (flat_map group_items rest) (draft_of (stages.In sections.Prealloc false) (size + length (group_words group)) (grouped p (front ++ group ∷ []))) (draft_of (stages.In sections.Prealloc false) (size + length (group_words group) + length (flat_map group_words rest)) (grouped p gs))) one later))

-- ---- a whole section

abbrev pub opening : Section → ℕ
opening section = cond (is_single section) 1 2

-- from a section that is empty so far
from_unset : (items : List Item) (to : SoFar) (stage : Stage) (size : ℕ) (p q : Object) → p ≡ q → Goes items (draft_of stage size p) to → Goes items (draft_of stage size q) to
from_unset items to stage size p q same go = subst (λ r. Goes items (draft_of stage size r) to) same go

pub body_go : (section : Section) (o p : Object) (size : ℕ) → body_of section p ≡ no_body section → IsBody section (body_of section o) → size + length (section_words o section) ≤ 4096 → Goes (record_items section o) (draft_of (stages.In section false) (size + opening section) p) (draft_of (stages.In section (is_single section)) (size + length (section_words o section)) (with_body section (body_of section o) p))
body_go sections.Masters o p size unset is fits =
    to_size _ _ _ _ (size + 2 + length (flat_map master_words o.masters)) _ (omega arith)
    (from_unset _ _ _ _ (record p { masters = [] }) p (λ i. record p { masters = sym unset i }) (masters_go p o.masters [] (size + 2) is (omega arith)))
body_go sections.Slaves o p size unset is fits =
    to_size _ _ _ _ (size + 2 + length (flat_map slave_words o.slaves)) _ (omega arith)
    (from_unset _ _ _ _ (record p { slaves = [] }) p (λ i. record p { slaves = sym unset i }) (keyed_go Slave slave_words (λ (x : SlaveRec). x.node) sections.Slaves (λ xs. record p { slaves = xs }) (λ k xs x new small. (clear (Slave x) (draft_of (stages.In sections.Slaves false) k (record p { slaves = xs })) refl new refl small, refl)) o.slaves [] (size + 2) is (omega arith)))
body_go sections.Prealloc o p size unset is fits =
    to_size _ _ _ _ (size + 2 + length (flat_map group_words o.groups)) _ (omega arith)
    (from_unset _ _ _ _ (record p { groups = [] }) p (λ i. record p { groups = sym unset i }) (groups_go p o.groups [] (size + 2) is (omega arith)))
body_go sections.Power o p size unset is fits =
    to_size _ _ _ _ (size + 2 + length (flat_map pair_words o.power)) _ (omega arith)
    (from_unset _ _ _ _ (record p { power = [] }) p (λ i. record p { power = sym unset i }) (keyed_go Power pair_words (λ (x : Pair). x.key) sections.Power (λ xs. record p { power = xs }) (λ k xs x new small. (clear (Power x) (draft_of (stages.In sections.Power false) k (record p { power = xs })) refl new refl small, refl)) o.power [] (size + 2) is (omega arith)))
body_go sections.Reset o p size unset is fits =
    to_size _ _ _ _ (size + 2 + length (flat_map pair_words o.reset)) _ (omega arith)
    (from_unset _ _ _ _ (record p { reset = [] }) p (λ i. record p { reset = sym unset i }) (keyed_go Reset pair_words (λ (x : Pair). x.key) sections.Reset (λ xs. record p { reset = xs }) (λ k xs x new small. (clear (Reset x) (draft_of (stages.In sections.Reset false) k (record p { reset = xs })) refl new refl small, refl)) o.reset [] (size + 2) is (omega arith)))
body_go sections.Shutdown o p size unset is fits =
    to_size _ _ _ _ (size + 2 + length (flat_map pair_words o.shutdown)) _ (omega arith)
    (from_unset _ _ _ _ (record p { shutdown = [] }) p (λ i. record p { shutdown = sym unset i }) (keyed_go Shutdown pair_words (λ (x : Pair). x.key) sections.Shutdown (λ xs. record p { shutdown = xs }) (λ k xs x new small. (clear (Shutdown x) (draft_of (stages.In sections.Shutdown false) k (record p { shutdown = xs })) refl new refl small, refl)) o.shutdown [] (size + 2) is (omega arith)))
body_go sections.Config o p size unset is fits =
    to_size (Config o.base_mask o.overlay_mask ∷ []) (draft_of (stages.In sections.Config false) (size + 1) p) (stages.In sections.Config true) (with_body sections.Config (body_of sections.Config o) p) (size + 1 + 2) (size + length (section_words o sections.Config)) (omega arith)
    (Goes-first (Config o.base_mask o.overlay_mask) [] (draft_of (stages.In sections.Config false) (size + 1) p) (draft_of (stages.In sections.Config true) (size + 1 + 2) (with_body sections.Config (body_of sections.Config o) p)) (draft_of (stages.In sections.Config true) (size + 1 + 2) (with_body sections.Config (body_of sections.Config o) p))
    (clear (Config o.base_mask o.overlay_mask) (draft_of (stages.In sections.Config false) (size + 1) p) refl refl refl (omega arith), refl)
    (Goes-none _))
body_go sections.Gpo o p size unset is fits =
    to_size (Gpo o.gpo ∷ []) (draft_of (stages.In sections.Gpo false) (size + 1) p) (stages.In sections.Gpo true) (with_body sections.Gpo (body_of sections.Gpo o) p) (size + 1 + 1) (size + length (section_words o sections.Gpo)) (omega arith)
    (Goes-first (Gpo o.gpo) [] (draft_of (stages.In sections.Gpo false) (size + 1) p) (draft_of (stages.In sections.Gpo true) (size + 1 + 1) (with_body sections.Gpo (body_of sections.Gpo o) p)) (draft_of (stages.In sections.Gpo true) (size + 1 + 1) (with_body sections.Gpo (body_of sections.Gpo o) p))
    (clear (Gpo o.gpo) (draft_of (stages.In sections.Gpo false) (size + 1) p) refl refl refl (omega arith), refl)
    (Goes-none _))
