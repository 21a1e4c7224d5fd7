-- The items that are taken are those of the object so far, in its order.
use Rattle.std.proofs.Common.{◌≡◌, ◌≢◌, ℕ, zero, suc, ◌+◌, ◌*◌, ◌≤◌, Bool, true, false, not, ◌&&◌, ◌==◌, eqb, cond, List, [], ◌∷◌, ◌++◌, length, take, drop, refl, ap, sym, ◌∙◌, subst, arith, append_assoc, length-append, length-drop}
use Rattle.std.specs.List.{flat_map, All, AllByRecursion}
use Rattle.std.proofs.lemmas.Bool.{false≢true}
use Rattle.std.proofs.lemmas.Bool.Decides.{nat_tests}
use Rattle.std.proofs.lemmas.List.{append-nil, take-append-le, drop-append-le, map-append}
use Rattle.std.proofs.lemmas.List.Concat.{flat_map-append, flat_map-cons}
use Rattle.std.proofs.lemmas.List.Elements.{recursion_from_All}
use Rattle.std.proofs.Math.Seq.{take-append_seam, drop-append_seam}
use Rattle.pm_base.proofs.Booleans.{both, unequal}
use Rattle.pm_base.proofs.Elements.{each_fails}
use Rattle.pm_object.specs.declared.object.PreRec.{PreRec}
use Rattle.pm_object.specs.declared.object.PreGroup.{PreGroup}
use Rattle.pm_object.specs.declared.object.Object.{Object}
use Rattle.pm_object.specs.declared.object.Section.{Section}
use Rattle.pm_object.specs.declared.object.Section.TheVariants as sections
use Rattle.pm_object.specs.Bodies.{Body, body_of, no_body, with_body}
use Rattle.pm_object.specs.Grammar.{is_same}
use Rattle.pm_objtext.specs.declared.item.Item.{Item}
use Rattle.pm_objtext.specs.declared.item.Item.TheVariants.{Empty, Header, Opens, Master, Slave, Group, Prefer, Power, Reset, Shutdown, Config, Gpo}
use Rattle.pm_objtext.specs.declared.stage.Stage.{Stage}
use Rattle.pm_objtext.specs.declared.stage.Stage.TheVariants as stages
use Rattle.pm_objtext.specs.Groups.{with_preset}
use Rattle.pm_objtext.specs.Stage.{is_single, is_in, awaits_record, takes_header, takes_section}
use Rattle.pm_objtext.specs.SoFar.{SoFar, say}
use Rattle.pm_objtext.specs.Causes.{stands, repeats}
use Rattle.pm_objtext.specs.Items.{header_lines, group_items, body_items, record_items, section_items}
use Rattle.pm_objtext.specs.Meaning.{item_before, AreItemsOf}
use Rattle.pm_objtext.proofs.ItemTexts.{Fits}
use Rattle.pm_objtext.proofs.SectionLaws.{SectionLaws, same_section, differ}
use Rattle.pm_objtext.proofs.Formed.{IsFormed}

-- ---- the items so far

-- what stands in the open section so far: the one record of a section of one may still have to come
abbrev open_items : Section → Bool → Object → List Item
open_items s filled o = cond (is_single s && not filled) [] (record_items s o)

-- header lines, of which the last one is full or not
pub record InHeader (full : Bool) (items : List Item) (o : Object) : Type 0 where
  pub lines : ℕ
  pub least : 16 * lines ≤ length o.extra
  pub most : length o.extra ≤ 16 * lines + 16
  pub whole_lines : full ≡ true → length o.extra ≡ 16 * lines + 16
  pub are : items ≡ header_lines lines o.extra
  pub none : o.order ≡ []

-- a header, whole sections, and the open one
pub record InSection (s : Section) (filled : Bool) (items : List Item) (o : Object) : Type 0 where
  pub lines : ℕ
  pub least : 16 * lines ≤ length o.extra
  pub most : length o.extra ≤ 16 * lines + 16
  pub before : List Section
  pub order : o.order ≡ before ++ s ∷ []
  pub apart : AllByRecursion (λ t. t ≢ s) before
  pub are : items ≡ header_lines lines o.extra ++ (flat_map (section_items o) before ++ Opens s ∷ open_items s filled o)

abbrev pub Listed : Stage → List Item → Object → Type 0
Listed stages.Start items o = (items ≡ []) × (o.extra ≡ []) × (o.order ≡ [])
Listed (stages.Header full) items o = InHeader full items o
Listed (stages.In s filled) items o = InSection s filled items o

-- ---- header lines

front : (k : ℕ) (xs ys : List ℕ) → length xs ≡ k → (take k (xs ++ ys) ≡ xs) × (drop k (xs ++ ys) ≡ ys)
front k xs ys long = rw (← long) (take-append_seam xs ys, drop-append_seam xs ys)

header_more : (lines : ℕ) (xs ys : List ℕ) → length xs ≡ 16 * lines + 16 → header_lines (suc lines) (xs ++ ys) ≡ header_lines lines xs ++ Header (record { items = ys }) ∷ []
header_more zero xs ys long =
    let parts = front 16 xs ys (omega arith) in
    rw (parts.0, parts.1) refl
header_more (suc lines) xs ys long =
    let enough : 16 ≤ length xs = omega arith in
    let left : length (drop 16 xs) ≡ 16 * lines + 16 = omega (arith, length-drop 16 xs) in
    let more = header_more lines (drop 16 xs) ys left in
    let first : take 16 (xs ++ ys) ≡ take 16 xs = take-append-le 16 xs ys enough in
    let others : drop 16 (xs ++ ys) ≡ drop 16 xs ++ ys = drop-append-le 16 xs ys enough in
    ap (λ ws. Header (record { items = ws }) ∷ header_lines (suc lines) (drop 16 (xs ++ ys))) first
    ∙ ap (λ ws. Header (record { items = take 16 xs }) ∷ header_lines (suc lines) ws) others
    ∙ ap (λ items. Header (record { items = take 16 xs }) ∷ items) more

header_next : (stage : Stage) (items : List Item) (o : Object) (extra : List ℕ) → takes_header stage ≡ true → length extra ≤ 16 → Listed stage items o → InHeader (length extra == 16) (items ++ Header (record { items = extra }) ∷ []) (record o { extra = o.extra ++ extra })
header_next stages.Start items o extra takes few l =
    let all : o.extra ++ extra ≡ extra = ap (λ xs. xs ++ extra) l.1 in
    record {
      lines = 0;
      least = omega arith;
      most = omega (arith, ap length all);
      whole_lines = λ full. let long : length extra ≡ 16 = grind (arith, nat_tests) in omega (arith, ap length all);
      are = ap (λ xs. xs ++ Header (record { items = extra }) ∷ []) l.0 ∙ ap (λ ws. Header (record { items = ws }) ∷ []) (sym all);
      none = l.2;
    }
header_next (stages.Header true) items o extra takes few l =
    let long = l.whole_lines refl in
    record {
      lines = suc l.lines;
      least = omega (arith, length-append o.extra extra);
      most = omega (arith, length-append o.extra extra);
      whole_lines = λ full. let last : length extra ≡ 16 = grind (arith, nat_tests) in omega (arith, length-append o.extra extra);
      are = ap (λ xs. xs ++ Header (record { items = extra }) ∷ []) l.are ∙ sym (header_more l.lines o.extra extra long);
      none = l.none;
    }
header_next (stages.Header false) items o extra takes few l = absurd (false≢true takes)
header_next (stages.In s filled) items o extra takes few l = absurd (false≢true takes)

-- ---- whole sections

items_inner : (s : Section) (o : Object) → record_items s o ≡ body_items s (body_of s o)
items_inner sections.Masters o = refl
items_inner s o = refl

items_others : (laws : SectionLaws) (s t : Section) (b : Body s) (o : Object) → t ≢ s → section_items (with_body s b o) t ≡ section_items o t
items_others laws s t b o apart = ap (λ items. Opens t ∷ items) (items_inner t (with_body s b o) ∙ ap (body_items t) (laws.others s t b o apart) ∙ sym (items_inner t o))

before_kept : (laws : SectionLaws) (s : Section) (b : Body s) (o : Object) (before : List Section) → AllByRecursion (λ t. t ≢ s) before → flat_map (section_items (with_body s b o)) before ≡ flat_map (section_items o) before
before_kept laws s b o [] apart = refl
before_kept laws s b o (t ∷ before) apart =
    flat_map-cons (section_items (with_body s b o)) t before ∙ ap (λ xs. xs ++ flat_map (section_items (with_body s b o)) before) (items_others laws s t b o apart.0)
    ∙ ap (λ xs. section_items o t ++ xs) (before_kept laws s b o before apart.1) ∙ sym (flat_map-cons (section_items o) t before)

order_kept : (laws : SectionLaws) (o : Object) (order before : List Section) → flat_map (section_items (record o { order = order })) before ≡ flat_map (section_items o) before
order_kept laws o order [] = refl
order_kept laws o order (t ∷ before) =
    let same : record_items t (record o { order = order }) ≡ record_items t o = items_inner t (record o { order = order }) ∙ ap (body_items t) (laws.reordered t order o) ∙ sym (items_inner t o) in
    flat_map-cons (section_items (record o { order = order })) t before ∙ ap (λ xs. Opens t ∷ xs ++ flat_map (section_items (record o { order = order })) before) same
    ∙ ap (λ xs. section_items o t ++ xs) (order_kept laws o order before) ∙ sym (flat_map-cons (section_items o) t before)

whole_section : (s : Section) (filled : Bool) (o : Object) → not (is_single s && not filled) ≡ true → open_items s filled o ≡ record_items s o
whole_section s filled o takes = at (is_single s && not filled) takes
  where
    at : (b : Bool) → not b ≡ true → cond b [] (record_items s o) ≡ record_items s o
    at true is = absurd (false≢true is)
    at false is = refl

-- where a section may begin, or the text end, the items are those of the object
pub listed_whole : (stage : Stage) (items : List Item) (o : Object) → takes_section stage ≡ true → Listed stage items o → AreItemsOf items o
listed_whole stages.Start items o takes l = absurd (false≢true takes)
listed_whole (stages.Header full) items o takes l =
    record { full = l.lines; least = l.least; most = l.most; are = l.are ∙ sym (append-nil (header_lines l.lines o.extra)) ∙ ap (λ order. header_lines l.lines o.extra ++ flat_map (section_items o) order) (sym l.none) }
listed_whole (stages.In s filled) items o takes l =
    let last : flat_map (section_items o) (s ∷ []) ≡ Opens s ∷ open_items s filled o = ap (λ xs. Opens s ∷ xs) (append-nil (record_items s o) ∙ sym (whole_section s filled o takes)) in
    let all : flat_map (section_items o) o.order ≡ flat_map (section_items o) l.before ++ Opens s ∷ open_items s filled o =
    ap (flat_map (section_items o)) l.order ∙ flat_map-append (section_items o) l.before (s ∷ []) ∙ ap (λ xs. flat_map (section_items o) l.before ++ xs) last in
    record { full = l.lines; least = l.least; most = l.most; are = l.are ∙ ap (λ xs. header_lines l.lines o.extra ++ xs) (sym all) }

opened_none : (s : Section) (o : Object) → body_of s o ≡ no_body s → open_items s false o ≡ []
opened_none sections.Config o none = refl
opened_none sections.Gpo o none = refl
opened_none sections.Masters o none = ap (body_items sections.Masters) none
opened_none s o none = ap (body_items s) none

opens_next : (laws : SectionLaws) (stage : Stage) (items : List Item) (o : Object) (s : Section) → takes_section stage ≡ true → Listed stage items o → All (λ t. t ≢ s) o.order → body_of s o ≡ no_body s → InSection s false (items ++ Opens s ∷ []) (record o { order = o.order ++ s ∷ [] })
opens_next laws stage items o s takes l new none =
    let all = listed_whole stage items o takes l in
    let q : Object = record o { order = o.order ++ s ∷ [] } in
    let empty : open_items s false q ≡ [] = opened_none s q (laws.reordered s (o.order ++ s ∷ []) o ∙ none) in
    record {
      lines = all.full;
      least = all.least;
      most = all.most;
      before = o.order;
      order = refl;
      apart = recursion_from_All (λ t. t ≢ s) o.order new;
      are = ap (λ xs. xs ++ Opens s ∷ []) all.are ∙ append_assoc (header_lines all.full o.extra) (flat_map (section_items o) o.order) (Opens s ∷ [])
          ∙ ap (λ xs. header_lines all.full o.extra ++ (xs ++ Opens s ∷ [])) (sym (order_kept laws o (o.order ++ s ∷ []) o.order))
          ∙ ap (λ xs. header_lines all.full o.extra ++ (flat_map (section_items q) o.order ++ Opens s ∷ xs)) (sym empty);
    }

-- ---- records

section_put : (laws : SectionLaws) (s : Section) (filled now : Bool) (items more : List Item) (o : Object) (b : Body s) → InSection s filled items o → open_items s now (with_body s b o) ≡ open_items s filled o ++ more → InSection s now (items ++ more) (with_body s b o)
section_put laws s filled now items more o b l grows =
    let q = with_body s b o in
    let extra : o.extra ≡ q.extra = sym (laws.extra s b o) in
    let head = header_lines l.lines o.extra in
    let all : items ++ more ≡ head ++ (flat_map (section_items q) l.before ++ Opens s ∷ open_items s now q) =
    ap (λ xs. xs ++ more) l.are ∙ append_assoc head (flat_map (section_items o) l.before ++ Opens s ∷ open_items s filled o) more
    ∙ ap (λ xs. head ++ xs) (append_assoc (flat_map (section_items o) l.before) (Opens s ∷ open_items s filled o) more)
    ∙ ap (λ xs. head ++ (xs ++ Opens s ∷ (open_items s filled o ++ more))) (sym (before_kept laws s b o l.before l.apart))
    ∙ ap (λ xs. head ++ (flat_map (section_items q) l.before ++ Opens s ∷ xs)) (sym grows) in
    record {
      lines = l.lines;
      least = subst (λ (xs : List ℕ). 16 * l.lines ≤ length xs) extra l.least;
      most = subst (λ (xs : List ℕ). length xs ≤ 16 * l.lines + 16) extra l.most;
      before = l.before;
      order = laws.order s b o ∙ l.order;
      apart = l.apart;
      are = subst (λ (xs : List ℕ). items ++ more ≡ header_lines l.lines xs ++ (flat_map (section_items q) l.before ++ Opens s ∷ open_items s now q)) extra all;
    }

-- the section that is open
record Open (s : Section) (stage : Stage) (items : List Item) (o : Object) : Type 0 where
  pub filled : Bool
  pub stage_is : stage ≡ stages.In s filled
  pub listed : InSection s filled items o

open_section : (laws : SectionLaws) (s : Section) (stage : Stage) (items : List Item) (o : Object) → is_in s stage ≡ true → Listed stage items o → Open s stage items o
open_section laws s stages.Start items o is l = absurd (false≢true is)
open_section laws s (stages.Header full) items o is l = absurd (false≢true is)
open_section laws s (stages.In t filled) items o is l =
    let same = same_section laws t s is in
    record { filled = filled; stage_is = ap (λ u. stages.In u filled) same; listed = subst (λ u. InSection u filled items o) same l }

record_next : (laws : SectionLaws) (s : Section) (stage : Stage) (items more : List Item) (o : Object) (b : Body s) → is_in s stage ≡ true → Listed stage items o → ((filled : Bool) → open_items s filled (with_body s b o) ≡ open_items s filled o ++ more) → Listed stage (items ++ more) (with_body s b o)
record_next laws s stage items more o b is l grows =
    let open_one = open_section laws s stage items o is l in
    subst (λ st. Listed st (items ++ more) (with_body s b o)) (sym open_one.stage_is) (section_put laws s open_one.filled open_one.filled items more o b open_one.listed (grows open_one.filled))

-- the one record of a section that awaits it
only_next : (laws : SectionLaws) (s : Section) (stage : Stage) (items : List Item) (item : Item) (o : Object) (b : Body s) → is_in s stage ≡ true → awaits_record stage ≡ true → Listed stage items o → open_items s true (with_body s b o) ≡ item ∷ [] → InSection s true (items ++ item ∷ []) (with_body s b o)
only_next laws s stage items item o b is awaits l now =
    let open_one = open_section laws s stage items o is l in
    let waits : (is_single s && not open_one.filled) ≡ true = subst (λ st. awaits_record st ≡ true) open_one.stage_is awaits in
    let none : open_items s open_one.filled o ≡ [] = ap (λ b. cond b [] (record_items s o)) waits in
    section_put laws s open_one.filled true items (item ∷ []) o b open_one.listed (now ∙ ap (λ xs. xs ++ item ∷ []) (sym none))

presets_more : (rec : PreRec) (groups : List PreGroup) → not (eqb (length groups) 0) ≡ true → flat_map group_items (with_preset rec groups) ≡ flat_map group_items groups ++ Prefer rec ∷ []
presets_more rec [] some = absurd (false≢true some)
presets_more rec (group ∷ []) some =
    append-nil (group_items (record group { recs = group.recs ++ rec ∷ [] })) ∙ ap (λ xs. Group group.mask ∷ xs) (map-append Prefer group.recs (rec ∷ []))
    ∙ ap (λ xs. xs ++ Prefer rec ∷ []) (sym (append-nil (group_items group)))
presets_more rec (group ∷ next ∷ groups) some =
    ap (λ xs. group_items group ++ xs) (presets_more rec (next ∷ groups) (ap not (unequal (length (next ∷ groups)) 0 (λ none. absurd (omega (arith, none)))))) ∙ sym (append_assoc (group_items group) (flat_map group_items (next ∷ groups)) (Prefer rec ∷ []))

-- ---- an item that is taken

module _ (laws : SectionLaws) (d : SoFar) (items : List Item) (f : IsFormed d.stage d.size d.object) (l : Listed d.stage items d.object) where
  pub listed_item : (item : Item) → Fits item → stands item d ≡ true → repeats item d ≡ false → Listed (say item d).stage (items ++ item_before item []) (say item d).object
  listed_item Empty fits place new = subst (λ xs. Listed d.stage xs d.object) (sym (append-nil items)) l
  listed_item (Header extra) fits place new = header_next d.stage items d.object extra.items place fits.few l
  listed_item (Opens s) fits place new =
      opens_next laws d.stage items d.object s place l (λ k e within. differ laws _ s (each_fails (λ t. is_same t s) d.object.order new k e within)) ((f.fine s).0 new)
  listed_item (Master m) fits place new = record_next laws sections.Masters d.stage items (Master m ∷ []) d.object (d.object.masters ++ m ∷ []) place l (λ _. map-append Master d.object.masters (m ∷ []))
  listed_item (Slave s) fits place new = record_next laws sections.Slaves d.stage items (Slave s ∷ []) d.object (d.object.slaves ++ s ∷ []) place l (λ _. map-append Slave d.object.slaves (s ∷ []))
  listed_item (Group mask) fits place new =
      record_next laws sections.Prealloc d.stage items (Group mask ∷ []) d.object (d.object.groups ++ record { mask = mask; recs = [] } ∷ []) place l (λ _. flat_map-append group_items d.object.groups (record { mask = mask; recs = [] } ∷ []))
  listed_item (Prefer rec) fits place new =
      let some = both (is_in sections.Prealloc d.stage) (not (length d.object.groups == 0)) place in
      record_next laws sections.Prealloc d.stage items (Prefer rec ∷ []) d.object (with_preset rec d.object.groups) some.0 l (λ _. presets_more rec d.object.groups some.1)
  listed_item (Power x) fits place new = record_next laws sections.Power d.stage items (Power x ∷ []) d.object (d.object.power ++ x ∷ []) place l (λ _. map-append Power d.object.power (x ∷ []))
  listed_item (Reset x) fits place new = record_next laws sections.Reset d.stage items (Reset x ∷ []) d.object (d.object.reset ++ x ∷ []) place l (λ _. map-append Reset d.object.reset (x ∷ []))
  listed_item (Shutdown x) fits place new = record_next laws sections.Shutdown d.stage items (Shutdown x ∷ []) d.object (d.object.shutdown ++ x ∷ []) place l (λ _. map-append Shutdown d.object.shutdown (x ∷ []))
  listed_item (Config base overlay) fits place new =
      let in_it = both (is_in sections.Config d.stage) (awaits_record d.stage) place in
      only_next laws sections.Config d.stage items (Config base overlay) d.object (base, overlay) in_it.0 in_it.1 l refl
  listed_item (Gpo word) fits place new =
      let in_it = both (is_in sections.Gpo d.stage) (awaits_record d.stage) place in
      only_next laws sections.Gpo d.stage items (Gpo word) d.object word in_it.0 in_it.1 l refl
