-- The text of a well-formed object says that object.
use Rattle.std.proofs.Common.{◌≡◌, ℕ, zero, suc, ◌+◌, ◌-◌, ◌*◌, ◌/◌, ◌^◌, ◌<◌, ◌≤◌, Bool, true, false, List, [], ◌∷◌, ◌++◌, length, take, drop, map, Some, refl, ap, sym, ◌∙◌, subst, arith, append_assoc, length-append, length-take, length-drop}
use Rattle.std.specs.List.{flat_map, AllByRecursion}
use Rattle.std.proofs.lemmas.List.{take-append-drop}
use Rattle.std.proofs.lemmas.List.Elements.{recursion_from_All}
use Rattle.std.proofs.lemmas.List.Concat.{flat_map-append}
use Rattle.pm_object.specs.declared.object.PreGroup.{PreGroup}
use Rattle.pm_object.specs.declared.object.Object.{Object}
use Rattle.pm_object.specs.declared.object.Section.{Section}
use Rattle.pm_object.specs.declared.object.Section.TheVariants as sections
use Rattle.pm_object.specs.Grammar.{master_words, slave_words, preset_words, pair_words, group_words, section_words, header_words, words_of, IsObject}
use Rattle.pm_objtext.specs.declared.names.Keyword.TheVariants as keywords
use Rattle.pm_objtext.specs.declared.item.Item.{Item}
use Rattle.pm_objtext.specs.declared.item.Item.TheVariants.{Empty, Header, Opens, Master, Slave, Group, Prefer, Power, Reset, Shutdown, Config, Gpo}
use Rattle.pm_io.specs.Lines.{lines_of}
use Rattle.pm_objtext.specs.Items.{header_lines, group_items, record_items, section_items}
use Rattle.pm_objtext.specs.Printing.{line_of, ended_line, lines_text, header_items, items_of, text_of}
use Rattle.pm_objtext.specs.Meaning.{item_before, items_in, Means}
use Rattle.pm_objtext.proofs.LinesLemmas.{lines_of-line}
use Rattle.pm_base.proofs.Elements.{AllByRecursion-append}
use Rattle.pm_objtext.proofs.ItemTexts.{AreSmall, Fits, length-numbers_line, length-section_line, item_of-line_of, line_without_feed}

-- ---- the lines of a text are those of its items

-- an item that a line says
abbrev is_said : Item → Bool
is_said Empty = false
is_said item = true

pub record IsSaid (item : Item) : Type 0 where
  pub fits : Fits item
  pub says : is_said item ≡ true

with_said : (item : Item) (items : List Item) → is_said item ≡ true → item_before item items ≡ item ∷ items
with_said Empty items says = cc
with_said item items says = refl

lines_of-lines_text : (items : List Item) → AllByRecursion IsSaid items → lines_of (lines_text items) ≡ map line_of items
lines_of-lines_text [] fit = refl
lines_of-lines_text (item ∷ items) fit =
    ap lines_of (append_assoc (line_of item) (10 ∷ []) (lines_text items)) ∙ lines_of-line (line_of item) (lines_text items) (line_without_feed item fit.0.fits) ∙ ap (λ lines. line_of item ∷ lines) (lines_of-lines_text items fit.1)

items_in-lines : (items : List Item) → AllByRecursion IsSaid items → items_in (map line_of items) ≡ Some items
items_in-lines [] fit = refl
items_in-lines (item ∷ items) fit = rw (item_of-line_of item fit.0.fits, items_in-lines items fit.1) (ap Some (with_said item items fit.0.says))

-- ---- the items of an object can be said, in not too many bytes

-- items that bring so many words
pub record AreSaid (items : List Item) (words : ℕ) : Type 0 where
  pub fit : AllByRecursion IsSaid items
  pub short : length (lines_text items) ≤ 20 * words

said_more : (items : List Item) (a b : ℕ) → a ≤ b → AreSaid items a → AreSaid items b
said_more items a b more said = let short = said.short in record { fit = said.fit; short = omega arith }

said_none : AreSaid [] 0
said_none = record { fit = tt; short = omega arith }

said-append : (xs ys : List Item) (a b : ℕ) → AreSaid xs a → AreSaid ys b → AreSaid (xs ++ ys) (a + b)
said-append xs ys a b p q =
    let first = p.short in
    let second = q.short in
    record { fit = AllByRecursion-append IsSaid xs ys p.fit q.fit; short = omega (arith, ap length (flat_map-append ended_line xs ys), length-append (lines_text xs) (lines_text ys)) }

said_one : (item : Item) (words : ℕ) → Fits item → is_said item ≡ true → length (line_of item) + 1 ≤ 20 * words → AreSaid (item ∷ []) words
said_one item words fits says short = record { fit = (record { fits = fits; says = says }, tt); short = omega (arith, length-append (line_of item ++ 10 ∷ []) [], length-append (line_of item) (10 ∷ [])) }

pub AreSmall-split : (xs ys : List ℕ) → AreSmall (xs ++ ys) → AreSmall xs × AreSmall ys
AreSmall-split [] ys small = (tt, small)
AreSmall-split (x ∷ xs) ys small = let both = AreSmall-split xs ys small.1 in ((small.0, both.0), both.1)

module _ {X : Type 0} (item : X → Item) (words : X → List ℕ) (one : (x : X) → AreSmall (words x) → AreSaid (item x ∷ []) (length (words x))) where
  said-map : (xs : List X) → AreSmall (flat_map words xs) → AreSaid (map item xs) (length (flat_map words xs))
  said-map [] small = said_none
  said-map (x ∷ xs) small =
      let both = AreSmall-split (words x) (flat_map words xs) small in
      subst (AreSaid (item x ∷ map item xs)) (sym (length-append (words x) (flat_map words xs))) (said-append (item x ∷ []) (map item xs) (length (words x)) (length (flat_map words xs)) (one x both.0) (said-map xs both.1))

module _ {X : Type 0} (items : X → List Item) (words : X → List ℕ) (each : (x : X) → AreSmall (words x) → AreSaid (items x) (length (words x))) where
  said-flat_map : (xs : List X) → AreSmall (flat_map words xs) → AreSaid (flat_map items xs) (length (flat_map words xs))
  said-flat_map [] small = said_none
  said-flat_map (x ∷ xs) small =
      let both = AreSmall-split (words x) (flat_map words xs) small in
      subst (AreSaid (items x ++ flat_map items xs)) (sym (length-append (words x) (flat_map words xs))) (said-append (items x) (flat_map items xs) (length (words x)) (length (flat_map words xs)) (each x both.0) (said-flat_map xs both.1))

said_group : (group : PreGroup) → AreSmall (group_words group) → AreSaid (group_items group) (length (group_words group))
said_group group small =
    let head = said_one (Group group.mask) 2 (record { small = (small.0, tt); few = omega arith }) refl (omega (arith, length-numbers_line keywords.Group (group.mask ∷ []) (small.0, tt))) in
    let recs = said-map Prefer preset_words (λ rec small. said_one (Prefer rec) 4 (record { small = small; few = omega arith }) refl (omega (arith, length-numbers_line keywords.Prefer (preset_words rec) small))) group.recs small.1.1 in
    said_more (group_items group) (2 + length (flat_map preset_words group.recs)) (length (group_words group)) (omega arith) (said-append (Group group.mask ∷ []) (map Prefer group.recs) 2 (length (flat_map preset_words group.recs)) head recs)

said_opening : (s : Section) → AreSaid (Opens s ∷ []) 1
said_opening s = said_one (Opens s) 1 (record { small = tt; few = omega arith }) refl (omega (arith, length-section_line s))

-- the records of a section bring all its words but the first
said_records : (s : Section) (o : Object) → AreSmall (section_words o s) → AreSaid (record_items s o) (length (section_words o s) - 1)
said_records sections.Masters o small =
    said_more _ (length (flat_map master_words o.masters)) _ (omega arith) (said-map Master master_words (λ m small. said_one (Master m) 5 (record { small = small; few = omega arith }) refl (omega (arith, length-numbers_line keywords.Master (master_words m) small))) o.masters small.1.1)
said_records sections.Slaves o small =
    said_more _ (length (flat_map slave_words o.slaves)) _ (omega arith) (said-map Slave slave_words (λ s small. said_one (Slave s) 3 (record { small = small; few = omega arith }) refl (omega (arith, length-numbers_line keywords.Slave (slave_words s) small))) o.slaves small.1.1)
said_records sections.Prealloc o small =
    said_more _ (length (flat_map group_words o.groups)) _ (omega arith) (said-flat_map group_items group_words said_group o.groups small.1.1)
said_records sections.Power o small =
    said_more _ (length (flat_map pair_words o.power)) _ (omega arith) (said-map Power pair_words (λ p small. said_one (Power p) 2 (record { small = small; few = omega arith }) refl (omega (arith, length-numbers_line keywords.Power (pair_words p) small))) o.power small.1.1)
said_records sections.Reset o small =
    said_more _ (length (flat_map pair_words o.reset)) _ (omega arith) (said-map Reset pair_words (λ p small. said_one (Reset p) 2 (record { small = small; few = omega arith }) refl (omega (arith, length-numbers_line keywords.Reset (pair_words p) small))) o.reset small.1.1)
said_records sections.Shutdown o small =
    said_more _ (length (flat_map pair_words o.shutdown)) _ (omega arith) (said-map Shutdown pair_words (λ p small. said_one (Shutdown p) 2 (record { small = small; few = omega arith }) refl (omega (arith, length-numbers_line keywords.Shutdown (pair_words p) small))) o.shutdown small.1.1)
said_records sections.Config o small =
    said_more _ 2 _ (omega arith) (said_one (Config o.base_mask o.overlay_mask) 2 (record { small = small.1; few = omega arith }) refl (omega (arith, length-numbers_line keywords.Config (o.base_mask ∷ o.overlay_mask ∷ []) small.1)))
said_records sections.Gpo o small =
    said_more _ 1 _ (omega arith) (said_one (Gpo o.gpo) 1 (record { small = small.1; few = omega arith }) refl (omega (arith, length-numbers_line keywords.Gpo (o.gpo ∷ []) small.1)))

said_section : (o : Object) (s : Section) → AreSmall (section_words o s) → AreSaid (section_items o s) (length (section_words o s))
said_section o s small =
    said_more (section_items o s) (1 + (length (section_words o s) - 1)) (length (section_words o s)) (omega arith) (said-append (Opens s ∷ []) (record_items s o) 1 (length (section_words o s) - 1) (said_opening s) (said_records s o small))

said_header : (full : ℕ) (extra : List ℕ) → AreSmall extra → 16 * full ≤ length extra → length extra ≤ 16 * full + 16 → AreSaid (header_lines full extra) (length extra + 1)
said_header zero extra small least most =
    said_one (Header (record { items = extra })) (length extra + 1) (record { small = small; few = omega arith }) refl (omega (arith, length-numbers_line keywords.Header extra small))
said_header (suc full) extra small least most =
    let both = AreSmall-split (take 16 extra) (drop 16 extra) (subst AreSmall (sym (take-append-drop 16 extra)) small) in
    let long : length (take 16 extra) ≡ 16 = omega (arith, length-take 16 extra) in
    let left : length (drop 16 extra) + 16 ≡ length extra = omega (arith, length-drop 16 extra) in
    let first = said_one (Header (record { items = take 16 extra })) 16 (record { small = both.0; few = omega arith }) refl (omega (arith, length-numbers_line keywords.Header (take 16 extra) both.0)) in
    let later = said_header full (drop 16 extra) both.1 (omega arith) (omega arith) in
    said_more (header_lines (suc full) extra) (16 + (length (drop 16 extra) + 1)) (length extra + 1) (omega arith) (said-append (Header (record { items = take 16 extra }) ∷ []) (header_lines full (drop 16 extra)) 16 (length (drop 16 extra) + 1) first later)

said_object : (o : Object) → IsObject o → AreSaid (items_of o) (length (words_of o))
said_object o is =
    let small : AreSmall (words_of o) = recursion_from_All (λ w. w < 2 ^ 32) (words_of o) is.words in
    let parts = AreSmall-split (header_words o) (flat_map (section_words o) o.order) small in
    let header = said_header ((length o.extra - 1) / 16) o.extra parts.0.1.1.1 (omega arith) (omega arith) in
    let others = said-flat_map (section_items o) (section_words o) (said_section o) o.order parts.1 in
    said_more (items_of o) (length o.extra + 1 + length (flat_map (section_words o) o.order)) (length (words_of o)) (omega (arith, length-append (header_words o) (flat_map (section_words o) o.order)))
    (said-append (header_items o.extra) (flat_map (section_items o) o.order) (length o.extra + 1) (length (flat_map (section_words o) o.order)) header others)

-- ---- the law

pub text_of-means : (o : Object) → IsObject o → Means (text_of o) o
unfolding text_of
text_of-means o is =
    let said = said_object o is in
    let short = said.short in
    let size = is.size in
    record {
      short = omega arith;
      items = items_of o;
      lines = ap items_in (lines_of-lines_text (items_of o) said.fit) ∙ items_in-lines (items_of o) said.fit;
      listed = record { full = (length o.extra - 1) / 16; least = omega arith; most = omega arith; are = refl };
      object = is;
    }
