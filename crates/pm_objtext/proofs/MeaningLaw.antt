-- The text of an object means the object that is built from it.
use Rattle.std.proofs.Common.{◌≡◌, ◌≢◌, ℕ, ◌+◌, ◌^◌, ◌<◌, ◌≤◌, Bool, true, false, not, eqb, ◌||◌, nat_lt, cond, List, [], ◌∷◌, ◌++◌, length, Option, Some, None, slice_get, ◌↔◌, Result, Ok, Err, refl, ap, sym, subst, arith, length-append, append_assoc}
use Rattle.std.specs.Prelude.{IfOk}
use Rattle.std.specs.List.{flat_map, Contains}
use Rattle.std.proofs.lemmas.Bool.{false≢true}
use Rattle.std.proofs.lemmas.Bool.Decides.{nat_tests}
use Rattle.std.proofs.lemmas.List.{append-nil}
use Rattle.std.proofs.lemmas.List.Elements.{All-from_recursion}
use Rattle.std.proofs.lemmas.Map.Views.{Contains-from_any}
use Rattle.pm_io.specs.Lines.{lines_of}
use Rattle.pm_base.proofs.Elements.{AllByRecursion-append, no_pairs}
use Rattle.pm_object.specs.declared.object.PreGroup.{PreGroup}
use Rattle.pm_object.specs.declared.object.Object.{Object}
use Rattle.pm_object.specs.declared.object.Section.{Section}
use Rattle.pm_object.specs.declared.object.Section.TheVariants as sections
use Rattle.pm_object.specs.Bodies.{body_of, no_body, unset}
use Rattle.pm_object.specs.Grammar.{is_same, master_words, slave_words, preset_words, pair_words, group_words, section_words, header_words, words_of, IsObject}
use Rattle.pm_objtext.specs.declared.fault.TextCause.{TextCause}
use Rattle.pm_objtext.specs.declared.fault.TextCause.TheVariants as causes
use Rattle.pm_objtext.specs.declared.fault.TextFault.{TextFault}
use Rattle.pm_objtext.specs.declared.fault.BuildError.{BuildError}
use Rattle.pm_objtext.specs.declared.fault.BuildError.TheVariants.{Bad}
use Rattle.pm_objtext.specs.declared.item.Item.{Item}
use Rattle.pm_objtext.specs.declared.item.Item.TheVariants.{Empty}
use Rattle.pm_objtext.specs.declared.stage.Stage.{Stage}
use Rattle.pm_objtext.specs.declared.stage.Stage.TheVariants as stages
use Rattle.pm_objtext.specs.Answers.{Gives}
use Rattle.pm_objtext.specs.Stage.{takes_section}
use Rattle.pm_objtext.specs.SoFar.{SoFar, start, say}
use Rattle.pm_objtext.specs.Causes.{cause_of, end_cause}
use Rattle.pm_objtext.specs.FirstBad.{first_bad, bad_or, line_cause, after_line, first_bad_from, said_by}
use Rattle.pm_objtext.specs.Meaning.{most_bytes, item_before, items_in, AreItemsOf, Means}
use Rattle.pm_objtext.specs.Reading.{item_of}
use Rattle.pm_objtext.specs.Building.{unless_bad, building}
use Rattle.pm_objtext.proofs.ItemTexts.{AreSmall}
use Rattle.pm_objtext.proofs.TextLaw.{AreSmall-split}
use Rattle.pm_objtext.proofs.SectionLaws.{SectionLaws, same_section}
use Rattle.pm_objtext.proofs.ReadSmall.{item_of-fits}
use Rattle.pm_objtext.proofs.Walks.{clear_from}
use Rattle.pm_objtext.proofs.ItemsLaw.{lines_give}
use Rattle.pm_objtext.proofs.Formed.{IsFine, is_there, group_numbers, body_numbers, IsLedByMasters, IsFormed, size_of, none_missing}
use Rattle.pm_objtext.proofs.FormedItems.{formed_clear}
use Rattle.pm_objtext.proofs.Listed.{Listed, listed_whole, listed_item}

-- ---- the words of an object that is not too long

count_most : {X : Type 0} (words : X → List ℕ) (some : (x : X) → 0 < length (words x)) (xs : List X) → length xs ≤ length (flat_map words xs)
count_most words some [] = omega arith
count_most words some (x ∷ xs) = omega (arith, some x, count_most words some xs, length-append (words x) (flat_map words xs))

groups_small : (groups : List PreGroup) → AreSmall (flat_map group_numbers groups) → length (flat_map group_words groups) ≤ 4096 → AreSmall (flat_map group_words groups)
groups_small [] small fits = tt
groups_small (group ∷ groups) small fits =
    let numbers = AreSmall-split (flat_map preset_words group.recs) (flat_map group_numbers groups) small.1 in
    let long : length (group_words group ++ flat_map group_words groups) ≡ length (group_words group) + length (flat_map group_words groups) = length-append (group_words group) (flat_map group_words groups) in
    let count : length group.recs < 2 ^ 32 = omega (arith, count_most preset_words (λ rec. omega arith) group.recs) in
    (small.0, (count, AllByRecursion-append (λ n. n < 2 ^ 32) (flat_map preset_words group.recs) (flat_map group_words groups) numbers.0 (groups_small groups numbers.1 (omega arith))))

section_small : (s : Section) (o : Object) → AreSmall (body_numbers s (body_of s o)) → length (section_words o s) ≤ 4096 → AreSmall (section_words o s)
section_small sections.Masters o small fits = (omega arith, (omega (arith, count_most master_words (λ x. omega arith) o.masters), small))
section_small sections.Slaves o small fits = (omega arith, (omega (arith, count_most slave_words (λ x. omega arith) o.slaves), small))
section_small sections.Prealloc o small fits = (omega arith, (omega (arith, count_most group_words (λ x. omega arith) o.groups), groups_small o.groups small (omega arith)))
section_small sections.Power o small fits = (omega arith, (omega (arith, count_most pair_words (λ x. omega arith) o.power), small))
section_small sections.Reset o small fits = (omega arith, (omega (arith, count_most pair_words (λ x. omega arith) o.reset), small))
section_small sections.Shutdown o small fits = (omega arith, (omega (arith, count_most pair_words (λ x. omega arith) o.shutdown), small))
section_small sections.Config o small fits = (omega arith, small)
section_small sections.Gpo o small fits = (omega arith, small)

sections_small : (order : List Section) (o : Object) → ((s : Section) → AreSmall (body_numbers s (body_of s o))) → size_of order o ≤ 4096 → AreSmall (flat_map (section_words o) order)
sections_small [] o small fits = tt
sections_small (s ∷ order) o small fits =
    let long : length (section_words o s ++ flat_map (section_words o) order) ≡ length (section_words o s) + size_of order o = length-append (section_words o s) (flat_map (section_words o) order) in
    AllByRecursion-append (λ n. n < 2 ^ 32) (section_words o s) (flat_map (section_words o) order) (section_small s o (small s) (omega arith)) (sections_small order o small (omega arith))

words_small : (o : Object) → AreSmall o.extra → ((s : Section) → AreSmall (body_numbers s (body_of s o))) → 3 + length o.extra + size_of o.order o ≤ 4096 → AreSmall (words_of o)
words_small o extra small fits =
    let order : length o.order ≤ size_of o.order o = count_most (section_words o) (λ s. omega arith) o.order in
    AllByRecursion-append (λ n. n < 2 ^ 32) (header_words o) (flat_map (section_words o) o.order) (omega arith, (omega arith, (omega arith, extra))) (sections_small o.order o small (omega arith))

-- ---- the end of the text

first_at : (order : List Section) → eqb (length order) 0 ≡ false → IsLedByMasters order → slice_get order 0 ≡ Some sections.Masters
first_at [] some led = absurd (false≢true (sym some))
first_at (s ∷ order) some led = ap Some led

there_at : (laws : SectionLaws) (order : List Section) (s : Section) → is_there s order ≡ true → Contains order s
there_at laws order s there = Contains-from_any {eq = λ q t. is_same t q} (λ q t is. sym (same_section laws t q is)) s order there

not_there : (laws : SectionLaws) (order : List Section) (s : Section) → (Contains order s → ⊥) → is_there s order ≡ false
not_there laws order s absent = at (is_there s order) refl
  where
    at : (b : Bool) → is_there s order ≡ b → b ≡ false
    at true is = absurd (absent (there_at laws order s is))
    at false is = refl

object_of : (laws : SectionLaws) (stage : Stage) (size : ℕ) (o : Object) → IsFormed stage size o → takes_section stage ≡ true → eqb (length o.order) 0 ≡ false → eqb (length o.masters) 0 ≡ false → IsObject o
object_of laws stage size o f takes some masters =
    let words = f.words in
    let most = f.most in
    let fits : 3 + length o.extra + size_of o.order o ≤ 4096 = omega (arith, none_missing stage takes) in
    record {
      first = first_at o.order some f.led;
      once = f.once;
      unset = λ s absent. (f.fine s).0 (not_there laws o.order s absent);
      sections = λ s. (f.fine s).1;
      some_master = grind (arith, nat_tests);
      words = All-from_recursion (λ w. w < 2 ^ 32) (words_of o) (words_small o f.extra (λ s. (f.fine s).2) fits);
      size = omega (arith, length-append (header_words o) (flat_map (section_words o) o.order));
    }

ended_where : (a b c : Bool) → cond (not a) (Some causes.Place) (cond (b || c) (Some causes.Master) None) ≡ None → (a ≡ true) × (b ≡ false) × (c ≡ false)
ended_where false b c is = cc
ended_where true true c is = cc
ended_where true false true is = cc
ended_where true false false is = (refl, refl, refl)

-- the items of an object that the text ends as
pub record Ends (items : List Item) (o : Object) : Type 0 where
  pub listed : AreItemsOf items o
  pub object : IsObject o

ends_where : (laws : SectionLaws) (d : SoFar) (items : List Item) → IsFormed d.stage d.size d.object → Listed d.stage items d.object → end_cause d ≡ None → Ends items d.object
ends_where laws d items f l over =
    let facts = ended_where (takes_section d.stage) (eqb (length d.object.order) 0) (eqb (length d.object.masters) 0) over in
    record { listed = listed_whole d.stage items d.object facts.0 l; object = object_of laws d.stage d.size d.object f facts.0 facts.1 facts.2 }

-- ---- all lines

-- the lines that are left have items, which end the text after the earlier ones
pub record Left (lines : List (List ℕ)) (items : List Item) (o : Object) : Type 0 where
  pub later : List Item
  pub said : items_in lines ≡ Some later
  pub ends : Ends (items ++ later) o

before_items : (item : Item) (items later : List Item) → (items ++ item_before item []) ++ later ≡ items ++ item_before item later
before_items Empty items later = ap (λ xs. xs ++ later) (append-nil items)
before_items item items later = append_assoc items (item ∷ []) later

line_left : (line : List ℕ) (lines : List (List ℕ)) (item : Item) (items : List Item) (o : Object) → item_of line ≡ Some item → Left lines (items ++ item_before item []) o → Left (line ∷ lines) items o
line_left line lines item items o is left = record {
  later = item_before item left.later;
  said = rw (is, left.said) refl;
  ends = subst (λ xs. Ends xs o) (before_items item items left.later) left.ends;
}

no_bad : (cause : Option TextCause) (n : ℕ) (later : Option TextFault) → bad_or cause n later ≡ None → (cause ≡ None) × (later ≡ None)
no_bad None n later none = (refl, none)
no_bad (Some cause) n later none = cc

pub lines_left : (laws : SectionLaws) (lines : List (List ℕ)) (items : List Item) (d : SoFar) (n : ℕ) → IsFormed d.stage d.size d.object → Listed d.stage items d.object → first_bad_from n d lines ≡ None → Left lines items (said_by d lines).object
lines_left laws [] items d n f l none =
    let over = no_bad (end_cause d) n None none in
    record { later = []; said = refl; ends = subst (λ xs. Ends xs d.object) (sym (append-nil items)) (ends_where laws d items f l over.0) }
lines_left laws (line ∷ lines) items d n f l none = at (item_of line) refl none (λ more e formed listed left. lines_left laws lines more e (n + 1) formed listed left)
  where
    at : (found : Option Item) → item_of line ≡ found → bad_or (line_cause found d) n (first_bad_from (n + 1) (after_line found d) lines) ≡ None
        → ((more : List Item) (e : SoFar) → IsFormed e.stage e.size e.object → Listed e.stage more e.object → first_bad_from (n + 1) e lines ≡ None → Left lines more (said_by e lines).object) → Left (line ∷ lines) items (said_by (after_line found d) lines).object
    at None is none others = cc
    at (Some item) is none others =
        let fits = item_of-fits line item is in
        let parts = no_bad (cause_of item d) n (first_bad_from (n + 1) (say item d) lines) none in
        let good = clear_from item d parts.0 in
        line_left line lines item items (said_by (say item d) lines).object is
        (others (items ++ item_before item []) (say item d) (formed_clear laws item d f fits.small good) (listed_item laws d items f l item fits good.place good.new) parts.1)

small_none : (s : Section) → AreSmall (body_numbers s (no_body s))
small_none sections.Config = (omega arith, (omega arith, tt))
small_none sections.Gpo = (omega arith, tt)
small_none sections.Masters = tt
small_none s = tt

start_formed : (laws : SectionLaws) → IsFormed stages.Start 0 (unset [])
start_formed laws = record {
  led = tt;
  once = no_pairs (λ s t. s ≢ t);
  opened = tt;
  fine = λ s. subst (λ b. IsFine s b false) (sym (laws.none s [])) (λ _. refl, laws.empty s, small_none s);
  extra = tt;
  words = omega arith;
  most = omega arith;
}

-- ---- the law

not_long : (b : Bool) (fault : TextFault) (later : Option TextFault) → cond b (Some fault) later ≡ None → (b ≡ false) × (later ≡ None)
not_long true fault later none = cc
not_long false fault later none = (refl, none)

no_fault : (bad : Option TextFault) (d : SoFar) (o : Object) → unless_bad bad d ≡ Ok o → (bad ≡ None) × (d.object ≡ o)
no_fault None d o is = (refl, cc)
no_fault (Some fault) d o is = cc

-- what a text says that has no bad line is what it means
good_means : (laws : SectionLaws) (text : List ℕ) → first_bad text ≡ None → Means text (said_by start (lines_of text)).object
good_means laws text none =
    let whole_text = not_long (nat_lt most_bytes (length text)) _ (first_bad_from 1 start (lines_of text)) none in
    let not_more = whole_text.0 in
    let left = lines_left laws (lines_of text) [] start 1 (start_formed laws) (refl, refl, refl) whole_text.1 in
    record { short = grind (arith, nat_tests); items = left.later; lines = left.said; listed = left.ends.listed; object = left.ends.object }

-- what is built is what the text means
pub built_means : (laws : SectionLaws) (text : List ℕ) (o : Object) → building text ≡ Ok o → Means text o
unfolding building
built_means laws text o is =
    let good = no_fault (first_bad text) (said_by start (lines_of text)) o is in
    subst (Means text) good.1 (good_means laws text good.0)

-- what a text means is built
pub means_built : (laws : SectionLaws) (text : List ℕ) (o : Object) → Means text o → building text ≡ Ok o
unfolding building
means_built laws text o means =
    let short = means.short in
    let fits : nat_lt most_bytes (length text) ≡ false = grind (arith, nat_tests) in
    rw fits (lines_give laws (lines_of text) means.items o means.object means.listed means.lines)

-- ---- what build answers

fault_is : (bad : Option TextFault) (d : SoFar) (f : TextFault) → unless_bad bad d ≡ Err f → bad ≡ Some f
fault_is None d f is = cc
fault_is (Some fault) d f is = cc

pub is_bad : (result : Result Object BuildError) (text : List ℕ) (f : TextFault) → Gives result (building text) → result ≡ Err (Bad f) → first_bad text ≡ Some f
unfolding building
is_bad result text f gives is =
    fault_is (first_bad text) (said_by start (lines_of text)) f (subst (λ (r : Result Object BuildError). Gives r (building text)) is gives)

module _ (built : (text : List ℕ) (o : Object) → building text ≡ Ok o ↔ Means text o) where
  pub is_found : (result : Result Object BuildError) (text : List ℕ) → Gives result (building text) → IfOk result (λ o. Means text o)
  is_found (Ok o) text gives = (built text o).0 gives
  is_found (Err e) text gives = tt

  pub is_only : (result : Result Object BuildError) (text : List ℕ) (o : Object) → Gives result (building text) → Means text o → Gives result (Ok o)
  is_only result text o gives means = subst (λ (read : Result Object TextFault). Gives result read) ((built text o).1 means) gives

  pub formed_where : (result : Result Object BuildError) (text : List ℕ) → Gives result (building text) → IfOk result IsObject
  formed_where (Ok o) text gives = let means = (built text o).0 gives in means.object
  formed_where (Err e) text gives = tt

  pub is_unreadable : (result : Result Object BuildError) (text : List ℕ) (f : TextFault) → Gives result (building text) → result ≡ Err (Bad f) → (o : Object) → Means text o → ⊥
  is_unreadable result text f gives is o means =
      let bad : building text ≡ Err f = subst (λ (r : Result Object BuildError). Gives r (building text)) is gives in
      let good = (built text o).1 means in
      cc

-- ---- the laws

pub built_exactly : (laws : SectionLaws) (text : List ℕ) (o : Object) → building text ≡ Ok o ↔ Means text o
built_exactly laws text o = (λ is. built_means laws text o is, λ means. means_built laws text o means)

pub means_or_faults : (laws : SectionLaws) (text : List ℕ) → first_bad text ≡ None ↔ ((o : Object) × Means text o)
unfolding building
means_or_faults laws text = (
  λ none. ((said_by start (lines_of text)).object, good_means laws text none),
  λ means. (no_fault (first_bad text) (said_by start (lines_of text)) means.0 (means_built laws text means.0 means.1)).0,
)

pub one_object : (laws : SectionLaws) (text : List ℕ) (o p : Object) → Means text o → Means text p → o ≡ p
one_object laws text o p first other = let same = means_built laws text p other in let is = means_built laws text o first in cc
