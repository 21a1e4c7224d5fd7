-- The items of a well-formed object, taken from the start, give that object.
use Rattle.std.proofs.Common.{◌≡◌, ◌≢◌, ℕ, zero, suc, ◌+◌, ◌*◌, ◌<◌, ◌≤◌, Bool, true, false, ◌==◌, eqb, List, [], ◌∷◌, ◌++◌, length, get_or, take, drop, refl, ap, sym, ◌∙◌, subst, arith, append_assoc, length-append, length-take, length-drop, add-zero}
use Rattle.std.specs.List.{flat_map, list_any, AllPairs, AllByRecursion}
use Rattle.std.proofs.lemmas.Bool.Decides.{nat_tests}
use Rattle.std.proofs.lemmas.List.{take-append-drop, get_or-append-add}
use Rattle.std.proofs.Math.Seq.{get_or-append_seam}
use Rattle.std.proofs.lemmas.List.Folds.{list_any_none}
use Rattle.std.proofs.lemmas.List.Elements.{recursion_from_All}
use Rattle.pm_base.proofs.Elements.{earlier_ones}
use Rattle.pm_object.specs.declared.object.Object.{Object}
use Rattle.pm_object.specs.declared.object.Section.{Section}
use Rattle.pm_object.specs.declared.object.Section.TheVariants as sections
use Rattle.pm_object.specs.Bodies.{body_of, no_body, with_body, unset}
use Rattle.pm_object.specs.Grammar.{is_same, section_words, IsBody}
use Rattle.pm_objtext.specs.declared.item.Item.TheVariants.{Header, Opens}
use Rattle.pm_objtext.specs.declared.stage.Stage.{Stage}
use Rattle.pm_objtext.specs.declared.stage.Stage.TheVariants as stages
use Rattle.pm_objtext.specs.Stage.{is_single, takes_header, takes_section}
use Rattle.pm_objtext.specs.SoFar.{header_size}
use Rattle.pm_objtext.specs.Causes.{lacks_masters}
use Rattle.pm_objtext.specs.Items.{header_lines, record_items, section_items}
use Rattle.pm_objtext.proofs.Walks.{draft_of, Goes, Goes-none, Goes-first, Goes-append, clear}
use Rattle.pm_objtext.proofs.SectionLaws.{SectionLaws, other_section}
use Rattle.pm_objtext.proofs.Sections.{opening, body_go}

-- ---- what a section changes

-- the object with one more section, as it stands in another
abbrev pub taken : Section → Object → Object → Object
taken s o p = with_body s (body_of s o) (record p { order = p.order ++ s ∷ [] })

pub takes_section-filled : (s : Section) → takes_section (stages.In s (is_single s)) ≡ true
takes_section-filled sections.Masters = refl
takes_section-filled s = refl

-- ---- all sections

abbrev pub all_taken : List Section → Object → Object → Object
all_taken [] o p = p
all_taken (s ∷ left) o p = all_taken left o (taken s o p)

abbrev pub stage_after : List Section → Stage → Stage
stage_after [] stage = stage
stage_after (s ∷ left) stage = stage_after left (stages.In s (is_single s))

pub takes_section-after : (left : List Section) (stage : Stage) → takes_section stage ≡ true → takes_section (stage_after left stage) ≡ true
takes_section-after [] stage takes = takes
takes_section-after (s ∷ left) stage takes = takes_section-after left (stages.In s (is_single s)) (takes_section-filled s)

opening_small : (s : Section) (o : Object) → opening s ≤ length (section_words o s)
opening_small sections.Masters o = omega arith
opening_small s o = omega arith

pub section_go : (laws : SectionLaws) (s : Section) (o p : Object) (stage : Stage) (size : ℕ) → takes_section stage ≡ true → list_any (λ t. is_same t s) p.order ≡ false → lacks_masters s p ≡ false → body_of s p ≡ no_body s → IsBody s (body_of s o) → size + length (section_words o s) ≤ 4096 → Goes (section_items o s) (draft_of stage size p) (draft_of (stages.In s (is_single s)) (size + length (section_words o s)) (taken s o p))
section_go laws s o p stage size takes new first unset is fits =
    let small : size + opening s ≤ 4096 = omega (arith, opening_small s o) in
    let named : Object = record p { order = p.order ++ s ∷ [] } in
    Goes-first (Opens s) (record_items s o) (draft_of stage size p) (draft_of (stages.In s false) (size + opening s) named) (draft_of (stages.In s (is_single s)) (size + length (section_words o s)) (taken s o p))
    (clear (Opens s) (draft_of stage size p) takes new first small, refl)
    (body_go s o named size (laws.reordered s (p.order ++ s ∷ []) p ∙ unset) is fits)

-- the sections that are left are new and empty so far
pub record Ready (left : List Section) (p : Object) : Type 0 where
  pub once : AllPairs (λ s t. s ≢ t) (p.order ++ left)
  pub unset : AllByRecursion (λ s. body_of s p ≡ no_body s) left

new_section : (laws : SectionLaws) (s : Section) (left : List Section) (p : Object) → AllPairs (λ s t. s ≢ t) (p.order ++ s ∷ left) → list_any (λ t. is_same t s) p.order ≡ false
new_section laws s left p once = list_any_none (λ t. is_same t s) p.order (λ k d within. other_section laws (get_or p.order k d) s (earlier_ones (λ a b. a ≢ b) p.order s left once k d within))

-- what stands in a section that is taken, and in the others
pub taken_here : (laws : SectionLaws) (s : Section) (o p : Object) → body_of s (taken s o p) ≡ body_of s o
taken_here laws s o p = laws.put s (body_of s o) (record p { order = p.order ++ s ∷ [] })

pub taken_others : (laws : SectionLaws) (s t : Section) (o p : Object) → t ≢ s → body_of t (taken s o p) ≡ body_of t p
taken_others laws s t o p differ = laws.others s t (body_of s o) (record p { order = p.order ++ s ∷ [] }) differ ∙ laws.reordered t (p.order ++ s ∷ []) p

pub taken_order : (laws : SectionLaws) (s : Section) (o p : Object) → (taken s o p).order ≡ p.order ++ s ∷ []
taken_order laws s o p = laws.order s (body_of s o) (record p { order = p.order ++ s ∷ [] })

-- what is apart from a section stays empty where it is taken
pub unset_later : (laws : SectionLaws) (left : List Section) (s : Section) (o p : Object) → AllByRecursion (λ t. s ≢ t) left → AllByRecursion (λ t. body_of t p ≡ no_body t) left → AllByRecursion (λ t. body_of t (taken s o p) ≡ no_body t) left
unset_later laws [] s o p apart unset = tt
unset_later laws (t ∷ left) s o p apart unset = (taken_others laws s t o p (λ same. apart.0 (sym same)) ∙ unset.0, unset_later laws left s o p apart.1 unset.1)

pub apart_later : (front : List Section) (s : Section) (left : List Section) → AllPairs (λ s t. s ≢ t) (front ++ s ∷ left) → AllByRecursion (λ t. s ≢ t) left
apart_later front s left once = recursion_from_All (λ t. s ≢ t) left (λ k d within.
    let both : get_or (front ++ s ∷ left) (length front) d ≢ get_or (front ++ s ∷ left) (length front + suc k) d = once (length front) (length front + suc k) d (omega arith) (omega (arith, length-append front (s ∷ left))) in
    subst (λ t. s ≢ t) (get_or-append-add front (s ∷ left) (suc k) d) (subst (λ a. a ≢ get_or (front ++ s ∷ left) (length front + suc k) d) (get_or-append_seam front s left d) both))

Ready-taken : (laws : SectionLaws) (s : Section) (left : List Section) (o p : Object) → Ready (s ∷ left) p → Ready left (taken s o p)
Ready-taken laws s left o p ready = record {
  once = subst (AllPairs (λ s t. s ≢ t)) (sym (ap (λ xs. xs ++ left) (taken_order laws s o p) ∙ append_assoc p.order (s ∷ []) left)) ready.once;
  unset = unset_later laws left s o p (apart_later p.order s left ready.once) ready.unset.1;
}

some_masters : (s : Section) (o p : Object) → 0 < length o.masters → 0 < length p.masters → 0 < length (taken s o p).masters
some_masters sections.Masters o p own some = own
some_masters s o p own some = some

has_masters : (s : Section) (p : Object) → 0 < length p.order → 0 < length p.masters → lacks_masters s p ≡ false
has_masters s p some masters =
    let open_order : eqb (length p.order) 0 ≡ false = grind (arith, nat_tests) in
    let open_masters : eqb (length p.masters) 0 ≡ false = grind (arith, nat_tests) in
    rw (open_order, open_masters) refl

order_grows : (laws : SectionLaws) (s : Section) (o p : Object) → 0 < length (taken s o p).order
order_grows laws s o p = omega (arith, ap length (taken_order laws s o p), length-append p.order (s ∷ []))

pub sections_go : (laws : SectionLaws) (left : List Section) (o p : Object) (stage : Stage) (size : ℕ) → takes_section stage ≡ true → Ready left p → 0 < length p.order → 0 < length p.masters → 0 < length o.masters → ((s : Section) → IsBody s (body_of s o)) → size + length (flat_map (section_words o) left) ≤ 4096 → Goes (flat_map (section_items o) left) (draft_of stage size p) (draft_of (stage_after left stage) (size + length (flat_map (section_words o) left)) (all_taken left o p))
sections_go laws [] o p stage size takes ready some masters own is fits = rw (add-zero size) (Goes-none (draft_of stage size p))
sections_go laws (s ∷ left) o p stage size takes ready some masters own is fits =
    let long : size + length (section_words o s ++ flat_map (section_words o) left) ≡ size + length (section_words o s) + length (flat_map (section_words o) left) = omega (arith, length-append (section_words o s) (flat_map (section_words o) left)) in
    let first = section_go laws s o p stage size takes (new_section laws s left p ready.once) (has_masters s p some masters) ready.unset.0 (is s) (omega arith) in
    let later = sections_go laws left o (taken s o p) (stages.In s (is_single s)) (size + length (section_words o s)) (takes_section-filled s) (Ready-taken laws s left o p ready) (order_grows laws s o p) (some_masters s o p own masters) own is (omega arith) in
    subst (λ k. Goes (flat_map (section_items o) (s ∷ left)) (draft_of stage size p) (draft_of (stage_after (s ∷ left) stage) k (all_taken (s ∷ left) o p))) (sym long)
    (Goes-append (section_items o s) (flat_map (section_items o) left) (draft_of stage size p) (draft_of (stages.In s (is_single s)) (size + length (section_words o s)) (taken s o p)) (draft_of (stage_after left (stages.In s (is_single s))) (size + length (section_words o s) + length (flat_map (section_words o) left)) (all_taken left o (taken s o p))) first later)

-- ---- the header

abbrev pub header_stage : ℕ → List ℕ → Stage
header_stage zero extra = stages.Header (length extra == 16)
header_stage (suc full) extra = header_stage full (drop 16 extra)

pub takes_section-header : (full : ℕ) (extra : List ℕ) → takes_section (header_stage full extra) ≡ true
takes_section-header zero extra = refl
takes_section-header (suc full) extra = takes_section-header full (drop 16 extra)

pub header_go : (full : ℕ) (extra front : List ℕ) (stage : Stage) (base size : ℕ) → takes_header stage ≡ true → ((n : ℕ) → header_size stage n ≡ base + n) → 16 * full ≤ length extra → size + base + length extra ≤ 4096 → Goes (header_lines full extra) (draft_of stage size (unset front)) (draft_of (header_stage full extra) (size + base + length extra) (unset (front ++ extra)))
header_go zero extra front stage base size takes brings full fits =
    let words : size + header_size stage (length extra) ≡ size + base + length extra = omega (arith, brings (length extra)) in
    Goes-first (Header (record { items = extra })) [] (draft_of stage size (unset front)) (draft_of (stages.Header (length extra == 16)) (size + base + length extra) (unset (front ++ extra))) _ (
      clear (Header (record { items = extra })) (draft_of stage size (unset front)) takes refl refl (omega arith),
      ap (λ k. draft_of (stages.Header (length extra == 16)) k (unset (front ++ extra))) words,
    )
    (Goes-none _)
header_go (suc more) extra front stage base size takes brings full fits =
    let long : length (take 16 extra) ≡ 16 = omega (arith, length-take 16 extra) in
    let left : length (drop 16 extra) + 16 ≡ length extra = omega (arith, length-drop 16 extra) in
    let words : size + header_size stage (length (take 16 extra)) ≡ size + base + 16 = omega (arith, brings (length (take 16 extra))) in
    let whole : front ++ take 16 extra ++ drop 16 extra ≡ front ++ extra = append_assoc front (take 16 extra) (drop 16 extra) ∙ ap (λ xs. front ++ xs) (take-append-drop 16 extra) in
    let size_left : size + base + 16 + 0 + length (drop 16 extra) ≡ size + base + length extra = omega arith in
    let later = header_go more (drop 16 extra) (front ++ take 16 extra) (stages.Header true) 0 (size + base + 16) refl (λ n. omega arith) (omega arith) (omega arith) in
    Goes-first (Header (record { items = take 16 extra })) (header_lines more (drop 16 extra)) (draft_of stage size (unset front)) (draft_of (stages.Header true) (size + base + 16) (unset (front ++ take 16 extra))) _ (
      clear (Header (record { items = take 16 extra })) (draft_of stage size (unset front)) takes refl refl (omega arith),
      ap (λ k. draft_of (stages.Header (length (take 16 extra) == 16)) k (unset (front ++ take 16 extra))) words
          ∙ ap (λ (b : Bool). draft_of (stages.Header b) (size + base + 16) (unset (front ++ take 16 extra))) (ap (λ k. k == 16) long),
    )
    (subst (λ k. Goes (header_lines more (drop 16 extra)) (draft_of (stages.Header true) (size + base + 16) (unset (front ++ take 16 extra))) (draft_of (header_stage more (drop 16 extra)) k (unset (front ++ extra)))) size_left
    (subst (λ xs. Goes (header_lines more (drop 16 extra)) (draft_of (stages.Header true) (size + base + 16) (unset (front ++ take 16 extra))) (draft_of (header_stage more (drop 16 extra)) (size + base + 16 + 0 + length (drop 16 extra)) (unset xs))) whole later))
