-- The items of a well-formed object give that object.
use Rattle.std.proofs.Common.{◌≡◌, ◌≢◌, ℕ, ◌+◌, ◌<◌, ◌≤◌, true, false, eqb, List, [], ◌∷◌, ◌++◌, length, Some, None, slice_get, ◌⊎◌, inl, inr, Ok, refl, ap, sym, ◌∙◌, subst, arith, length-append, append_assoc}
use Rattle.std.specs.List.{flat_map, AllPairs, AllByRecursion, Contains}
use Rattle.std.proofs.lemmas.Bool.Decides.{nat_tests}
use Rattle.std.proofs.lemmas.List.{append-nil}
use Rattle.pm_object.specs.declared.object.Object.{Object}
use Rattle.pm_object.specs.declared.object.Section.{Section}
use Rattle.pm_object.specs.declared.object.Section.TheVariants as sections
use Rattle.pm_object.specs.Bodies.{body_of, no_body, unset}
use Rattle.pm_object.specs.Grammar.{header_words, section_words, IsBody, IsObject}
use Rattle.pm_base.proofs.Elements.{contains_later, contains_or_not}
use Rattle.pm_objtext.specs.declared.item.Item.{Item}
use Rattle.pm_objtext.specs.declared.stage.Stage.{Stage}
use Rattle.pm_objtext.specs.declared.stage.Stage.TheVariants as stages
use Rattle.pm_objtext.specs.Stage.{takes_section}
use Rattle.pm_objtext.specs.SoFar.{start}
use Rattle.pm_objtext.specs.Causes.{end_cause}
use Rattle.pm_objtext.specs.Items.{header_lines, section_items}
use Rattle.pm_objtext.specs.Meaning.{items_in, AreItemsOf}
use Rattle.pm_objtext.specs.Building.{judged}
use Rattle.pm_objtext.proofs.Walks.{draft_of, Goes, Goes-append, lines_go}
use Rattle.pm_objtext.proofs.SectionLaws.{SectionLaws, same_or_not}
use Rattle.pm_objtext.proofs.Whole.{taken, all_taken, stage_after, takes_section-after, section_go, taken_here, taken_others, taken_order, unset_later, apart_later, Ready, sections_go, header_stage, takes_section-header, header_go}

-- ---- what all sections make of an object with nothing in it

module _ (laws : SectionLaws) where
  same_after : (left : List Section) (o p : Object) (t : Section) → body_of t p ≡ body_of t o → body_of t (all_taken left o p) ≡ body_of t o
  same_after [] o p t same = same
  same_after (s ∷ left) o p t same = same_after left o (taken s o p) t (at (same_or_not laws t s))
    where
      at : (t ≡ s) ⊎ (t ≢ s) → body_of t (taken s o p) ≡ body_of t o
      at (inl here) = subst (λ u. body_of u (taken s o p) ≡ body_of u o) (sym here) (taken_here laws s o p)
      at (inr other) = taken_others laws s t o p other ∙ same

  same_found : (left : List Section) (o p : Object) (t : Section) → Contains left t → body_of t (all_taken left o p) ≡ body_of t o
  same_found [] o p t has = absurd (omega (arith, has.1))
  same_found (s ∷ left) o p t has = at (same_or_not laws s t) (λ later. same_found left o (taken s o p) t later)
    where
      at : (s ≡ t) ⊎ (s ≢ t) → (Contains left t → body_of t (all_taken left o (taken s o p)) ≡ body_of t o) → body_of t (all_taken left o (taken s o p)) ≡ body_of t o
      at (inl here) others = same_after left o (taken s o p) t (subst (λ u. body_of u (taken s o p) ≡ body_of u o) here (taken_here laws s o p))
      at (inr other) others = others (contains_later s left t other has)

  same_whole : (o : Object) → IsObject o → (t : Section) → body_of t (all_taken o.order o (unset o.extra)) ≡ body_of t o
  same_whole o is t = elim (contains_or_not (same_or_not laws) o.order t) [
    | inl has ↦ same_found o.order o (unset o.extra) t has
    | inr hasnt ↦ same_after o.order o (unset o.extra) t (laws.none t o.extra ∙ sym (is.unset t hasnt))
  ]

  extra_after : (left : List Section) (o p : Object) → (all_taken left o p).extra ≡ p.extra
  extra_after [] o p = refl
  extra_after (s ∷ left) o p = extra_after left o (taken s o p) ∙ laws.extra s (body_of s o) (record p { order = p.order ++ s ∷ [] })

  order_after : (left : List Section) (o p : Object) → (all_taken left o p).order ≡ p.order ++ left
  order_after [] o p = sym (append-nil p.order)
  order_after (s ∷ left) o p = order_after left o (taken s o p) ∙ ap (λ xs. xs ++ left) (taken_order laws s o p) ∙ append_assoc p.order (s ∷ []) left

  all_taken-whole : (o : Object) → IsObject o → all_taken o.order o (unset o.extra) ≡ o
  all_taken-whole o is = laws.whole (all_taken o.order o (unset o.extra)) o (extra_after o.order o (unset o.extra)) (order_after o.order o (unset o.extra)) (same_whole o is)

  -- ---- the sections, the masters first

  all_unset : (left : List Section) (extra : List ℕ) → AllByRecursion (λ t. body_of t (unset extra) ≡ no_body t) left
  all_unset [] extra = tt
  all_unset (s ∷ left) extra = (laws.none s extra, all_unset left extra)

  masters_first : (left : List Section) (o : Object) (extra : List ℕ) (stage : Stage) (size : ℕ) → takes_section stage ≡ true → AllPairs (λ s t. s ≢ t) (sections.Masters ∷ left) → ((s : Section) → IsBody s (body_of s o)) → 0 < length o.masters → size + length (flat_map (section_words o) (sections.Masters ∷ left)) ≤ 4096 → Goes (flat_map (section_items o) (sections.Masters ∷ left)) (draft_of stage size (unset extra)) (draft_of (stage_after left (stages.In sections.Masters false)) (size + length (flat_map (section_words o) (sections.Masters ∷ left))) (all_taken (sections.Masters ∷ left) o (unset extra)))
  masters_first left o extra stage size takes once is some fits =
      let long : size + length (section_words o sections.Masters) + length (flat_map (section_words o) left) ≡ size + length (section_words o sections.Masters ++ flat_map (section_words o) left) = omega (arith, length-append (section_words o sections.Masters) (flat_map (section_words o) left)) in
      let first = section_go laws sections.Masters o (unset extra) stage size takes refl refl refl (is sections.Masters) (omega arith) in
      let ready : Ready left (taken sections.Masters o (unset extra)) = record { once = once; unset = unset_later laws left sections.Masters o (unset extra) (apart_later [] sections.Masters left once) (all_unset left extra) } in
      let later = sections_go laws left o (taken sections.Masters o (unset extra)) (stages.In sections.Masters false) (size + length (section_words o sections.Masters)) refl ready (omega arith) some some is (omega arith) in
      subst (λ k. Goes (flat_map (section_items o) (sections.Masters ∷ left)) (draft_of stage size (unset extra)) (draft_of (stage_after left (stages.In sections.Masters false)) k (all_taken (sections.Masters ∷ left) o (unset extra)))) long
      (Goes-append (section_items o sections.Masters) (flat_map (section_items o) left) (draft_of stage size (unset extra)) (draft_of (stages.In sections.Masters false) (size + length (section_words o sections.Masters)) (taken sections.Masters o (unset extra))) _ first later)

  all_sections_go : (order : List Section) (o : Object) (extra : List ℕ) (stage : Stage) (size : ℕ) → slice_get order 0 ≡ Some sections.Masters → takes_section stage ≡ true → AllPairs (λ s t. s ≢ t) order → ((s : Section) → IsBody s (body_of s o)) → 0 < length o.masters → size + length (flat_map (section_words o) order) ≤ 4096 → Goes (flat_map (section_items o) order) (draft_of stage size (unset extra)) (draft_of (stage_after order stage) (size + length (flat_map (section_words o) order)) (all_taken order o (unset extra)))
  all_sections_go [] o extra stage size first takes once is some fits = cc
  all_sections_go (sections.Masters ∷ left) o extra stage size first takes once is some fits = masters_first left o extra stage size takes once is some fits
  all_sections_go (s ∷ left) o extra stage size first takes once is some fits = cc

-- ---- the whole

may_end : (stage : Stage) (size : ℕ) (o : Object) → takes_section stage ≡ true → 0 < length o.order → 0 < length o.masters → end_cause (draft_of stage size o) ≡ None
may_end stage size o takes some masters =
    let open_order : eqb (length o.order) 0 ≡ false = grind (arith, nat_tests) in
    let open_masters : eqb (length o.masters) 0 ≡ false = grind (arith, nat_tests) in
    rw (takes, open_order, open_masters) refl

some_section : (order : List Section) → slice_get order 0 ≡ Some sections.Masters → 0 < length order
some_section [] first = cc
some_section (s ∷ left) first = omega arith

-- lines whose items are those of a well-formed object give that object
pub lines_give : (laws : SectionLaws) (lines : List (List ℕ)) (items : List Item) (o : Object) → IsObject o → AreItemsOf items o → items_in lines ≡ Some items → judged 1 start lines ≡ Ok o
lines_give laws lines items o is listed said =
    let full = listed.full in
    let least = listed.least in
    let size : 3 + length o.extra + length (flat_map (section_words o) o.order) ≤ 4096 = omega (arith, is.size, length-append (header_words o) (flat_map (section_words o) o.order)) in
    let stage = header_stage full o.extra in
    let header = header_go full o.extra [] stages.Start 3 0 refl (λ _. refl) (omega arith) (omega arith) in
    let others = all_sections_go laws o.order o o.extra stage (3 + length o.extra) is.first (takes_section-header full o.extra) is.once is.sections is.some_master size in
    let end = draft_of (stage_after o.order stage) (3 + length o.extra + length (flat_map (section_words o) o.order)) o in
    let whole = draft_of (stage_after o.order stage) (3 + length o.extra + length (flat_map (section_words o) o.order)) (all_taken o.order o (unset o.extra)) in
    let same : whole ≡ end = ap (λ p. draft_of (stage_after o.order stage) (3 + length o.extra + length (flat_map (section_words o) o.order)) p) (all_taken-whole laws o is) in
    let all = Goes-append (header_lines full o.extra) (flat_map (section_items o) o.order) (draft_of stages.Start 0 (unset [])) (draft_of stage (3 + length o.extra) (unset o.extra)) whole header others in
    let goes : Goes items (draft_of stages.Start 0 (unset [])) end = subst (λ to. Goes items (draft_of stages.Start 0 (unset [])) to) same (subst (λ xs. Goes xs (draft_of stages.Start 0 (unset [])) whole) (sym listed.are) all) in
    let over = may_end (stage_after o.order stage) (3 + length o.extra + length (flat_map (section_words o) o.order)) o (takes_section-after o.order stage (takes_section-header full o.extra)) (some_section o.order is.first) is.some_master in
    let ends = lines_go lines items (draft_of stages.Start 0 (unset [])) end said goes size over 1 in
    rw (ends.0, ends.1) refl
