-- The sections that are read, one after another, are the sections that are written.
use Rattle.std.proofs.Common.{◌≡◌, ◌≢◌, ℕ, zero, suc, ◌<◌, List, [], ◌∷◌, ◌++◌, length, slice_get, Some, ◌⊎◌, inl, inr, Ok, refl, sym, ap, subst, ◌∙◌, append_assoc}
use Rattle.std.specs.List.{All, AllPairs, Contains, flat_map}
use Rattle.std.proofs.lemmas.List.{append-nil}
use Rattle.std.proofs.lemmas.List.Concat.{flat_map-cons}
use Rattle.std.proofs.lemmas.List.Elements.{Contains-append_left, Contains-push, Contains-push_cases}
use Rattle.std.proofs.lemmas.List.Quantifiers.{all_pairs_push}
use Rattle.std.proofs.lemmas.Option.{slice_get_within, get_or_from_slice_get}
use Rattle.pm_object.specs.declared.object.Section.{Section}
use Rattle.pm_object.specs.declared.object.Section.TheVariants.{Masters}
use Rattle.pm_object.specs.declared.object.Object.{Object}
use Rattle.pm_object.specs.Bodies.{body_of, no_body, with_section}
use Rattle.pm_object.specs.FirstFault.{IsPart, MayFollow}
use Rattle.pm_object.specs.Grammar.{section_words, body_words, identifier, IsBody, IsObject}
use Rattle.pm_object.specs.Reading.{Cursor, section, sections}
use Rattle.pm_object.proofs.Steps.{bind_ok, ok_is, Again}
use Rattle.pm_object.proofs.ReadBodies.{HasSome, IsNext, section_takes, section_again}
use Rattle.pm_object.proofs.Bodies.{words-inner, order-section, extra-section, body-section, others-section, same_object}
use Rattle.pm_base.proofs.Elements.{contains_or_not, earlier_ones, not_among}
use Rattle.pm_object.proofs.SectionNames.{same_or_not, some_is}

-- ---- an object whose sections are read one by one

-- the other sections stay
next_others : (o : Object) (c : Cursor) (p : Object) (d : Cursor) (next : IsNext o c p d) (t : Section) → t ≢ next.name → body_of t p ≡ body_of t o
next_others o c p d next t differ = ap (body_of t) next.is ∙ others-section next.name t next.inside o differ

next_body : (o : Object) (c : Cursor) (p : Object) (d : Cursor) (next : IsNext o c p d) → body_of next.name p ≡ next.inside
next_body o c p d next = ap (body_of next.name) next.is ∙ body-section next.name next.inside o

next_order : (o : Object) (c : Cursor) (p : Object) (d : Cursor) (next : IsNext o c p d) → p.order ≡ o.order ++ next.name ∷ []
next_order o c p d next = ap (λ (q : Object). q.order) next.is ∙ order-section next.name next.inside o

next_extra : (o : Object) (c : Cursor) (p : Object) (d : Cursor) (next : IsNext o c p d) → p.extra ≡ o.extra
next_extra o c p d next = ap (λ (q : Object). q.extra) next.is ∙ extra-section next.name next.inside o

has_first : (order : List Section) (s : Section) → slice_get order 0 ≡ Some s → Contains order s
has_first order s e = (0, slice_get_within order 0 s e, get_or_from_slice_get order 0 s s e)

first_stays : (order : List Section) (s t : Section) → slice_get order 0 ≡ Some s → slice_get (order ++ t ∷ []) 0 ≡ Some s
first_stays [] s t e = absurd cc
first_stays (u ∷ order) s t e = e

next_begun : (o : Object) (c : Cursor) (p : Object) (d : Cursor) (next : IsNext o c p d) → (o.order ≡ []) ⊎ ((slice_get o.order 0 ≡ Some Masters) × (0 < length o.masters)) → (slice_get p.order 0 ≡ Some Masters) × (0 < length p.masters)
next_begun o c p d next (inl none) =
    let is : next.name ≡ Masters = next.may.first none in
    let order : p.order ≡ Masters ∷ [] = next_order o c p d next ∙ ap (λ (l : List Section). l ++ next.name ∷ []) none ∙ ap (λ (s : Section). s ∷ []) is in
    (ap (λ (l : List Section). slice_get l 0) order, subst (λ (s : Section). HasSome s (body_of s p)) is (subst (HasSome next.name) (sym (next_body o c p d next)) next.some))
next_begun o c p d next (inr begun) =
    let order = next_order o c p d next in
    let has = has_first o.order Masters begun.0 in
    let differ : Masters ≢ next.name = λ (same : Masters ≡ next.name). not_among o.order next.name next.may.new (subst (λ (s : Section). Contains o.order s) same has) in
    (ap (λ (l : List Section). slice_get l 0) order ∙ first_stays o.order Masters next.name begun.0, subst (HasSome Masters) (sym (next_others o c p d next Masters differ)) begun.1)

pub next_part : (o : Object) (c : Cursor) (p : Object) (d : Cursor) → IsPart o → IsNext o c p d → IsPart p
next_part o c p d part next =
    let order = next_order o c p d next in
    let name = next.name in
    record {
      once = subst (λ (l : List Section). AllPairs (λ s t. s ≢ t) l) (sym order) (all_pairs_push (λ s t. s ≢ t) o.order name part.once next.may.new);
      unset = λ s hasnt.
          let out : Contains o.order s → ⊥ = λ (has : Contains o.order s). hasnt (subst (λ (l : List Section). Contains l s) (sym order) (Contains-append_left o.order (name ∷ []) s has)) in
          let differ : s ≢ name = λ (same : s ≡ name). hasnt (subst (λ (l : List Section). Contains l s) (sym order) (subst (λ (t : Section). Contains (o.order ++ t ∷ []) s) same (Contains-push o.order s))) in
          next_others o c p d next s differ ∙ part.unset s out;
      sections = λ s. elim (same_or_not s name) [
        | inl same ↦ subst (λ (t : Section). IsBody t (body_of t p)) (sym same) (subst (IsBody name) (sym (next_body o c p d next)) next.together)
        | inr differ ↦ subst (IsBody s) (sym (next_others o c p d next s differ)) (part.sections s)
      ];
      begun = inr (next_begun o c p d next part.begun);
    }

-- ---- what is read is what is written

pub record AreNext (n : ℕ) (o : Object) (c : Cursor) (p : Object) (d : Cursor) : Type 0 where
  pub new : List Section
  pub order : p.order ≡ o.order ++ new
  pub count : length new ≡ n
  pub kept : (s : Section) → Contains o.order s → body_of s p ≡ body_of s o
  pub extra : p.extra ≡ o.extra
  pub words : c.left ≡ flat_map (section_words p) new ++ d.left
  pub part : IsPart p

pub sections_take : (n : ℕ) (o : Object) (c : Cursor) (p : Object) (d : Cursor) → IsPart o → sections n o c ≡ Ok (p, d) → AreNext n o c p d
unfolding sections
sections_take zero o c p d part e =
    subst (λ (q : Object × Cursor). AreNext 0 o c q.0 q.1) (ok_is (o, c) (p, d) e)
    (record { new = []; order = sym (append-nil o.order); count = refl; kept = λ s has. refl; extra = refl; words = refl; part = part })
sections_take (suc n) o c p d part e =
    let a = bind_ok (section o c) (λ r. sections n r.0 r.1) (p, d) e in
    let q = a.0.0 in
    let next = section_takes o c q a.0.1 a.1 in
    let name = next.name in
    let order = next_order o c q a.0.1 next in
    let after = sections_take n q a.0.1 p d (next_part o c q a.0.1 part next) a.2 in
    let here : Contains q.order name = subst (λ (l : List Section). Contains l name) (sym order) (Contains-push o.order name) in
    let inside : next.inside ≡ body_of name p = sym (after.kept name here ∙ next_body o c q a.0.1 next) in
    let words : c.left ≡ flat_map (section_words p) (name ∷ after.new) ++ d.left =
    next.words ∙ ap (λ b. identifier name ∷ body_words name b ++ a.0.1.left) inside ∙ ap (λ ws. identifier name ∷ ws ++ a.0.1.left) (sym (words-inner name p)) ∙ ap (λ (l : List ℕ). section_words p name ++ l) after.words
    ∙ sym (append_assoc (section_words p name) (flat_map (section_words p) after.new) d.left)
    ∙ ap (λ (l : List ℕ). l ++ d.left) (sym (flat_map-cons (section_words p) name after.new)) in
    record {
      new = name ∷ after.new;
      order = after.order ∙ ap (λ (l : List Section). l ++ after.new) order ∙ append_assoc o.order (name ∷ []) after.new;
      count = ap suc after.count;
      kept = λ s has.
          let differ : s ≢ name = λ (same : s ≡ name). not_among o.order name next.may.new (subst (λ (t : Section). Contains o.order t) same has) in
          let there : Contains q.order s = subst (λ (l : List Section). Contains l s) (sym order) (Contains-append_left o.order (name ∷ []) s has) in
          after.kept s there ∙ next_others o c q a.0.1 next s differ;
      extra = after.extra ∙ next_extra o c q a.0.1 next;
      words = words;
      part = after.part;
    }

-- ---- what is written is read again

-- o is p as far as these of its sections
pub record UpTo (done : List Section) (o p : Object) : Type 0 where
  pub order : o.order ≡ done
  pub extra : o.extra ≡ p.extra
  pub kept : (s : Section) → Contains done s → body_of s o ≡ body_of s p
  pub unset : (s : Section) → (Contains done s → ⊥) → body_of s o ≡ no_body s

whole : (done : List Section) (o p : Object) → p.order ≡ done → ((s : Section) → (Contains p.order s → ⊥) → body_of s p ≡ no_body s) → UpTo done o p → o ≡ p
whole done o p all unset so_far =
    same_object o p so_far.extra (so_far.order ∙ sym all) (λ s. elim (contains_or_not same_or_not done s) [
      | inl has ↦ so_far.kept s has
      | inr hasnt ↦ so_far.unset s hasnt ∙ sym (unset s (λ (has : Contains p.order s). hasnt (subst (λ (l : List Section). Contains l s) all has)))
    ])

one_more : (done : List Section) (name : Section) (o p : Object) → UpTo done o p → All (λ t. t ≢ name) done → UpTo (done ++ name ∷ []) (with_section name (body_of name p) o) p
one_more done name o p so_far new = record {
  order = order-section name (body_of name p) o ∙ ap (λ (l : List Section). l ++ name ∷ []) so_far.order;
  extra = extra-section name (body_of name p) o ∙ so_far.extra;
  kept = λ s has. elim (same_or_not s name) [
    | inl same ↦ subst (λ (t : Section). body_of t (with_section name (body_of name p) o) ≡ body_of t p) (sym same) (body-section name (body_of name p) o)
    | inr differ ↦ elim (Contains-push_cases done name s has) [
      | inl before ↦ others-section name s (body_of name p) o differ ∙ so_far.kept s before
      | inr same ↦ absurd (differ (sym same))
    ]
  ];
  unset = λ s hasnt.
      let out : Contains done s → ⊥ = λ (has : Contains done s). hasnt (Contains-append_left done (name ∷ []) s has) in
      let differ : s ≢ name = λ (same : s ≡ name). hasnt (subst (λ (t : Section). Contains (done ++ t ∷ []) s) same (Contains-push done s)) in
      others-section name s (body_of name p) o differ ∙ so_far.unset s out;
}

first_of_rest : (done rest : List Section) (s t : Section) → done ≡ [] → slice_get (done ++ s ∷ rest) 0 ≡ Some t → Some s ≡ Some t
first_of_rest [] rest s t none e = e
first_of_rest (u ∷ done) rest s t none e = absurd cc

has_some : (s : Section) (p : Object) → 0 < length p.masters → HasSome s (body_of s p)
has_some Masters p some = some
has_some s p some = tt

pub sections_again : (p : Object) → IsObject p → (left done : List Section) (o : Object) → p.order ≡ done ++ left → UpTo done o p → (c : Cursor) (rest : List ℕ) → c.left ≡ flat_map (section_words p) left ++ rest → Again (sections (length left) o c) p rest
unfolding sections
sections_again p good [] done o all so_far c rest text =
    record { after = c; is = ap (λ (q : Object). Ok (q, c)) (whole done o p (all ∙ append-nil done) good.unset so_far); left = text }
sections_again p good (s ∷ left) done o all so_far c rest text =
    let split : c.left ≡ section_words p s ++ (flat_map (section_words p) left ++ rest) =
    text ∙ ap (λ (l : List ℕ). l ++ rest) (flat_map-cons (section_words p) s left) ∙ append_assoc (section_words p s) (flat_map (section_words p) left) rest in
    let new : All (λ t. t ≢ s) done = earlier_ones (λ (a b : Section). a ≢ b) done s left (subst (λ (l : List Section). AllPairs (λ a b. a ≢ b) l) all good.once) in
    let first : done ≡ [] → s ≡ Masters = λ (none : done ≡ []). some_is s Masters (first_of_rest done left s Masters none (ap (λ (l : List Section). slice_get l 0) (sym all) ∙ good.first)) in
    let may : MayFollow o.order s = subst (λ (l : List Section). MayFollow l s) (sym so_far.order) (record { new = new; first = first }) in
    let here = section_again s (body_of s p) o c (flat_map (section_words p) left ++ rest) may (split ∙ ap (λ ws. identifier s ∷ ws ++ (flat_map (section_words p) left ++ rest)) (words-inner s p)) (good.sections s) (has_some s p good.some_master) in
    let after = sections_again p good left (done ++ s ∷ []) (with_section s (body_of s p) o) (all ∙ sym (append_assoc done (s ∷ []) left)) (one_more done s o p so_far new) here.after rest here.left in
    record { after = after.after; is = rw here.is after.is; left = after.left }
