-- The laws of objects and their sections that the proofs here stand on.
use Rattle.std.proofs.Common.{◌≡◌, ◌≢◌, ℕ, Bool, true, false, List, ◌∷◌, ◌↔◌, ◌⊎◌, inl, inr, refl, sym, ◌∙◌}
use Rattle.std.proofs.lemmas.Bool.{false≢true}
use Rattle.pm_object.specs.declared.object.Object.{Object}
use Rattle.pm_object.specs.declared.object.Section.{Section}
use Rattle.pm_object.specs.Bodies.{Body, body_of, with_body, no_body, unset}
use Rattle.pm_object.specs.Grammar.{identifier, is_same, body_words, section_words, IsBody}

-- what the laws of pm_object say of sections and of objects
pub record SectionLaws : Type 0 where
  pub put : (s : Section) (body : Body s) (o : Object) → body_of s (with_body s body o) ≡ body
  pub others : (s t : Section) (body : Body s) (o : Object) → t ≢ s → body_of t (with_body s body o) ≡ body_of t o
  pub order : (s : Section) (body : Body s) (o : Object) → (with_body s body o).order ≡ o.order
  pub extra : (s : Section) (body : Body s) (o : Object) → (with_body s body o).extra ≡ o.extra
  pub reordered : (s : Section) (order : List Section) (o : Object) → body_of s (record o { order = order }) ≡ body_of s o
  pub none : (s : Section) (extra : List ℕ) → body_of s (unset extra) ≡ no_body s
  pub empty : (s : Section) → IsBody s (no_body s)
  pub whole : (o p : Object) → o.extra ≡ p.extra → o.order ≡ p.order → ((s : Section) → body_of s o ≡ body_of s p) → o ≡ p
  pub same : (s t : Section) → is_same s t ≡ true ↔ s ≡ t
  pub words : (s : Section) (o : Object) → section_words o s ≡ identifier s ∷ body_words s (body_of s o)

-- ---- sections that differ

module _ (laws : SectionLaws) where
  pub same_section : (s t : Section) → is_same s t ≡ true → s ≡ t
  same_section s t is = (laws.same s t).0 is

  pub differ : (s t : Section) → is_same s t ≡ false → s ≢ t
  differ s t apart same = false≢true (sym apart ∙ (laws.same s t).1 same)

  pub other_section : (s t : Section) → s ≢ t → is_same s t ≡ false
  other_section s t apart = at (is_same s t) refl
    where
      at : (b : Bool) → is_same s t ≡ b → b ≡ false
      at true is = absurd (apart (same_section s t is))
      at false is = refl

  pub same_or_not : (s t : Section) → (s ≡ t) ⊎ (s ≢ t)
  same_or_not s t = at (is_same s t) refl
    where
      at : (b : Bool) → is_same s t ≡ b → (s ≡ t) ⊎ (s ≢ t)
      at true is = inl (same_section s t is)
      at false is = inr (differ s t is)
