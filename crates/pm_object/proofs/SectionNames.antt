-- Sections are told apart by their identifiers.
use Rattle.std.proofs.Common.{◌≡◌, ◌≢◌, Bool, true, false, eqb, Option, Some, ◌⊎◌, inl, inr, ◌↔◌, refl, sym, ap, ◌∙◌}
use Rattle.std.proofs.lemmas.Bool.{eqb-false, eqb-true, eq-eqb}
use Rattle.pm_object.specs.declared.object.Section.{Section}
use Rattle.pm_object.specs.declared.object.Section.TheVariants.{Masters}
use Rattle.pm_object.specs.Grammar.{identifier, is_same}
use Rattle.pm_object.specs.Reading.{section_of}

-- ---- the section of an option

abbrev some : Section → Option Section
some s = Some s

pub some_is : (s t : Section) → some s ≡ some t → s ≡ t
some_is s t e = cc

-- ---- sections are told apart by their identifiers

pub section_again : (s : Section) → section_of (identifier s) ≡ Some s
section_again Masters = refl
section_again s = refl

pub same_section_from_identifier : (s t : Section) → identifier s ≡ identifier t → s ≡ t
same_section_from_identifier s t e = some_is s t (sym (section_again s) ∙ ap section_of e ∙ section_again t)

same_by : (s t : Section) (b : Bool) → eqb (identifier s) (identifier t) ≡ b → (s ≡ t) ⊎ (s ≢ t)
same_by s t true e = inl (same_section_from_identifier s t (eqb-true _ _ e))
same_by s t false e = inr (λ (same : s ≡ t). eqb-false _ _ e (ap identifier same))

pub same_or_not : (s t : Section) → (s ≡ t) ⊎ (s ≢ t)
same_or_not s t = same_by s t (eqb (identifier s) (identifier t)) refl

-- ---- the test of two sections

pub is_same_exactly : (s t : Section) → is_same s t ≡ true ↔ s ≡ t
is_same_exactly s t = (λ e. same_section_from_identifier s t (eqb-true _ _ e), λ same. eq-eqb (identifier s) (identifier t) (ap identifier same))
