-- What stands in the sections of an object, and in one that is changed.
use Rattle.std.proofs.Common.{◌≡◌, ◌≢◌, ℕ, List, ◌∷◌, [], ◌++◌, refl, ap, ◌∙◌}
use Rattle.pm_object.specs.declared.object.Section.{Section}
use Rattle.pm_object.specs.declared.object.Section.TheVariants.{Masters, Slaves, Prealloc, Power, Reset, Shutdown, Config, Gpo}
use Rattle.pm_object.specs.declared.object.Object.{Object}
use Rattle.pm_object.specs.Grammar.{identifier, body_words, inner_words, section_words}
use Rattle.pm_object.specs.Bodies.{Body, body_of, with_body, no_body, with_section, unset}

-- ---- the object with something in a section

pub body-with : (s : Section) (b : Body s) (o : Object) → body_of s (with_body s b o) ≡ b
body-with Masters b o = refl
body-with s b o = refl

pub body-others : (s t : Section) (b : Body s) (o : Object) → t ≢ s → body_of t (with_body s b o) ≡ body_of t o
body-others Masters Masters b o differ = absurd (differ refl)
body-others Slaves Slaves b o differ = absurd (differ refl)
body-others Prealloc Prealloc b o differ = absurd (differ refl)
body-others Power Power b o differ = absurd (differ refl)
body-others Reset Reset b o differ = absurd (differ refl)
body-others Shutdown Shutdown b o differ = absurd (differ refl)
body-others Config Config b o differ = absurd (differ refl)
body-others Gpo Gpo b o differ = absurd (differ refl)
body-others s t b o differ = refl

pub order-with : (s : Section) (b : Body s) (o : Object) → (with_body s b o).order ≡ o.order
order-with Masters b o = refl
order-with s b o = refl

pub extra-with : (s : Section) (b : Body s) (o : Object) → (with_body s b o).extra ≡ o.extra
extra-with Masters b o = refl
extra-with s b o = refl

-- the order and the header's words are no part of a section
pub body-order : (s : Section) (order : List Section) (o : Object) → body_of s (record o { order = order }) ≡ body_of s o
body-order Masters order o = refl
body-order s order o = refl

-- ---- the object with one more section

pub order-section : (s : Section) (b : Body s) (o : Object) → (with_section s b o).order ≡ o.order ++ s ∷ []
order-section s b o = ap (λ order. order ++ s ∷ []) (order-with s b o)

pub extra-section : (s : Section) (b : Body s) (o : Object) → (with_section s b o).extra ≡ o.extra
extra-section s b o = extra-with s b o

pub body-section : (s : Section) (b : Body s) (o : Object) → body_of s (with_section s b o) ≡ b
body-section s b o = body-order s _ (with_body s b o) ∙ body-with s b o

pub others-section : (s t : Section) (b : Body s) (o : Object) → t ≢ s → body_of t (with_section s b o) ≡ body_of t o
others-section s t b o differ = body-order t _ (with_body s b o) ∙ body-others s t b o differ

-- ---- its words

pub words-inner : (s : Section) (o : Object) → inner_words s o ≡ body_words s (body_of s o)
words-inner Masters o = refl
words-inner s o = refl

pub words-section : (s : Section) (o : Object) → section_words o s ≡ identifier s ∷ body_words s (body_of s o)
words-section s o = ap (λ (words : List ℕ). identifier s ∷ words) (words-inner s o)

-- ---- the whole object

pub body-unset : (s : Section) (extra : List ℕ) → body_of s (unset extra) ≡ no_body s
body-unset Masters extra = refl
body-unset s extra = refl

-- an object is what stands in its sections, their order, and the further header words
pub same_object : (o p : Object) → o.extra ≡ p.extra → o.order ≡ p.order → ((s : Section) → body_of s o ≡ body_of s p) → o ≡ p
same_object o p extra order same =
    let masters = same Masters in
    let slaves = same Slaves in
    let groups = same Prealloc in
    let power = same Power in
    let reset = same Reset in
    let shutdown = same Shutdown in
    let config = same Config in
    let gpo = same Gpo in
    λ i. record { extra = extra i; order = order i; masters = masters i; slaves = slaves i; groups = groups i; power = power i; reset = reset i; shutdown = shutdown i; base_mask = (config i).0; overlay_mask = (config i).1; gpo = gpo i }
