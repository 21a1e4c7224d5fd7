-- The identifier that is read is that of a section which may come next.
use Rattle.std.proofs.Common.{◌≡◌, ◌≢◌, ℕ, Bool, true, false, cond, not, ◌&&◌, eqb, List, [], ◌∷◌, length, Option, Some, None, Ok, refl, ap, subst, ◌∙◌, arith}
use Rattle.std.specs.List.{All}
use Rattle.std.proofs.lemmas.Bool.{eqb-false, eqb-true, ne_eqb, not-false}
use Rattle.std.proofs.lemmas.List.Elements.{All-weaker}
use Rattle.std.proofs.lemmas.List.Folds.{list_any_none}
use Rattle.pm_base.proofs.Elements.{each_fails}
use Rattle.pm_object.specs.declared.object.Section.{Section}
use Rattle.pm_object.specs.declared.object.Section.TheVariants.{Masters, Slaves, Prealloc, Power, Reset, Shutdown, Config, Gpo}
use Rattle.pm_object.specs.declared.object.ObjectCause.TheVariants.{RepeatedSection, NoMasters}
use Rattle.pm_object.specs.FirstFault.{MayFollow}
use Rattle.pm_object.specs.Grammar.{identifier}
use Rattle.pm_object.specs.Reading.{Cursor, ◌>>=◌, fault, word, section_of, is_among, section_after, section_name}
use Rattle.pm_object.proofs.Steps.{bind_ok, passed, ok_is, Again, word_takes, word_again}
use Rattle.pm_object.proofs.SectionNames.{some_is, section_again, same_section_from_identifier}

-- ---- a word names at most one section

-- where the word isn't this section's, it is that of another
one : (w : ℕ) (s t : Section) (others : Option Section) → (others ≡ Some s → w ≡ identifier s) → cond (eqb w (identifier t)) (Some t) others ≡ Some s → w ≡ identifier s
one w s t others later = at (eqb w (identifier t)) refl
  where
    at : (b : Bool) → eqb w (identifier t) ≡ b → cond b (Some t) others ≡ Some s → w ≡ identifier s
    at true is e = eqb-true w (identifier t) is ∙ ap identifier (some_is t s e)
    at false is e = later e

pub section_of_is : (w : ℕ) (s : Section) → section_of w ≡ Some s → w ≡ identifier s
section_of_is w s =
    one w s Masters _ (one w s Slaves _ (one w s Prealloc _ (one w s Power _ (one w s Reset _ (one w s Shutdown _ (one w s Config _ (one w s Gpo None (λ none. cc))))))))

-- ---- whether it may come

out_of_place : List Section → Section → Bool
out_of_place order s = (eqb (length order) 0) && not (eqb (identifier s) (identifier Masters))

first_is : (order : List Section) (s : Section) → out_of_place order s ≡ false → order ≡ [] → s ≡ Masters
unfolding out_of_place
first_is [] s e none = same_section_from_identifier s Masters (eqb-true _ _ (not-false (eqb (identifier s) (identifier Masters)) e))
first_is (t ∷ order) s e none = absurd cc

in_place : (order : List Section) (s : Section) → (order ≡ [] → s ≡ Masters) → out_of_place order s ≡ false
unfolding out_of_place
in_place [] s first = ap (λ (t : Section). not (eqb (identifier t) (identifier Masters))) (first refl)
in_place (t ∷ order) s first = ap (λ (b : Bool). b && not (eqb (identifier s) (identifier Masters))) (ne_eqb (length (t ∷ order)) 0 (λ (none : length (t ∷ order) ≡ 0). omega arith))

new_is : (order : List Section) (s : Section) → is_among s order ≡ false → All (λ t. t ≢ s) order
new_is order s e =
    All-weaker (λ (t : Section). eqb (identifier t) (identifier s) ≡ false) (λ t. t ≢ s) (λ t differs same. eqb-false _ _ differs (ap identifier same)) order
    (each_fails (λ (t : Section). eqb (identifier t) (identifier s)) order e)

pub is_new : (order : List Section) (s : Section) → All (λ t. t ≢ s) order → is_among s order ≡ false
is_new order s new =
    list_any_none (λ (t : Section). eqb (identifier t) (identifier s)) order
    (All-weaker (λ (t : Section). t ≢ s) (λ t. eqb (identifier t) (identifier s) ≡ false) (λ t differs. ne_eqb _ _ (λ (same : identifier t ≡ identifier s). differs (same_section_from_identifier t s same))) order new)

after_takes : (order : List Section) (place : ℕ) (found : Option Section) (s : Section) → section_after order place found ≡ Ok s → (found ≡ Some s) × MayFollow order s
unfolding out_of_place
after_takes order place None s e = absurd cc
after_takes order place (Some t) s e =
    let g = passed (is_among t order) RepeatedSection place (cond (out_of_place order t) (fault NoMasters place) (Ok t)) s e in
    let h = passed (out_of_place order t) NoMasters place (Ok t) s g.1 in
    let same = ok_is t s h.1 in
    subst (λ (u : Section). (Some t ≡ Some u) × MayFollow order u) same (refl, record { new = new_is order t g.0; first = first_is order t h.0 })

-- ---- the identifier

pub name_takes : (order : List Section) (c : Cursor) (s : Section) (d : Cursor) → section_name order c ≡ Ok (s, d) → (c.left ≡ identifier s ∷ d.left) × MayFollow order s
unfolding section_name
name_takes order c s d e =
    let a = bind_ok (word c) (λ w. section_after order c.place (section_of w.0) >>= λ t. Ok (t, w.1)) (s, d) e in
    let b = bind_ok (section_after order c.place (section_of a.0.0)) (λ t. Ok (t, a.0.1)) (s, d) a.2 in
    let same = ok_is (b.0, a.0.1) (s, d) b.2 in
    let after = after_takes order c.place (section_of a.0.0) b.0 b.1 in
    let text : c.left ≡ identifier b.0 ∷ a.0.1.left = word_takes c a.0.0 a.0.1 a.1 ∙ ap (λ (w : ℕ). w ∷ a.0.1.left) (section_of_is a.0.0 b.0 after.0) in
    subst (λ (p : Section × Cursor). (c.left ≡ identifier p.0 ∷ p.1.left) × MayFollow order p.0) same (text, after.1)

pub name_again : (order : List Section) (c : Cursor) (s : Section) (rest : List ℕ) → c.left ≡ identifier s ∷ rest → MayFollow order s → Again (section_name order c) s rest
unfolding section_name out_of_place
name_again order c s rest text may =
    let first = word_again c (identifier s) rest text in
    let new = is_new order s may.new in
    let place : out_of_place order s ≡ false = in_place order s may.first in
    let after : section_after order c.place (Some s) ≡ Ok s = rw (new, place) refl in
    record { after = first.after; is = rw (first.is, section_again s, after) refl; left = first.left }
