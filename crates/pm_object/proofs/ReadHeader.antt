-- The header that is read is the header that is written.
use Rattle.std.proofs.Common.{◌≡◌, ℕ, ◌+◌, ◌-◌, false, not, eqb, ltb, List, [], ◌∷◌, ◌++◌, length, Ok, refl, sym, ap, subst, ◌∙◌, arith}
use Rattle.std.specs.Bool.{⊤}
use Rattle.std.proofs.lemmas.Bool.{eqb-true, ltb-false, le-ltb, not-false}
use Rattle.std.proofs.lemmas.List.Elements.{All-nil}
use Rattle.pm_object.specs.declared.header.Header.{Header}
use Rattle.pm_object.specs.declared.object.ObjectCause.TheVariants.{HeaderShort, BadType}
use Rattle.pm_object.specs.Reading.{Cursor, Step, word, header, records}
use Rattle.pm_object.proofs.Steps.{bind_ok, passed, ok_is, Again, before, word_takes, word_again}
use Rattle.pm_object.proofs.ReadLists.{IsReader, records_take, records_again, flat_map_words}

abbrev pub one : List ℕ → Cursor → Step ℕ
one earlier c = word c

abbrev pub spell : ℕ → List ℕ
spell w = w ∷ []

pub reader : IsReader one spell (λ _. ⊤) (λ _ _. ⊤)
reader = record { takes = λ earlier c x d e. (word_takes c x d e, tt, λ k v within. tt); again = λ earlier c x rest text own apart. word_again c x rest text }

-- the words of a header
abbrev pub words_of_header : Header → List ℕ
words_of_header h = (2 + length h.extra) ∷ h.sections ∷ 1 ∷ h.extra

pub header_takes : (c : Cursor) (h : Header) (d : Cursor) → header c ≡ Ok (h, d) → c.left ≡ words_of_header h ++ d.left
unfolding header
header_takes c h d e =
    let m = bind_ok (word c) _ (h, d) e in
    let g = passed (ltb m.0.0 2) HeaderShort c.place _ (h, d) m.2 in
    let s = bind_ok (word m.0.1) _ (h, d) g.1 in
    let t = bind_ok (word s.0.1) _ (h, d) s.2 in
    let x = bind_ok (records one (m.0.0 - 2) [] t.0.1) _ (h, d) t.2 in
    let k = passed (not (eqb t.0.0 1)) BadType s.0.1.place (Ok (record { sections = s.0.0; extra = x.0.0 }, x.0.1)) (h, d) x.2 in
    let more = word_takes c m.0.0 m.0.1 m.1 in
    let sections = word_takes m.0.1 s.0.0 s.0.1 s.1 in
    let kind = word_takes s.0.1 t.0.0 t.0.1 t.1 in
    let one_is : t.0.0 ≡ 1 = eqb-true _ _ (not-false (eqb t.0.0 1) k.0) in
    let taken = records_take one spell (λ _. ⊤) (λ _ _. ⊤) reader (m.0.0 - 2) [] t.0.1 x.0.0 x.0.1 (All-nil (λ _. ⊤)) (λ i j v below within. tt) x.1 in
    let long : 2 + length x.0.0 ≡ m.0.0 = omega (arith, ap length taken.is, taken.count, ltb-false m.0.0 2 g.0) in
    let extra : t.0.1.left ≡ x.0.0 ++ x.0.1.left = taken.words ∙ ap (λ (l : List ℕ). l ++ x.0.1.left) (flat_map_words taken.new ∙ sym taken.is) in
    let text : c.left ≡ (2 + length x.0.0) ∷ s.0.0 ∷ 1 ∷ x.0.0 ++ x.0.1.left = before _ _ _ _ (more ∙ ap (λ (n : ℕ). n ∷ m.0.1.left) (sym long)) (before _ _ _ _ sections (before _ _ _ _ (kind ∙ ap (λ (n : ℕ). n ∷ t.0.1.left) one_is) extra)) in
    subst (λ (p : Header × Cursor). c.left ≡ words_of_header p.0 ++ p.1.left) (ok_is (record { sections = s.0.0; extra = x.0.0 }, x.0.1) (h, d) k.1) text

pub header_again : (c : Cursor) (h : Header) (rest : List ℕ) → c.left ≡ words_of_header h ++ rest → Again (header c) h rest
unfolding header
header_again c h rest text =
    let more = word_again c (2 + length h.extra) _ text in
    let sections = word_again more.after h.sections _ more.left in
    let kind = word_again sections.after 1 (h.extra ++ rest) sections.left in
    let long : ltb (2 + length h.extra) 2 ≡ false = le-ltb _ _ (omega arith) in
    let many : (2 + length h.extra) - 2 ≡ length h.extra = omega arith in
    let extra = records_again one spell (λ _. ⊤) (λ _ _. ⊤) reader h.extra [] kind.after rest (λ k v within. tt) (λ i j v below within. tt) (kind.left ∙ ap (λ (l : List ℕ). l ++ rest) (sym (flat_map_words h.extra))) in
    record { after = extra.after; is = rw (more.is, long, sections.is, kind.is, many, extra.is) refl; left = extra.left }
