-- The first fault that reading tells is the first fault by the grammar.
use Rattle.std.proofs.Common.{◌≡◌, ℕ, suc, ◌+◌, ◌-◌, ◌/◌, ◌%◌, ◌<◌, ◌≤◌, ◌⊎◌, inl, inr, Bool, true, false, cond, not, eqb, ltb, List, [], ◌∷◌, ◌++◌, length, Result, Ok, Err, refl, sym, ap, subst, ◌∙◌, arith}
use Rattle.std.specs.Prelude.{⊤}
use Rattle.std.proofs.lemmas.Bool.{eqb-false, eqb-true, ne_eqb, ltb-false, ltb-true, not-false}
use Rattle.std.proofs.lemmas.List.Elements.{All-nil}
use Rattle.pm_object.specs.declared.header.Header.{Header}
use Rattle.pm_object.specs.declared.object.Object.{Object}
use Rattle.pm_object.specs.declared.object.ObjectCause.{ObjectCause}
use Rattle.pm_object.specs.declared.object.ObjectCause.TheVariants.{TooLong, Length, HeaderShort, BadType, NoMasters, Trailing}
use Rattle.pm_object.specs.declared.object.ObjectFault.{ObjectFault}
use Rattle.pm_object.specs.declared.object.DecodeError.{DecodeError}
use Rattle.pm_object.specs.declared.object.DecodeError.TheVariants.{Bad}
use Rattle.pm_object.specs.Bodies.{unset}
use Rattle.pm_object.specs.FirstFault.{HeaderFault, TailFault, ObjectFaultIn, IsFirstFault}
use Rattle.pm_object.specs.Reading.{Cursor, Step, ◌>>=◌, fault, word, records, header, sections, object, words, reading, Gives}
use Rattle.pm_object.proofs.Bytes.{IsBytes, bytes_again, words_fit}
use Rattle.pm_object.proofs.Steps.{bind_ok, passed, ok_is, word_takes}
use Rattle.pm_object.proofs.ReadLists.{records_take, flat_map_words}
use Rattle.pm_object.proofs.ReadHeader.{one, spell, reader, header_takes}
use Rattle.pm_object.proofs.FaultSteps.{Told, Steady, bind_err, later, word_steady, word_fails, word_breaks, tested}
use Rattle.pm_object.proofs.FaultObject.{AfterCount, word_ends, extra_fails, extra_steady, one_before, ending_short, not_true, has_read, sections_fail, sections_steady}

-- ---- the header

-- the words of a header after its first
abbrev after_count : ℕ → Cursor → Step Header
after_count more c = word c >>= λ sections. word sections.1 >>= λ type. records one (more - 2) [] type.1 >>= λ extra.
    cond (not (eqb type.0 1)) (fault BadType sections.1.place) (Ok (record { sections = sections.0; extra = extra.0 }, extra.1))

type_fails : (more : ℕ) (c : Cursor) (sections kind : ℕ) (d e g : Cursor) (extra : List ℕ) (f : ObjectFault) → 2 ≤ more
    → word c ≡ Ok (sections, d) → word d ≡ Ok (kind, e) → records one (more - 2) [] e ≡ Ok (extra, g)
    → not (eqb kind 1) ≡ true → f.cause ≡ BadType → f.offset ≡ d.place
    → Told (AfterCount more) c.place c.left f
type_fails more c sections kind d e g extra f two first second third refused cause offset =
    let taken = records_take one spell (λ _. ⊤) (λ _ _. ⊤) reader (more - 2) [] e extra g (All-nil (λ _. ⊤)) (λ i j v below within. tt) third in
    let long : 2 + length extra ≡ more = omega (arith, ap length taken.is, taken.count) in
    let rest : e.left ≡ extra ++ g.left = taken.words ∙ ap (λ (l : List ℕ). l ++ g.left) (flat_map_words taken.new ∙ sym taken.is) in
    let from : d.left ≡ kind ∷ extra ++ g.left = word_takes d kind e second ∙ ap (λ (l : List ℕ). kind ∷ l) rest in
    let all : c.left ≡ sections ∷ kind ∷ extra ++ g.left = word_takes c sections d first ∙ ap (λ (l : List ℕ). sections ∷ l) from in (
      d.left,
      ap (λ (n : ℕ). n + length d.left) offset ∙ sym (word_steady c sections d first),
      inr (sections, kind, extra, g.left, all, long, eqb-false kind 1 (not_true _ refused), cause, from),
    )

after_count_fails : (more : ℕ) (c : Cursor) (f : ObjectFault) → 2 ≤ more → after_count more c ≡ Err f → Told (AfterCount more) c.place c.left f
after_count_fails more c f two e =
    elim (bind_err (word c) _ f e) [
      | inl ends ↦ ending_short more c f two (word_ends (suc (more - 2)) c f ends)
      | inr s ↦ elim (bind_err (word s.0.1) _ f s.2) [
        | inl ends ↦ ending_short more c f two (one_before (suc (more - 2)) c s.0.0 s.0.1 f s.1 (word_ends (more - 2) s.0.1 f ends))
        | inr t ↦ elim (bind_err (records one (more - 2) [] t.0.1) _ f t.2) [
          | inl ends ↦ ending_short more c f two
              (one_before (suc (more - 2)) c s.0.0 s.0.1 f s.1 (one_before (more - 2) s.0.1 t.0.0 t.0.1 f t.1 (extra_fails (more - 2) t.0.1 f ends)))
          | inr x ↦ elim (tested (not (eqb t.0.0 1)) BadType s.0.1.place _ f x.2) [
            | inl refused ↦ type_fails more c s.0.0 t.0.0 s.0.1 t.0.1 x.0.1 x.0.0 f two s.1 t.1 x.1 refused.0 refused.1 refused.2
            | inr passes ↦ absurd (let no = passes.1 in cc)
          ]
        ]
      ]
    ]

header_fails : (c : Cursor) (f : ObjectFault) → header c ≡ Err f → Told HeaderFault c.place c.left f
unfolding header
header_fails c f e =
    elim (bind_err (word c) _ f e) [
      | inl ends ↦ let told = word_fails (λ w cause. (w < 2) × (cause ≡ HeaderShort)) c f ends in (told.0, told.1, inl told.2)
      | inr m ↦ elim (tested (ltb m.0.0 2) HeaderShort c.place (after_count m.0.0 m.0.1) f m.2) [
        | inl refused ↦
            let told = word_breaks (λ w cause. (w < 2) × (cause ≡ HeaderShort)) c m.0.0 m.0.1 f m.1 (ltb-true m.0.0 2 refused.0, refused.1) refused.2 in
            (told.0, told.1, inl told.2)
        | inr fits ↦
            let two : 2 ≤ m.0.0 = ltb-false m.0.0 2 fits.0 in
            let told = later (m.0.0 ∷ []) (AfterCount m.0.0) c m.0.1 f (word_steady c m.0.0 m.0.1 m.1) (word_takes c m.0.0 m.0.1 m.1) (after_count_fails m.0.0 m.0.1 f two fits.1) in
            (told.0, told.1, inr (m.0.0, two, told.2))
      ]
    ]

header_steady : (c : Cursor) (h : Header) (d : Cursor) → header c ≡ Ok (h, d) → Steady c d
unfolding header
header_steady c h d e =
    let m = bind_ok (word c) _ (h, d) e in
    let g = passed (ltb m.0.0 2) HeaderShort c.place (after_count m.0.0 m.0.1) (h, d) m.2 in
    let s = bind_ok (word m.0.1) _ (h, d) g.1 in
    let t = bind_ok (word s.0.1) _ (h, d) s.2 in
    let x = bind_ok (records one (m.0.0 - 2) [] t.0.1) _ (h, d) t.2 in
    let k = passed (not (eqb t.0.0 1)) BadType s.0.1.place (Ok (record { sections = s.0.0; extra = x.0.0 }, x.0.1)) (h, d) x.2 in
    word_steady c m.0.0 m.0.1 m.1 ∙ word_steady m.0.1 s.0.0 s.0.1 s.1 ∙ word_steady s.0.1 t.0.0 t.0.1 t.1
    ∙ extra_steady (m.0.0 - 2) t.0.1 x.0.0 x.0.1 x.1
    ∙ ap (λ (p : Header × Cursor). p.1.place + length p.1.left) (ok_is (record { sections = s.0.0; extra = x.0.0 }, x.0.1) (h, d) k.1)

-- ---- the sections, and what follows the last

trailing_by : (b : Bool) (place : ℕ) (o : Object) (f : ObjectFault) → b ≡ false → cond b (Ok o) (fault Trailing place) ≡ Err f → (f.cause ≡ Trailing) × (f.offset ≡ place)
trailing_by true place o f fails bad = absurd cc
trailing_by false place o f fails bad = (cc, cc)

trailing : (left : List ℕ) (place : ℕ) (o : Object) (f : ObjectFault) → cond (eqb (length left) 0) (Ok o) (fault Trailing place) ≡ Err f → (0 < length left) × (f.cause ≡ Trailing) × (f.offset ≡ place)
trailing [] place o f e = absurd cc
trailing (w ∷ left) place o f e =
    let why = trailing_by (eqb (length (w ∷ left)) 0) place o f (ne_eqb (length (w ∷ left)) 0 (λ (none : length (w ∷ left) ≡ 0). omega arith)) e in
    (omega arith, why.0, why.1)

-- reading the sections after a header
abbrev after_header : Header → Cursor → Result Object ObjectFault
after_header h c = cond (eqb h.sections 0) (fault NoMasters c.place)
    (sections h.sections (unset h.extra) c >>= λ o. cond (eqb (length o.1.left) 0) (Ok o.0) (fault Trailing o.1.place))

tail_fails : (h : Header) (c : Cursor) (f : ObjectFault) → after_header h c ≡ Err f → Told (TailFault h.sections) c.place c.left f
tail_fails h c f e =
    elim (tested (eqb h.sections 0) NoMasters c.place _ f e) [
      | inl none ↦ (c.left, ap (λ (n : ℕ). n + length c.left) none.2, inl (eqb-true h.sections 0 none.0, none.1, refl))
      | inr some ↦
          let many : 0 < h.sections = omega (arith, eqb-false h.sections 0 some.0) in
          elim (bind_err (sections h.sections (unset h.extra) c) _ f some.1) [
            | inl within ↦ let told = sections_fail h.sections h.extra c f within in (told.0, told.1, inr (many, inl told.2))
            | inr all ↦
                let o = all.0.0 in
                let d = all.0.1 in
                let read = has_read h.sections h.extra c o d all.1 in
                let more = trailing d.left d.place o f all.2 in (
                  d.left,
                  ap (λ (n : ℕ). n + length d.left) more.2 ∙ sym (sections_steady h.sections (unset h.extra) c o d all.1),
                  inr (many, inr (o, read.part, read.count, read.words, more.0, more.1)),
                )
          ]
    ]

object_fails : (c : Cursor) (f : ObjectFault) → object c ≡ Err f → Told ObjectFaultIn c.place c.left f
unfolding object
object_fails c f e =
    elim (bind_err (header c) (λ h. after_header h.0 h.1) f e) [
      | inl own ↦ let told = header_fails c f own in (told.0, told.1, inl told.2)
      | inr there ↦
          let h = there.0.0 in
          let d = there.0.1 in
          let told = later ((2 + length h.extra) ∷ h.sections ∷ 1 ∷ h.extra) (TailFault h.sections) c d f (header_steady c h d there.1) (header_takes c h d there.1) (tail_fails h d f there.2) in
          (told.0, told.1, inr (h.sections, h.extra, told.2))
    ]

-- ---- the bytes

tested_is : {A : Type 0} (b : Bool) (cause : ObjectCause) (offset : ℕ) (r : Result A ObjectFault) (f : ObjectFault) → cond b (fault cause offset) r ≡ Err f → ((b ≡ true) × (f ≡ record { cause = cause; offset = offset })) ⊎ ((b ≡ false) × (r ≡ Err f))
tested_is true cause offset r f e = inl (refl, cc)
tested_is false cause offset r f e = inr (refl, e)

pub reading_fails : (bytes : List ℕ) (f : ObjectFault) → IsBytes bytes → reading bytes ≡ Err f → IsFirstFault bytes f
unfolding reading
reading_fails bytes f fit e =
    elim (tested_is (ltb 16384 (length bytes)) TooLong 4096 _ f e) [
      | inl long ↦ inl (ltb-true 16384 (length bytes) long.0, long.1)
      | inr short ↦
          let few : length bytes ≤ 16384 = ltb-false 16384 (length bytes) short.0 in
          elim (tested_is (not (eqb (length bytes % 4) 0)) Length (length bytes / 4) _ f short.1) [
            | inl part ↦ inr (few, inl (eqb-false (length bytes % 4) 0 (not_true _ part.0), part.1))
            | inr whole ↦
                let aligned : length bytes % 4 ≡ 0 = eqb-true _ _ (not-false (eqb (length bytes % 4) 0) whole.0) in
                let told = object_fails (record { place = 0; left = words bytes }) f whole.1 in
                inr (few, inr (words bytes, told.0, words_fit bytes fit, sym (bytes_again bytes fit aligned), omega (arith, told.1), told.2))
          ]
    ]

pub is_first_fault : (bytes : List ℕ) (r : Result Object DecodeError) (f : ObjectFault) → IsBytes bytes → Gives r (reading bytes) → r ≡ Err (Bad f) → IsFirstFault bytes f
is_first_fault bytes r f fit given is = reading_fails bytes f fit (subst (λ (s : Result Object DecodeError). Gives s (reading bytes)) is given)
