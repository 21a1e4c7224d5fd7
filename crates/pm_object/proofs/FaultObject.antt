-- What the sections, the header and the whole object tell where they fail: the first fault by the grammar.
use Rattle.std.proofs.Common.{◌≡◌, ◌≢◌, ℕ, zero, suc, ◌+◌, ◌-◌, ◌<◌, ◌≤◌, ◌&&◌, ◌⊎◌, inl, inr, Bool, true, false, not, eqb, List, [], ◌∷◌, ◌++◌, length, Option, Some, None, Ok, Err, refl, sym, ap, subst, ◌∙◌, arith, length-append}
use Rattle.std.specs.Prelude.{⊤}
use Rattle.std.specs.List.{flat_map}
use Rattle.std.proofs.lemmas.Bool.{eqb-false, eqb-true}
use Rattle.pm_base.proofs.Booleans.{both}
use Rattle.pm_object.specs.declared.object.Section.{Section}
use Rattle.pm_object.specs.declared.object.Section.TheVariants.{Masters, Slaves, Prealloc, Power, Reset, Shutdown, Config, Gpo}
use Rattle.pm_object.specs.declared.object.Object.{Object}
use Rattle.pm_object.specs.declared.object.ObjectCause.{ObjectCause}
use Rattle.pm_object.specs.declared.object.ObjectCause.TheVariants.{Truncated, UnknownSection, RepeatedSection, NoMasters}
use Rattle.pm_object.specs.declared.object.ObjectFault.{ObjectFault}
use Rattle.pm_object.specs.Bodies.{Body, with_body, unset}
use Rattle.pm_object.specs.FirstFault.{Fault, WordFault, Free, WordsEnd, RecordsFault, Any, AnyTwo, Differ, KeyedFault, GroupFault, BodyFault, NameBreaks, SectionFault, IsPart, SectionsFault, TypeFault}
use Rattle.pm_object.specs.Grammar.{identifier, slave_words, group_words, pair_words, section_words, HasOwnNodes}
use Rattle.pm_object.specs.Reading.{Cursor, ◌>>=◌, fault, word_from, word, records, counted_records, slave, group, pair, header, section_of, is_among, section_after, section_name, body, section_body, section, sections, object, words}
use Rattle.pm_object.proofs.Steps.{bind_ok, ok_is, word_takes}
use Rattle.pm_object.proofs.SectionNames.{section_again}
use Rattle.pm_object.proofs.ReadLists.{flat_map_words}
use Rattle.pm_object.proofs.ReadHeader.{one, spell, reader}
use Rattle.pm_object.proofs.ReadRecords.{slave_reader, pair_reader, group_reader}
use Rattle.pm_object.proofs.ReadNames.{section_of_is, is_new, name_takes}
use Rattle.pm_object.proofs.ReadBodies.{body_in}
use Rattle.pm_object.proofs.ReadSections.{sections_take}
use Rattle.pm_object.proofs.ReadObject.{unset_part}
use Rattle.pm_object.proofs.FaultSteps.{Told, Steady, IsTelling, bind_err, later, word_steady, word_fails, word_breaks, tested, clash, more_words, records_steady, records_fails, counted_steady, counted_fails}
use Rattle.pm_object.proofs.FaultRecords.{slave_telling, pair_telling, group_telling, masters_steady, masters_fails}

-- ---- the identifier of a section

nil_of : {A : Type 0} (xs : List A) → length xs ≡ 0 → xs ≡ []
nil_of [] none = refl
nil_of (x ∷ xs) none = absurd (omega arith)

pub not_true : (b : Bool) → not b ≡ true → b ≡ false
not_true true e = cc
not_true false e = refl

unknown : (w : ℕ) → section_of w ≡ None → (s : Section) → w ≢ identifier s
unknown w none s same = absurd (let is = ap section_of same ∙ section_again s in cc)

after_fails : (order : List Section) (place w : ℕ) (found : Option Section) (f : ObjectFault) → section_of w ≡ found → section_after order place found ≡ Err f → NameBreaks order w f.cause × (f.offset ≡ place)
after_fails order place w None f is e =
    let cause : f.cause ≡ UnknownSection = cc in
    let offset : f.offset ≡ place = cc in
    (inl (cause, unknown w is), offset)
after_fails order place w (Some s) f is e =
    elim (tested (is_among s order) RepeatedSection place _ f e) [
      | inl again ↦ (inr (s, section_of_is w s is, inl (again.1, λ new. clash _ again.0 (is_new order s new))), again.2)
      | inr new ↦ elim (tested ((eqb (length order) 0) && not (eqb (identifier s) (identifier Masters))) NoMasters place (Ok s) f new.1) [
        | inl first ↦
            let parts = both (eqb (length order) 0) _ first.0 in
            let differ = eqb-false (identifier s) (identifier Masters) (not_true _ parts.1) in
            (inr (s, section_of_is w s is, inr (first.1, nil_of order (eqb-true _ _ parts.0), λ same. differ (ap identifier same))), first.2)
        | inr passes ↦ absurd (let no = passes.1 in cc)
      ]
    ]

name_fails : (order : List Section) (c : Cursor) (f : ObjectFault) → section_name order c ≡ Err f → Told (WordFault (NameBreaks order)) c.place c.left f
unfolding section_name
name_fails order c f e =
    elim (bind_err (word c) (λ w. section_after order c.place (section_of w.0) >>= λ s. Ok (s, w.1)) f e) [
      | inl ends ↦ word_fails (NameBreaks order) c f ends
      | inr there ↦ elim (bind_err (section_after order c.place (section_of there.0.0)) (λ s. Ok (s, there.0.1)) f there.2) [
        | inl refused ↦
            let why = after_fails order c.place there.0.0 (section_of there.0.0) f refl refused in
            word_breaks (NameBreaks order) c there.0.0 there.0.1 f there.1 why.0 why.1
        | inr passes ↦ absurd (let no = passes.2 in cc)
      ]
    ]

name_steady : (order : List Section) (c : Cursor) (s : Section) (d : Cursor) → section_name order c ≡ Ok (s, d) → Steady c d
unfolding section_name
name_steady order c s d e =
    let a = bind_ok (word c) (λ w. section_after order c.place (section_of w.0) >>= λ t. Ok (t, w.1)) (s, d) e in
    let b = bind_ok (section_after order c.place (section_of a.0.0)) (λ t. Ok (t, a.0.1)) (s, d) a.2 in
    word_steady c a.0.0 a.0.1 a.1 ∙ ap (λ (p : Section × Cursor). p.1.place + length p.1.left) (ok_is (b.0, a.0.1) (s, d) b.2)

-- ---- what stands in a section

ends_from : (n place : ℕ) (left : List ℕ) (f : ObjectFault) → word_from place left ≡ Err f → Told (WordsEnd (suc n)) place left f
ends_from n place [] f e =
    let offset : place ≡ f.offset = cc in
    let cause : f.cause ≡ Truncated = cc in
    ([], omega arith, (omega arith, refl, cause))
ends_from n place (w ∷ left) f e = absurd cc

pub word_ends : (n : ℕ) (c : Cursor) (f : ObjectFault) → word c ≡ Err f → Told (WordsEnd (suc n)) c.place c.left f
word_ends n c f e = ends_from n c.place c.left f e

pairs_fail : (c : Cursor) (f : ObjectFault) → counted_records pair c ≡ Err f → Told (BodyFault Power) c.place c.left f
pairs_fail c f e = counted_fails pair pair_words Any (Differ (λ p. p.key)) (KeyedFault (λ p. p.key) 1) pair_reader pair_telling c f e

body_fails : (s : Section) (c : Cursor) (f : ObjectFault) → body s c ≡ Err f → Told (BodyFault s) c.place c.left f
unfolding body
body_fails Masters c f e = masters_fails c f e
body_fails Slaves c f e = counted_fails slave slave_words Any (Differ (λ s. s.node)) (KeyedFault (λ s. s.node) 2) slave_reader slave_telling c f e
body_fails Prealloc c f e = counted_fails group group_words HasOwnNodes AnyTwo GroupFault group_reader group_telling c f e
body_fails Power c f e = pairs_fail c f e
body_fails Reset c f e = pairs_fail c f e
body_fails Shutdown c f e = pairs_fail c f e
body_fails Config c f e = more_words 1 c _ f (λ w d is. more_words 0 d _ f (λ u a no. absurd cc) is) e
body_fails Gpo c f e = word_ends 0 c f e

pairs_steady : (c : Cursor) (b : Body Power) (d : Cursor) → counted_records pair c ≡ Ok (b, d) → Steady c d
pairs_steady c b d e = counted_steady pair pair_words Any (Differ (λ p. p.key)) (KeyedFault (λ p. p.key) 1) pair_reader pair_telling c b d e

body_steady : (s : Section) (c : Cursor) (b : Body s) (d : Cursor) → body s c ≡ Ok (b, d) → Steady c d
unfolding body
body_steady Masters c b d e = masters_steady c b d e
body_steady Slaves c b d e = counted_steady slave slave_words Any (Differ (λ s. s.node)) (KeyedFault (λ s. s.node) 2) slave_reader slave_telling c b d e
body_steady Prealloc c b d e = counted_steady group group_words HasOwnNodes AnyTwo GroupFault group_reader group_telling c b d e
body_steady Power c b d e = pairs_steady c b d e
body_steady Reset c b d e = pairs_steady c b d e
body_steady Shutdown c b d e = pairs_steady c b d e
body_steady Config c b d e =
    let base = bind_ok (word c) (λ base. word base.1 >>= λ overlay. Ok ((base.0, overlay.0), overlay.1)) (b, d) e in
    let overlay = bind_ok (word base.0.1) (λ overlay. Ok ((base.0.0, overlay.0), overlay.1)) (b, d) base.2 in
    word_steady c base.0.0 base.0.1 base.1 ∙ word_steady base.0.1 overlay.0.0 overlay.0.1 overlay.1
    ∙ ap (λ (p : (ℕ × ℕ) × Cursor). p.1.place + length p.1.left) (ok_is ((base.0.0, overlay.0.0), overlay.0.1) (b, d) overlay.2)
body_steady Gpo c b d e = word_steady c b d e

-- ---- a section

section_fails : (o : Object) (c : Cursor) (f : ObjectFault) → section o c ≡ Err f → Told (SectionFault o.order) c.place c.left f
unfolding section
section_fails o c f e =
    elim (bind_err (section_name o.order c) (λ s. section_body s.0 o s.1 >>= λ r. Ok (record r.0 { order = r.0.order ++ s.0 ∷ [] }, r.1)) f e) [
      | inl own ↦ let told = name_fails o.order c f own in (told.0, told.1, inl told.2)
      | inr there ↦
          let s = there.0.0 in
          let d = there.0.1 in
          let name = name_takes o.order c s d there.1 in
          elim (bind_err (section_body s o d) (λ r. Ok (record r.0 { order = r.0.order ++ s ∷ [] }, r.1)) f there.2) [
            | inl within ↦ elim (bind_err (body s d) (λ b. Ok (with_body s b.0 o, b.1)) f (sym (body_in s o d) ∙ within)) [
              | inl inner ↦
                  let told = later (identifier s ∷ []) (BodyFault s) c d f (name_steady o.order c s d there.1) name.0 (body_fails s d f inner) in
                  (told.0, told.1, inr (s, name.1, told.2))
              | inr passes ↦ absurd (let no = passes.2 in cc)
            ]
            | inr passes ↦ absurd (let no = passes.2 in cc)
          ]
    ]

section_steady : (o : Object) (c : Cursor) (p : Object) (d : Cursor) → section o c ≡ Ok (p, d) → Steady c d
unfolding section
section_steady o c p d e =
    let n = bind_ok (section_name o.order c) (λ s. section_body s.0 o s.1 >>= λ r. Ok (record r.0 { order = r.0.order ++ s.0 ∷ [] }, r.1)) (p, d) e in
    let s = n.0.0 in
    let r = bind_ok (section_body s o n.0.1) (λ r. Ok (record r.0 { order = r.0.order ++ s ∷ [] }, r.1)) (p, d) n.2 in
    let b = bind_ok (body s n.0.1) (λ b. Ok (with_body s b.0 o, b.1)) r.0 (sym (body_in s o n.0.1) ∙ r.1) in
    name_steady o.order c s n.0.1 n.1 ∙ body_steady s n.0.1 b.0.0 b.0.1 b.1
    ∙ ap (λ (q : Object × Cursor). q.1.place + length q.1.left) (ok_is (with_body s b.0.0 o, b.0.1) r.0 b.2)
    ∙ ap (λ (q : Object × Cursor). q.1.place + length q.1.left) (ok_is _ (p, d) r.2)

-- the sections that were read before the one that failed
record StoppedAt (n : ℕ) (o : Object) (c : Cursor) (f : ObjectFault) : Type 0 where
  pub count : ℕ
  pub part : Object
  pub at : Cursor
  pub fewer : count < n
  pub read : sections count o c ≡ Ok (part, at)
  pub fails : section part at ≡ Err f

stopped_at : (n : ℕ) (o : Object) (c : Cursor) (f : ObjectFault) → sections n o c ≡ Err f → StoppedAt n o c f
unfolding sections
stopped_at zero o c f e = absurd cc
stopped_at (suc n) o c f e =
    elim (bind_err (section o c) (λ r. sections n r.0 r.1) f e) [
      | inl own ↦ record { count = zero; part = o; at = c; fewer = omega arith; read = refl; fails = own }
      | inr there ↦
          let after = stopped_at n there.0.0 there.0.1 f there.2 in
          record { count = suc after.count; part = after.part; at = after.at; fewer = omega (arith, after.fewer); read = rw there.1 after.read; fails = after.fails }
    ]

pub sections_steady : (n : ℕ) (o : Object) (c : Cursor) (p : Object) (d : Cursor) → sections n o c ≡ Ok (p, d) → Steady c d
unfolding sections
sections_steady zero o c p d e = ap (λ (q : Object × Cursor). q.1.place + length q.1.left) (ok_is (o, c) (p, d) e)
sections_steady (suc n) o c p d e =
    let a = bind_ok (section o c) (λ r. sections n r.0 r.1) (p, d) e in
    section_steady o c a.0.0 a.0.1 a.1 ∙ sections_steady n a.0.0 a.0.1 p d a.2

-- sections that were read into an object without one
pub record HasRead (n : ℕ) (c : Cursor) (p : Object) (d : Cursor) : Type 0 where
  pub part : IsPart p
  pub count : length p.order ≡ n
  pub words : c.left ≡ flat_map (section_words p) p.order ++ d.left

pub has_read : (n : ℕ) (extra : List ℕ) (c : Cursor) (p : Object) (d : Cursor) → sections n (unset extra) c ≡ Ok (p, d) → HasRead n c p d
has_read n extra c p d e =
    let next = sections_take n (unset extra) c p d (unset_part extra) e in
    record {
      part = next.part;
      count = ap length next.order ∙ next.count;
      words = next.words ∙ ap (λ (l : List Section). flat_map (section_words p) l ++ d.left) (sym next.order);
    }

pub sections_fail : (n : ℕ) (extra : List ℕ) (c : Cursor) (f : ObjectFault) → sections n (unset extra) c ≡ Err f → Told (SectionsFault n) c.place c.left f
sections_fail n extra c f e =
    let stop = stopped_at n (unset extra) c f e in
    let read = has_read stop.count extra c stop.part stop.at stop.read in
    let told = later (flat_map (section_words stop.part) stop.part.order) (SectionFault stop.part.order) c stop.at f
    (sections_steady stop.count (unset extra) c stop.part stop.at stop.read) read.words (section_fails stop.part stop.at f stop.fails) in
    (told.0, told.1, (stop.part, read.part, omega (arith, read.count, stop.fewer), told.2))

-- ---- the header

one_telling : IsTelling one (λ _. WordFault Free)
one_telling = record { steady = λ earlier c x d e. word_steady c x d e; fails = λ earlier c f e. word_fails Free c f e }

pub extra_steady : (n : ℕ) (c : Cursor) (all : List ℕ) (d : Cursor) → records one n [] c ≡ Ok (all, d) → Steady c d
extra_steady n c all d e = records_steady one spell (λ _. ⊤) (λ _ _. ⊤) (λ _. WordFault Free) reader one_telling n [] c all d e

short_of : (n : ℕ) (words left : List ℕ) (cause : ObjectCause) → RecordsFault spell (λ _. ⊤) (λ _ _. ⊤) (λ _. WordFault Free) n words left cause → WordsEnd n words left cause
short_of n words left cause (read, fewer, own, apart, (rest, is, (same, inl ended))) =
    let long = ap length is ∙ length-append (flat_map spell read) rest in
    (omega (arith, long, ap length (flat_map_words read), ap length ended.0, fewer), same ∙ ended.0, ended.1)
short_of n words left cause (read, fewer, own, apart, (rest, is, (same, inr free))) = absurd free.3

pub extra_fails : (n : ℕ) (c : Cursor) (f : ObjectFault) → records one n [] c ≡ Err f → Told (WordsEnd n) c.place c.left f
extra_fails n c f e =
    let told = records_fails one spell (λ _. ⊤) (λ _ _. ⊤) (λ _. WordFault Free) reader one_telling n c f e in
    (told.0, told.1, short_of n c.left told.0 f.cause told.2)

-- a word before words that end
pub one_before : (n : ℕ) (c : Cursor) (w : ℕ) (d : Cursor) (f : ObjectFault) → word c ≡ Ok (w, d) → Told (WordsEnd n) d.place d.left f → Told (WordsEnd (suc n)) c.place c.left f
one_before n c w d f is told =
    (told.0, told.1 ∙ sym (word_steady c w d is), (omega (arith, ap length (word_takes c w d is), told.2.0), told.2.1, told.2.2))

-- what follows the first word of a header
abbrev pub AfterCount : ℕ → Fault
AfterCount more words left cause = WordsEnd more words left cause ⊎ TypeFault more words left cause

pub ending_short : (more : ℕ) (c : Cursor) (f : ObjectFault) → 2 ≤ more → Told (WordsEnd (suc (suc (more - 2)))) c.place c.left f → Told (AfterCount more) c.place c.left f
ending_short more c f two told =
    let same : suc (suc (more - 2)) ≡ more = omega arith in
    let ends = subst (λ n. Told (WordsEnd n) c.place c.left f) same told in
    (ends.0, ends.1, inl ends.2)
