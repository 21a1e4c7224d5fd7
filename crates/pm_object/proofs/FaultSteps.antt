-- A step that fails tells a fault of its part of the grammar.
use Rattle.std.proofs.Common.{◌≡◌, ◌≢◌, ℕ, zero, suc, ◌+◌, ◌<◌, ◌⊎◌, inl, inr, Bool, true, false, cond, eqb, List, [], ◌∷◌, ◌++◌, length, Result, Ok, Err, refl, sym, ap, ◌∙◌, arith}
use Rattle.std.specs.List.{flat_map, list_any}
use Rattle.std.proofs.lemmas.Bool.{ne_eqb}
use Rattle.std.proofs.lemmas.List.Elements.{All-nil, All-weaker}
use Rattle.std.proofs.lemmas.List.Folds.{list_any_none}
use Rattle.pm_base.proofs.Elements.{no_pairs}
use Rattle.pm_object.specs.declared.object.ObjectCause.{ObjectCause}
use Rattle.pm_object.specs.declared.object.ObjectCause.TheVariants.{Truncated, RepeatedNode}
use Rattle.pm_object.specs.declared.object.ObjectFault.{ObjectFault}
use Rattle.pm_object.specs.FirstFault.{Fault, WordFault, Free, WordsEnd, After, RecordsFault, CountedFault, IsNew, KeyBreaks, KeyedFault}
use Rattle.pm_object.specs.Reading.{Cursor, Step, ◌>>=◌, fault, word_from, word, records, counted_records, own_key}
use Rattle.pm_object.proofs.Steps.{bind_ok, passed, ok_is, word_takes, own_key_takes}
use Rattle.pm_object.proofs.ReadLists.{IsReader, records_take}

abbrev failed : {A : Type 0} → ObjectFault → Result A ObjectFault
failed e = Err e

-- the step failed itself, or what follows it
pub bind_err : {A B : Type 0} (r : Result A ObjectFault) (f : A → Result B ObjectFault) (e : ObjectFault) → (r >>= f) ≡ Err e → (r ≡ Err e) ⊎ ((x : A) × (r ≡ Ok x) × (f x ≡ Err e))
bind_err (Ok x) f e is = inr (x, refl, is)
bind_err {A} (Err d) f e is = let same : d ≡ e = cc in inl (ap (λ (x : ObjectFault). failed {A = A} x) same)

-- the fault that is told stands among the words from a place on
abbrev pub Told : Fault → ℕ → List ℕ → ObjectFault → Type 0
Told Broken place words f = (left : List ℕ) × (f.offset + length left ≡ place + length words) × Broken words left f.cause

-- a step leaves the end of the words where it is
abbrev pub Steady : Cursor → Cursor → Type 0
Steady c d = c.place + length c.left ≡ d.place + length d.left

pub later : (text : List ℕ) (Broken : Fault) (c d : Cursor) (f : ObjectFault) → Steady c d → c.left ≡ text ++ d.left → Told Broken d.place d.left f → Told (After text Broken) c.place c.left f
later text Broken c d f steady is told = (told.0, steady_end, (d.left, is, told.2))
  where
    steady_end : f.offset + length told.0 ≡ c.place + length c.left
    steady_end = told.1 ∙ sym steady

-- ---- a word

word_from_steady : (place : ℕ) (left : List ℕ) (w : ℕ) (d : Cursor) → word_from place left ≡ Ok (w, d) → place + length left ≡ d.place + length d.left
word_from_steady place [] w d e = absurd cc
word_from_steady place (v ∷ left) w d e =
    let next : Cursor = record { place = place + 1; left = left } in
    let is = ok_is (v, next) (w, d) e in
    omega (arith, ap (λ (p : ℕ × Cursor). p.1.place) is, ap (λ (p : ℕ × Cursor). length p.1.left) is)

pub word_steady : (c : Cursor) (w : ℕ) (d : Cursor) → word c ≡ Ok (w, d) → Steady c d
word_steady c w d e = word_from_steady c.place c.left w d e

word_from_fails : (Breaks : ℕ → ObjectCause → Type 0) (place : ℕ) (left : List ℕ) (f : ObjectFault) → word_from place left ≡ Err f → Told (WordFault Breaks) place left f
word_from_fails Breaks place [] f e =
    let offset : place ≡ f.offset = cc in
    let cause : f.cause ≡ Truncated = cc in
    ([], omega arith, (refl, inl (refl, cause)))
word_from_fails Breaks place (w ∷ left) f e = absurd cc

pub word_fails : (Breaks : ℕ → ObjectCause → Type 0) (c : Cursor) (f : ObjectFault) → word c ≡ Err f → Told (WordFault Breaks) c.place c.left f
word_fails Breaks c f e = word_from_fails Breaks c.place c.left f e

-- a word that is there and breaks a rule at its own place
pub word_breaks : (Breaks : ℕ → ObjectCause → Type 0) (c : Cursor) (w : ℕ) (d : Cursor) (f : ObjectFault) → word c ≡ Ok (w, d) → Breaks w f.cause → f.offset ≡ c.place → Told (WordFault Breaks) c.place c.left f
word_breaks Breaks c w d f is breaks place = (c.left, ap (λ (n : ℕ). n + length c.left) place, (refl, inr (w, d.left, word_takes c w d is, breaks)))

-- a test that refused, or what follows it
pub tested : {A : Type 0} (b : Bool) (cause : ObjectCause) (offset : ℕ) (r : Result A ObjectFault) (f : ObjectFault) → cond b (fault cause offset) r ≡ Err f → ((b ≡ true) × (f.cause ≡ cause) × (f.offset ≡ offset)) ⊎ ((b ≡ false) × (r ≡ Err f))
tested true cause offset r f e = inl (refl, cc, cc)
tested false cause offset r f e = inr (refl, e)

pub clash : (b : Bool) → b ≡ true → b ≡ false → ⊥
clash true e f = cc
clash false e f = cc

-- ---- words without a rule

more_from : {B : Type 0} (n place : ℕ) (left : List ℕ) (k : ℕ × Cursor → Step B) (f : ObjectFault)
    → ((w : ℕ) (d : Cursor) → k (w, d) ≡ Err f → Told (WordsEnd n) d.place d.left f)
    → (word_from place left >>= k) ≡ Err f → Told (WordsEnd (suc n)) place left f
more_from n place [] k f next e =
    let offset : place ≡ f.offset = cc in
    let cause : f.cause ≡ Truncated = cc in
    ([], omega arith, (omega arith, refl, cause))
more_from n place (w ∷ left) k f next e =
    let told = next w (record { place = place + 1; left = left }) e in
    (told.0, omega (arith, told.1), (omega (arith, told.2.0), told.2.1, told.2.2))

pub more_words : {B : Type 0} (n : ℕ) (c : Cursor) (k : ℕ × Cursor → Step B) (f : ObjectFault)
    → ((w : ℕ) (d : Cursor) → k (w, d) ≡ Err f → Told (WordsEnd n) d.place d.left f)
    → (word c >>= k) ≡ Err f → Told (WordsEnd (suc n)) c.place c.left f
more_words n c k f next e = more_from n c.place c.left k f next e

-- ---- the key of a record

pub new_is_free : {A : Type 0} (key : A → ℕ) (earlier : List A) (w : ℕ) → IsNew key earlier w → list_any (λ r. eqb (key r) w) earlier ≡ false
new_is_free {A} key earlier w own =
    list_any_none (λ (r : A). eqb (key r) w) earlier (All-weaker (λ (r : A). key r ≢ w) (λ (r : A). eqb (key r) w ≡ false) (λ r differs. ne_eqb (key r) w differs) earlier own)

pub tested_steady : (bad : ℕ → Bool) (cause : ObjectCause) (c : Cursor) (w : ℕ) (d : Cursor) → (word c >>= λ v. cond (bad v.0) (fault cause c.place) (Ok v)) ≡ Ok (w, d) → Steady c d
tested_steady bad cause c w d e =
    let a = bind_ok (word c) (λ v. cond (bad v.0) (fault cause c.place) (Ok v)) (w, d) e in
    let g = passed (bad a.0.0) cause c.place (Ok a.0) (w, d) a.2 in
    word_steady c w d (a.1 ∙ g.1)

pub key_steady : {A : Type 0} (key : A → ℕ) (earlier : List A) (c : Cursor) (w : ℕ) (d : Cursor) → own_key key earlier c ≡ Ok (w, d) → Steady c d
unfolding own_key
key_steady {A} key earlier c w d e = tested_steady (λ v. list_any (λ (r : A). eqb (key r) v) earlier) RepeatedNode c w d e

-- a word with one test fails where it isn't there or is refused
pub tested_fails : (Breaks : ℕ → ObjectCause → Type 0) (bad : ℕ → Bool) (cause : ObjectCause) (c : Cursor) (f : ObjectFault)
    → ((w : ℕ) → bad w ≡ true → f.cause ≡ cause → Breaks w f.cause)
    → (word c >>= λ v. cond (bad v.0) (fault cause c.place) (Ok v)) ≡ Err f → Told (WordFault Breaks) c.place c.left f
tested_fails Breaks bad cause c f breaks e =
    elim (bind_err (word c) (λ v. cond (bad v.0) (fault cause c.place) (Ok v)) f e) [
      | inl ends ↦ word_fails Breaks c f ends
      | inr there ↦ elim (tested (bad there.0.0) cause c.place (Ok there.0) f there.2) [
        | inl refused ↦ word_breaks Breaks c there.0.0 there.0.1 f there.1 (breaks there.0.0 refused.0 refused.1) refused.2
        | inr passes ↦ absurd (let no = passes.1 in cc)
      ]
    ]

pub key_fails : {A : Type 0} (key : A → ℕ) (earlier : List A) (c : Cursor) (f : ObjectFault) → own_key key earlier c ≡ Err f → Told (WordFault (KeyBreaks key earlier)) c.place c.left f
unfolding own_key
key_fails {A} key earlier c f e =
    tested_fails (KeyBreaks key earlier) (λ v. list_any (λ (r : A). eqb (key r) v) earlier) RepeatedNode c f
    (λ w refused cause. (cause, λ own. clash _ refused (new_is_free key earlier w own))) e

pub keyed_fails : {A B : Type 0} (key : A → ℕ) (n : ℕ) (earlier : List A) (c : Cursor) (k : ℕ × Cursor → Step B) (f : ObjectFault)
    → ((w : ℕ) (d : Cursor) → k (w, d) ≡ Err f → Told (WordsEnd n) d.place d.left f)
    → (own_key key earlier c >>= k) ≡ Err f → Told (KeyedFault key n earlier) c.place c.left f
keyed_fails key n earlier c k f next e =
    elim (bind_err (own_key key earlier c) k f e) [
      | inl own ↦ let told = key_fails key earlier c f own in (told.0, told.1, inl told.2)
      | inr there ↦
          let w = there.0.0 in
          let d = there.0.1 in
          let takes = own_key_takes key earlier c w d there.1 in
          let told = later (w ∷ []) (WordsEnd n) c d f (key_steady key earlier c w d there.1) takes.0 (next w d there.2) in
          (told.0, told.1, inr (w, takes.1, told.2))
    ]

-- ---- records

-- what reading a record tells
pub record IsTelling {A : Type 0} (one : List A → Cursor → Step A) (Broken : List A → Fault) : Type 0 where
  pub steady : (earlier : List A) (c : Cursor) (x : A) (d : Cursor) → one earlier c ≡ Ok (x, d) → Steady c d
  pub fails : (earlier : List A) (c : Cursor) (f : ObjectFault) → one earlier c ≡ Err f → Told (Broken earlier) c.place c.left f

-- the records that were read before the one that failed
record Stopped {A : Type 0} (one : List A → Cursor → Step A) (n : ℕ) (earlier : List A) (c : Cursor) (f : ObjectFault) : Type 0 where
  pub count : ℕ
  pub all : List A
  pub at : Cursor
  pub fewer : count < n
  pub read : records one count earlier c ≡ Ok (all, at)
  pub fails : one all at ≡ Err f

module _ {A : Type 0} (one : List A → Cursor → Step A) (spell : A → List ℕ) (Own : A → Type 0) (Apart : A → A → Type 0) (Broken : List A → Fault) (reader : IsReader one spell Own Apart) (telling : IsTelling one Broken) where
  stopped : (n : ℕ) (earlier : List A) (c : Cursor) (f : ObjectFault) → records one n earlier c ≡ Err f → Stopped one n earlier c f
  unfolding records
  stopped zero earlier c f e = absurd cc
  stopped (suc n) earlier c f e =
      elim (bind_err (one earlier c) (λ r. records one n (earlier ++ r.0 ∷ []) r.1) f e) [
        | inl own ↦ record { count = zero; all = earlier; at = c; fewer = omega arith; read = refl; fails = own }
        | inr there ↦
            let after = stopped n (earlier ++ there.0.0 ∷ []) there.0.1 f there.2 in
            record { count = suc after.count; all = after.all; at = after.at; fewer = omega (arith, after.fewer); read = rw there.1 after.read; fails = after.fails }
      ]

  pub records_steady : (n : ℕ) (earlier : List A) (c : Cursor) (all : List A) (d : Cursor) → records one n earlier c ≡ Ok (all, d) → Steady c d
  unfolding records
  records_steady zero earlier c all d e = let is = ok_is (earlier, c) (all, d) e in ap (λ (p : List A × Cursor). p.1.place + length p.1.left) is
  records_steady (suc n) earlier c all d e =
      let a = bind_ok (one earlier c) (λ r. records one n (earlier ++ r.0 ∷ []) r.1) (all, d) e in
      telling.steady earlier c a.0.0 a.0.1 a.1 ∙ records_steady n (earlier ++ a.0.0 ∷ []) a.0.1 all d a.2

  pub records_fails : (n : ℕ) (c : Cursor) (f : ObjectFault) → records one n [] c ≡ Err f → Told (RecordsFault spell Own Apart Broken n) c.place c.left f
  records_fails n c f e =
      let stop = stopped n [] c f e in
      let taken = records_take one spell Own Apart reader stop.count [] c stop.all stop.at (All-nil Own) (no_pairs Apart) stop.read in
      let body : c.left ≡ flat_map spell stop.all ++ stop.at.left = taken.words ∙ ap (λ (l : List A). flat_map spell l ++ stop.at.left) (sym taken.is) in
      let told = later (flat_map spell stop.all) (Broken stop.all) c stop.at f (records_steady stop.count [] c stop.all stop.at stop.read) body (telling.fails stop.all stop.at f stop.fails) in
      (told.0, told.1, (stop.all, omega (arith, stop.fewer, ap length taken.is, taken.count), taken.own, taken.apart, told.2))

  pub counted_steady : (c : Cursor) (xs : List A) (d : Cursor) → counted_records one c ≡ Ok (xs, d) → Steady c d
  unfolding counted_records
  counted_steady c xs d e =
      let n = bind_ok (word c) (λ n. records one n.0 [] n.1) (xs, d) e in
      word_steady c n.0.0 n.0.1 n.1 ∙ records_steady n.0.0 [] n.0.1 xs d n.2

  pub counted_fails : (c : Cursor) (f : ObjectFault) → counted_records one c ≡ Err f → Told (CountedFault spell Own Apart Broken) c.place c.left f
  unfolding counted_records
  counted_fails c f e =
      elim (bind_err (word c) (λ n. records one n.0 [] n.1) f e) [
        | inl ends ↦ let told = word_fails Free c f ends in (told.0, told.1, inl told.2)
        | inr there ↦
            let n = there.0.0 in
            let d = there.0.1 in
            let told = later (n ∷ []) (RecordsFault spell Own Apart Broken n) c d f (word_steady c n d there.1) (word_takes c n d there.1) (records_fails n d f there.2) in
            (told.0, told.1, inr (n, told.2))
      ]
