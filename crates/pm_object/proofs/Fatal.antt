-- No bytes that agree with others up to the end of their first fault's word can be read.
use Rattle.std.proofs.Common.{◌≡◌, ℕ, zero, suc, ◌+◌, ◌*◌, ◌/◌, ◌%◌, ◌<◌, ◌≤◌, Bool, true, false, cond, not, eqb, ltb, List, [], ◌∷◌, ◌++◌, length, take, Some, Result, Ok, Err, ◌⊎◌, inl, inr, refl, sym, ap, subst, ◌∙◌, arith, length-take, length-append}
use Rattle.std.proofs.lemmas.Bool.{ltb-false, ltb-true}
use Rattle.std.proofs.lemmas.List.{take_all}
use Rattle.std.specs.Int.{w32, from_le_bytes}
use Rattle.pm_object.specs.declared.header.Header.{Header}
use Rattle.pm_object.specs.declared.object.Object.{Object}
use Rattle.pm_object.specs.declared.object.ObjectCause.TheVariants.{TooLong, Length, NoMasters, Trailing}
use Rattle.pm_object.specs.declared.object.ObjectFault.{ObjectFault}
use Rattle.pm_object.specs.declared.object.DecodeError.{DecodeError}
use Rattle.pm_object.specs.declared.object.DecodeError.TheVariants.{Bad}
use Rattle.pm_object.specs.Bodies.{unset}
use Rattle.pm_object.specs.Grammar.{Reads, most_words}
use Rattle.pm_object.specs.Reading.{Cursor, Step, ◌>>=◌, fault, header, sections, object, words, reading, fault_of, first_fault, Gives, IsFatal}
use Rattle.pm_object.proofs.Local.{Agree, Past, Follows}
use Rattle.pm_object.proofs.LocalReaders.{IsLocal-header, IsLocal-sections}
use Rattle.pm_object.proofs.Steps.{passed}
use Rattle.pm_object.proofs.ReadObject.{ended, reads_what_is_written}

-- ---- from the words

-- the end of an object after its sections
abbrev ending : Object × Cursor → Result Object ObjectFault
ending p = cond (eqb (length p.1.left) 0) (Ok p.0) (fault Trailing p.1.place)

-- the sections of a header, and the end after them
abbrev later_part : Header → Cursor → Result Object ObjectFault
later_part h c = cond (eqb h.sections 0) (fault NoMasters c.place) (sections h.sections (unset h.extra) c >>= ending)

trailing_at : (b : Bool) (place : ℕ) (o : Object) (f : ObjectFault) → cond b (Ok o) (fault Trailing place) ≡ Err f → f.offset ≡ place
trailing_at true place o f bad = cc
trailing_at false place o f bad = cc

ending_past : (n : ℕ) (a : Step Object) (f : ObjectFault) → Past n a → (a >>= ending) ≡ Err f → n ≤ f.offset
ending_past n (Ok p) f past bad = omega (arith, trailing_at (eqb (length p.1.left) 0) p.1.place p.0 f bad)
ending_past n (Err g) f past bad = let same : g.offset ≡ f.offset = cc in omega arith

ending_fatal : (n : ℕ) (a b : Step Object) (p : Object) (f : ObjectFault) → Follows n a b → (a >>= ending) ≡ Err f → (b >>= ending) ≡ Ok p → n ≤ f.offset
ending_fatal n a (Err g) p f follows bad good = cc
ending_fatal n (Err g) (Ok q) p f follows bad good = let same : g.offset ≡ f.offset = cc in omega arith
ending_fatal n (Ok r) (Ok q) p f (inr later) bad good = ending_past n (Ok r) f later bad
ending_fatal n (Ok r) (Ok q) p f (inl same) bad good =
    let agree = same.1 in
    let none : q.1.left ≡ [] = (ended q.1.left q.1.place q.0 p good).0 in
    omega (arith, agree.ends, ap length (sym agree.others ∙ none), length-append agree.front agree.other, trailing_at (eqb (length r.1.left) 0) r.1.place r.0 f bad)

later_past : (n : ℕ) (h : Header) (c : Cursor) (f : ObjectFault) → n < c.place → later_part h c ≡ Err f → n ≤ f.offset
later_past n h c f later bad = at (eqb h.sections 0) bad
  where
    at : (b : Bool) → cond b (fault NoMasters c.place) (sections h.sections (unset h.extra) c >>= ending) ≡ Err f → n ≤ f.offset
    at true is = let same : c.place ≡ f.offset = cc in omega arith
    at false is = ending_past n (sections h.sections (unset h.extra) c) f ((IsLocal-sections h.sections (unset h.extra)).past n c later) is

later_fatal : (n : ℕ) (h : Header) (c d : Cursor) (p : Object) (f : ObjectFault) → Agree n c d → later_part h c ≡ Err f → later_part h d ≡ Ok p → n ≤ f.offset
later_fatal n h c d p f agree bad good = at (eqb h.sections 0) bad good
  where
    at : (b : Bool) → cond b (fault NoMasters c.place) (sections h.sections (unset h.extra) c >>= ending) ≡ Err f → cond b (fault NoMasters d.place) (sections h.sections (unset h.extra) d >>= ending) ≡ Ok p → n ≤ f.offset
    at true is are = cc
    at false is are = ending_fatal n (sections h.sections (unset h.extra) c) (sections h.sections (unset h.extra) d) p f ((IsLocal-sections h.sections (unset h.extra)).follows n c d agree) is are

header_fatal : (n : ℕ) (a b : Step Header) (p : Object) (f : ObjectFault) → Follows n a b → (a >>= λ h. later_part h.0 h.1) ≡ Err f → (b >>= λ h. later_part h.0 h.1) ≡ Ok p → n ≤ f.offset
header_fatal n a (Err g) p f follows bad good = cc
header_fatal n (Err g) (Ok q) p f follows bad good = let same : g.offset ≡ f.offset = cc in omega arith
header_fatal n (Ok r) (Ok q) p f (inr later) bad good = later_past n r.0 r.1 f later bad
header_fatal n (Ok r) (Ok q) p f (inl same) bad good = later_fatal n r.0 r.1 q.1 p f same.1 bad (subst (λ h. later_part h q.1 ≡ Ok p) (sym same.0) good)

object_fatal : (n : ℕ) (c d : Cursor) (p : Object) (f : ObjectFault) → Agree n c d → object c ≡ Err f → object d ≡ Ok p → n ≤ f.offset
unfolding object
object_fatal n c d p f agree bad good = header_fatal n (header c) (header d) p f (IsLocal-header.follows n c d agree) bad good

-- ---- from the bytes

-- words that are the same at the front
record Fronts (n : ℕ) (bytes other : List ℕ) : Type 0 where
  pub front : List ℕ
  pub rest : List ℕ
  pub later : List ℕ
  pub these : words bytes ≡ front ++ rest
  pub others : words other ≡ front ++ later
  pub long : length front ≡ n

fronts : (n : ℕ) (bytes other : List ℕ) → 4 * n ≤ length bytes → take (4 * n) other ≡ take (4 * n) bytes → Fronts n bytes other
unfolding words
fronts zero bytes other long same = record { front = []; rest = words bytes; later = words other; these = refl; others = refl; long = refl }
fronts (suc n) bytes other long same =
    let more : 4 * suc n ≡ suc (suc (suc (suc (4 * n)))) = omega arith in
    four bytes other (omega arith) (subst (λ m. take m other ≡ take m bytes) more same) (λ bs os enough alike. fronts n bs os enough alike)
  where
    four : (bytes other : List ℕ) → suc (suc (suc (suc (4 * n)))) ≤ length bytes → take (suc (suc (suc (suc (4 * n))))) other ≡ take (suc (suc (suc (suc (4 * n))))) bytes
        → ((bs os : List ℕ) → 4 * n ≤ length bs → take (4 * n) os ≡ take (4 * n) bs → Fronts n bs os) → Fronts (suc n) bytes other
    four [] other long same next = absurd (omega arith)
    four (a ∷ []) other long same next = absurd (omega arith)
    four (a ∷ b ∷ []) other long same next = absurd (omega arith)
    four (a ∷ b ∷ c ∷ []) other long same next = absurd (omega arith)
    four (a ∷ b ∷ c ∷ d ∷ bs) [] long same next = cc
    four (a ∷ b ∷ c ∷ d ∷ bs) (e ∷ []) long same next = cc
    four (a ∷ b ∷ c ∷ d ∷ bs) (e ∷ f ∷ []) long same next = cc
    four (a ∷ b ∷ c ∷ d ∷ bs) (e ∷ f ∷ g ∷ []) long same next = cc
    four (a ∷ b ∷ c ∷ d ∷ bs) (e ∷ f ∷ g ∷ h ∷ os) long same next =
        let alike : take (4 * n) os ≡ take (4 * n) bs = cc in
        let later = next bs os (omega arith) alike in
        let word : from_le_bytes w32 (a ∷ b ∷ c ∷ d ∷ []) ≡ from_le_bytes w32 (e ∷ f ∷ g ∷ h ∷ []) =
        let w : a ≡ e = cc in let x : b ≡ f = cc in let y : c ≡ g = cc in let z : d ≡ h = cc in rw (w, x, y, z) refl in
        record {
          front = from_le_bytes w32 (a ∷ b ∷ c ∷ d ∷ []) ∷ later.front;
          rest = later.rest;
          later = later.later;
          these = ap (λ ws. from_le_bytes w32 (a ∷ b ∷ c ∷ d ∷ []) ∷ ws) later.these;
          others = rw (← word) (ap (λ ws. from_le_bytes w32 (a ∷ b ∷ c ∷ d ∷ []) ∷ ws) later.others);
          long = ap suc later.long;
        }

-- which fault it is
read_fault : (a b : Bool) (length : ℕ) (read : Result Object ObjectFault) (f : ObjectFault) → cond a (fault TooLong most_words) (cond b (fault Length length) read) ≡ Err f → (f.offset ≡ most_words) ⊎ (f.offset ≡ length) ⊎ (read ≡ Err f)
read_fault true b length read f bad = inl (cc)
read_fault false true length read f bad = inr (inl (cc))
read_fault false false length read f bad = inr (inr bad)

clash : (read : Result Object ObjectFault) (o : Object) (f : ObjectFault) → read ≡ Ok o → read ≡ Err f → ⊥
clash read o f good bad = cc

same_bytes : (n : ℕ) (bytes other : List ℕ) → length bytes < n → take n other ≡ take n bytes → other ≡ bytes
same_bytes n bytes other short same =
    let long : length other ≤ n = omega (arith, ap length same, length-take n other, length-take n bytes) in
    sym (take_all n other long) ∙ same ∙ take_all n bytes (omega arith)

fatal_where : (bytes other : List ℕ) (o : Object) (f : ObjectFault) → reading bytes ≡ Err f → Reads other o → take (4 * (f.offset + 1)) other ≡ take (4 * (f.offset + 1)) bytes → (b : Bool) → ltb (length bytes) (4 * (f.offset + 1)) ≡ b → ⊥
unfolding reading
fatal_where bytes other o f bad reads same true short =
    let alike = same_bytes (4 * (f.offset + 1)) bytes other (ltb-true _ _ short) same in
    clash (reading bytes) o f (subst (λ xs. reading xs ≡ Ok o) alike (reads_what_is_written other o reads)) bad
fatal_where bytes other o f bad reads same false enough =
    let good = reads_what_is_written other o reads in
    let long : 4 * (f.offset + 1) ≤ length bytes = ltb-false _ _ enough in
    let not_long = passed (ltb 16384 (length other)) TooLong 4096 _ o good in
    let whole = passed (not (eqb (length other % 4) 0)) Length _ _ o not_long.1 in
    let few : length other ≤ 16384 = ltb-false 16384 (length other) not_long.0 in
    let fits : 4 * (f.offset + 1) ≤ length other = omega (arith, ap length same, length-take (4 * (f.offset + 1)) other, length-take (4 * (f.offset + 1)) bytes) in
    elim (read_fault (ltb 16384 (length bytes)) (not (eqb (length bytes % 4) 0)) (length bytes / 4) (object (record { place = 0; left = words bytes })) f bad) [
      | inl past ↦ omega arith
      | inr other_fault ↦ elim other_fault [
        | inl part ↦ omega arith
        | inr within ↦
            let alike = fronts (f.offset + 1) bytes other long same in
            let agree : Agree (f.offset + 1) (record { place = 0; left = words bytes }) (record { place = 0; left = words other }) =
            record { front = alike.front; rest = alike.rest; other = alike.later; left = alike.these; others = alike.others; place = refl; ends = omega (arith, alike.long) } in
            omega (arith, object_fatal (f.offset + 1) _ _ o f agree within whole.1)
      ]
    ]

pub is_fatal : (bytes : List ℕ) (f : ObjectFault) → reading bytes ≡ Err f → IsFatal bytes f
is_fatal bytes f bad other o same reads = fatal_where bytes other o f bad reads same (ltb (length bytes) (4 * (f.offset + 1))) refl

fault_is : (read : Result Object ObjectFault) (f : ObjectFault) → fault_of read ≡ Some f → read ≡ Err f
fault_is (Ok o) f is = cc
fault_is (Err g) f is = cc

pub first_is_fatal : (bytes : List ℕ) (f : ObjectFault) → first_fault bytes ≡ Some f → IsFatal bytes f
first_is_fatal bytes f first = is_fatal bytes f (fault_is (reading bytes) f first)

-- ---- what decode answers

pub is_unreadable : (bytes : List ℕ) (r : Result Object DecodeError) (f : ObjectFault) → Gives r (reading bytes) → r ≡ Err (Bad f) → (o : Object) → Reads bytes o → ⊥
is_unreadable bytes r f given is o reads =
    let bad : reading bytes ≡ Err f = subst (λ (s : Result Object DecodeError). Gives s (reading bytes)) is given in
    clash (reading bytes) o f (reads_what_is_written bytes o reads) bad

pub is_fatal_fault : (bytes : List ℕ) (r : Result Object DecodeError) (f : ObjectFault) → Gives r (reading bytes) → r ≡ Err (Bad f) → IsFatal bytes f
is_fatal_fault bytes r f given is = is_fatal bytes f (subst (λ (s : Result Object DecodeError). Gives s (reading bytes)) is given)
