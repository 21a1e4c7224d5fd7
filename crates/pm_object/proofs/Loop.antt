-- A loop over a count: what was read, and reading what is left, is reading all.
use Rattle.std.proofs.Common.{◌≡◌, ℕ, suc, ◌+◌, ◌-◌, ◌<◌, ◌≤◌, List, [], ◌∷◌, ◌++◌, Ok, Err, refl, sym, ◌∙◌, arith}
use Rattle.pm_object.specs.declared.object.DecodeError.{DecodeError}
use Rattle.pm_object.specs.declared.object.DecodeError.TheVariants.{Bad, Memory}
use Rattle.pm_object.specs.declared.object.Object.{Object}
use Rattle.pm_object.specs.Answers.{FailsAs}
use Rattle.pm_object.specs.Reading.{Cursor, Step, ◌>>=◌, fault_in, records, section, sections}

-- a step that fails, fails what goes on from it
fails_on : {A B : Type 0} (e : DecodeError) (r : Step A) (f : A × Cursor → Step B) (total : Step B) → (r >>= f) ≡ total → FailsAs fault_in e r → FailsAs fault_in e total
fails_on (Memory e) r f total all is = tt
fails_on (Bad fault) r f total all is =
    let bad : r ≡ Err fault = is in
    let failed : (r >>= f) ≡ Err fault = rw bad refl in
    sym all ∙ failed

-- ---- records

pub records_go_on : {A : Type 0} (one : List A → Cursor → Step A) (count i : ℕ) (earlier : List A) (c d : Cursor) (x : A) (total : Step (List A)) → i < count
    → records one (count - i) earlier c ≡ total → one earlier c ≡ Ok (x, d) → records one (count - (i + 1)) (earlier ++ x ∷ []) d ≡ total
unfolding records
records_go_on one count i earlier c d x total lt so_far is =
    let k : count - i ≡ suc (count - (i + 1)) = omega arith in
    let all : records one (count - i) earlier c ≡ records one (count - (i + 1)) (earlier ++ x ∷ []) d = rw (k, is) refl in
    sym all ∙ so_far

pub records_fail : {A : Type 0} (one : List A → Cursor → Step A) (e : DecodeError) (count i : ℕ) (earlier : List A) (c : Cursor) (total : Step (List A)) → i < count
    → records one (count - i) earlier c ≡ total → FailsAs fault_in e (one earlier c) → FailsAs fault_in e total
unfolding records
records_fail one e count i earlier c total lt so_far is =
    let k : count - i ≡ suc (count - (i + 1)) = omega arith in
    let all : records one (suc (count - (i + 1))) earlier c ≡ total = rw k at so_far in
    fails_on e (one earlier c) _ total all is

pub records_end : {A : Type 0} (one : List A → Cursor → Step A) (count i : ℕ) (earlier : List A) (c : Cursor) (total : Step (List A)) → count ≤ i
    → records one (count - i) earlier c ≡ total → total ≡ Ok (earlier, c)
unfolding records
records_end one count i earlier c total le so_far =
    let k : count - i ≡ 0 = omega arith in
    let all : records one (count - i) earlier c ≡ Ok (earlier, c) = rw k refl in
    sym so_far ∙ all

-- ---- sections

pub sections_go_on : (count i : ℕ) (o p : Object) (c d : Cursor) (total : Step Object) → i < count
    → sections (count - i) o c ≡ total → section o c ≡ Ok (p, d) → sections (count - (i + 1)) p d ≡ total
unfolding sections
sections_go_on count i o p c d total lt so_far is =
    let k : count - i ≡ suc (count - (i + 1)) = omega arith in
    let all : sections (count - i) o c ≡ sections (count - (i + 1)) p d = rw (k, is) refl in
    sym all ∙ so_far

pub sections_fail : (e : DecodeError) (count i : ℕ) (o : Object) (c : Cursor) (total : Step Object) → i < count
    → sections (count - i) o c ≡ total → FailsAs fault_in e (section o c) → FailsAs fault_in e total
unfolding sections
sections_fail e count i o c total lt so_far is =
    let k : count - i ≡ suc (count - (i + 1)) = omega arith in
    let all : sections (suc (count - (i + 1))) o c ≡ total = rw k at so_far in
    fails_on e (section o c) _ total all is

pub sections_end : (count i : ℕ) (o : Object) (c : Cursor) (total : Step Object) → count ≤ i
    → sections (count - i) o c ≡ total → total ≡ Ok (o, c)
unfolding sections
sections_end count i o c total le so_far =
    let k : count - i ≡ 0 = omega arith in
    let all : sections (count - i) o c ≡ Ok (o, c) = rw k refl in
    sym so_far ∙ all
