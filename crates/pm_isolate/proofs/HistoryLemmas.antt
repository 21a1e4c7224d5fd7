-- A history follows from its transitions: two histories differ somewhere exactly if their transitions do.
use Rattle.std.proofs.Common.{◌≡◌, ◌≢◌, ℕ, ◌+◌, ◌<◌, ◌==◌, ◌&&◌, ◌||◌, Bool, true, false, not, if◌then◌else◌, List, [], ◌∷◌, length, refl, sym, ◌∙◌, ap, subst, arith}
use Rattle.std.proofs.lemmas.Bool.Decides.{Decides-eqb}
use Rattle.pm_base.specs.declared.names.Unit.{Unit}
use Rattle.pm_base.proofs.Booleans.{both, equal, unequal}
use Rattle.pm_run.specs.Run.{Line}
use Rattle.pm_isolate.specs.Transitions.{Transition, changes, differs, same_transition, same_transitions, transitions}

-- at some place of two histories there are two values
abbrev pub parts : List ℕ → List ℕ → Bool
parts [] ys = false
parts (x ∷ xs) [] = false
parts (x ∷ xs) (y ∷ ys) = not (x == y) || parts xs ys

pub one : (x y : ℕ) → (x == y) ≡ true → x ≡ y
one x y is = (Decides-eqb x y).0 is

pub clash : {X : Type 0} → true ≡ false → X
clash e = absurd cc

-- ---- a transition isn't one of those that come later

later_left_by : (t : Transition) (ts more : List Transition) (next : Transition) (b : Bool) → (t.step == next.step) ≡ false → same_transitions (t ∷ ts) more ≡ false → same_transitions (t ∷ ts) (if b then more else next ∷ more) ≡ false
later_left_by t ts more next true other rest = rest
later_left_by t ts more next false other rest = ap (λ (c : Bool). (c && ((t.before == next.before) && (t.after == next.after))) && same_transitions ts more) other

later_left : (n m v : ℕ) (t : Transition) (ts : List Transition) (xs : List ℕ) → t.step ≡ n → n < m → same_transitions (t ∷ ts) (changes m v xs) ≡ false
later_left n m v t ts [] is before = refl
later_left n m v t ts (x ∷ xs) is before =
    let other : t.step ≢ m = omega arith in
    later_left_by t ts (changes (m + 1) x xs) (record { step = m; before = v; after = x }) (v == x) (unequal t.step m other) (later_left n (m + 1) x t ts xs is (omega arith))

later_right_by : (t : Transition) (ts more : List Transition) (next : Transition) (b : Bool) → (next.step == t.step) ≡ false → same_transitions more (t ∷ ts) ≡ false → same_transitions (if b then more else next ∷ more) (t ∷ ts) ≡ false
later_right_by t ts more next true other rest = rest
later_right_by t ts more next false other rest = ap (λ (c : Bool). (c && ((next.before == t.before) && (next.after == t.after))) && same_transitions more ts) other

later_right : (n m v : ℕ) (t : Transition) (ts : List Transition) (xs : List ℕ) → t.step ≡ n → n < m → same_transitions (changes m v xs) (t ∷ ts) ≡ false
later_right n m v t ts [] is before = refl
later_right n m v t ts (x ∷ xs) is before =
    let other : m ≢ t.step = omega arith in
    later_right_by t ts (changes (m + 1) x xs) (record { step = m; before = v; after = x }) (v == x) (unequal m t.step other) (later_right n (m + 1) x t ts xs is (omega arith))

-- ---- histories that begin alike

alike : (n v x y : ℕ) (b : Bool) → (x == y) ≡ b → ((n == n) && ((v == v) && (x == y))) ≡ b
alike n v x y b is =
    ap (λ (c : Bool). c && ((v == v) && (x == y))) (equal n n refl) ∙ ap (λ (c : Bool). c && (x == y)) (equal v v refl) ∙ is

tell_by : (n v x y : ℕ) (ts us : List Transition) (rest : Bool)
    → (x ≡ y → not (same_transitions ts us) ≡ rest)
    → same_transitions (record { step = n; before = v; after = x } ∷ ts) us ≡ false
    → same_transitions ts (record { step = n; before = v; after = y } ∷ us) ≡ false
    → (bx by bxy : Bool) → (v == x) ≡ bx → (v == y) ≡ by → (x == y) ≡ bxy
    → not (same_transitions (if bx then ts else record { step = n; before = v; after = x } ∷ ts) (if by then us else record { step = n; before = v; after = y } ∷ us)) ≡ (not bxy || rest)
tell_by n v x y ts us rest same left right true true true ex ey exy = same (one x y exy)
tell_by n v x y ts us rest same left right true true false ex ey exy =
    clash (sym (equal x y (sym (one v x ex) ∙ one v y ey)) ∙ exy)
tell_by n v x y ts us rest same left right true false true ex ey exy =
    clash (sym (equal v y (one v x ex ∙ one x y exy)) ∙ ey)
tell_by n v x y ts us rest same left right true false false ex ey exy = ap not right
tell_by n v x y ts us rest same left right false true true ex ey exy =
    clash (sym (equal v x (one v y ey ∙ sym (one x y exy))) ∙ ex)
tell_by n v x y ts us rest same left right false true false ex ey exy = ap not left
tell_by n v x y ts us rest same left right false false true ex ey exy =
    ap (λ (c : Bool). not (c && same_transitions ts us)) (alike n v x y true exy) ∙ same (one x y exy)
tell_by n v x y ts us rest same left right false false false ex ey exy =
    ap (λ (c : Bool). not (c && same_transitions ts us)) (alike n v x y false exy)

pub parts_tell : (n v : ℕ) (xs ys : List ℕ) → length xs ≡ length ys → not (same_transitions (changes n v xs) (changes n v ys)) ≡ parts xs ys
parts_tell n v [] [] long = refl
parts_tell n v [] (y ∷ ys) long = absurd (omega arith)
parts_tell n v (x ∷ xs) [] long = absurd (omega arith)
parts_tell n v (x ∷ xs) (y ∷ ys) long =
    let shorter : length xs ≡ length ys = omega arith in
    tell_by n v x y (changes (n + 1) x xs) (changes (n + 1) y ys) (parts xs ys)
    (λ is. subst (λ (z : ℕ). not (same_transitions (changes (n + 1) x xs) (changes (n + 1) z ys)) ≡ parts xs ys) is (parts_tell (n + 1) x xs ys shorter))
    (later_left n (n + 1) y (record { step = n; before = v; after = x }) (changes (n + 1) x xs) ys refl (omega arith))
    (later_right n (n + 1) x (record { step = n; before = v; after = y }) (changes (n + 1) y ys) xs refl (omega arith))
    (v == x) (v == y) (x == y) refl refl refl

-- ---- the test of two lists of transitions

transition_is : (a b : Transition) → same_transition a b ≡ true → a ≡ b
transition_is a b same =
    let rest = (both (a.step == b.step) ((a.before == b.before) && (a.after == b.after)) same).1 in
    ap (λ (n : ℕ). record { step = n; before = a.before; after = a.after }) (one a.step b.step (both (a.step == b.step) ((a.before == b.before) && (a.after == b.after)) same).0)
    ∙ ap (λ (n : ℕ). record { step = b.step; before = n; after = a.after }) (one a.before b.before (both (a.before == b.before) (a.after == b.after) rest).0)
    ∙ ap (λ (n : ℕ). record { step = b.step; before = b.before; after = n }) (one a.after b.after (both (a.before == b.before) (a.after == b.after) rest).1)

same_is : (ts us : List Transition) → same_transitions ts us ≡ true → ts ≡ us
same_is [] [] same = refl
same_is [] (b ∷ us) same = clash (sym same)
same_is (a ∷ ts) [] same = clash (sym same)
same_is (a ∷ ts) (b ∷ us) same =
    ap (λ (t : Transition). t ∷ ts) (transition_is a b (both (same_transition a b) (same_transitions ts us) same).0)
    ∙ ap (λ (more : List Transition). b ∷ more) (same_is ts us (both (same_transition a b) (same_transitions ts us) same).1)

itself : (a : Transition) → same_transition a a ≡ true
itself a = alike a.step a.before a.after a.after true (equal a.after a.after refl)

same_itself : (ts : List Transition) → same_transitions ts ts ≡ true
same_itself [] = refl
same_itself (a ∷ ts) = ap (λ (c : Bool). c && same_transitions ts ts) (itself a) ∙ same_itself ts

pub not_false : (b : Bool) → not b ≡ false → b ≡ true
not_false true is = refl
not_false false is = sym is

not_true : (b : Bool) → not b ≡ true → b ≡ false
not_true true is = sym is
not_true false is = refl

pub differs_not : (first second : List Line) (unit : Unit) → differs first second unit ≡ false → transitions unit first ≡ transitions unit second
differs_not first second unit is =
    same_is (transitions unit first) (transitions unit second) (not_false (same_transitions (transitions unit first) (transitions unit second)) is)

pub differs_only : (first second : List Line) (unit : Unit) → differs first second unit ≡ true → transitions unit first ≡ transitions unit second → ⊥
differs_only first second unit is same =
    let other = not_true (same_transitions (transitions unit first) (transitions unit second)) is in
    clash (sym (subst (λ (ts : List Transition). same_transitions (transitions unit first) ts ≡ true) same (same_itself (transitions unit first))) ∙ other)
