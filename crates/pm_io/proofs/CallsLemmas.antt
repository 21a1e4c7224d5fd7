-- Readings of names one after another, and how one goes on.
use Rattle.std.proofs.Common.{◌≡◌, ◌≢◌, ◌⊎◌, ◌==◌, ◌||◌, nat_lt, inl, inr, ◌<◌, ◌≤◌, ◌+◌, ◌-◌, ℕ, zero, suc, List, [], ◌∷◌, ◌++◌, length, map, refl, sym, ◌∙◌, ap, arith, subst, Bool, true, false, Some, None, append_assoc}
use Rattle.std.proofs.lemmas.Bool.{false≢true}
use Rattle.std.proofs.lemmas.Bool.Decides.{Decides-eqb, nat_tests}
use Rattle.pm_io.specs.Calls.{AnsweredBelow, Call, Begin, Read, GoesOn, Named, ReadsEach, ReadsOn, ReadsOut, ReadsToFault, ReadsWhole, begun, is_answered, mended}

pub each_append : (first second : List Named) (one two : List Call) → ReadsEach first one → ReadsEach second two → ReadsEach (first ++ second) (one ++ two)
each_append [] second one two a b = subst (λ (calls : List Call). ReadsEach second (calls ++ two)) (sym a) b
each_append (n ∷ first) second one two a b =
    (a.0, a.1 ++ two, ap (λ (calls : List Call). calls ++ two) a.2 ∙ append_assoc a.0 a.1 two, a.3, each_append first second a.1 two a.4 b)

pub each_on : (first second : List Named) (one two : List Call) → ReadsEach first one → ReadsOn second two → ReadsOn (first ++ second) (one ++ two)
each_on first second one two a b =
    (b.0, subst (λ (calls : List Call). ReadsEach (first ++ second) calls) (sym (append_assoc one two b.0)) (each_append first second one (two ++ b.0) a b.1))

pub each_fault : (first second : List Named) (one two : List Call) → ReadsEach first one → ReadsToFault second two → ReadsToFault (first ++ second) (one ++ two)
each_fault first second one two a b = record {
  front = one ++ b.front;
  last = b.last;
  is = ap (λ (calls : List Call). one ++ calls) b.is ∙ sym (append_assoc one b.front (b.last ∷ []));
  failed = b.failed;
  on = subst (λ (calls : List Call). ReadsOn (first ++ second) calls) (sym (append_assoc one b.front (mended b.last ∷ []))) (each_on first second one (b.front ++ mended b.last ∷ []) a b.on);
}

pub begun_append : (one two : List Call) → begun (one ++ two) ≡ begun one ++ begun two
begun_append [] two = refl
begun_append (Begin name None ∷ one) two = begun_append one two
begun_append (Begin name (Some id) ∷ one) two = ap (λ (names : List (List ℕ)). name ∷ names) (begun_append one two)
begun_append (Read id answer ∷ one) two = begun_append one two

pub begun_out : (id left : ℕ) (calls : List Call) → ReadsOut id left calls → begun calls ≡ []
begun_out id left [] r = refl
begun_out id left (Begin name answer ∷ calls) r = absurd r
begun_out id left (Read other None ∷ calls) r = absurd r
begun_out id left (Read other (Some []) ∷ calls) r = ap (λ (calls : List Call). begun calls) r.2
begun_out id left (Read other (Some (byte ∷ bytes)) ∷ calls) r = begun_out id (left - length (byte ∷ bytes)) calls r.2

pub begun_whole : (n : Named) (calls : List Call) → ReadsWhole n calls → begun calls ≡ n.name ∷ []
begun_whole n [] r = absurd r
begun_whole n (Begin name None ∷ calls) r = absurd r
begun_whole n (Begin name (Some id) ∷ calls) r =
    ap (λ (x : List ℕ). x ∷ begun calls) r.0 ∙ ap (λ (xs : List (List ℕ)). n.name ∷ xs) (begun_out id (n.limit + 1) calls r.1)
begun_whole n (Read id answer ∷ calls) r = absurd r

pub begun_each : (names : List Named) (calls : List Call) → ReadsEach names calls → begun calls ≡ map (λ (n : Named). n.name) names
begun_each [] calls r = ap (λ (calls : List Call). begun calls) r
begun_each (n ∷ names) calls r =
    ap (λ (calls : List Call). begun calls) r.2 ∙ begun_append r.0 r.1
    ∙ ap (λ (xs : List (List ℕ)). xs ++ begun r.1) (begun_whole n r.0 r.3) ∙ ap (λ (xs : List (List ℕ)). n.name ∷ xs) (begun_each names r.1 r.4)

pub took_on : (id left : ℕ) (bytes : List ℕ) (calls : List Call) → 0 < length bytes → length bytes ≤ left → GoesOn id (left - length bytes) false calls → GoesOn id left false (Read id (Some bytes) ∷ calls)
took_on id left [] calls some few on = let clash : ⊥ = omega (arith, some) in absurd clash
took_on id left (byte ∷ bytes) calls some few on = (refl, few, on)

pub can_end : (id left : ℕ) (ended : Bool) → (calls : List Call) × GoesOn id left ended calls
can_end id left true = ([], refl)
can_end id zero false = ([], refl)
can_end id (suc left) false = (Read id (Some []) ∷ [], (refl, omega arith, refl))

pub took_none : (id left : ℕ) (calls : List Call) → 0 < left → GoesOn id left true calls → GoesOn id left false (Read id (Some []) ∷ calls)
took_none id left calls some over = (refl, some, over)

-- ---- numbers that were answered

or_regrouped : (a b c : Bool) → (a || (b || c)) ≡ ((a || b) || c)
or_regrouped true b c = refl
or_regrouped false b c = refl

pub answered_append : (id : ℕ) (one two : List Call) → is_answered id (one ++ two) ≡ (is_answered id one || is_answered id two)
answered_append id [] two = refl
answered_append id (Begin name None ∷ one) two = answered_append id one two
answered_append id (Begin name (Some number) ∷ one) two =
    ap (λ (b : Bool). (number == id) || b) (answered_append id one two) ∙ or_regrouped (number == id) (is_answered id one) (is_answered id two)
answered_append id (Read other answer ∷ one) two = answered_append id one two

-- what was answered stays so
pub answered_still : (id : ℕ) (one two : List Call) → is_answered id one ≡ true → is_answered id (one ++ two) ≡ true
answered_still id one two was = answered_append id one two ∙ ap (λ (b : Bool). b || is_answered id two) was

pub answered_last : (id : ℕ) (name : List ℕ) (calls : List Call) → is_answered id (calls ++ Begin name (Some id) ∷ []) ≡ true
answered_last id name calls =
    answered_append id calls (Begin name (Some id) ∷ []) ∙ ap (λ (b : Bool). is_answered id calls || (b || false)) ((Decides-eqb id id).1 refl) ∙ either (is_answered id calls)
  where
    either : (b : Bool) → (b || true) ≡ true
    either true = refl
    either false = refl

pub below_still : (count : ℕ) (calls : List Call) (call : Call) → AnsweredBelow count calls → AnsweredBelow count (calls ++ call ∷ [])
below_still count calls call below = λ id within. answered_still id calls (call ∷ []) (below id within)

pub below_next : (count : ℕ) (name : List ℕ) (calls : List Call) → AnsweredBelow count calls → AnsweredBelow (count + 1) (calls ++ Begin name (Some count) ∷ [])
below_next count name calls below = λ id within. by id within (same_or_other id)
  where
    same_or_other : (id : ℕ) → (id ≡ count) ⊎ (id ≢ count)
    same_or_other id = split (id == count) refl
      where
        split : (b : Bool) → (id == count) ≡ b → (id ≡ count) ⊎ (id ≢ count)
        split true is = inl ((Decides-eqb id count).0 is)
        split false is = inr (λ same. false≢true (sym is ∙ (Decides-eqb id count).1 same))

    by : (id : ℕ) → id < count + 1 → (id ≡ count) ⊎ (id ≢ count) → is_answered id (calls ++ Begin name (Some count) ∷ []) ≡ true
    by id within (inl same) = subst (λ (n : ℕ). is_answered n (calls ++ Begin name (Some count) ∷ []) ≡ true) (sym same) (answered_last count name calls)
    by id within (inr other) = answered_still id calls (Begin name (Some count) ∷ []) (below id (omega (arith, within, other)))

pub unanswered_past : (count id : ℕ) (calls : List Call) → AnsweredBelow count calls → is_answered id calls ≡ false → count ≤ id
unanswered_past count id calls below un = split (nat_lt id count) refl
  where
    split : (b : Bool) → nat_lt id count ≡ b → count ≤ id
    split true is = absurd (false≢true (sym un ∙ below id (grind (arith, nat_tests))))
    split false is = grind (arith, nat_tests)
