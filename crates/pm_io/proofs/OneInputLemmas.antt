-- One input in memory: how it stands after a read, and that a place was begun.
use Rattle.std.proofs.Common.{◌≡◌, ◌≢◌, ◌==◌, if◌then◌else◌, ℕ, ◌+◌, ◌≤◌, Bool, true, false, List, [], ◌∷◌, ◌++◌, length, take, drop, Option, Some, None, refl, sym, ap, ◌∙◌, subst, arith}
use Rattle.std.proofs.lemmas.Bool.{false≢true}
use Rattle.std.proofs.lemmas.Bool.Decides.{Decides-eqb}
use Rattle.std.proofs.lemmas.Grind.{common_steps}
use Rattle.std.proofs.lemmas.List.{take-append-drop, drop-drop}
use Rattle.std.specs.Prelude.{⊤}
use Rattle.pm_io.specs.Calls.{Call, is_answered}
use Rattle.pm_io.specs.Inputs.{Advances, Took}
use Rattle.pm_io.specs.OneInput.{OneContent, WasBegun, input_at, moment_of, place_under}
use Rattle.pm_io.proofs.CallsLemmas.{answered_still}

-- a place under a number is that of the number 0
under_zero : (id place : ℕ) (at : Option ℕ) → place_under id at ≡ Some place → id ≡ 0
under_zero id place at under = by (id == 0) refl under
  where
    by : (b : Bool) → (id == 0) ≡ b → (if b then at else None) ≡ Some place → id ≡ 0
    by true is found = (Decides-eqb id 0).0 is
    by false is found = cc

under_other : (other : ℕ) (bytes : List ℕ) (one two : Option ℕ) → other ≢ 0 → input_at bytes (place_under other one) ≡ input_at bytes (place_under other two)
under_other other bytes one two apart = by (other == 0) refl
  where
    by : (b : Bool) → (other == 0) ≡ b → input_at bytes (if b then one else None) ≡ input_at bytes (if b then two else None)
    by true is = absurd (apart ((Decides-eqb other 0).0 is))
    by false is = refl

-- the bytes at its place were read under the number 0
read_on : (place count : ℕ) (bytes got : List ℕ) → count ≤ length (drop place bytes) → got ≡ take count (drop place bytes) → Advances (input_at bytes (Some place)) (input_at bytes (Some (place + count))) got
read_on place count bytes got few is = record {
  name = refl;
  file = refl;
  place = grind (arith, common_steps);
  taken = rw is (sym (take-append-drop count (drop place bytes)) ∙ ap (λ rest. take count (drop place bytes) ++ rest) (drop-drop count place bytes));
  not_past = tt;
}

pub one_taken : (id place count : ℕ) (got : List ℕ) (held : OneContent) → place_under id held.place ≡ Some place → count ≤ length (drop place held.bytes) → got ≡ take count (drop place held.bytes) → Took ⊤ id got (moment_of held) (moment_of (record held { place = Some (place + count) }))
one_taken id place count got held under few is =
    let zero_is = under_zero id place held.place under in
    let behind : place_under id (Some (place + count)) ≡ Some (place + count) = subst (λ (n : ℕ). place_under n (Some (place + count)) ≡ Some (place + count)) (sym zero_is) refl in
    record {
      later = omega arith;
      read = λ _. subst (λ (o : Option ℕ). Advances (input_at held.bytes o) (input_at held.bytes (place_under id (Some (place + count)))) got) (sym under)
          (subst (λ (n : Option ℕ). Advances (input_at held.bytes (Some place)) (input_at held.bytes n) got) (sym behind) (read_on place count held.bytes got few is));
      others = λ _ other apart. under_other other held.bytes (Some (place + count)) held.place (λ same. apart (same ∙ sym zero_is));
      files = λ _ name. refl;
      room = λ _. omega arith;
    }

-- ---- its begun place

pub begun_still : (place : Option ℕ) (calls : List Call) (call : Call) → WasBegun place calls → WasBegun place (calls ++ call ∷ [])
begun_still None calls call was = tt
begun_still (Some place) calls call was = answered_still 0 calls (call ∷ []) was

pub unbegun_place : (id : ℕ) (place : Option ℕ) (calls : List Call) → WasBegun place calls → is_answered id calls ≡ false → place_under id place ≡ None
unbegun_place id place calls was un = by (id == 0) refl
  where
    -- a place under the number 0 was begun, so that the number was answered
    begun : (place : Option ℕ) → WasBegun place calls → is_answered 0 calls ≡ false → place ≡ None
    begun None was un = refl
    begun (Some at) was un = absurd (false≢true (sym un ∙ was))

    by : (b : Bool) → (id == 0) ≡ b → (if b then place else None) ≡ None
    by true is = begun place was (subst (λ (n : ℕ). is_answered n calls ≡ false) ((Decides-eqb id 0).0 is) un)
    by false is = refl
