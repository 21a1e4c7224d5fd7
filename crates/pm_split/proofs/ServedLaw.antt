-- Serving all boxes serves each message once, by rising mask.
use Rattle.std.proofs.Common.{◌≡◌, ◌≢◌, ℕ, zero, suc, ◌+◌, ◌^◌, ◌<◌, ◌≤◌, ◌==◌, Bool, true, false, List, [], ◌∷◌, ◌++◌, flat_map, length, Option, Some, None, get_or, refl, sym, ◌∙◌, ap, arith, subst}
use Rattle.std.specs.Prelude.{slice_get, is_some}
use Rattle.std.specs.List.{All, AllPairs, AllZip, Contains, range_with_len}
use Rattle.std.proofs.lemmas.Bool.{eqb-true}
use Rattle.std.proofs.lemmas.List.Elements.{All-append, All-contains, All-cons, All-nil, Contains-append_left, Contains-append_right, Contains-push}
use Rattle.std.proofs.lemmas.List.Kept.{AllPairs-cons}
use Rattle.std.proofs.lemmas.Nat.{pow_below}
use Rattle.std.proofs.lemmas.Option.{slice_get-get_or}
use Rattle.pm_base.specs.declared.events.Message.{Message}
use Rattle.pm_base.proofs.Booleans.{differs}
use Rattle.pm_base.proofs.Elements.{no_pairs}
use Rattle.pm_base.proofs.Searches.{IsFirst, position-first}
use Rattle.pm_ipi.specs.Mail.{box_at}
use Rattle.pm_object.specs.declared.object.MasterRec.{MasterRec}
use Rattle.pm_object.specs.declared.object.Object.{Object}
use Rattle.pm_object.specs.Grammar.{IsObject}
use Rattle.pm_split.specs.Boxes.{Boxes, sent_by, sent_from, waiting_in, with_bit}
use Rattle.pm_split.specs.Served.{Sends, ServesAll, mask_at, mask_of}
use Rattle.pm_split.proofs.Masks.{has_bit}

-- ---- the places of the full boxes, bit by bit

abbrev if_full : ℕ → Option Message → List ℕ
if_full m None = []
if_full m (Some message) = m ∷ []

abbrev place_if_full : Boxes → Option ℕ → List ℕ
place_if_full boxes None = []
place_if_full boxes (Some m) = if_full m (box_at m boxes)

abbrev full_at : Object → Boxes → ℕ → List ℕ
full_at object boxes k = place_if_full boxes (with_bit object k)

abbrev full_from : Object → Boxes → ℕ → ℕ → List ℕ
full_from object boxes from n = flat_map (full_at object boxes) (range_with_len from n)

-- ---- one event for each of them

zip_append : {X Y : Type 0} (R : X → Y → Type 0) (xs : List X) (ys : List Y) (vs : List X) (ws : List Y) → AllZip R xs ys → AllZip R vs ws
    → AllZip R (xs ++ vs) (ys ++ ws)
zip_append R [] [] vs ws a b = b
zip_append R [] (y ∷ ys) vs ws a b = absurd a
zip_append R (x ∷ xs) [] vs ws a b = absurd a
zip_append R (x ∷ xs) (y ∷ ys) vs ws a b = (a.0, zip_append R xs ys vs ws a.1 b)

sends_held : (object : Object) (boxes : Boxes) (m : ℕ) (master : MasterRec) (held : Option Message) → slice_get object.masters m ≡ Some master
    → box_at m boxes ≡ held → AllZip (Sends object boxes) (if_full m held) (sent_by (Some master) held)
sends_held object boxes m master None there is = tt
sends_held object boxes m master (Some message) there is =
    (record { master = master; message = message; configured = there; held = is; sent = refl }, tt)

sends_place : (object : Object) (boxes : Boxes) (k : ℕ) (place : Option ℕ) → with_bit object k ≡ place
    → AllZip (Sends object boxes) (place_if_full boxes place) (sent_from object boxes place)
sends_place object boxes k None is = tt
sends_place object boxes k (Some m) is =
    let first : IsFirst (λ (r : MasterRec). r.mask == 2 ^ k) object.masters m = position-first _ object.masters m is in
    let P : Option MasterRec → Type 0 = λ found. AllZip (Sends object boxes) (if_full m (box_at m boxes)) (sent_by found (box_at m boxes)) in
    subst P (sym first.here) (sends_held object boxes m first.element (box_at m boxes) first.here refl)

sends_from : (object : Object) (boxes : Boxes) (from n : ℕ)
    → AllZip (Sends object boxes) (full_from object boxes from n) (flat_map (λ k. sent_from object boxes (with_bit object k)) (range_with_len from n))
sends_from object boxes from zero = tt
sends_from object boxes from (suc n) =
    zip_append (Sends object boxes) (full_at object boxes from) (sent_from object boxes (with_bit object from))
    (full_from object boxes (from + 1) n) (flat_map (λ k. sent_from object boxes (with_bit object k)) (range_with_len (from + 1) n))
    (sends_place object boxes from (with_bit object from) refl) (sends_from object boxes (from + 1) n)

-- ---- what holds of the place of each full box

each_held : (P : ℕ → Type 0) (m : ℕ) (held : Option Message) → (is_some held ≡ true → P m) → All P (if_full m held)
each_held P m None holds = All-nil P
each_held P m (Some message) holds = All-cons P m [] (holds refl) (All-nil P)

each_place : (P : ℕ → Type 0) (boxes : Boxes) (place : Option ℕ) → ((m : ℕ) → place ≡ Some m → is_some (box_at m boxes) ≡ true → P m)
    → All P (place_if_full boxes place)
each_place P boxes None holds = All-nil P
each_place P boxes (Some m) holds = each_held P m (box_at m boxes) (holds m refl)

each_from : (P : ℕ → Type 0) (object : Object) (boxes : Boxes) (from n : ℕ)
    → ((k m : ℕ) → from ≤ k → with_bit object k ≡ Some m → is_some (box_at m boxes) ≡ true → P m) → All P (full_from object boxes from n)
each_from P object boxes from zero holds = All-nil P
each_from P object boxes from (suc n) holds =
    All-append P (full_at object boxes from) (full_from object boxes (from + 1) n)
    (each_place P boxes (with_bit object from) (λ m. holds from m (omega arith)))
    (each_from P object boxes (from + 1) n (λ k m (low : from + 1 ≤ k). holds k m (omega (arith, low))))

-- ---- by rising mask

bit_mask : (object : Object) (k m : ℕ) → with_bit object k ≡ Some m → mask_at object m ≡ 2 ^ k
bit_mask object k m is =
    let first : IsFirst (λ (r : MasterRec). r.mask == 2 ^ k) object.masters m = position-first _ object.masters m is in
    ap mask_of first.here ∙ eqb-true first.element.mask (2 ^ k) first.passes

pairs_held : (R : ℕ → ℕ → Type 0) (m : ℕ) (held : Option Message) (later : List ℕ) → All (R m) later → AllPairs R later → AllPairs R (if_full m held ++ later)
pairs_held R m None later each pairs = pairs
pairs_held R m (Some message) later each pairs = AllPairs-cons R m later each pairs

pairs_place : (R : ℕ → ℕ → Type 0) (boxes : Boxes) (place : Option ℕ) (later : List ℕ) → ((m : ℕ) → place ≡ Some m → All (R m) later)
    → AllPairs R later → AllPairs R (place_if_full boxes place ++ later)
pairs_place R boxes None later each pairs = pairs
pairs_place R boxes (Some m) later each pairs = pairs_held R m (box_at m boxes) later (each m refl) pairs

rising_from : (object : Object) (boxes : Boxes) (from n : ℕ) → AllPairs (λ j k. mask_at object j < mask_at object k) (full_from object boxes from n)
rising_from object boxes from zero = no_pairs (λ j k. mask_at object j < mask_at object k)
rising_from object boxes from (suc n) =
    let less : (m : ℕ) → with_bit object from ≡ Some m → All (λ j. mask_at object m < mask_at object j) (full_from object boxes (from + 1) n) =
    λ m is. each_from (λ j. mask_at object m < mask_at object j) object boxes (from + 1) n (λ k j (low : from + 1 ≤ k) later full.
    let one : mask_at object m ≡ 2 ^ from = bit_mask object from m is in
    let other : mask_at object j ≡ 2 ^ k = bit_mask object k j later in
    let before : from < k = omega (arith, low) in
    let below : 2 ^ from < 2 ^ k = pow_below from k before in
    omega (arith, one, other, below))
    in
    pairs_place (λ j k. mask_at object j < mask_at object k) boxes (with_bit object from) (full_from object boxes (from + 1) n) less (rising_from object boxes (from + 1) n)

-- ---- all of them

here_or_later : {X : Type 0} (f : ℕ → List X) (from k : ℕ) (later : List X) (x : X) (here : Bool) → (from == k) ≡ here → Contains (f k) x
    → (from ≢ k → Contains later x) → Contains (f from ++ later) x
here_or_later f from k later x true is has rest = Contains-append_left (f from) later x (subst (λ i. Contains (f i) x) (sym (eqb-true from k is)) has)
here_or_later f from k later x false is has rest = Contains-append_right (f from) later x (rest (differs from k is))

contains_flat : {X : Type 0} (f : ℕ → List X) (n from k : ℕ) (x : X) → from ≤ k → k < from + n → Contains (f k) x → Contains (flat_map f (range_with_len from n)) x
contains_flat f zero from k x low high has = absurd (omega arith)
contains_flat f (suc n) from k x low high has =
    here_or_later f from k (flat_map f (range_with_len (from + 1) n)) x (from == k) refl has
    (λ other. contains_flat f n (from + 1) k x (omega (arith, other)) (omega arith) has)

-- a full box is that of a configured master, where there are as many boxes as masters
full_within : (m : ℕ) (boxes : Boxes) → is_some (box_at m boxes) ≡ true → m < length boxes
full_within m [] full = cc
full_within zero (box ∷ boxes) full = omega arith
full_within (suc m) (box ∷ boxes) full = let within : m < length boxes = full_within m boxes full in omega arith

held_place : (m : ℕ) (held : Option Message) → is_some held ≡ true → Contains (if_full m held) m
held_place m None full = cc
held_place m (Some message) full = Contains-push [] m

each_full : (object : Object) (boxes : Boxes) (m : ℕ) → IsObject object → length boxes ≡ length object.masters → is_some (box_at m boxes) ≡ true
    → Contains (full_from object boxes 0 32) m
each_full object boxes m is long full =
    let none : MasterRec = record { node = 0; mask = 0; timeout = 0; suspend = 0; wake = 0 } in
    let within : m < length object.masters = let low : m < length boxes = full_within m boxes full in omega (arith, low, long) in
    let bit = has_bit object m (get_or object.masters m none) is (slice_get-get_or object.masters m none within) in
    let here : Contains (full_at object boxes bit.0) m =
    subst (λ (place : Option ℕ). Contains (place_if_full boxes place) m) (sym bit.2) (held_place m (box_at m boxes) full)
    in
    contains_flat (full_at object boxes) 32 0 bit.0 m (omega arith) bit.1 here

pub serves_all : (object : Object) (boxes : Boxes) → IsObject object → length boxes ≡ length object.masters → ServesAll object boxes (waiting_in object boxes)
serves_all object boxes is long =
    let full : All (λ m. is_some (box_at m boxes) ≡ true) (full_from object boxes 0 32) =
    each_from (λ m. is_some (box_at m boxes) ≡ true) object boxes 0 32 (λ k m low found full. full)
    in
    record {
      places = full_from object boxes 0 32;
      full = λ m. (All-contains (λ m. is_some (box_at m boxes) ≡ true) (full_from object boxes 0 32) m full, each_full object boxes m is long);
      rising = rising_from object boxes 0 32;
      sent = sends_from object boxes 0 32;
    }
