-- The messages that wait in boxes, master by master: the one of the next bit comes before all later ones, and no later one is in its
-- box.
use Rattle.std.proofs.Common.{◌≡◌, ℕ, zero, suc, ◌<◌, ◌≤◌, ◌+◌, ◌-◌, ◌^◌, ◌==◌, List, [], ◌∷◌, ◌++◌, flat_map, Option, Some, None, refl, sym, ◌∙◌, ap, arith}
use Rattle.std.specs.Prelude.{slice_get}
use Rattle.std.specs.List.{range_with_len}
use Rattle.std.proofs.lemmas.Bool.{eqb-true}
use Rattle.std.proofs.lemmas.Nat.{pow_below}
use Rattle.pm_base.specs.declared.events.Event.{Event}
use Rattle.pm_base.specs.declared.events.Event.TheVariants.{Ipi}
use Rattle.pm_base.specs.declared.events.Message.{Message}
use Rattle.pm_base.proofs.Searches.{IsFirst, position-first}
use Rattle.pm_ipi.specs.Mail.{box_at, emptied}
use Rattle.pm_object.specs.declared.object.MasterRec.{MasterRec}
use Rattle.pm_object.specs.declared.object.Object.{Object}
use Rattle.pm_split.specs.Boxes.{Boxes, sent_by, sent_from, waiting_from, with_bit}
use Rattle.pm_split.proofs.Lists.{box_other}

abbrev sends : Object → Boxes → ℕ → List Event
sends object boxes k = sent_from object boxes (with_bit object k)

-- the message of a bit, and those of later ones
pub waiting_next : (object : Object) (boxes : Boxes) (bit : ℕ) → bit < 32
    → waiting_from object boxes bit ≡ sends object boxes bit ++ waiting_from object boxes (bit + 1)
waiting_next object boxes bit below =
    let more : 32 - bit ≡ suc (32 - (bit + 1)) = omega arith in
    ap (λ (n : ℕ). flat_map (sends object boxes) (range_with_len bit n)) more

pub waiting_end : (object : Object) (boxes : Boxes) (bit : ℕ) → 32 ≤ bit → waiting_from object boxes bit ≡ []
waiting_end object boxes bit past =
    let none : 32 - bit ≡ 0 = omega arith in
    ap (λ (n : ℕ). flat_map (sends object boxes) (range_with_len bit n)) none

-- a master has one bit
one_bit : (object : Object) (i k m : ℕ) → with_bit object i ≡ Some m → with_bit object k ≡ Some m → i < k → ⊥
one_bit object i k m first second later =
    let a : IsFirst (λ (r : MasterRec). r.mask == 2 ^ i) object.masters m = position-first _ object.masters m first in
    let b : IsFirst (λ (r : MasterRec). r.mask == 2 ^ k) object.masters m = position-first _ object.masters m second in
    let same : Some a.element ≡ Some b.element = sym a.here ∙ b.here in
    let one : a.element.mask ≡ 2 ^ i = eqb-true a.element.mask (2 ^ i) a.passes in
    let other : b.element.mask ≡ 2 ^ k = eqb-true b.element.mask (2 ^ k) b.passes in
    let equal : a.element ≡ b.element = cc in
    let masks : a.element.mask ≡ b.element.mask = ap (λ (r : MasterRec). r.mask) equal in
    let below : 2 ^ i < 2 ^ k = pow_below i k later in
    omega arith

-- where the box of a master was emptied, all others send what they would have sent
other_sends : (object : Object) (boxes : Boxes) (m : ℕ) (place : Option ℕ) → (place ≡ Some m → ⊥) → sent_from object (emptied m boxes) place ≡ sent_from object boxes place
other_sends object boxes m None other = refl
other_sends object boxes m (Some j) other = ap (sent_by (slice_get object.masters j)) (box_other m j boxes (λ (e : m ≡ j). other (ap Some (sym e))))

later_sends : (object : Object) (boxes : Boxes) (bit m from n : ℕ) → with_bit object bit ≡ Some m → bit < from
    → flat_map (sends object (emptied m boxes)) (range_with_len from n) ≡ flat_map (sends object boxes) (range_with_len from n)
later_sends object boxes bit m from zero is later = refl
later_sends object boxes bit m from (suc n) is later =
    let here : sends object (emptied m boxes) from ≡ sends object boxes from = other_sends object boxes m (with_bit object from) (λ same. one_bit object bit from m is same later) in
    let rest = later_sends object boxes bit m (from + 1) n is (omega arith) in
    ap (λ l. l ++ flat_map (sends object (emptied m boxes)) (range_with_len (from + 1) n)) here
    ∙ ap (λ l. sends object boxes from ++ l) rest

pub later_wait : (object : Object) (boxes : Boxes) (bit m : ℕ) → with_bit object bit ≡ Some m
    → waiting_from object (emptied m boxes) (bit + 1) ≡ waiting_from object boxes (bit + 1)
later_wait object boxes bit m is = later_sends object boxes bit m (bit + 1) (32 - (bit + 1)) is (omega arith)

-- ---- a bit is passed

-- nobody has it
pub pass_none : (object : Object) (boxes : Boxes) (bit : ℕ) → bit < 32 → with_bit object bit ≡ None
    → waiting_from object boxes bit ≡ waiting_from object boxes (bit + 1)
pass_none object boxes bit below is =
    waiting_next object boxes bit below ∙ ap (λ place. sent_from object boxes place ++ waiting_from object boxes (bit + 1)) is

-- the master that has it sent nothing, or this
pub pass_empty : (object : Object) (boxes : Boxes) (bit m : ℕ) → bit < 32 → with_bit object bit ≡ Some m → box_at m boxes ≡ None
    → waiting_from object boxes bit ≡ waiting_from object boxes (bit + 1)
pass_empty object boxes bit m below is empty =
    let first : IsFirst (λ (r : MasterRec). r.mask == 2 ^ bit) object.masters m = position-first _ object.masters m is in
    waiting_next object boxes bit below ∙ ap (λ place. sent_from object boxes place ++ waiting_from object boxes (bit + 1)) is
    ∙ ap (λ (held : Option Message). sent_by (slice_get object.masters m) held ++ waiting_from object boxes (bit + 1)) empty
    ∙ ap (λ (found : Option MasterRec). sent_by found None ++ waiting_from object boxes (bit + 1)) first.here

pub pass_full : (object : Object) (boxes : Boxes) (bit m : ℕ) (master : MasterRec) (message : Message) → bit < 32 → with_bit object bit ≡ Some m
    → slice_get object.masters m ≡ Some master → box_at m boxes ≡ Some message
    → waiting_from object boxes bit ≡ Ipi (record { 0 = master.node }) message ∷ waiting_from object (emptied m boxes) (bit + 1)
pass_full object boxes bit m master message below is there full =
    waiting_next object boxes bit below ∙ ap (λ place. sent_from object boxes place ++ waiting_from object boxes (bit + 1)) is
    ∙ ap (λ (held : Option Message). sent_by (slice_get object.masters m) held ++ waiting_from object boxes (bit + 1)) full
    ∙ ap (λ (found : Option MasterRec). sent_by found (Some message) ++ waiting_from object boxes (bit + 1)) there
    ∙ ap (λ l. Ipi (record { 0 = master.node }) message ∷ l) (sym (later_wait object boxes bit m is))
