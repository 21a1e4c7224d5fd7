-- Bytes that were handed to a writer one piece after another.
use Rattle.std.proofs.Common.{◌≡◌, ℕ, ◌+◌, List, [], ◌∷◌, ◌++◌, take, drop, Bool, true, false, ◌||◌, Option, Some, None, refl, sym, ◌∙◌, ap, subst, append_assoc, take-add}
use Rattle.std.specs.Io.KnownBytes.{Appends, Keeps}
use Rattle.std.proofs.lemmas.List.{append-nil}
use Rattle.pm_io.specs.Calls.{Call, Begin, Read}
use Rattle.pm_io.specs.Given.{given}
use Rattle.pm_io.proofs.GivenLemmas.{given_append}
use Rattle.pm_host.specs.Written.{Hands, Written, is_broken, written_of}

-- ---- what a writer shows

appends_none : (known : Option (List ℕ)) → Appends known known []
appends_none None = tt
appends_none (Some held) = sym (append-nil held)

pub appends_kept : (known later : Option (List ℕ)) → Keeps known later → Appends known later []
appends_kept None later keeps = tt
appends_kept (Some held) None keeps = absurd keeps
appends_kept (Some held) (Some now) keeps = keeps ∙ sym (append-nil held)

appends_both : (a b c : Option (List ℕ)) (one two : List ℕ) → Appends a b one → Appends b c two → Appends a c (one ++ two)
appends_both None b c one two first second = tt
appends_both (Some x) None c one two first second = absurd first
appends_both (Some x) (Some y) None one two first second = absurd second
appends_both (Some x) (Some y) (Some z) one two first second =
    second ∙ (ap (λ (xs : List ℕ). xs ++ two) first ∙ append_assoc x one two)

-- ---- what it took

pub hands_none : (now : Written) → Hands [] now now
hands_none now = record { bytes_of = sym (append-nil now.bytes); held = appends_none now.held; still = λ was. was }

pub hands_both : (one two : List ℕ) (first mid last : Written) → Hands one first mid → Hands two mid last → Hands (one ++ two) first last
hands_both one two first mid last a b = record {
  bytes_of = b.bytes_of ∙ (ap (λ (xs : List ℕ). xs ++ two) a.bytes_of ∙ append_assoc first.bytes one two);
  held = appends_both first.held mid.held last.held one two a.held b.held;
  still = λ was. b.still (a.still was);
}

-- some first bytes were handed on, and then some of those that were left
pub hands_next : (bytes piece : List ℕ) (done count : ℕ) (first mid last : Written) → piece ≡ drop done bytes → Hands (take done bytes) first mid → Hands (take count piece) mid last → Hands (take (done + count) bytes) first last
hands_next bytes piece done count first mid last left before after =
    rw (take-add done count bytes, ← left) (hands_both (take done bytes) (take count piece) first mid last before after)

-- some first bytes were handed on, and then none
pub hands_stopped : (bytes none : List ℕ) (first mid last : Written) → none ≡ [] → Hands bytes first mid → Hands none mid last → Hands bytes first last
hands_stopped bytes none first mid last empty before after =
    subst (λ (xs : List ℕ). Hands xs first last) (ap (λ (xs : List ℕ). bytes ++ xs) empty ∙ append-nil bytes) (hands_both bytes none first mid last before after)

-- ---- one write

either : (b : Bool) → (b || true) ≡ true
either true = refl
either false = refl

broken_append : (one two : List Call) → is_broken (one ++ two) ≡ (is_broken one || is_broken two)
broken_append [] two = refl
broken_append (Begin name answer ∷ one) two = broken_append one two
broken_append (Read id None ∷ one) two = refl
broken_append (Read id (Some []) ∷ one) two = refl
broken_append (Read id (Some (byte ∷ bytes)) ∷ one) two = broken_append one two

still_broken : (one two : List Call) → is_broken one ≡ true → is_broken (one ++ two) ≡ true
still_broken one two was = broken_append one two ∙ ap (λ (b : Bool). b || is_broken two) was

pub took_hands : (calls later : List Call) (bytes : List ℕ) (held now : Option (List ℕ)) → later ≡ calls ++ Read 0 (Some bytes) ∷ [] → Appends held now bytes → Hands bytes (written_of calls held) (written_of later now)
took_hands calls later bytes held now logged shows = record {
  bytes_of = ap (λ (cs : List Call). given 0 cs) logged ∙ (given_append 0 calls (Read 0 (Some bytes) ∷ []) ∙ ap (λ (xs : List ℕ). given 0 calls ++ xs) (append-nil bytes));
  held = shows;
  still = λ was. ap (λ (cs : List Call). is_broken cs) logged ∙ still_broken calls (Read 0 (Some bytes) ∷ []) was;
}

pub stuck_hands : (calls later : List Call) (held now : Option (List ℕ)) → later ≡ calls ++ Read 0 None ∷ [] → Keeps held now → Hands [] (written_of calls held) (written_of later now)
stuck_hands calls later held now logged keeps = record {
  bytes_of = ap (λ (cs : List Call). given 0 cs) logged ∙ given_append 0 calls (Read 0 None ∷ []);
  held = appends_kept held now keeps;
  still = λ was. ap (λ (cs : List Call). is_broken cs) logged ∙ still_broken calls (Read 0 None ∷ []) was;
}

pub took_breaks : (calls later : List Call) (bytes : List ℕ) → later ≡ calls ++ Read 0 (Some bytes) ∷ [] → bytes ≡ [] → is_broken later ≡ true
took_breaks calls later bytes logged none =
    ap (λ (cs : List Call). is_broken cs) logged ∙ (broken_append calls (Read 0 (Some bytes) ∷ [])
    ∙ (ap (λ (xs : List ℕ). is_broken calls || is_broken (Read 0 (Some xs) ∷ [])) none ∙ either (is_broken calls)))

pub stuck_breaks : (calls later : List Call) → later ≡ calls ++ Read 0 None ∷ [] → is_broken later ≡ true
stuck_breaks calls later logged =
    ap (λ (cs : List Call). is_broken cs) logged ∙ (broken_append calls (Read 0 None ∷ []) ∙ either (is_broken calls))
