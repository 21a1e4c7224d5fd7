-- What is gathered, and what of it was handed on.
use Rattle.std.proofs.Common.{◌≡◌, ℕ, ◌≤◌, List, [], ◌∷◌, ◌++◌, length, take, drop, false, Some, refl, sym, ◌∙◌, ap, subst, append_assoc}
use Rattle.std.proofs.lemmas.List.{append-nil, take-append-le, take-take}
use Rattle.pm_io.specs.Calls.{Call, Read}
use Rattle.pm_io.specs.Given.{given}
use Rattle.pm_io.proofs.GivenLemmas.{given_append}
use Rattle.pm_host.specs.Gathering.{Gathering, IsSound}
use Rattle.pm_host.specs.Written.{Hands, Written}
use Rattle.pm_host.proofs.WrittenLemmas.{hands_both}

pub take_whole : (xs : List ℕ) → take (length xs) xs ≡ xs
take_whole [] = refl
take_whole (x ∷ xs) = ap (λ (ys : List ℕ). x ∷ ys) (take_whole xs)

-- one piece more was accepted
pub given_then : (calls later : List Call) (bytes : List ℕ) → later ≡ calls ++ Read 0 (Some bytes) ∷ [] → given 0 later ≡ given 0 calls ++ bytes
given_then calls later bytes logged =
    ap (λ (cs : List Call). given 0 cs) logged
    ∙ (given_append 0 calls (Read 0 (Some bytes) ∷ []) ∙ ap (λ (xs : List ℕ). given 0 calls ++ xs) (append-nil bytes))

pub accepts : (calls later : List Call) (bytes accepted : List ℕ) → later ≡ calls ++ Read 0 (Some bytes) ∷ [] → given 0 calls ≡ accepted → given 0 later ≡ accepted ++ bytes
accepts calls later bytes accepted logged is = given_then calls later bytes logged ∙ ap (λ (xs : List ℕ). xs ++ bytes) is

pub accepts_all : (calls later : List Call) (bytes accepted : List ℕ) → later ≡ calls ++ Read 0 (Some bytes) ∷ [] → given 0 calls ≡ accepted → given 0 later ≡ accepted ++ take (length bytes) bytes
accepts_all calls later bytes accepted logged is =
    accepts calls later bytes accepted logged is ∙ ap (λ (xs : List ℕ). accepted ++ xs) (sym (take_whole bytes))

-- what was handed to a writer, in other words
pub shows : (bytes : List ℕ) (old same new : Written) → old ≡ same → Hands bytes old new → (xs : List ℕ) × Hands xs same new
shows bytes old same new is hands = (bytes, subst (λ (w : Written). Hands bytes w new) is hands)

pub shows_end : (bytes : List ℕ) (old same new end : Written) → old ≡ same → end ≡ new → Hands bytes old new → (xs : List ℕ) × Hands xs same end
shows_end bytes old same new end is ends hands =
    (bytes, subst (λ (w : Written). Hands bytes same w) (sym ends) (subst (λ (w : Written). Hands bytes w new) is hands))

pub shows_both : (one two : List ℕ) (old same mid again new : Written) → old ≡ same → again ≡ mid → Hands one old mid → Hands two again new → (xs : List ℕ) × Hands xs same new
shows_both one two old same mid again new is ends first second = (
  one ++ two,
  hands_both one two same mid new (subst (λ (w : Written). Hands one w mid) is first) (subst (λ (w : Written). Hands two w new) ends second),
)

-- the room that a piece was put into
pub room_put : (n size : ℕ) (new items : List ℕ) → n ≤ length new → n ≤ size → take n (take size (new ++ drop (length new) items)) ≡ take n new
room_put n size new items within fits =
    take-take n size (new ++ drop (length new) items) fits ∙ take-append-le n new (drop (length new) items) within

-- a piece was gathered behind the others
pub sound_put : (old : Gathering) (pending accepted piece : List ℕ) (before : ℕ) → IsSound old → accepted ≡ old.accepted ++ piece → pending ≡ old.pending ++ piece → (old.lost ≡ false → before ≤ length pending)
    → IsSound (record { out = old.out; pending = pending; accepted = accepted; before = before; lost = old.lost; faults = old.faults; stalls = old.stalls })
sound_put old pending accepted piece before sound accepted_is pending_is due = record {
  whole = λ kept. accepted_is ∙ (ap (λ (xs : List ℕ). xs ++ piece) (sound.whole kept)
      ∙ (append_assoc old.out.bytes old.pending piece ∙ ap (λ (xs : List ℕ). old.out.bytes ++ xs) (sym pending_is)));
  due = due;
  broke = λ is. sound.broke is;
}

-- a piece was written at once, where nothing is gathered
pub sound_written : (old : Gathering) (out : Written) (accepted bytes : List ℕ) → IsSound old → old.pending ≡ [] → Hands bytes old.out out → accepted ≡ old.accepted ++ bytes
    → IsSound (record { out = out; pending = old.pending; accepted = accepted; before = old.before; lost = old.lost; faults = old.faults; stalls = old.stalls })
sound_written old out accepted bytes sound none hands accepted_is = record {
  whole = λ kept. accepted_is ∙ (ap (λ (xs : List ℕ). xs ++ bytes) (sound.whole kept ∙ (ap (λ (xs : List ℕ). old.out.bytes ++ xs) none ∙ append-nil old.out.bytes))
      ∙ (sym hands.bytes_of ∙ (sym (append-nil out.bytes) ∙ ap (λ (xs : List ℕ). out.bytes ++ xs) (sym none))));
  due = λ kept. sound.due kept;
  broke = λ is. hands.still (sound.broke is);
}
