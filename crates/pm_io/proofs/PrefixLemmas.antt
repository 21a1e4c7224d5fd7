-- What was read of a begun input is what is shown of its name.
use Rattle.std.proofs.Common.{◌≡◌, ℕ, ◌+◌, ◌≤◌, ◌<◌, min, List, [], ◌++◌, length, take, refl, sym, ◌∙◌, ap, arith, Option, Some, None, inr}
use Rattle.std.specs.Prelude.{IfSome}
use Rattle.std.proofs.lemmas.List.{length-append, append-nil}
use Rattle.std.proofs.Math.Seq.{take-append_seam}
use Rattle.std.proofs.lemmas.Bool.Decides.{nat_tests}
use Rattle.pm_io.specs.Inputs.{File, Input, Moment, rest, Advances, Began, CannotBegin}
use Rattle.pm_base.specs.Faults.{Rose}
use Rattle.pm_io.specs.Prefix.{Prefix, prefix_before, prefix_of, HasSize, StandsAt, ReadsAlone, ReadsOne, ReadsRest, ReadsPrefix}
use Rattle.pm_io.specs.declared.prefix.StopReason.{StopReason}
use Rattle.pm_io.specs.declared.prefix.StopReason.TheVariants.{End, Limit, Failure, Unbegun}

-- how the reading of a file ended, by its failing byte and what is left of it
abbrev pub EndsAt : StopReason → Option ℕ → ℕ → List ℕ → Type 0
EndsAt End fails_at place left = (left ≡ []) × (fails_at ≡ Some place → ⊥)
EndsAt Limit fails_at place left = Unit {0}
EndsAt Failure fails_at place left = fails_at ≡ Some place
EndsAt Unbegun fails_at place left = ⊥

prefix_at_end : (limit : ℕ) (fails_at : Option ℕ) (bytes : List ℕ) → length bytes ≤ limit → IfSome fails_at (λ at. length bytes ≤ at) → (fails_at ≡ Some (length bytes) → ⊥) → record { bytes = bytes; stop = End } ≡ prefix_before limit fails_at bytes
prefix_at_end limit None bytes within not_past free = grind (arith, nat_tests)
prefix_at_end limit (Some at) bytes within not_past free =
    let apart : (at ≡ length bytes → ⊥) = λ is. free (ap (λ n. Some n) is) in
    let above : min limit (length bytes) < at = omega arith in
    grind (arith, nat_tests)

prefix_over : (limit : ℕ) (fails_at : Option ℕ) (taken left : List ℕ) → length taken ≡ limit + 1 → IfSome fails_at (λ at. length taken ≤ at) → record { bytes = taken; stop = Limit } ≡ prefix_before limit fails_at (taken ++ left)
prefix_over limit None taken left size not_past =
    let cut : take (limit + 1) (taken ++ left) ≡ taken = rw (← size) (take-append_seam taken left) in
    let long : limit < length (taken ++ left) = omega (arith, length-append taken left) in
    grind (arith, nat_tests)
prefix_over limit (Some at) taken left size not_past =
    let cut : take (limit + 1) (taken ++ left) ≡ taken = rw (← size) (take-append_seam taken left) in
    let long : limit < length (taken ++ left) = omega (arith, length-append taken left) in
    let above : min limit (length (taken ++ left)) < at = omega arith in
    grind (arith, nat_tests)

prefix_at_fault : (limit : ℕ) (fails_at : Option ℕ) (taken left : List ℕ) → length taken ≤ limit → fails_at ≡ Some (length taken) → record { bytes = taken; stop = Failure } ≡ prefix_before limit fails_at (taken ++ left)
prefix_at_fault limit fails_at taken left size fails =
    let cut : take (length taken) (taken ++ left) ≡ taken = take-append_seam taken left in
    let within : length taken ≤ min limit (length (taken ++ left)) = omega (arith, length-append taken left) in
    rw fails (grind (arith, nat_tests))

prefix_is : (limit : ℕ) (fails_at : Option ℕ) (bytes taken left : List ℕ) (stop : StopReason) → bytes ≡ taken ++ left → HasSize limit stop (length taken) → IfSome fails_at (λ at. length taken ≤ at) → EndsAt stop fails_at (length taken) left → record { bytes = taken; stop = stop } ≡ prefix_before limit fails_at bytes
prefix_is limit fails_at bytes taken left End whole size not_past ends =
    let same : bytes ≡ taken = whole ∙ ap (λ tail. taken ++ tail) ends.0 ∙ append-nil taken in
    rw same (prefix_at_end limit fails_at taken size not_past ends.1)
prefix_is limit fails_at bytes taken left Limit whole size not_past ends = rw whole (prefix_over limit fails_at taken left size not_past)
prefix_is limit fails_at bytes taken left Failure whole size not_past ends = rw whole (prefix_at_fault limit fails_at taken left size ends)
prefix_is limit fails_at bytes taken left Unbegun whole size not_past ends = absurd ends

-- at a name that can be begun what is read is that of its file
prefix_of_file : (limit room : ℕ) (seen : Option File) (file : File) → seen ≡ Some file → (room ≡ 0 → ⊥) → prefix_of limit seen room ≡ prefix_before limit file.fails_at file.bytes
prefix_of_file limit room seen file is some = rw is (grind (arith, nat_tests))

-- an input was begun, and its rest was read: that is what is shown of the name
prefix_shown : (shown : Type 0) (name : List ℕ) (id limit : ℕ) (first begun last : Moment) (prefix : Prefix) → shown → Began name id first begun → (CannotBegin name first → ⊥) → ReadsRest shown id limit begun last prefix → prefix ≡ prefix_of limit (first.file name) first.room
prefix_shown shown name id limit first begun last prefix seen start can reads =
    let file : File = (begun.input id).file in
    let read : Advances (begun.input id) (last.input id) prefix.bytes = reads.took.read seen in
    let place : (last.input id).place ≡ length prefix.bytes = omega (arith, read.place, start.front.place) in
    let whole : file.bytes ≡ prefix.bytes ++ rest (last.input id) = at_front (begun.input id) start.front.place ∙ read.taken in
    let bound : IfSome file.fails_at (λ at. length prefix.bytes ≤ at) = passes file.fails_at (begun.input id).place (last.input id).place (length prefix.bytes) start.front.place place read.not_past in
    let ends : EndsAt prefix.stop file.fails_at (length prefix.bytes) (rest (last.input id)) = ending prefix.stop (last.input id) file.fails_at (length prefix.bytes) (ap (λ (f : File). f.fails_at) read.file) place (reads.stands seen) in
    prefix_is limit file.fails_at file.bytes prefix.bytes (rest (last.input id)) prefix.stop whole reads.size bound ends
    ∙ sym (prefix_of_file limit first.room (first.file name) file start.front.file (λ full. can (inr full)))
  where
    at_front : (input : Input) → input.place ≡ 0 → input.file.bytes ≡ rest input
    at_front input front = rw front refl

    passes : (fails_at : Option ℕ) (from to count : ℕ) → from ≡ 0 → to ≡ count → IfSome fails_at (λ at. from ≤ at → to ≤ at) → IfSome fails_at (λ at. count ≤ at)
    passes None from to count zero is keeps = tt
    passes (Some at) from to count zero is keeps = let reach : to ≤ at = keeps (omega arith) in omega arith

    ending : (stop : StopReason) (input : Input) (fails_at : Option ℕ) (count : ℕ) → input.file.fails_at ≡ fails_at → input.place ≡ count → StandsAt stop input → EndsAt stop fails_at count (rest input)
    ending End input fails_at count same place stands = (stands.0, λ fails. stands.1 (same ∙ fails ∙ ap (λ n. Some n) (sym place)))
    ending Limit input fails_at count same place stands = tt
    ending Failure input fails_at count same place stands = sym same ∙ stands ∙ ap (λ n. Some n) place
    ending Unbegun input fails_at count same place stands = absurd stands

-- a named input was begun and read
pub prefix_read : (shown : Type 0) (name : List ℕ) (id limit : ℕ) (first begun last : Moment) (prefix : Prefix) → first.faults ≤ begun.faults → (shown → Began name id first begun) → (shown → CannotBegin name first → ⊥) → ReadsRest shown id limit begun last prefix → ReadsPrefix shown name limit first last prefix
prefix_read shown name id limit first begun last prefix later starts can reads = record {
  later = omega (arith, reads.took.later);
  size = reads.size;
  fault = λ failed. let rose : Rose begun.faults last.faults = reads.fault failed in omega arith;
  files = λ seen other. reads.took.files seen other ∙ (starts seen).files other;
  room = λ seen. let one : first.room ≤ begun.room + 1 = (starts seen).room in let two : begun.room ≤ last.room = reads.took.room seen in omega arith;
  is = λ seen. prefix_shown shown name id limit first begun last prefix seen (starts seen) (can seen) reads;
  alone = λ seen. alone prefix.stop (one seen) (reads.stands seen);
} where
  one : shown → ReadsOne (length prefix.bytes) first last
  one seen =
      let read : Advances (begun.input id) (last.input id) prefix.bytes = reads.took.read seen in
      (id, λ other differs. reads.took.others seen other differs ∙ (starts seen).others other differs, omega (arith, read.place, (starts seen).front.place))

  alone : (stop : StopReason) → ReadsOne (length prefix.bytes) first last → StandsAt stop (last.input id) → ReadsAlone stop (length prefix.bytes) first last
  alone End read stands = read
  alone Limit read stands = read
  alone Failure read stands = read
  alone Unbegun read stands = absurd stands
