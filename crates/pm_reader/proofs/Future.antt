-- What is read of an input to its end, or to where no more of it is read, begins with what was read so far.
use Rattle.std.proofs.Common.{◌≡◌, ℕ, zero, suc, ◌+◌, ◌-◌, ◌<◌, ◌≤◌, min, Bool, true, false, nat_le, IsTrue, Some, None, Option, List, [], ◌++◌, length, take, drop, refl, sym, ◌∙◌, ap, arith}
use Rattle.std.specs.Prelude.{IfSome, if◌then◌else◌}
use Rattle.std.specs.Str.{bytes_eq}
use Rattle.std.proofs.lemmas.Slice.Eq.{bytes_eq-Decides}
use Rattle.std.proofs.lemmas.Bool.Decides.{nat_tests}
use Rattle.std.proofs.lemmas.List.{length-append, append-nil, length-take-le, take-append-drop, take-take}
use Rattle.std.proofs.Math.Seq.{take-append_seam}
use Rattle.pm_io.specs.Inputs.{File, Input, IsStuck, Moment, Took, rest}
use Rattle.pm_io.specs.Prefix.{Prefix, prefix_before, prefix_within, text_of}
use Rattle.pm_io.specs.declared.prefix.StopReason.{StopReason}
use Rattle.pm_io.specs.declared.prefix.StopReason.TheVariants as reason
use Rattle.pm_script.specs.Script.{ending_of, script_limit}
use Rattle.pm_reader.specs.Reader.{Held, KnowsEnd, within_limit}
use Rattle.pm_reader.specs.Way.{MayGoOn}

-- ---- what is read of bytes up to a limit, or to a failing byte

at_end : (limit : ℕ) (fails_at : Option ℕ) (bytes : List ℕ) → length bytes ≤ limit → IfSome fails_at (λ at. length bytes ≤ at) → (fails_at ≡ Some (length bytes) → ⊥) → record { bytes = bytes; stop = reason.End } ≡ prefix_before limit fails_at bytes
at_end limit None bytes within not_past free = grind (arith, nat_tests)
at_end limit (Some at) bytes within not_past free =
    let apart : (at ≡ length bytes → ⊥) = λ is. free (ap (λ n. Some n) is) in
    let above : min limit (length bytes) < at = omega arith in
    grind (arith, nat_tests)

past_limit : (limit : ℕ) (fails_at : Option ℕ) (taken left : List ℕ) → length taken ≡ limit + 1 → IfSome fails_at (λ at. length taken ≤ at) → record { bytes = taken; stop = reason.Limit } ≡ prefix_before limit fails_at (taken ++ left)
past_limit limit None taken left size not_past =
    let cut : take (limit + 1) (taken ++ left) ≡ taken = rw (← size) (take-append_seam taken left) in
    let long : limit < length (taken ++ left) = omega (arith, length-append taken left) in
    grind (arith, nat_tests)
past_limit limit (Some at) taken left size not_past =
    let cut : take (limit + 1) (taken ++ left) ≡ taken = rw (← size) (take-append_seam taken left) in
    let long : limit < length (taken ++ left) = omega (arith, length-append taken left) in
    let above : min limit (length (taken ++ left)) < at = omega arith in
    grind (arith, nat_tests)

at_fault : (limit : ℕ) (fails_at : Option ℕ) (taken left : List ℕ) → length taken ≤ limit → fails_at ≡ Some (length taken) → record { bytes = taken; stop = reason.Failure } ≡ prefix_before limit fails_at (taken ++ left)
at_fault limit fails_at taken left size fails =
    let cut : take (length taken) (taken ++ left) ≡ taken = take-append_seam taken left in
    let within : length taken ≤ min limit (length (taken ++ left)) = omega (arith, length-append taken left) in
    rw fails (grind (arith, nat_tests))

-- the text of what is read, as it is chosen by two tests
text_by_limit : (fits : Bool) (limit : ℕ) (taken left : List ℕ) → length taken ≤ limit → (fits ≡ false → limit < length (taken ++ left)) → take (length taken) (text_of (if fits then record { bytes = taken ++ left; stop = reason.End } else record { bytes = take (limit + 1) (taken ++ left); stop = reason.Limit })) ≡ taken
text_by_limit true limit taken left few long = take-append_seam taken left
text_by_limit false limit taken left few long =
    let many : limit < length (taken ++ left) = long refl in
    let size : length (take (limit + 1) (taken ++ left)) - 1 ≡ limit = omega (arith, length-take-le (limit + 1) (taken ++ left) (omega (arith, many))) in
    ap (λ (n : ℕ). take (length taken) (take n (take (limit + 1) (taken ++ left)))) size
    ∙ (take-take (length taken) limit (take (limit + 1) (taken ++ left)) few
    ∙ (take-take (length taken) (limit + 1) (taken ++ left) (omega (arith, few)) ∙ take-append_seam taken left))

text_within_limit : (limit : ℕ) (taken left : List ℕ) → length taken ≤ limit → take (length taken) (text_of (prefix_within limit (taken ++ left))) ≡ taken
text_within_limit limit taken left few = text_by_limit (nat_le (length (taken ++ left)) limit) limit taken left few (λ is. grind (arith, nat_tests))

text_by_fault : (met : Bool) (limit at : ℕ) (taken left : List ℕ) → length taken ≤ limit → length taken ≤ at → take (length taken) (text_of (if met then record { bytes = take at (taken ++ left); stop = reason.Failure } else prefix_within limit (taken ++ left))) ≡ taken
text_by_fault true limit at taken left few not_past = take-take (length taken) at (taken ++ left) not_past ∙ take-append_seam taken left
text_by_fault false limit at taken left few not_past = text_within_limit limit taken left few

-- what was read within the limit and not past the failing byte is the front of the text that is read in the end
front_is : (limit : ℕ) (fails_at : Option ℕ) (taken left : List ℕ) → length taken ≤ limit → IfSome fails_at (λ at. length taken ≤ at) → take (length taken) (text_of (prefix_before limit fails_at (taken ++ left))) ≡ taken
front_is limit None taken left few not_past = text_within_limit limit taken left few
front_is limit (Some at) taken left few not_past = text_by_fault (nat_le at (min limit (length (taken ++ left)))) limit at taken left few not_past

-- no reading of a begun input is one of an input that can't be begun
limit_begun : (fits : Bool) (limit : ℕ) (bytes : List ℕ) (p : Prefix) → p ≡ (if fits then record { bytes = bytes; stop = reason.End } else record { bytes = take (limit + 1) bytes; stop = reason.Limit }) → p.stop ≡ reason.Unbegun → ⊥
limit_begun true limit bytes p of is = let clash : reason.End ≡ reason.Unbegun = sym (ap (λ (q : Prefix). q.stop) of) ∙ is in cc
limit_begun false limit bytes p of is = let clash : reason.Limit ≡ reason.Unbegun = sym (ap (λ (q : Prefix). q.stop) of) ∙ is in cc

fault_begun : (met : Bool) (limit at : ℕ) (bytes : List ℕ) (p : Prefix) → p ≡ (if met then record { bytes = take at bytes; stop = reason.Failure } else prefix_within limit bytes) → p.stop ≡ reason.Unbegun → ⊥
fault_begun true limit at bytes p of is = let clash : reason.Failure ≡ reason.Unbegun = sym (ap (λ (q : Prefix). q.stop) of) ∙ is in cc
fault_begun false limit at bytes p of is = limit_begun (nat_le (length bytes) limit) limit bytes p of is

pub is_begun : (limit : ℕ) (fails_at : Option ℕ) (bytes : List ℕ) → (prefix_before limit fails_at bytes).stop ≡ reason.Unbegun → ⊥
is_begun limit None bytes is = limit_begun (nat_le (length bytes) limit) limit bytes (prefix_within limit bytes) refl is
is_begun limit (Some at) bytes is = fault_begun (nat_le at (min limit (length bytes))) limit at bytes (prefix_before limit (Some at) bytes) refl is

-- ---- the reading that goes on from what was taken

-- a reading that begins with what was taken, and as which the reader may go on. Where the input is observable it is the one
-- that comes to be
pub record Future (shown : Type 0) (input : Input) (held : Held) (taken : List ℕ) : Type 0 where
  pub prefix : Prefix
  pub more : List ℕ
  pub begun : prefix.stop ≡ reason.Unbegun → ⊥
  pub is : shown → input.place ≡ 0 → prefix ≡ prefix_before script_limit input.file.fails_at input.file.bytes
  pub may : MayGoOn held more (ending_of prefix.stop)
  pub text : text_of prefix ≡ within_limit held.credit taken ++ more

-- one at which nothing more is taken, and which stops so
pub record FutureAt (shown : Type 0) (input : Input) (held : Held) (taken : List ℕ) (why : StopReason) : Type 0 where
  pub future : Future shown input held taken
  pub stops : future.prefix.stop ≡ why
  pub none : future.more ≡ []

-- what was taken, from the front of an observable input
record Front (input : Input) (taken left : List ℕ) : Type 0 where
  pub whole : input.file.bytes ≡ taken ++ left
  pub not_past : IfSome input.file.fails_at (λ at. length taken ≤ at)

module _ (shown : Type 0) (id : ℕ) (before now : Moment) (held : Held) (taken : List ℕ) (took : Took shown id taken before now) (credit : held.credit + length taken ≡ script_limit + 1) where
  at_front : (i : Input) → i.place ≡ 0 → rest i ≡ i.file.bytes
  at_front i front = rw front refl

  passes : (fails_at : Option ℕ) (from to count : ℕ) → from ≡ 0 → to ≡ count → IfSome fails_at (λ at. from ≤ at → to ≤ at) → IfSome fails_at (λ at. count ≤ at)
  passes None from to count front is keeps = tt
  passes (Some at) from to count front is keeps = let reach : to ≤ at = keeps (omega arith) in omega arith

  place_is : shown → (before.input id).place ≡ 0 → (now.input id).place ≡ length taken
  place_is seen front = let read = took.read seen in omega (arith, read.place, front)

  front_of : shown → (before.input id).place ≡ 0 → Front (before.input id) taken (rest (now.input id))
  front_of seen front =
      let read = took.read seen in
      record {
        whole = sym (at_front (before.input id) front) ∙ read.taken;
        not_past = passes (before.input id).file.fails_at (before.input id).place (now.input id).place (length taken) front (place_is seen front) read.not_past;
      }

  same_fault : shown → (now.input id).file.fails_at ≡ (before.input id).file.fails_at
  same_fault seen = ap (λ (f : File). f.fails_at) (took.read seen).file

  is_by : (p : Prefix) (limit : ℕ) (i : Input) (left : List ℕ) → i.file.bytes ≡ taken ++ left → p ≡ prefix_before limit i.file.fails_at (taken ++ left) → p ≡ prefix_before limit i.file.fails_at i.file.bytes
  is_by p limit i left whole is = is ∙ ap (λ (bytes : List ℕ). prefix_before limit i.file.fails_at bytes) (sym whole)

  some_within : (n : ℕ) (xs : List ℕ) → 0 < n → within_limit n xs ≡ xs
  some_within n xs some = grind (arith, nat_tests)

  -- the byte past the limit was taken
  pub future_over : held.credit ≡ 0 → FutureAt shown (before.input id) held taken reason.Limit
  future_over none = record {
    future = record {
      prefix = record { bytes = taken; stop = reason.Limit };
      more = [];
      begun = λ is. cc;
      is = λ seen front. let f = front_of seen front in is_by (record { bytes = taken; stop = reason.Limit }) script_limit (before.input id) (rest (now.input id)) f.whole (past_limit script_limit (before.input id).file.fails_at taken (rest (now.input id)) (omega (arith, credit, none)) f.not_past);
      may = record { ended = λ is some. absurd (omega (arith, none, some)); over = λ is. (refl, refl) };
      text = sym (ap (λ (n : ℕ). within_limit n taken ++ []) none ∙ append-nil (take (length taken - 1) taken));
    };
    stops = refl;
    none = refl;
  }

  -- a read failed
  pub future_fault : 0 < held.credit → held.ended ≡ false → (shown → IsStuck (now.input id)) → FutureAt shown (before.input id) held taken reason.Failure
  future_fault some unended stuck = record {
    future = record {
      prefix = record { bytes = taken; stop = reason.Failure };
      more = [];
      begun = λ is. cc;
      is = λ seen front. let f = front_of seen front in is_by (record { bytes = taken; stop = reason.Failure }) script_limit (before.input id) (rest (now.input id)) f.whole (at_fault script_limit (before.input id).file.fails_at taken (rest (now.input id)) (omega (arith, credit, some)) (sym (same_fault seen) ∙ (stuck seen ∙ ap (λ n. Some n) (place_is seen front))));
      may = record { ended = λ is left. cc; over = λ is. absurd (omega (arith, is, some)) };
      text = sym (append-nil (within_limit held.credit taken) ∙ some_within held.credit taken some);
    };
    stops = refl;
    none = refl;
  }

  -- the input came to its end
  pub future_ended : 0 < held.credit → IsTrue held.ended → KnowsEnd shown id held now → FutureAt shown (before.input id) held taken reason.End
  future_ended some ended knows = record {
    future = record {
      prefix = record { bytes = taken; stop = reason.End };
      more = [];
      begun = λ is. cc;
      is = λ seen front.
          let f = front_of seen front in
          let none : taken ++ rest (now.input id) ≡ taken = ap (λ (left : List ℕ). taken ++ left) (knows.rest seen ended) ∙ append-nil taken in
          let free : (before.input id).file.fails_at ≡ Some (length taken) → ⊥ = λ fails. knows.free seen ended (same_fault seen ∙ (fails ∙ ap (λ n. Some n) (sym (place_is seen front)))) in
          at_end script_limit (before.input id).file.fails_at taken (omega (arith, credit, some)) f.not_past free
          ∙ ap (λ (bytes : List ℕ). prefix_before script_limit (before.input id).file.fails_at bytes) (sym (f.whole ∙ none));
      may = record { ended = λ is left. (refl, refl); over = λ is. absurd (omega (arith, is, some)) };
      text = sym (append-nil (within_limit held.credit taken) ∙ some_within held.credit taken some);
    };
    stops = refl;
    none = refl;
  }

  -- more may be read
  future_open : 0 < held.credit → held.ended ≡ false → Future shown (before.input id) held taken
  future_open some unended = by_prefix (prefix_before script_limit (before.input id).file.fails_at (before.input id).file.bytes) refl
    where
      begins : shown → (before.input id).place ≡ 0 → take (length taken) (text_of (prefix_before script_limit (before.input id).file.fails_at (before.input id).file.bytes)) ≡ taken
      begins seen front =
          let f = front_of seen front in
          ap (λ (bytes : List ℕ). take (length taken) (text_of (prefix_before script_limit (before.input id).file.fails_at bytes))) f.whole
          ∙ front_is script_limit (before.input id).file.fails_at taken (rest (now.input id)) (omega (arith, credit, some)) f.not_past

      may : (more : List ℕ) (stop : StopReason) → MayGoOn held more (ending_of stop)
      may more stop = record { ended = λ is left. cc; over = λ is. absurd (omega (arith, is, some)) }

      by_test : (p : Prefix) → p ≡ prefix_before script_limit (before.input id).file.fails_at (before.input id).file.bytes → (same : Bool) → bytes_eq (take (length taken) (text_of p)) taken ≡ same → Future shown (before.input id) held taken
      by_test p of true is =
          let front : take (length taken) (text_of p) ≡ taken = (bytes_eq-Decides (take (length taken) (text_of p)) taken).0 is in
          record {
            prefix = p;
            more = drop (length taken) (text_of p);
            begun = λ unbegun. is_begun script_limit (before.input id).file.fails_at (before.input id).file.bytes (sym (ap (λ (q : Prefix). q.stop) of) ∙ unbegun);
            is = λ seen first. of;
            may = may (drop (length taken) (text_of p)) p.stop;
            text = sym (take-append-drop (length taken) (text_of p)) ∙ ap (λ (xs : List ℕ). xs ++ drop (length taken) (text_of p)) (front ∙ sym (some_within held.credit taken some));
          }
      by_test p of false is = record {
        prefix = record { bytes = taken; stop = reason.Failure };
        more = [];
        begun = λ is. cc;
        is = λ seen first.
            let begun = begins seen first in
            let same : take (length taken) (text_of p) ≡ taken = ap (λ (q : Prefix). take (length taken) (text_of q)) of ∙ begun in
            let holds : bytes_eq (take (length taken) (text_of p)) taken ≡ true = (bytes_eq-Decides (take (length taken) (text_of p)) taken).1 same in
            let clash : true ≡ false = sym holds ∙ is in
            cc;
        may = may [] reason.Failure;
        text = sym (append-nil (within_limit held.credit taken) ∙ some_within held.credit taken some);
      }

      by_prefix : (p : Prefix) → p ≡ prefix_before script_limit (before.input id).file.fails_at (before.input id).file.bytes → Future shown (before.input id) held taken
      by_prefix p of = by_test p of (bytes_eq (take (length taken) (text_of p)) taken) refl

  pub future : KnowsEnd shown id held now → Future shown (before.input id) held taken
  future knows = by_credit held.credit refl
    where
      by_end : 0 < held.credit → (ended : Bool) → held.ended ≡ ended → Future shown (before.input id) held taken
      by_end some true is = (future_ended some is knows).future
      by_end some false is = future_open some is

      by_credit : (n : ℕ) → held.credit ≡ n → Future shown (before.input id) held taken
      by_credit zero is = (future_over is).future
      by_credit (suc n) is = by_end (omega (arith, is)) held.ended refl
