-- Writes one after another: what is appended by all of them, and where they break off.
use Rattle.std.proofs.Common.{◌≡◌, ℕ, ◌+◌, ◌<◌, List, [], ◌∷◌, ◌++◌, length, take, drop, Some, refl, sym, ◌∙◌, ap, subst, inl, inr, arith, take-add}
use Rattle.std.specs.Prelude.{slice_get}
use Rattle.std.specs.List.{concat}
use Rattle.std.proofs.lemmas.List.{append_assoc, append-nil, take-append-drop, take-append-le, length-drop}
use Rattle.std.proofs.lemmas.List.Folds.{concat-append}
use Rattle.std.proofs.lemmas.Option.{slice_get_within}
use Rattle.std.proofs.Math.Seq.{take-append-add}
use Rattle.pm_io.specs.declared.sink.Sink as Sink
use Rattle.pm_base.specs.Faults.{Rose}
use Rattle.pm_io.specs.Sink.{SinkMoment, Appended, Wrote, HasFailed}
use Rattle.pm_io.specs.Writing.{BreaksIn}
use Rattle.pm_base.proofs.ListLemmas.{take_next, drop_found, slice_get-append_left, slice_get-append_right, append-not_nil}

pub Wrote-refl : (shown : Type 0) (now : SinkMoment) → Wrote shown [] now now
Wrote-refl shown now = record { faults = refl; stalls = refl; appended = λ seen. sym (append-nil now.bytes) }

pub Wrote-trans : (shown : Type 0) (a b : List ℕ) (first mid last : SinkMoment) → Wrote shown a first mid → Wrote shown b mid last → Wrote shown (a ++ b) first last
Wrote-trans shown a b first mid last before after = record {
  faults = after.faults ∙ before.faults;
  stalls = after.stalls ∙ before.stalls;
  appended = λ seen. after.appended seen ∙ ap (λ bytes. bytes ++ b) (before.appended seen) ∙ append_assoc first.bytes a b;
}

-- the same bytes in other words
pub Wrote-is : (shown : Type 0) (a b : List ℕ) (first last : SinkMoment) → a ≡ b → Wrote shown a first last → Wrote shown b first last
Wrote-is shown a b first last is wrote = subst (λ bytes. Wrote shown bytes first last) is wrote

-- some first bytes were written, and then some of what was left of them
pub Wrote-next : (shown : Type 0) (bytes piece : List ℕ) (written count : ℕ) (first mid last : SinkMoment) → piece ≡ drop written bytes → Wrote shown (take written bytes) first mid → Wrote shown (take count piece) mid last → Wrote shown (take (written + count) bytes) first last
Wrote-next shown bytes piece written count first mid last left before after =
    rw (take-add written count bytes, ← left) (Wrote-trans shown (take written bytes) (take count piece) first mid last before after)

-- a failure after some writes is one of all that was done
pub HasFailed-later : (shown : Type 0) (bytes : List ℕ) (first mid last : SinkMoment) → Wrote shown bytes first mid → HasFailed mid last → HasFailed first last
HasFailed-later shown bytes first mid last before (inl rose) = let same : mid.faults ≡ first.faults = before.faults in inl (omega (arith, same, rose))
HasFailed-later shown bytes first mid last before (inr rose) = let same : mid.stalls ≡ first.stalls = before.stalls in inr (omega (arith, same, rose))

-- one more of some pieces was written
pub Wrote-piece : (shown : Type 0) (pieces : List (List ℕ)) (k : ℕ) (piece : List ℕ) (first mid last : SinkMoment) → slice_get pieces k ≡ Some piece → Wrote shown (concat (take k pieces)) first mid → Wrote shown piece mid last → Wrote shown (concat (take (k + 1) pieces)) first last
Wrote-piece shown pieces k piece first mid last found before after =
    Wrote-is shown (concat (take k pieces) ++ piece) (concat (take (k + 1) pieces)) first last
    (sym (ap concat (take_next pieces k piece found) ∙ concat-append (take k pieces) (piece ∷ []) ∙ ap (λ bytes. concat (take k pieces) ++ bytes) (append-nil piece)))
    (Wrote-trans shown (concat (take k pieces)) piece first mid last before after)

module _ {O : Type 0} (o : Sink.Ghosts O) where
  -- what broke off has failed
  pub BreaksIn-failed : (k : ℕ) (pieces : List (List ℕ)) (first last : O) → BreaksIn o k pieces first last → HasFailed (o.state first) (o.state last)
  BreaksIn-failed k pieces first last breaks =
      HasFailed-later o.observable (concat (take k pieces) ++ breaks.part) (o.state first) (o.state breaks.before) (o.state last) breaks.wrote breaks.failed

  -- some first bytes were written, not all, and then a write failed
  pub BreaksIn-first : (bytes : List ℕ) (written : ℕ) (first mid last : O) → written < length bytes → Wrote o.observable (take written bytes) (o.state first) (o.state mid) → Appended o.observable [] (o.state mid) (o.state last) → HasFailed (o.state mid) (o.state last) → BreaksIn o 0 (bytes ∷ []) first last
  BreaksIn-first bytes written first mid last short wrote ended failed = record {
    piece = bytes;
    part = take written bytes;
    lost = drop written bytes;
    before = mid;
    is = refl;
    split = sym (take-append-drop written bytes);
    short = λ none. let zero : length (drop written bytes) ≡ 0 = ap length none in absurd (omega (arith, length-drop written bytes));
    wrote = wrote;
    failed = failed;
    ended = ended;
  }

  -- some first bytes were written, not all, and then a write took 0 of those that are left
  pub BreaksIn-stalled : (bytes piece : List ℕ) (written count : ℕ) (first mid last : O) → piece ≡ drop written bytes → written < length bytes → Wrote o.observable (take written bytes) (o.state first) (o.state mid) → count ≡ 0 → Appended o.observable (take count piece) (o.state mid) (o.state last) → (0 < length piece → Rose (o.state mid).stalls (o.state last).stalls) → BreaksIn o 0 (bytes ∷ []) first last
  BreaksIn-stalled bytes piece written count first mid last left short wrote none ended stalled =
      let some : 0 < length piece = omega (arith, ap length left, length-drop written bytes) in
      let P : ℕ → Type 0 = λ n. Appended o.observable (take n piece) (o.state mid) (o.state last) in
      BreaksIn-first bytes written first mid last short wrote (subst P none ended) (inr (stalled some))

  -- all of some pieces were written, and then others broke off
  pub BreaksIn-after : (done pieces : List (List ℕ)) (k : ℕ) (first mid last : O) → Wrote o.observable (concat done) (o.state first) (o.state mid) → BreaksIn o k pieces mid last → BreaksIn o (length done + k) (done ++ pieces) first last
  BreaksIn-after done pieces k first mid last wrote breaks = record {
    piece = breaks.piece;
    part = breaks.part;
    lost = breaks.lost;
    before = breaks.before;
    is = slice_get-append_right done pieces k ∙ breaks.is;
    split = breaks.split;
    short = breaks.short;
    wrote = Wrote-is o.observable (concat done ++ (concat (take k pieces) ++ breaks.part)) (concat (take (length done + k) (done ++ pieces)) ++ breaks.part) (o.state first) (o.state breaks.before) joined
        (Wrote-trans o.observable (concat done) (concat (take k pieces) ++ breaks.part) (o.state first) (o.state mid) (o.state breaks.before) wrote breaks.wrote);
    failed = breaks.failed;
    ended = breaks.ended;
  } where
    joined : concat done ++ (concat (take k pieces) ++ breaks.part) ≡ concat (take (length done + k) (done ++ pieces)) ++ breaks.part
    joined = sym (append_assoc (concat done) (concat (take k pieces)) breaks.part)
        ∙ ap (λ bytes. bytes ++ breaks.part) (sym (concat-append done (take k pieces)) ∙ ap concat (sym (take-append-add done pieces k)))

  -- pieces that broke off, and others that would have followed
  pub BreaksIn-before : (pieces more : List (List ℕ)) (k : ℕ) (first last : O) → BreaksIn o k pieces first last → BreaksIn o k (pieces ++ more) first last
  BreaksIn-before pieces more k first last breaks = record {
    piece = breaks.piece;
    part = breaks.part;
    lost = breaks.lost;
    before = breaks.before;
    is = slice_get-append_left pieces more k breaks.piece breaks.is;
    split = breaks.split;
    short = breaks.short;
    wrote = Wrote-is o.observable (concat (take k pieces) ++ breaks.part) (concat (take k (pieces ++ more)) ++ breaks.part) (o.state first) (o.state breaks.before)
        (ap (λ (front : List (List ℕ)). concat front ++ breaks.part) (sym (take-append-le k pieces more (omega (arith, slice_get_within pieces k breaks.piece breaks.is))))) breaks.wrote;
    failed = breaks.failed;
    ended = breaks.ended;
  }

  -- the next of some pieces broke off
  pub BreaksIn-piece : (pieces : List (List ℕ)) (k : ℕ) (piece : List ℕ) (first mid last : O) → slice_get pieces k ≡ Some piece → Wrote o.observable (concat (take k pieces)) (o.state first) (o.state mid) → BreaksIn o 0 (piece ∷ []) mid last → BreaksIn o k pieces first last
  BreaksIn-piece pieces k piece first mid last found wrote breaks = record {
    piece = piece;
    part = breaks.part;
    lost = breaks.lost;
    before = breaks.before;
    is = found;
    split = one breaks.piece breaks.is ∙ breaks.split;
    short = breaks.short;
    wrote = Wrote-trans o.observable (concat (take k pieces)) breaks.part (o.state first) (o.state mid) (o.state breaks.before) wrote breaks.wrote;
    failed = breaks.failed;
    ended = breaks.ended;
  } where
    one : (other : List ℕ) → slice_get (piece ∷ []) 0 ≡ Some other → piece ≡ other
    one other is = cc

  -- lines that broke off are one piece that broke off
  pub BreaksIn-joined : (lines : List (List ℕ)) (k : ℕ) (first last : O) → BreaksIn o k lines first last → BreaksIn o 0 (concat lines ∷ []) first last
  BreaksIn-joined lines k first last breaks = record {
    piece = concat lines;
    part = concat (take k lines) ++ breaks.part;
    lost = breaks.lost ++ concat (drop (k + 1) lines);
    before = breaks.before;
    is = refl;
    split = split;
    short = append-not_nil breaks.lost (concat (drop (k + 1) lines)) breaks.short;
    wrote = breaks.wrote;
    failed = breaks.failed;
    ended = breaks.ended;
  } where
    rest : concat (drop k lines) ≡ breaks.part ++ (breaks.lost ++ concat (drop (k + 1) lines))
    rest = ap concat (drop_found lines k breaks.piece breaks.is)
        ∙ ap (λ bytes. bytes ++ concat (drop (k + 1) lines)) breaks.split
        ∙ append_assoc breaks.part breaks.lost (concat (drop (k + 1) lines))

    split : concat lines ≡ (concat (take k lines) ++ breaks.part) ++ (breaks.lost ++ concat (drop (k + 1) lines))
    split = ap concat (sym (take-append-drop k lines)) ∙ concat-append (take k lines) (drop k lines)
        ∙ ap (λ bytes. concat (take k lines) ++ bytes) rest
        ∙ sym (append_assoc (concat (take k lines)) breaks.part (breaks.lost ++ concat (drop (k + 1) lines)))
