-- What holds of all lines of an input and of those that a reader still holds, however the input goes on.
use Rattle.std.proofs.Common.{◌≡◌, ℕ, zero, suc, ◌+◌, ◌-◌, ◌<◌, ◌==◌, Bool, true, false, cond, Some, None, List, [], ◌∷◌, ◌++◌, length, take, drop, position, refl, sym, ◌∙◌, ap, subst, arith, append_assoc, inl, inr}
use Rattle.std.proofs.lemmas.Bool.Decides.{nat_tests}
use Rattle.std.proofs.lemmas.List.{length-append, drop-append-le, take-append-le, append-nil}
use Rattle.std.proofs.lemmas.List.Quantifiers.{position-Some}
use Rattle.pm_io.specs.Lines.{lines, least_length}
use Rattle.pm_io.specs.declared.lines.Ending.{Ending}
use Rattle.pm_io.specs.declared.lines.Ending.TheVariants.{Whole}
use Rattle.pm_io.proofs.LinesLemmas.{line_by_feed, last_line, no_line}
use Rattle.pm_reader.specs.declared.reader.Taken.TheVariants.{Line}
use Rattle.pm_reader.specs.Reader.{Held, GaveByFeed, GaveLast, Gives, Grows, is_feed, within, within_limit}
use Rattle.pm_reader.specs.Way.{HoldsHowever, MayGoOn}
use Rattle.pm_reader.proofs.HeldLemmas.{position_front, within_all}

-- ---- bytes were read

some_within : (n : ℕ) (xs : List ℕ) → 0 < n → within_limit n xs ≡ xs
some_within n xs some = grind (arith, nat_tests)

cut_append : (xs ys : List ℕ) → 0 < length ys → take (length (xs ++ ys) - 1) (xs ++ ys) ≡ xs ++ take (length ys - 1) ys
cut_append [] ys some = refl
cut_append (x ∷ xs) ys some =
    let size : length ((x ∷ xs) ++ ys) - 1 ≡ suc (length (xs ++ ys) - 1) = omega (arith, length-append xs ys, some) in
    ap (λ (n : ℕ). take n (x ∷ (xs ++ ys))) size ∙ ap (λ (l : List ℕ). x ∷ l) (cut_append xs ys some)

module _ (R : List ℕ → List ℕ → Ending → Type 0) where
  moved : (a b c d : List ℕ) (ending : Ending) → a ≡ b → c ≡ d → R a c ending → R b d ending
  moved a b c d ending one two holds = subst (λ (x : List ℕ). R x d ending) one (subst (λ (y : List ℕ). R a y ending) two holds)

  read_on : (held new : Held) (taken got : List ℕ) → HoldsHowever R held taken → Grows held got new → 0 < new.credit → HoldsHowever R new (taken ++ got)
  read_on held new taken got so_far grows some more ending on =
      let credit = grows.credit in
      let before : MayGoOn held (got ++ more) ending = record {
        ended = λ is left. let both = grows.ended is in let rest = on.ended both.1 some in (ap (λ (g : List ℕ). g ++ more) both.0 ∙ rest.0, rest.1);
        over = λ none. absurd (omega arith);
      } in
      let a : within_limit held.credit taken ++ (got ++ more) ≡ within_limit new.credit (taken ++ got) ++ more =
      ap (λ (t : List ℕ). t ++ (got ++ more)) (some_within held.credit taken (omega arith))
      ∙ (sym (append_assoc taken got more) ∙ ap (λ (t : List ℕ). t ++ more) (sym (some_within new.credit (taken ++ got) some)))
      in
      let b : within held ++ (got ++ more) ≡ within new ++ more =
      ap (λ (t : List ℕ). t ++ (got ++ more)) (within_all held (omega arith))
      ∙ (sym (append_assoc held.bytes got more) ∙ ap (λ (t : List ℕ). t ++ more) (sym (within_all new some ∙ grows.bytes)))
      in
      moved (within_limit held.credit taken ++ (got ++ more)) (within_limit new.credit (taken ++ got) ++ more) (within held ++ (got ++ more)) (within new ++ more) ending a b (so_far (got ++ more) ending before)

  -- nothing was read past the limit
  read_none : (held new : Held) (taken : List ℕ) → HoldsHowever R held taken → Grows held [] new → new.credit ≡ 0 → HoldsHowever R new (taken ++ [])
  read_none held new taken so_far grows none more ending on =
      let same : held.credit ≡ new.credit = omega (arith, grows.credit) in
      let before : MayGoOn held more ending = record {
        ended = λ is left. absurd (omega (arith, left, same, none));
        over = λ is. on.over none;
      } in
      let a : within_limit held.credit taken ++ more ≡ within_limit new.credit (taken ++ []) ++ more =
      ap (λ (n : ℕ). within_limit n taken ++ more) same ∙ ap (λ (t : List ℕ). within_limit new.credit t ++ more) (sym (append-nil taken))
      in
      let bytes : held.bytes ≡ new.bytes = sym (grows.bytes ∙ append-nil held.bytes) in
      let b : within held ++ more ≡ within new ++ more =
      ap (λ (n : ℕ). within_limit n held.bytes ++ more) same ∙ ap (λ (t : List ℕ). within_limit new.credit t ++ more) bytes
      in
      moved (within_limit held.credit taken ++ more) (within_limit new.credit (taken ++ []) ++ more) (within held ++ more) (within new ++ more) ending a b (so_far more ending before)

  -- the last byte that was read is past the limit
  read_past : (held new : Held) (taken got : List ℕ) → HoldsHowever R held taken → Grows held got new → new.credit ≡ 0 → 0 < length got → HoldsHowever R new (taken ++ got)
  read_past held new taken got so_far grows none some more ending on =
      let front : List ℕ = take (length got - 1) got in
      let left : 0 < held.credit = omega (arith, grows.credit, some) in
      let before : MayGoOn held (front ++ more) ending = record {
        ended = λ is positive. let both = grows.ended is in let empty : length got ≡ 0 = ap (λ (g : List ℕ). length g) both.0 in absurd (omega (arith, empty, some));
        over = λ is. absurd (omega (arith, is, left));
      } in
      let cut : (xs : List ℕ) → within_limit new.credit (xs ++ got) ≡ xs ++ front = λ xs. ap (λ (n : ℕ). within_limit n (xs ++ got)) none ∙ cut_append xs got some in
      let a : within_limit held.credit taken ++ (front ++ more) ≡ within_limit new.credit (taken ++ got) ++ more =
      ap (λ (t : List ℕ). t ++ (front ++ more)) (some_within held.credit taken left)
      ∙ (sym (append_assoc taken front more) ∙ ap (λ (t : List ℕ). t ++ more) (sym (cut taken)))
      in
      let b : within held ++ (front ++ more) ≡ within new ++ more =
      ap (λ (t : List ℕ). t ++ (front ++ more)) (within_all held left)
      ∙ (sym (append_assoc held.bytes front more)
      ∙ ap (λ (t : List ℕ). t ++ more) (sym (ap (λ (t : List ℕ). within_limit new.credit t) grows.bytes ∙ cut held.bytes)))
      in
      moved (within_limit held.credit taken ++ (front ++ more)) (within_limit new.credit (taken ++ got) ++ more) (within held ++ (front ++ more)) (within new ++ more) ending a b (so_far (front ++ more) ending before)

  pub goes_on_read : (held new : Held) (taken got : List ℕ) → HoldsHowever R held taken → Grows held got new → HoldsHowever R new (taken ++ got)
  goes_on_read held new taken got so_far grows = by_credit new.credit refl
    where
      by_got : (g : List ℕ) → Grows held g new → new.credit ≡ 0 → HoldsHowever R new (taken ++ g)
      by_got [] grows none = read_none held new taken so_far grows none
      by_got (x ∷ xs) grows none = read_past held new taken (x ∷ xs) so_far grows none (omega arith)

      by_credit : (n : ℕ) → new.credit ≡ n → HoldsHowever R new (taken ++ got)
      by_credit zero is = by_got got grows is
      by_credit (suc n) is = read_on held new taken got so_far grows (omega (arith, is))

-- ---- a line was given

-- what stands before the first line feed that is held is the next line, however the input goes on
line_first : (ending : Ending) (held more line : List ℕ) → position is_feed held ≡ Some (length line) → line ≡ take (length line) held → lines ending (held ++ more) ≡ line ∷ lines ending (drop (length line + 1) held ++ more)
line_first ending held more line found is =
    let at = position-Some is_feed held (length line) 0 found in
    let inside : length line < length held = at.0 in
    line_by_feed (least_length ending) (held ++ more) (length line) (position_front held more (length line) found)
    ∙ (ap (λ (l : List ℕ). l ∷ lines ending (drop (length line + 1) (held ++ more))) (take-append-le (length line) held more (omega arith) ∙ sym is)
    ∙ ap (λ (t : List ℕ). line ∷ lines ending t) (drop-append-le (length line + 1) held more (omega arith)))

nothing_within : (n : ℕ) (xs : List ℕ) → xs ≡ [] → within_limit n xs ≡ []
nothing_within n xs none = by (n == 0) (length xs - 1) xs none
  where
    by : (over : Bool) (m : ℕ) (ys : List ℕ) → ys ≡ [] → cond over (take m ys) ys ≡ []
    by false m ys none = none
    by true zero [] none = refl
    by true (suc m) [] none = refl
    by true m (y ∷ ys) none = cc

pub record FirstGiven (held new : Held) (line more : List ℕ) (ending : Ending) : Type 0 where
  pub before : MayGoOn held more ending
  pub first : lines ending (within held ++ more) ≡ line ∷ lines ending (within new ++ more)

by_feed : (held new : Held) (line more : List ℕ) (ending : Ending) → GaveByFeed held line new → MayGoOn new more ending → FirstGiven held new line more ending
by_feed held new line more ending gave on = record {
  before = record {
    ended = λ is some. on.ended (gave.ended ∙ is) (omega (arith, gave.credit, some));
    over = λ is. on.over (gave.credit ∙ is);
  };
  first = line_first ending (within held) more line gave.place gave.front ∙ ap (λ (t : List ℕ). line ∷ lines ending (t ++ more)) (sym gave.rest);
}

last_alone : (line : List ℕ) → position is_feed line ≡ None → 0 < length line → lines Whole line ≡ line ∷ []
last_alone line none some = last_line 1 line none (omega (arith, some))

by_end : (held new : Held) (line more : List ℕ) (ending : Ending) → GaveLast held line new → MayGoOn new more ending → FirstGiven held new line more ending
by_end held new line more ending gave on =
    let credit : new.credit ≡ held.credit = ap (λ (h : Held). h.credit) gave.new_is in
    let ended : new.ended ≡ held.ended = ap (λ (h : Held). h.ended) gave.new_is in
    let bytes : new.bytes ≡ [] = ap (λ (h : Held). h.bytes) gave.new_is in
    let both = on.ended (ended ∙ gave.ended) (omega (arith, credit, gave.credit)) in
    let whole : within held ++ more ≡ line =
    ap (λ (t : List ℕ). t ++ more) (within_all held gave.credit ∙ sym gave.line_is) ∙ (ap (λ (t : List ℕ). line ++ t) both.0 ∙ append-nil line)
    in
    let none : within new ++ more ≡ [] =
    ap (λ (t : List ℕ). t ++ more) (nothing_within new.credit new.bytes bytes) ∙ both.0
    in
    record {
      before = record { ended = λ is some. both; over = λ is. absurd (omega (arith, is, gave.credit)) };
      first = ap (λ (t : List ℕ). lines ending t) whole
          ∙ (ap (λ (e : Ending). lines e line) both.1
          ∙ (last_alone line gave.unended gave.some
          ∙ (ap (λ (ls : List (List ℕ)). line ∷ ls) (sym (no_line 1 [] refl (omega arith)))
          ∙ (ap (λ (e : Ending). line ∷ lines e []) (sym both.1) ∙ ap (λ (t : List ℕ). line ∷ lines ending t) (sym none)))));
    }

first_given : (held new : Held) (line more : List ℕ) (ending : Ending) → Gives held Line line new → MayGoOn new more ending → FirstGiven held new line more ending
first_given held new line more ending (inl gave) on = by_feed held new line more ending gave on
first_given held new line more ending (inr gave) on = by_end held new line more ending gave on

same_credit : (held new : Held) (line : List ℕ) → Gives held Line line new → new.credit ≡ held.credit
same_credit held new line (inl gave) = gave.credit
same_credit held new line (inr gave) = ap (λ (h : Held). h.credit) gave.new_is

pub goes_on_line : (R S : List ℕ → List ℕ → Ending → Type 0) (held new : Held) (taken line : List ℕ) → ((all left later : List ℕ) (ending : Ending) → lines ending left ≡ line ∷ lines ending later → R all left ending → S all later ending) → HoldsHowever R held taken → Gives held Line line new → HoldsHowever S new taken
goes_on_line R S held new taken line step so_far gives more ending on =
    let first = first_given held new line more ending gives on in
    let all : within_limit held.credit taken ++ more ≡ within_limit new.credit taken ++ more = ap (λ (n : ℕ). within_limit n taken ++ more) (sym (same_credit held new line gives)) in
    subst (λ (t : List ℕ). S t (within new ++ more) ending) all
    (step (within_limit held.credit taken ++ more) (within held ++ more) (within new ++ more) ending first.first (so_far more ending first.before))
