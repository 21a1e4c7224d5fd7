-- What the calls of a reader gave is what it took, and where that ends.
use Rattle.std.proofs.Common.{◌≡◌, ℕ, zero, suc, ◌+◌, ◌-◌, ◌<◌, ◌==◌, ◌||◌, Bool, true, false, IsTrue, List, [], ◌++◌, length, take, refl, sym, ◌∙◌, ap, subst, arith, nat_lt, Some, None, ◌∷◌, ◌≤◌, append_assoc}
use Rattle.std.specs.Prelude.{if◌then◌else◌}
use Rattle.std.proofs.lemmas.Bool.Decides.{nat_tests}
use Rattle.std.proofs.lemmas.List.{append-nil, length-append}
use Rattle.pm_io.specs.declared.lines.Ending.{Ending}
use Rattle.pm_io.specs.declared.prefix.StopReason.{StopReason}
use Rattle.pm_io.specs.declared.prefix.StopReason.TheVariants as reason
use Rattle.pm_io.specs.Calls.{Call, Read}
use Rattle.pm_io.specs.Given.{Gave, given, prefix_given, stop_after, stop_by}
use Rattle.pm_io.specs.Inputs.{Adds, Moment, Took}
use Rattle.pm_io.specs.Prefix.{text_of, text_within}
use Rattle.pm_io.specs.Readings.{Meanwhile}
use Rattle.pm_io.proofs.GivenLemmas.{gave_end, gave_fault, gave_some, meanwhile_gave, meanwhile_gave_none, one_call}
use Rattle.pm_script.specs.Script.{ending_of, script_limit}
use Rattle.pm_reader.specs.declared.reader.Taken.{Taken}
use Rattle.pm_reader.specs.declared.reader.Taken.TheVariants.{Fault}
use Rattle.pm_reader.specs.Reader.{GaveOn, Gives, Grew, Grows, Held, NeedsMore, Turn, within, within_limit}
use Rattle.pm_reader.specs.Way.{HoldsHowever, MayGoOn}
use Rattle.pm_reader.specs.Window.{Filled}
use Rattle.pm_reader.proofs.TookLemmas.{Took-refl, Took-trans}

-- ---- calls behind others

or_false : (b : Bool) → b ≡ (b || false)
or_false true = refl
or_false false = refl

or_both : (x y z s t : Bool) → y ≡ (x || s) → z ≡ (y || t) → z ≡ (x || (s || t))
or_both true y z s t one two = two ∙ ap (λ (b : Bool). b || t) one
or_both false y z s t one two = two ∙ ap (λ (b : Bool). b || t) one

-- nothing was read
pub on_none : (id : ℕ) (ended : Bool) (m : Moment) → GaveOn id [] ended ended m m
on_none id ended m = record { told = false; gave = meanwhile_gave_none id m; seen = or_false ended }

pub on_both : (id : ℕ) (a b : List ℕ) (x y z : Bool) (before mid after : Moment) → GaveOn id a x y before mid → GaveOn id b y z mid after → GaveOn id (a ++ b) x z before after
on_both id a b x y z before mid after one two = record {
  told = one.told || two.told;
  gave = meanwhile_gave id a b one.told two.told before mid after one.gave two.gave;
  seen = or_both x y z one.told two.told one.seen two.seen;
}

-- one read gave bytes, or told the end
on_read : (id : ℕ) (got : List ℕ) (count : ℕ) (before after : Moment) → Adds (Read id (Some got)) before after → length got ≡ count → GaveOn id got false (count == 0) before after
on_read id [] count before after adds size =
    let over : (count == 0) ≡ true = grind (arith, nat_tests) in
    record { told = true; gave = one_call (Read id (Some [])) before after (Gave id [] true) adds (gave_end id); seen = over }
on_read id (x ∷ xs) count before after adds size =
    let some : 0 < count = omega (arith, size) in
    let on : (count == 0) ≡ false = grind (arith, nat_tests) in
    record { told = false; gave = one_call (Read id (Some (x ∷ xs))) before after (Gave id (x ∷ xs) false) adds (gave_some id (x ∷ xs) (omega arith)); seen = on }

-- a read that failed gave nothing
on_fault : (id : ℕ) (ended : Bool) (before after : Moment) → Adds (Read id None) before after → GaveOn id [] ended ended before after
on_fault id ended before after adds =
    record { told = false; gave = one_call (Read id None) before after (Gave id [] false) adds (gave_fault id); seen = or_false ended }

-- ---- what a reader holds grows

pub grew_none : (shown : Type 0) (id : ℕ) (held : Held) (m : Moment) → Grew shown id held held m m
grew_none shown id held m = record {
  got = [];
  grows = record { bytes = sym (append-nil held.bytes); credit = omega arith; ended = λ is. (refl, is) };
  took = Took-refl shown id m;
  gave = on_none id held.ended m;
}

pub grew_by : (shown : Type 0) (id most count : ℕ) (old new : Held) (before after : Moment) → Filled shown id most count old.bytes new.bytes before after → new.credit + count ≡ old.credit → old.ended ≡ false → new.ended ≡ (count == 0) → Grew shown id old new before after
grew_by shown id most count old new before after filled credit open_ ended = record {
  got = filled.got;
  grows = record {
    bytes = filled.bytes;
    credit = omega (arith, filled.size, credit);
    ended = λ is. absurd (closed old.ended is open_);
  };
  took = filled.took;
  gave = subst (λ (e : Bool). GaveOn id filled.got e new.ended before after) (sym open_)
      (subst (λ (e : Bool). GaveOn id filled.got false e before after) (sym ended) (on_read id filled.got count before after filled.logged filled.size));
} where
  closed : (b : Bool) → IsTrue b → b ≡ false → ⊥
  closed true is unended = cc
  closed false is unended = cc

grows_both : (old mid new : Held) (a b : List ℕ) → Grows old a mid → Grows mid b new → Grows old (a ++ b) new
grows_both old mid new a b one two = record {
  bytes = two.bytes ∙ (ap (λ (xs : List ℕ). xs ++ b) one.bytes ∙ append_assoc old.bytes a b);
  credit = omega (arith, one.credit, two.credit, length-append a b);
  ended = λ is. let first = one.ended is in let second = two.ended first.1 in (ap (λ (xs : List ℕ). xs ++ b) first.0 ∙ second.0, second.1);
}

pub grew_more : (shown : Type 0) (id : ℕ) (old held asked new : Held) (before mid after : Moment) → Grew shown id old held before mid → NeedsMore held asked → Grew shown id asked new mid after → Grew shown id old new before after
grew_more shown id old held asked new before mid after one needs more =
    let two : Grew shown id held new mid after = subst (λ (h : Held). Grew shown id h new mid after) needs.same more in
    record {
      got = one.got ++ two.got;
      grows = grows_both old held new one.got two.got one.grows two.grows;
      took = Took-trans shown id one.got two.got before mid after one.took two.took;
      gave = on_both id one.got two.got old.ended held.ended new.ended before mid after one.gave two.gave;
    }

-- an answer was given by what is held
pub turn_gave : (shown : Type 0) (id : ℕ) (old held new : Held) (answer : Taken) (line : List ℕ) (before after : Moment) → Grew shown id old held before after → Gives held answer line new → Turn shown id before after old new answer line
turn_gave shown id old held new answer line before after grew gives =
    record { got = grew.got; held = held; took = grew.took; gave = grew.gave; grows = grew.grows; gives = gives }

-- the read of more failed
pub turn_fault : (shown : Type 0) (id : ℕ) (old held asked new : Held) (line : List ℕ) (before mid after : Moment) → Grew shown id old held before mid → NeedsMore held asked → new ≡ asked → Took shown id [] mid after → Adds (Read id None) mid after → Turn shown id before after old new Fault line
turn_fault shown id old held asked new line before mid after grew needs same took adds = record {
  got = grew.got;
  held = held;
  took = subst (λ (xs : List ℕ). Took shown id xs before after) (append-nil grew.got) (Took-trans shown id grew.got [] before mid after grew.took took);
  gave = subst (λ (xs : List ℕ). GaveOn id xs old.ended held.ended before after) (append-nil grew.got)
      (on_both id grew.got [] old.ended held.ended held.ended before mid after grew.gave (on_fault id held.ended mid after adds));
  grows = grew.grows;
  gives = (needs.credit, needs.ended, needs.unended, same ∙ needs.same);
}

-- ---- what was taken since an input was begun

pub way_gave : (id : ℕ) (a b : List ℕ) (was is : Bool) (first mid now : Moment) → Meanwhile first mid (Gave id a was) → GaveOn id b was is mid now → Meanwhile first now (Gave id (a ++ b) is)
way_gave id a b was is first mid now one two =
    subst (λ (e : Bool). Meanwhile first now (Gave id (a ++ b) e)) (sym two.seen)
    (meanwhile_gave id a b was two.told first mid now one two.gave)

module _ (id : ℕ) (held : Held) (taken : List ℕ) (calls : List Call) (gave : Gave id taken held.ended calls) where
  -- where it ends
  pub given_stop : stop_after script_limit id calls ≡ stop_by held.ended script_limit taken
  given_stop =
      ap (λ (e : Bool). stop_by e script_limit (given id calls)) gave.ended
      ∙ ap (λ (xs : List ℕ). stop_by held.ended script_limit xs) gave.bytes

module _ (held : Held) (taken : List ℕ) (credit : held.credit + length taken ≡ script_limit + 1) where
  is_over : held.credit ≡ 0 → nat_lt script_limit (length taken) ≡ true
  is_over none = let many : script_limit < length taken = omega (arith, credit, none) in grind (arith, nat_tests)

  is_within : 0 < held.credit → nat_lt script_limit (length taken) ≡ false
  is_within some = let few : length taken ≤ script_limit = omega (arith, credit, some) in grind (arith, nat_tests)

  by_test : (over : Bool) → nat_lt script_limit (length taken) ≡ over → stop_by held.ended script_limit taken ≡ (if over then reason.Limit else (if held.ended then reason.End else reason.Failure))
  by_test over is = ap (λ (b : Bool). if b then reason.Limit else (if held.ended then reason.End else reason.Failure)) is

  pub stop_over : held.credit ≡ 0 → stop_by held.ended script_limit taken ≡ reason.Limit
  stop_over none = by_test true (is_over none)

  pub stop_ended : 0 < held.credit → IsTrue held.ended → stop_by held.ended script_limit taken ≡ reason.End
  stop_ended some is = by_test false (is_within some) ∙ ap (λ (e : Bool). if e then reason.End else reason.Failure) (truth held.ended is)
    where
      truth : (b : Bool) → IsTrue b → b ≡ true
      truth true is = refl
      truth false is = cc

  pub stop_open : 0 < held.credit → held.ended ≡ false → stop_by held.ended script_limit taken ≡ reason.Failure
  stop_open some is = by_test false (is_within some) ∙ ap (λ (e : Bool). if e then reason.End else reason.Failure) is

  some_within : (n : ℕ) (xs : List ℕ) → 0 < n → within_limit n xs ≡ xs
  some_within n xs some = grind (arith, nat_tests)

  -- the text of it, and how it may still go on: not at all
  record Closes (stop : StopReason) : Type 0 where
    pub text : text_within stop taken ≡ within_limit held.credit taken ++ []
    pub may : MayGoOn held [] (ending_of stop)

  closes : Closes (stop_by held.ended script_limit taken)
  closes = by_credit held.credit refl
    where
      over : held.credit ≡ 0 → Closes reason.Limit
      over none = record {
        text = sym (ap (λ (n : ℕ). within_limit n taken ++ []) none ∙ append-nil (take (length taken - 1) taken));
        may = record { ended = λ is some. absurd (omega (arith, none, some)); over = λ is. (refl, refl) };
      }

      whole : 0 < held.credit → taken ≡ within_limit held.credit taken ++ []
      whole some = sym (append-nil (within_limit held.credit taken) ∙ some_within held.credit taken some)

      by_end : 0 < held.credit → (ended : Bool) → held.ended ≡ ended → Closes (stop_by held.ended script_limit taken)
      by_end some true is =
          subst Closes (sym (stop_ended some (subst (λ (b : Bool). IsTrue b) (sym is) refl)))
          (record { text = whole some; may = record { ended = λ seen left. (refl, refl); over = λ none. absurd (omega (arith, none, some)) } })
      by_end some false is =
          subst Closes (sym (stop_open some is))
          (record { text = whole some; may = record { ended = λ seen left. cc; over = λ none. absurd (omega (arith, none, some)) } })

      by_credit : (n : ℕ) → held.credit ≡ n → Closes (stop_by held.ended script_limit taken)
      by_credit zero is = subst Closes (sym (stop_over is)) (over is)
      by_credit (suc n) is = by_end (omega (arith, is)) held.ended refl

-- what goes on however the input does holds of what the calls gave
pub given_text : (S : List ℕ → List ℕ → Ending → Type 0) (id : ℕ) (held : Held) (taken : List ℕ) (calls : List Call) → held.credit + length taken ≡ script_limit + 1 → HoldsHowever S held taken → Gave id taken held.ended calls → S (text_of (prefix_given script_limit id calls)) (within held ++ []) (ending_of (stop_after script_limit id calls))
given_text S id held taken calls credit so_far gave =
    let stop : StopReason = stop_by held.ended script_limit taken in
    let c : Closes held taken credit stop = closes held taken credit in
    let one : S (text_within stop taken) (within held ++ []) (ending_of stop) =
    subst (λ (text : List ℕ). S text (within held ++ []) (ending_of stop)) (sym c.text) (so_far [] (ending_of stop) c.may)
    in
    let two : S (text_within stop (given id calls)) (within held ++ []) (ending_of stop) =
    subst (λ (xs : List ℕ). S (text_within stop xs) (within held ++ []) (ending_of stop)) (sym gave.bytes) one
    in
    subst (λ (s : StopReason). S (text_within s (given id calls)) (within held ++ []) (ending_of s)) (sym (given_stop id held taken calls gave)) two
