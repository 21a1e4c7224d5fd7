-- The lines of a core step by their places.
use Rattle.std.proofs.Common.{◌≡◌, ℕ, ◌-◌, ◌<◌, ◌≤◌, List, [], ◌∷◌, ◌++◌, get_or, length, map, ◌∙◌, refl, sym, ap, arith, true, Option, Some, None, zero, suc}
use Rattle.std.specs.Prelude.{IfSome, drop, is_some, option_to_list, slice_get}
use Rattle.std.specs.Option.{option_map}
use Rattle.std.proofs.lemmas.Fmt.{decimal_digit}
use Rattle.std.proofs.lemmas.Option.{slice_get-map}
use Rattle.pm_trace.specs.declared.step.StepLine.{StepLine}
use Rattle.pm_trace.specs.Line.{numbers, spaced}
use Rattle.pm_trace.specs.Step.{numbered_line, step_words}
use Rattle.pm_trace.proofs.LineLemmas.{at_end}

-- an element of a front, of each of which one is made
pub in_front : {X Y : Type 0} (f : X → Y) (xs : List X) (later : List Y) (k : ℕ) (x : X) → slice_get xs k ≡ Some x
    → Some (f x) ≡ slice_get (map f xs ++ later) k
in_front f [] later k x found = cc
in_front f (y ∷ xs) later zero x found = ap (option_map f) (sym found)
in_front f (y ∷ xs) later (suc k) x found = in_front f xs later k x found

-- past the front there are the others
pub past_front : {X Y : Type 0} (f : X → Y) (xs : List X) (later : List Y) (k past : ℕ) → slice_get xs k ≡ None → past ≡ k - length xs
    → slice_get later past ≡ slice_get (map f xs ++ later) k
past_front f [] later k past none is = ap (slice_get later) (omega (arith, is))
past_front f (y ∷ xs) later zero past none is = cc
past_front f (y ∷ xs) later (suc k) past none is = past_front f xs later k past none (omega (arith, is))

-- so for a slice that holds the front
pub in_items : {X Y : Type 0} (f : X → Y) (xs held : List X) (later : List Y) (k : ℕ) (x : X) → held ≡ xs → slice_get held k ≡ Some x
    → Some (f x) ≡ slice_get (map f xs ++ later) k
in_items f xs held later k x is found = in_front f xs later k x (sym (ap (λ items. slice_get items k) is) ∙ found)

pub past_items : {X Y : Type 0} (f : X → Y) (xs held : List X) (later : List Y) (k past : ℕ) → held ≡ xs → slice_get held k ≡ None
    → past ≡ k - length held → slice_get later past ≡ slice_get (map f xs ++ later) k
past_items f xs held later k past is none far =
    past_front f xs later k past (sym (ap (λ items. slice_get items k) is) ∙ none) (far ∙ ap (λ items. k - length items) is)

-- a line that tells this
pub line_told : (n : ℕ) (lines : List StepLine) (k : ℕ) (told : StepLine) (text : List ℕ) → Some told ≡ slice_get lines k
    → text ≡ numbered_line n (step_words told) → slice_get (map (numbered_line n) (map step_words lines)) k ≡ Some text
line_told n lines k told text found is =
    slice_get-map (numbered_line n) (map step_words lines) k
    ∙ (ap (option_map (numbered_line n)) (slice_get-map step_words lines k)
    ∙ (ap (λ (o : Option StepLine). option_map (numbered_line n) (option_map step_words o)) (sym found) ∙ ap (λ (t : List ℕ). Some t) (sym is)))

-- within its length a list has an element
pub none_missing : {X Y : Type 0} (f : X → Y) (xs : List X) (k : ℕ) → None ≡ slice_get xs k → k < length (map f xs) → ⊥
none_missing f [] k none within = omega (arith, within)
none_missing f (x ∷ xs) zero none within = cc
none_missing f (x ∷ xs) (suc k) none within = none_missing f xs k none (omega (arith, within))

-- within the length of a list, its element is the last one that is found past all others
pub some_last : {X Y : Type 0} (f : X → Y) (last : Option X) (xs : List X) (k past : ℕ) → slice_get (option_to_list last) past ≡ slice_get xs k
    → k < length (map f xs) → (last ≡ slice_get xs k) × (is_some last ≡ true)
some_last f None xs k past at within = absurd (none_missing f xs k at within)
some_last f (Some x) xs k zero at within = (at, refl)
some_last f (Some x) xs k (suc past) at within = absurd (none_missing f xs k at within)

-- the line of an answer
pub last_told : (n : ℕ) (lines : List StepLine) (k : ℕ) (last : Option StepLine) (text : List ℕ) → (last ≡ slice_get lines k) × (is_some last ≡ true)
    → IfSome last (λ told. text ≡ numbered_line n (step_words told)) → slice_get (map (numbered_line n) (map step_words lines)) k ≡ Some text
last_told n lines k None text is says = cc
last_told n lines k (Some told) text is says = line_told n lines k told text is.0 says

-- so, if it is appended to a text
pub last_at_end : (last : Option StepLine) (size n : ℕ) (text bytes : List ℕ) → length text ≤ size
    → IfSome last (λ told. bytes ≡ numbered_line n (step_words told) ++ drop size text) → IfSome last (λ told. bytes ≡ numbered_line n (step_words told))
last_at_end None size n text bytes short says = says
last_at_end (Some told) size n text bytes short says = at_end size text (numbered_line n (step_words told)) bytes short says

-- the words of a reply that tells nothing but zeros
pub told_zeros : (words later bytes : List ℕ) → length words ≡ 3 → get_or words 0 0 ≡ 0 → get_or words 1 0 ≡ 0 → get_or words 2 0 ≡ 0
    → bytes ≡ 32 ∷ 48 ∷ 32 ∷ 48 ∷ 32 ∷ 48 ∷ later → bytes ≡ spaced (numbers words) later
told_zeros (a ∷ b ∷ c ∷ []) later bytes three first second third is =
    is
    ∙ ap (λ (digits : List ℕ). 32 ∷ (digits ++ 32 ∷ (digits ++ 32 ∷ (digits ++ later)))) (sym (decimal_digit 0 (omega arith)))
    ∙ rw (first, second, third) refl
told_zeros words later bytes three first second third is = absurd (omega (arith, three))
