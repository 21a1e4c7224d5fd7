-- What numbers mean behind a keyword.
use Rattle.std.proofs.Common.{◌≡◌, ℕ, zero, suc, ◌-◌, ◌^◌, ◌≤◌, Bool, true, false, if◌then◌else◌, List, [], ◌∷◌, length, get_or, Option, Some, None, Ok, nat_le, refl, sym, ap, ◌∙◌, arith, subst}
use Rattle.std.specs.List.{list_all}
use Rattle.std.proofs.lemmas.Bool.Decides.{nat_tests}
use Rattle.pm_base.specs.declared.events.Event.{Event}
use Rattle.pm_base.specs.declared.events.Event.TheVariants as events
use Rattle.pm_io.specs.Numbers.{at_most, number_of}
use Rattle.pm_script.specs.declared.forms.Kind.TheVariants as kinds
use Rattle.pm_script.specs.ObjectLine.{numbers_of, with_number}
use Rattle.pm_script.specs.Sentences.{address_of_word, boot_event, is_number, message_of_words, number_of_place, number_of_word, numbers_meaning}
use Rattle.pm_script.specs.Short.{IsMeant, message_of_numbers}
use Rattle.pm_script.proofs.SentencesLemmas.{boots, interrupts, message, ticks, waits, wakes}

-- what words say whose numbers these are
pub record Numbered (words : List (List ℕ)) (numbers : List ℕ) : Type 0 where
  pub count : length words ≡ length numbers
  pub all : list_all is_number words ≡ true
  pub at : (k : ℕ) → number_of_place words k ≡ get_or numbers k 0

numbered_more : (word : List ℕ) (words : List (List ℕ)) (first : Option ℕ) (rest : Option (List ℕ)) (numbers : List ℕ) → number_of_word word ≡ first
    → ((more : List ℕ) → rest ≡ Some more → Numbered words more) → with_number first rest ≡ Some numbers → Numbered (word ∷ words) numbers
numbered_more word words None rest numbers first later is = cc
numbered_more word words (Some number) None numbers first later is = cc
numbered_more word words (Some number) (Some more) numbers first later is =
    let same : number ∷ more ≡ numbers = cc in
    let rest : Numbered words more = later more refl in
    subst (λ (ns : List ℕ). Numbered (word ∷ words) ns) same (record {
      count = ap suc rest.count;
      all = rw first rest.all;
      at = by rest.at;
    })
  where
    by : ((k : ℕ) → number_of_place words k ≡ get_or more k 0) → (k : ℕ) → number_of_place (word ∷ words) k ≡ get_or (number ∷ more) k 0
    by at zero = rw first refl
    by at (suc k) = at k

pub numbered : (words : List (List ℕ)) (numbers : List ℕ) → numbers_of words ≡ Some numbers → Numbered words numbers
numbered [] numbers is = let same : [] ≡ numbers = cc in subst (λ (ns : List ℕ). Numbered [] ns) same (record { count = refl; all = refl; at = λ k. refl })
numbered (word ∷ words) numbers is = numbered_more word words (number_of_word word) (numbers_of words) numbers refl (numbered words) is

-- as many numbers as a line takes
numbers_mean : (least most : ℕ) (event : List (List ℕ) → Event) (words : List (List ℕ)) (numbers : List ℕ) → Numbered words numbers → least ≤ length numbers → length numbers ≤ most
    → numbers_meaning least most event words ≡ Ok (event words)
numbers_mean least most event words numbers are enough few =
    let least_is : nat_le least (length words) ≡ true = grind (arith, nat_tests, are.count) in
    let most_is : nat_le (length words) most ≡ true = grind (arith, nat_tests, are.count) in
    rw (least_is, most_is, are.all) refl

pub message_meant : (numbers : List ℕ) → 2 ≤ length numbers → length numbers ≤ 7 → IsMeant kinds.Ipi numbers (events.Ipi (record { 0 = get_or numbers 0 0 }) (message_of_numbers numbers))
message_meant numbers enough few words is =
    let are = numbered words numbers is in
    message words ∙ numbers_mean 2 7 (λ words. events.Ipi (record { 0 = number_of_place words 0 }) (message_of_words words)) words numbers are enough few
    ∙ rw (are.at 0, are.at 1, are.at 2, are.at 3, are.at 4, are.at 5, are.at 6) refl

module _ (numbers : List ℕ) (one : length numbers ≡ 1) where
  pub wait_meant : IsMeant kinds.Wfi numbers (events.Wfi (record { 0 = get_or numbers 0 0 }))
  wait_meant words is =
      let are = numbered words numbers is in
      waits words ∙ numbers_mean 1 1 (λ words. events.Wfi (record { 0 = number_of_place words 0 })) words numbers are (omega (arith, one)) (omega (arith, one)) ∙ rw (are.at 0) refl

  pub interrupt_meant : IsMeant kinds.Irq numbers (events.Irq (record { 0 = get_or numbers 0 0 }))
  interrupt_meant words is =
      let are = numbered words numbers is in
      interrupts words ∙ numbers_mean 1 1 (λ words. events.Irq (record { 0 = number_of_place words 0 })) words numbers are (omega (arith, one)) (omega (arith, one)) ∙ rw (are.at 0) refl

  pub wake_meant : IsMeant kinds.Gic numbers (events.Gic (record { 0 = get_or numbers 0 0 }))
  wake_meant words is =
      let are = numbered words numbers is in
      wakes words ∙ numbers_mean 1 1 (λ words. events.Gic (record { 0 = number_of_place words 0 })) words numbers are (omega (arith, one)) (omega (arith, one)) ∙ rw (are.at 0) refl

  pub tick_meant : IsMeant kinds.Tick numbers (events.Tick (get_or numbers 0 0))
  tick_meant words is =
      let are = numbered words numbers is in
      ticks words ∙ numbers_mean 1 1 (λ words. events.Tick (number_of_place words 0)) words numbers are (omega (arith, one)) (omega (arith, one)) ∙ rw (are.at 0) refl

-- a number of 32 bits is one of 64 bits
wider : (value : Option ℕ) (n : ℕ) → at_most (2 ^ 32 - 1) value ≡ Some n → at_most (2 ^ 64 - 1) value ≡ Some n
wider None n is = cc
wider (Some value) n is = by (nat_le value (2 ^ 32 - 1)) refl is
  where
    by : (b : Bool) → nat_le value (2 ^ 32 - 1) ≡ b → (if b then Some value else None) ≡ Some n → at_most (2 ^ 64 - 1) (Some value) ≡ Some n
    by false fits is = cc
    by true fits is =
        let wide : nat_le value (2 ^ 64 - 1) ≡ true = grind (arith, nat_tests) in
        rw wide is

boot_by : (proc address : List ℕ) (first second : Option ℕ) (numbers : List ℕ) → number_of_word proc ≡ first → number_of_word address ≡ second → with_number first (with_number second (Some [])) ≡ Some numbers
    → boot_event (number_of_word proc) (address_of_word address) ≡ Ok (events.Boot (record { 0 = get_or numbers 0 0 }) (get_or numbers 1 0))
boot_by proc address None second numbers one two is = cc
boot_by proc address (Some p) None numbers one two is = cc
boot_by proc address (Some p) (Some a) numbers one two is =
    let same : p ∷ a ∷ [] ≡ numbers = cc in
    rw (one, wider (number_of address) a two, sym same) refl

pub boot_meant : (numbers : List ℕ) → length numbers ≡ 2 → IsMeant kinds.Boot numbers (events.Boot (record { 0 = get_or numbers 0 0 }) (get_or numbers 1 0))
boot_meant numbers two [] is = absurd (omega (arith, two, (numbered [] numbers is).count))
boot_meant numbers two (proc ∷ []) is = absurd (omega (arith, two, (numbered (proc ∷ []) numbers is).count))
boot_meant numbers two (proc ∷ address ∷ []) is = boots (proc ∷ address ∷ []) ∙ boot_by proc address (number_of_word proc) (number_of_word address) numbers refl refl is
boot_meant numbers two (proc ∷ address ∷ word ∷ words) is = absurd (omega (arith, two, (numbered (proc ∷ address ∷ word ∷ words) numbers is).count))
