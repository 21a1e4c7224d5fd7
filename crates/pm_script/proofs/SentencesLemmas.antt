-- The sentence of each kind of line follows from its row of the table.
use Rattle.std.proofs.Common.{◌≡◌, ℕ, zero, suc, ◌≤◌, Bool, true, false, ◌&&◌, Option, Some, None, slice_get, List, [], ◌∷◌, ◌++◌, length, find, map, option_map, unwrap_or, is_some, ok_or, refl, arith, ◌∙◌, ap, sym, Err, Ok, nat_le, if◌then◌else◌, codes}
use Rattle.std.specs.List.{AllByRecursion, list_all, list_any}
use Rattle.std.specs.Str.{bytes_eq}
use Rattle.std.proofs.lemmas.Bool.Decides.{nat_tests}
use Rattle.std.proofs.lemmas.Slice.Eq.{bytes_eq-Decides}
use Rattle.pm_base.specs.declared.events.Event.{Event}
use Rattle.pm_base.specs.declared.events.Event.TheVariants as events
use Rattle.pm_base.specs.declared.events.Message.{Message}
use Rattle.pm_base.specs.declared.names.NodeId.{NodeId}
use Rattle.pm_script.specs.declared.forms.Argument.{Argument}
use Rattle.pm_script.specs.declared.forms.Argument.TheVariants as arguments
use Rattle.pm_script.specs.declared.forms.Kind.TheVariants as kinds
use Rattle.pm_script.specs.declared.forms.Width.{Width}
use Rattle.pm_script.specs.declared.forms.Width.TheVariants as widths
use Rattle.pm_script.specs.declared.meaning.LineFault.TheVariants.{Number, Unknown}
use Rattle.pm_script.specs.Forms.{Row, address_at, argument_of, arguments_of, call_arguments, event_of, line_forms, address_in, message_of, number_at, row, with_first}
use Rattle.pm_script.specs.Meaning.{form_meaning, found_meaning, other_meaning, words_meaning}
use Rattle.pm_script.specs.ObjectLine.{object_keyword, object_meaning}
use Rattle.pm_script.specs.Sentences.{IsNoKeyword, address_of_place, address_of_word, arguments_of_words, boot_meaning, boot_event, break_meaning, cancel_meaning, gic_meaning, mend_meaning, ipi_meaning, irq_meaning, is_address, is_number, message_of_words, number_of_place, number_of_word, numbers_meaning, post_meaning, serve_meaning, smc_meaning, task_meaning, tick_meaning, wfi_meaning}

-- the argument of 32 bits that a word is
abbrev as_number : List ℕ → Argument
as_number word = arguments.Number (unwrap_or (number_of_word word) 0)

-- the argument of 64 bits that a word is
abbrev as_address : List ℕ → Argument
as_address word = arguments.Address (unwrap_or (address_of_word word) 0)

-- a first argument before the others
first_and : (made : ℕ → Argument) (value : Option ℕ) (all : Bool) (rest : List Argument) → with_first (option_map made value) (if all then Some rest else None) ≡ (if is_some value && all then Some (made (unwrap_or value 0) ∷ rest) else None)
first_and made None true rest = refl
first_and made None false rest = refl
first_and made (Some n) true rest = refl
first_and made (Some n) false rest = refl

-- words that are all to be numbers of one width
all_alike : (one : Width) (made : ℕ → Argument) (read : List ℕ → Option ℕ) → ((word : List ℕ) → argument_of one word ≡ option_map made (read word)) → (given : List Width) (words : List (List ℕ))
    → AllByRecursion (λ width. width ≡ one) given → length words ≤ length given
    → arguments_of given words ≡ (if list_all (λ word. is_some (read word)) words then Some (map (λ word. made (unwrap_or (read word) 0)) words) else None)
all_alike one made read same [] [] all few = refl
all_alike one made read same [] (word ∷ words) all few = absurd (omega arith)
all_alike one made read same (width ∷ given) [] all few = refl
all_alike one made read same (width ∷ given) (word ∷ words) all few =
    rw (all.0, same word, all_alike one made read same given words all.1 (omega arith)) (first_and made (read word) (list_all (λ word. is_some (read word)) words) (map (λ word. made (unwrap_or (read word) 0)) words))

all_numbers : (given : List Width) (words : List (List ℕ)) → AllByRecursion (λ width. width ≡ widths.Number) given → length words ≤ length given → arguments_of given words ≡ (if list_all is_number words then Some (map as_number words) else None)
all_numbers given words all few = all_alike widths.Number (λ number. arguments.Number number) number_of_word (λ word. refl) given words all few

all_addresses : (given : List Width) (words : List (List ℕ)) → AllByRecursion (λ width. width ≡ widths.Address) given → length words ≤ length given → arguments_of given words ≡ (if list_all is_address words then Some (map as_address words) else None)
all_addresses given words all few = all_alike widths.Address (λ address. arguments.Address address) address_of_word (λ word. refl) given words all few

-- the number at a place
place_of : (words : List (List ℕ)) (k : ℕ) → number_at (map as_number words) k ≡ number_of_place words k
place_of [] k = refl
place_of (word ∷ words) zero = refl
place_of (word ∷ words) (suc k) = place_of words k

address_place : (words : List (List ℕ)) (k : ℕ) → address_at (map as_address words) k ≡ address_of_place words k
address_place [] k = refl
address_place (word ∷ words) zero = refl
address_place (word ∷ words) (suc k) = address_place words k

event_or : (event : List Argument → Event) (spoken : Event) (all : Bool) (given : List Argument) → event given ≡ spoken → ok_or (option_map event (if all then Some given else None)) Number ≡ (if all then Ok spoken else Err Number)
event_or event spoken true given is = ap Ok is
event_or event spoken false given is = refl

-- a row whose arguments are all numbers of 32 bits
numbers_row : (row : Row) (spoken : List (List ℕ) → Event) → AllByRecursion (λ width. width ≡ widths.Number) row.widths → ((words : List (List ℕ)) → event_of row.kind (map as_number words) ≡ spoken words) → (words : List (List ℕ)) → form_meaning row words ≡ numbers_meaning row.least (length row.widths) spoken words
numbers_row row spoken all same words = by (nat_le row.least (length words)) (nat_le (length words) (length row.widths)) refl refl
  where
    by : (enough few : Bool) → nat_le row.least (length words) ≡ enough → nat_le (length words) (length row.widths) ≡ few → form_meaning row words ≡ numbers_meaning row.least (length row.widths) spoken words
    by true true least most =
        let within : length words ≤ length row.widths = grind (arith, nat_tests) in
        rw (least, most, all_numbers row.widths words all within) (event_or (event_of row.kind) (spoken words) (list_all is_number words) (map as_number words) (same words))
    by false few least most = rw least refl
    by true false least most = rw (least, most) refl

message_same : (words : List (List ℕ)) → message_of (map as_number words) ≡ message_of_words words
message_same words = rw (place_of words 1, place_of words 2, place_of words 3, place_of words 4, place_of words 5, place_of words 6) refl

-- the event of a sender and its message
sent_same : (event : NodeId → Message → Event) (words : List (List ℕ))
    → event (record { 0 = number_at (map as_number words) 0 }) (message_of (map as_number words)) ≡ event (record { 0 = number_of_place words 0 }) (message_of_words words)
sent_same event words =
    ap (λ (n : ℕ). event (record { 0 = n }) (message_of (map as_number words))) (place_of words 0)
    ∙ ap (event (record { 0 = number_of_place words 0 })) (message_same words)

pub message : (words : List (List ℕ)) → words_meaning (codes "ipi" ∷ words) ≡ ipi_meaning words
message words = numbers_row (row (codes "ipi") kinds.Ipi 2 (widths.Number ∷ widths.Number ∷ widths.Number ∷ widths.Number ∷ widths.Number ∷ widths.Number ∷ widths.Number ∷ [])) (λ words. events.Ipi (record { 0 = number_of_place words 0 }) (message_of_words words)) (refl, (refl, (refl, (refl, (refl, (refl, (refl, tt))))))) (sent_same events.Ipi) words

pub posts : (words : List (List ℕ)) → words_meaning (codes "post" ∷ words) ≡ post_meaning words
posts words = numbers_row (row (codes "post") kinds.Post 2 (widths.Number ∷ widths.Number ∷ widths.Number ∷ widths.Number ∷ widths.Number ∷ widths.Number ∷ widths.Number ∷ [])) (λ words. events.Post (record { 0 = number_of_place words 0 }) (message_of_words words)) (refl, (refl, (refl, (refl, (refl, (refl, (refl, tt))))))) (sent_same events.Post) words

pub serves : (words : List (List ℕ)) → words_meaning (codes "serve" ∷ words) ≡ serve_meaning words
serves words = numbers_row (row (codes "serve") kinds.Serve 0 []) (λ words. events.Serve) tt (λ words. refl) words

pub waits : (words : List (List ℕ)) → words_meaning (codes "wfi" ∷ words) ≡ wfi_meaning words
waits words = numbers_row (row (codes "wfi") kinds.Wfi 1 (widths.Number ∷ [])) (λ words. events.Wfi (record { 0 = number_of_place words 0 })) (refl, tt) (λ words. ap (λ n. events.Wfi (record { 0 = n })) (place_of words 0)) words

pub interrupts : (words : List (List ℕ)) → words_meaning (codes "irq" ∷ words) ≡ irq_meaning words
interrupts words = numbers_row (row (codes "irq") kinds.Irq 1 (widths.Number ∷ [])) (λ words. events.Irq (record { 0 = number_of_place words 0 })) (refl, tt) (λ words. ap (λ n. events.Irq (record { 0 = n })) (place_of words 0)) words

pub wakes : (words : List (List ℕ)) → words_meaning (codes "gic" ∷ words) ≡ gic_meaning words
wakes words = numbers_row (row (codes "gic") kinds.Gic 1 (widths.Number ∷ [])) (λ words. events.Gic (record { 0 = number_of_place words 0 })) (refl, tt) (λ words. ap (λ n. events.Gic (record { 0 = n })) (place_of words 0)) words

pub ticks : (words : List (List ℕ)) → words_meaning (codes "tick" ∷ words) ≡ tick_meaning words
ticks words = numbers_row (row (codes "tick") kinds.Tick 1 (widths.Number ∷ [])) (λ words. events.Tick (number_of_place words 0)) (refl, tt) (λ words. ap events.Tick (place_of words 0)) words

pub starts : (words : List (List ℕ)) → words_meaning (codes "task" ∷ words) ≡ task_meaning words
starts words = numbers_row (row (codes "task") kinds.Task 2 (widths.Number ∷ widths.Number ∷ [])) (λ words. events.Task (number_of_place words 0) (number_of_place words 1)) (refl, (refl, tt)) (λ words. rw (place_of words 0, place_of words 1) refl) words

pub cancels : (words : List (List ℕ)) → words_meaning (codes "cancel" ∷ words) ≡ cancel_meaning words
cancels words = numbers_row (row (codes "cancel") kinds.Cancel 1 (widths.Number ∷ [])) (λ words. events.Cancel (number_of_place words 0)) (refl, tt) (λ words. ap events.Cancel (place_of words 0)) words

pub breaks : (words : List (List ℕ)) → words_meaning (codes "break" ∷ words) ≡ break_meaning words
breaks words = numbers_row (row (codes "break") kinds.Break 1 (widths.Number ∷ [])) (λ words. events.Break (record { 0 = number_of_place words 0 })) (refl, tt) (λ words. ap (λ n. events.Break (record { 0 = n })) (place_of words 0)) words

pub mends : (words : List (List ℕ)) → words_meaning (codes "mend" ∷ words) ≡ mend_meaning words
mends words = numbers_row (row (codes "mend") kinds.Mend 1 (widths.Number ∷ [])) (λ words. events.Mend (record { 0 = number_of_place words 0 })) (refl, tt) (λ words. ap (λ n. events.Mend (record { 0 = n })) (place_of words 0)) words

boots_by : (proc address : Option ℕ) → ok_or (option_map (event_of kinds.Boot) (with_first (option_map (λ number. arguments.Number number) proc) (with_first (option_map (λ address. arguments.Address address) address) (Some [])))) Number ≡ boot_event proc address
boots_by None address = refl
boots_by (Some proc) None = refl
boots_by (Some proc) (Some address) = refl

and_false : (b : Bool) → (b && false) ≡ false
and_false true = refl
and_false false = refl

pub boots : (words : List (List ℕ)) → words_meaning (codes "boot" ∷ words) ≡ boot_meaning words
boots [] = refl
boots (proc ∷ []) = refl
boots (proc ∷ address ∷ []) = boots_by (number_of_word proc) (address_of_word address)
boots (proc ∷ address ∷ word ∷ words) = let many : nat_le (length (proc ∷ address ∷ word ∷ words)) 2 ≡ false = grind (arith, nat_tests) in rw (many, and_false (nat_le 2 (length (proc ∷ address ∷ word ∷ words)))) refl

-- the processor and the function of a call, before its arguments
call_by : (proc function : Option ℕ) (all : Bool) (rest : List Argument) (args : List ℕ)
    → (address_in (slice_get rest 0) ∷ address_in (slice_get rest 1) ∷ address_in (slice_get rest 2) ∷ []) ≡ args
    → ok_or (option_map (event_of kinds.Smc) (with_first (option_map (λ number. arguments.Number number) proc) (with_first (option_map (λ number. arguments.Number number) function) (if all then Some rest else None)))) Number
    ≡ (if (is_some proc && (is_some function && true)) && all then Ok (events.Smc (record { 0 = unwrap_or proc 0 }) (unwrap_or function 0) args) else Err Number)
call_by None function all rest args is = refl
call_by (Some proc) None true rest args is = refl
call_by (Some proc) None false rest args is = refl
call_by (Some proc) (Some function) false rest args is = refl
call_by (Some proc) (Some function) true rest args is = ap (λ (held : List ℕ). Ok (events.Smc (record { 0 = proc }) function held)) is

pub calls : (words : List (List ℕ)) → words_meaning (codes "smc" ∷ words) ≡ smc_meaning words
calls [] = refl
calls (proc ∷ []) = refl
calls (proc ∷ function ∷ words) = by (nat_le (length (proc ∷ function ∷ words)) 5) refl
  where
    by : (few : Bool) → nat_le (length (proc ∷ function ∷ words)) 5 ≡ few → words_meaning (codes "smc" ∷ proc ∷ function ∷ words) ≡ smc_meaning (proc ∷ function ∷ words)
    by false few = rw (few, and_false (nat_le 2 (length (proc ∷ function ∷ words)))) refl
    by true few =
        let within : length words ≤ 3 = grind (arith, nat_tests) in
        let enough : nat_le 2 (length (proc ∷ function ∷ words)) ≡ true = grind (arith, nat_tests) in
        let args : call_arguments (as_number proc ∷ as_number function ∷ map as_address words) ≡ arguments_of_words (proc ∷ function ∷ words)
        = rw (address_place words 0, address_place words 1, address_place words 2) refl
        in
        rw (enough, few, all_addresses (widths.Address ∷ widths.Address ∷ widths.Address ∷ []) words (refl, (refl, (refl, tt))) within)
        (call_by (number_of_word proc) (number_of_word function) (list_all is_address words) (map as_address words) (arguments_of_words (proc ∷ function ∷ words)) args)

not_found : {X : Type 0} (test : X → Bool) (xs : List X) → list_any test xs ≡ false → find test xs ≡ None
not_found test [] none = refl
not_found test (x ∷ xs) none = by (test x) refl none (not_found test xs)
  where
    by : (b : Bool) → test x ≡ b → list_any test (x ∷ xs) ≡ false → (list_any test xs ≡ false → find test xs ≡ None) → find test (x ∷ xs) ≡ None
    by true is none later = let some : list_any test (x ∷ xs) ≡ true = rw is refl in cc
    by false is none later = let rest : list_any test (x ∷ xs) ≡ list_any test xs = rw is refl in rw is (later (sym rest ∙ none))

-- no row has a word that is none of their keywords
no_row : (word : List ℕ) (rows : List Row) → AllByRecursion (λ keyword. keyword ≡ word → ⊥) (map (λ row. row.keyword) rows) → list_any (λ row. bytes_eq row.keyword word) rows ≡ false
no_row word [] others = refl
no_row word (row ∷ rows) others = by (bytes_eq row.keyword word) refl (no_row word rows others.1)
  where
    by : (same : Bool) → bytes_eq row.keyword word ≡ same → list_any (λ row. bytes_eq row.keyword word) rows ≡ false → list_any (λ row. bytes_eq row.keyword word) (row ∷ rows) ≡ false
    by true is later = absurd (others.0 ((bytes_eq-Decides row.keyword word).0 is))
    by false is later = rw is later

-- what holds of each of some words holds of those in front, and of the last one
front_of : (P : List ℕ → Type 0) (xs ys : List (List ℕ)) → AllByRecursion P (xs ++ ys) → AllByRecursion P xs
front_of P [] ys all = tt
front_of P (x ∷ xs) ys all = (all.0, front_of P xs ys all.1)

last_of : (P : List ℕ → Type 0) (xs : List (List ℕ)) (y : List ℕ) → AllByRecursion P (xs ++ y ∷ []) → P y
last_of P [] y all = all.0
last_of P (x ∷ xs) y all = last_of P xs y all.1

-- the one line that is no row of the table
not_object : (word : List ℕ) (words : List (List ℕ)) (same : Bool) → bytes_eq word object_keyword ≡ same → (object_keyword ≡ word → ⊥) → other_meaning word words ≡ Err Unknown
not_object word words true is other = absurd (other (sym ((bytes_eq-Decides word object_keyword).0 is)))
not_object word words false is other = rw is refl

-- a first word that is no keyword
pub none_found : (word : List ℕ) (words : List (List ℕ)) → IsNoKeyword word → words_meaning (word ∷ words) ≡ Err Unknown
none_found word words others =
    let P : List ℕ → Type 0 = λ keyword. keyword ≡ word → ⊥ in
    let rows : List (List ℕ) = map (λ (row : Row). row.keyword) line_forms in
    ap (λ (row : Option Row). found_meaning row word words) (not_found (λ (row : Row). bytes_eq row.keyword word) line_forms (no_row word line_forms (front_of P rows (object_keyword ∷ []) others)))
    ∙ not_object word words (bytes_eq word object_keyword) refl (last_of P rows object_keyword others)

-- words at an address
pub attaches : (words : List (List ℕ)) → words_meaning (codes "object" ∷ words) ≡ object_meaning words
attaches words = refl
