-- What each kind of line means in a sentence of its own: the table of line forms says the same of all of them at once.
use Rattle.std.specs.Prelude.{◌≡◌, codes, ℕ, ◌-◌, ◌^◌, ◌&&◌, Bool, nat_le, if◌then◌else◌, List, [], ◌∷◌, drop, length, slice_get, take, Option, Some, None, is_some, unwrap_or, option_and_then, Result, Ok, Err}
use Rattle.std.specs.List.{AllByRecursion, list_all}
use Rattle.pm_base.specs.declared.events.Event.{Event}
use Rattle.pm_base.specs.declared.events.Event.TheVariants.{Ipi, Boot, Wfi, Irq, Gic, Tick, Post, Serve, Smc, Task, Cancel, Break, Mend}
use Rattle.pm_base.specs.declared.events.Message.{Message}
use Rattle.pm_io.specs.Numbers.{number_of, at_most}
use Rattle.pm_script.specs.declared.meaning.LineFault.{LineFault}
use Rattle.pm_script.specs.declared.meaning.LineFault.TheVariants.{Number, Count}

-- the number of a word, if it is one that fits 32 bits
abbrev pub number_of_word : List ℕ → Option ℕ
number_of_word word = at_most (2 ^ 32 - 1) (number_of word)

-- the address of a word, if it is a number that fits 64 bits
abbrev pub address_of_word : List ℕ → Option ℕ
address_of_word word = at_most (2 ^ 64 - 1) (number_of word)

abbrev pub is_number : List ℕ → Bool
is_number word = is_some (number_of_word word)

abbrev pub is_address : List ℕ → Bool
is_address word = is_some (address_of_word word)

-- the number at a place of a list of words: 0 if no word is there
abbrev pub number_of_place : List (List ℕ) → ℕ → ℕ
number_of_place words k = unwrap_or (option_and_then number_of_word (slice_get words k)) 0

-- the number of 64 bits at a place, 0 if there is none
abbrev pub address_of_place : List (List ℕ) → ℕ → ℕ
address_of_place words k = unwrap_or (option_and_then address_of_word (slice_get words k)) 0

-- what a line means whose first word is followed by `least` to `most` words, each of them a number
abbrev pub numbers_meaning : ℕ → ℕ → (List (List ℕ) → Event) → List (List ℕ) → Result Event LineFault
numbers_meaning least most event words =
    if nat_le least (length words) && nat_le (length words) most then (if list_all is_number words then Ok (event words) else Err Number)
    else Err Count

-- the message whose words follow the number of its sender. Missing arguments are 0
abbrev pub message_of_words : List (List ℕ) → Message
message_of_words words =
    record { api = number_of_place words 1; args = number_of_place words 2 ∷ number_of_place words 3 ∷ number_of_place words 4 ∷ number_of_place words 5 ∷ number_of_place words 6 ∷ [] }

-- `ipi M API` and 0 to 5 arguments: master M sends a message
abbrev pub ipi_meaning : List (List ℕ) → Result Event LineFault
ipi_meaning words = numbers_meaning 2 7 (λ words. Ipi (record { 0 = number_of_place words 0 }) (message_of_words words)) words

-- `post M API` and 0 to 5 arguments: master M puts a message into its box
abbrev pub post_meaning : List (List ℕ) → Result Event LineFault
post_meaning words = numbers_meaning 2 7 (λ words. Post (record { 0 = number_of_place words 0 }) (message_of_words words)) words

-- `serve`: the messages in all boxes are served
abbrev pub serve_meaning : List (List ℕ) → Result Event LineFault
serve_meaning words = numbers_meaning 0 0 (λ words. Serve) words

-- the arguments of a power call, which follow its processor and its function. Missing arguments are 0
abbrev pub arguments_of_words : List (List ℕ) → List ℕ
arguments_of_words words = address_of_place words 2 ∷ address_of_place words 3 ∷ address_of_place words 4 ∷ []

-- `smc P FUNCTION` and 0 to 3 arguments of 64 bits: processor P makes a power call
abbrev pub smc_meaning : List (List ℕ) → Result Event LineFault
smc_meaning words =
    if nat_le 2 (length words) && nat_le (length words) 5
    then (if list_all is_number (take 2 words) && list_all is_address (drop 2 words)
    then Ok (Smc (record { 0 = number_of_place words 0 }) (number_of_place words 1) (arguments_of_words words))
    else Err Number)
    else Err Count

-- the event of a processor and an address, if both are numbers
abbrev pub boot_event : Option ℕ → Option ℕ → Result Event LineFault
boot_event (Some proc) (Some address) = Ok (Boot (record { 0 = proc }) address)
boot_event (Some proc) None = Err Number
boot_event None address = Err Number

-- `boot P ADDRESS`: a boot loader starts processor P at an address
abbrev pub boot_meaning : List (List ℕ) → Result Event LineFault
boot_meaning (proc ∷ address ∷ []) = boot_event (number_of_word proc) (address_of_word address)
boot_meaning _ = Err Count

-- `wfi P`: processor P waits for an interrupt
abbrev pub wfi_meaning : List (List ℕ) → Result Event LineFault
wfi_meaning words = numbers_meaning 1 1 (λ words. Wfi (record { 0 = number_of_place words 0 })) words

-- `irq S`: slave S raises its interrupt
abbrev pub irq_meaning : List (List ℕ) → Result Event LineFault
irq_meaning words = numbers_meaning 1 1 (λ words. Irq (record { 0 = number_of_place words 0 })) words

-- `gic P`: an interrupt at processor P itself
abbrev pub gic_meaning : List (List ℕ) → Result Event LineFault
gic_meaning words = numbers_meaning 1 1 (λ words. Gic (record { 0 = number_of_place words 0 })) words

-- `tick N`: N units of time pass
abbrev pub tick_meaning : List (List ℕ) → Result Event LineFault
tick_meaning words = numbers_meaning 1 1 (λ words. Tick (number_of_place words 0)) words

-- `task KEY INTERVAL`: the timed task under a key is started at an interval
abbrev pub task_meaning : List (List ℕ) → Result Event LineFault
task_meaning words = numbers_meaning 2 2 (λ words. Task (number_of_place words 0) (number_of_place words 1)) words

-- `cancel KEY`: the timed task under a key is taken out
abbrev pub cancel_meaning : List (List ℕ) → Result Event LineFault
cancel_meaning words = numbers_meaning 1 1 (λ words. Cancel (number_of_place words 0)) words

-- `break N`: the device's node N fails from now on
abbrev pub break_meaning : List (List ℕ) → Result Event LineFault
break_meaning words = numbers_meaning 1 1 (λ words. Break (record { 0 = number_of_place words 0 })) words

-- `mend N`: the device's node N works again
abbrev pub mend_meaning : List (List ℕ) → Result Event LineFault
mend_meaning words = numbers_meaning 1 1 (λ words. Mend (record { 0 = number_of_place words 0 })) words

-- the first words of lines
abbrev pub keywords : List (List ℕ)
keywords =
    codes "ipi" ∷ codes "boot" ∷ codes "wfi" ∷ codes "irq" ∷ codes "gic" ∷ codes "tick" ∷ codes "post" ∷ codes "serve"
    ∷ codes "smc" ∷ codes "task" ∷ codes "cancel" ∷ codes "break" ∷ codes "mend" ∷ codes "object" ∷ []

-- a word is none of them
abbrev pub IsNoKeyword : List ℕ → Type 0
IsNoKeyword word = AllByRecursion (λ keyword. keyword ≡ word → ⊥) keywords
