-- The forms of a script's lines: one table, what each argument is read as, and the event that a line's arguments make.
use Rattle.std.specs.Prelude.{ℕ, ◌-◌, ◌^◌, List, [], ◌∷◌, Option, Some, None, codes, find, option_map, slice_get}
use Rattle.std.specs.Str.{bytes_eq}
use Rattle.pm_base.specs.declared.events.Event.{Event}
use Rattle.pm_base.specs.declared.events.Event.TheVariants as events
use Rattle.pm_base.specs.declared.events.Message.{Message}
use Rattle.pm_io.specs.Numbers.{number_of, at_most}
use Rattle.pm_script.specs.declared.forms.Argument.{Argument}
use Rattle.pm_script.specs.declared.forms.Argument.TheVariants as arguments
use Rattle.pm_script.specs.declared.forms.Kind.{Kind}
use Rattle.pm_script.specs.declared.forms.Kind.TheVariants.{Ipi, Boot, Wfi, Irq, Gic, Tick, Post, Serve, Smc, Task, Cancel, Break, Mend}
use Rattle.pm_script.specs.declared.forms.LineForm.{LineForm}
use Rattle.pm_script.specs.declared.forms.Width.{Width}
use Rattle.pm_script.specs.declared.forms.Width.TheVariants.{Number, Address}

-- a row of the table: a line's first word, what it says, the least number of arguments, and what each argument is.
-- A line has at most as many arguments as its row lists
pub record Row : Type 0 where
  pub keyword : List ℕ
  pub kind : Kind
  pub least : ℕ
  pub widths : List Width

abbrev pub row : List ℕ → Kind → ℕ → List Width → Row
row keyword kind least widths = record { keyword = keyword; kind = kind; least = least; widths = widths }

-- the table
abbrev pub line_forms : List Row
line_forms =
    row (codes "ipi") Ipi 2 (Number ∷ Number ∷ Number ∷ Number ∷ Number ∷ Number ∷ Number ∷ [])
    ∷ row (codes "boot") Boot 2 (Number ∷ Address ∷ [])
    ∷ row (codes "wfi") Wfi 1 (Number ∷ [])
    ∷ row (codes "irq") Irq 1 (Number ∷ [])
    ∷ row (codes "gic") Gic 1 (Number ∷ [])
    ∷ row (codes "tick") Tick 1 (Number ∷ [])
    ∷ row (codes "post") Post 2 (Number ∷ Number ∷ Number ∷ Number ∷ Number ∷ Number ∷ Number ∷ [])
    ∷ row (codes "serve") Serve 0 []
    ∷ row (codes "smc") Smc 2 (Number ∷ Number ∷ Address ∷ Address ∷ Address ∷ [])
    ∷ row (codes "task") Task 2 (Number ∷ Number ∷ [])
    ∷ row (codes "cancel") Cancel 1 (Number ∷ [])
    ∷ row (codes "break") Break 1 (Number ∷ [])
    ∷ row (codes "mend") Mend 1 (Number ∷ [])
    ∷ []

-- the first row of the table with this keyword
abbrev pub row_with : List ℕ → Option Row
row_with keyword = find (λ row. bytes_eq row.keyword keyword) line_forms

-- the argument that a word is: a number that fits 32 bits, or one that fits 64 where it is an address or an argument of
-- a power call
abbrev pub argument_of : Width → List ℕ → Option Argument
argument_of Number word = option_map (λ number. arguments.Number number) (at_most (2 ^ 32 - 1) (number_of word))
argument_of Address word = option_map (λ address. arguments.Address address) (at_most (2 ^ 64 - 1) (number_of word))

abbrev pub with_first : Option Argument → Option (List Argument) → Option (List Argument)
with_first None rest = None
with_first (Some argument) rest = option_map (λ arguments. argument ∷ arguments) rest

-- the arguments that words are, each by its width: none if one of them isn't a number of its width
abbrev pub arguments_of : List Width → List (List ℕ) → Option (List Argument)
arguments_of [] words = Some []
arguments_of (width ∷ widths) [] = Some []
arguments_of (width ∷ widths) (word ∷ words) = with_first (argument_of width word) (arguments_of widths words)

abbrev pub number_in : Option Argument → ℕ
number_in (Some (arguments.Number number)) = number
number_in (Some (arguments.Address address)) = 0
number_in None = 0

abbrev pub address_in : Option Argument → ℕ
address_in (Some (arguments.Number number)) = 0
address_in (Some (arguments.Address address)) = address
address_in None = 0

-- the number at a place of a line's arguments, and the address there: a missing one is 0
abbrev pub number_at : List Argument → ℕ → ℕ
number_at given k = number_in (slice_get given k)

abbrev pub address_at : List Argument → ℕ → ℕ
address_at given k = address_in (slice_get given k)

-- the message whose words follow the number of its sender
abbrev pub message_of : List Argument → Message
message_of given =
    record { api = number_at given 1; args = number_at given 2 ∷ number_at given 3 ∷ number_at given 4 ∷ number_at given 5 ∷ number_at given 6 ∷ [] }

-- the arguments of a call, which follow its processor and its function
abbrev pub call_arguments : List Argument → List ℕ
call_arguments given = address_at given 2 ∷ address_at given 3 ∷ address_at given 4 ∷ []

-- the event that a line's arguments make
abbrev pub event_of : Kind → List Argument → Event
event_of Ipi given = events.Ipi (record { 0 = number_at given 0 }) (message_of given)
event_of Boot given = events.Boot (record { 0 = number_at given 0 }) (address_at given 1)
event_of Wfi given = events.Wfi (record { 0 = number_at given 0 })
event_of Irq given = events.Irq (record { 0 = number_at given 0 })
event_of Gic given = events.Gic (record { 0 = number_at given 0 })
event_of Tick given = events.Tick (number_at given 0)
event_of Post given = events.Post (record { 0 = number_at given 0 }) (message_of given)
event_of Serve given = events.Serve
event_of Smc given = events.Smc (record { 0 = number_at given 0 }) (number_at given 1) (call_arguments given)
event_of Task given = events.Task (number_at given 0) (number_at given 1)
event_of Cancel given = events.Cancel (number_at given 0)
event_of Break given = events.Break (record { 0 = number_at given 0 })
event_of Mend given = events.Mend (record { 0 = number_at given 0 })

-- the row that a form of the code is, and the first of some forms with a keyword
abbrev pub row_of : LineForm → Row
row_of form = row form.0.now form.1 form.2 form.3.now

unfoldable pub first_with : List ℕ → List LineForm → Option LineForm
first_with keyword forms = find (λ form. bytes_eq form.0.now keyword) forms
