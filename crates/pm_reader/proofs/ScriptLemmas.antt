-- The script of lines, one line from the front.
use Rattle.std.proofs.Common.{◌≡◌, ℕ, List, [], ◌∷◌, Result, Ok, Err, sym, ap, ◌∙◌}
use Rattle.pm_base.specs.declared.events.Event.{Event}
use Rattle.pm_script.specs.declared.meaning.LineFault.{LineFault}
use Rattle.pm_script.specs.Meaning.{meaning}
use Rattle.pm_script.specs.Script.{Stop, before, over, script_from}
use Rattle.pm_script.specs.Script.Stop.{Bad}

-- no line is left
abbrev pub IsOver : List (List ℕ) → Type 0
IsOver lines = (stop : Stop) → script_from lines stop ≡ over stop

-- the first of these lines gives an event, and the later ones are left
abbrev pub Gives : List (List ℕ) → Event → List (List ℕ) → Type 0
Gives lines event later = (stop : Stop) → script_from lines stop ≡ before (Ok event) (script_from later stop)

-- the first of these lines has no meaning
abbrev pub IsBad : List (List ℕ) → LineFault → Type 0
IsBad lines fault = (stop : Stop) → script_from lines stop ≡ over (Bad fault)

pub no_line : (lines : List (List ℕ)) → lines ≡ [] → IsOver lines
unfolding script_from
no_line lines none stop = ap (λ (ls : List (List ℕ)). script_from ls stop) none

first_line : (lines : List (List ℕ)) (line : List ℕ) (later : List (List ℕ)) (meant : Result Event LineFault) → lines ≡ line ∷ later → meant ≡ meaning line → (stop : Stop) → script_from lines stop ≡ before meant (script_from later stop)
unfolding script_from
first_line lines line later meant is means stop =
    ap (λ (ls : List (List ℕ)). script_from ls stop) is ∙ ap (λ (m : Result Event LineFault). before m (script_from later stop)) (sym means)

pub good_line : (lines : List (List ℕ)) (line : List ℕ) (later : List (List ℕ)) (meant : Result Event LineFault) (event : Event) → lines ≡ line ∷ later → meant ≡ meaning line → meant ≡ Ok event → Gives lines event later
good_line lines line later meant event is means good stop =
    first_line lines line later meant is means stop ∙ ap (λ (m : Result Event LineFault). before m (script_from later stop)) good

pub bad_line : (lines : List (List ℕ)) (line : List ℕ) (later : List (List ℕ)) (meant : Result Event LineFault) (fault : LineFault) → lines ≡ line ∷ later → meant ≡ meaning line → meant ≡ Err fault → IsBad lines fault
bad_line lines line later meant fault is means bad stop =
    first_line lines line later meant is means stop ∙ ap (λ (m : Result Event LineFault). before m (script_from later stop)) bad
