-- The transitions of a unit over a run, and whether those in two runs differ.
use Rattle.std.specs.Prelude.{ℕ, ◌+◌, ◌==◌, ◌&&◌, Bool, true, false, not, if◌then◌else◌, List, [], ◌∷◌, map}
use Rattle.pm_base.specs.declared.names.Unit.{Unit}
use Rattle.pm_state.specs.Values.{shown}
use Rattle.pm_run.specs.Run.{Line}

-- the history of a unit: after each of these script lines the number of its mode if it is a processor, else its value
abbrev pub history : Unit → List Line → List ℕ
history unit lines = map (λ (line : Line). shown unit line.after.book) lines

-- a step after which a unit shows another number than before it
pub record Transition : Type 0 where
  pub step : ℕ
  pub before : ℕ
  pub after : ℕ

-- the transitions of a history, whose first step has number n
abbrev pub changes : ℕ → ℕ → List ℕ → List Transition
changes n before [] = []
changes n before (value ∷ later) =
    if before == value then changes (n + 1) value later
    else record { step = n; before = before; after = value } ∷ changes (n + 1) value later

-- the transitions of a unit over a run: line 0 is the load, and before it each unit shows 0
abbrev pub transitions : Unit → List Line → List Transition
transitions unit lines = changes 0 0 (history unit lines)

-- two transitions are equal; two lists of them are
abbrev pub same_transition : Transition → Transition → Bool
same_transition a b = (a.step == b.step) && ((a.before == b.before) && (a.after == b.after))

abbrev pub same_transitions : List Transition → List Transition → Bool
same_transitions [] [] = true
same_transitions [] (b ∷ ys) = false
same_transitions (a ∷ xs) [] = false
same_transitions (a ∷ xs) (b ∷ ys) = same_transition a b && same_transitions xs ys

-- a unit differs in two runs if its transitions do
abbrev pub differs : List Line → List Line → Unit → Bool
differs first second unit = not (same_transitions (transitions unit first) (transitions unit second))
