-- How far the lines of an input were taken, and what holds of all its lines however it goes on.
use Rattle.std.specs.Prelude.{◌≡◌, ℕ, ◌+◌, ◌<◌, ◌≤◌, false, IsTrue, List, [], ◌++◌, length}
use Rattle.pm_io.specs.declared.lines.Ending.{Ending}
use Rattle.pm_io.specs.declared.lines.Ending.TheVariants.{Whole, Cut}
use Rattle.pm_io.specs.Calls.{Comes}
use Rattle.pm_io.specs.Given.{Gave}
use Rattle.pm_base.specs.Faults.{Rose}
use Rattle.pm_io.specs.Inputs.{IsStuck, Moment, Took}
use Rattle.pm_io.specs.Readings.{Meanwhile}
use Rattle.pm_script.specs.Script.{script_limit}
use Rattle.pm_reader.specs.declared.reader.Taken.{Taken}
use Rattle.pm_reader.specs.declared.reader.Taken.TheVariants.{Fault}
use Rattle.pm_reader.specs.Reader.{Gives, HasRead, Held, KnowsEnd, within, within_limit}

-- how the input may still go on: not at all once it ended or the limit was passed
pub record MayGoOn (held : Held) (more : List ℕ) (ending : Ending) : Type 0 where
  pub ended : IsTrue held.ended → 0 < held.credit → (more ≡ []) × (ending ≡ Whole)
  pub over : held.credit ≡ 0 → (more ≡ []) × (ending ≡ Cut)

-- something holds of all bytes of the lines and of those that are held, however the input goes on
abbrev pub HoldsHowever : (List ℕ → List ℕ → Ending → Type 0) → Held → List ℕ → Type 0
HoldsHowever R held taken = (more : List ℕ) (ending : Ending) → MayGoOn held more ending → R (within_limit held.credit taken ++ more) (within held ++ more) ending

-- how far the lines of an input were taken: so many were, and this holds of all lines and those that are held
pub record Way (S : List ℕ → List ℕ → Ending → Type 0) (shown : Type 0) (id n : ℕ) (first now : Moment) (held : Held) : Type 0 where
  pub taken : List ℕ
  pub took : Took shown id taken first now
  pub gave : Meanwhile first now (Gave id taken held.ended)
  pub credit : held.credit + length taken ≡ script_limit + 1
  pub goes_on : HoldsHowever S held taken
  pub count : n + length held.bytes ≤ length taken

-- so many lines were taken, of which this holds, and the reader gave an answer after them that isn't followed yet
pub record Answered (S : List ℕ → List ℕ → Ending → Type 0) (shown : Type 0) (id n : ℕ) (first now : Moment)
    (taken : Taken) (line : List ℕ) (reader : Held) : Type 0 where
  -- what was held when the answer was given
  pub held : Held
  pub way : Way S shown id n first now held
  pub gives : Gives held taken line reader
  pub knows : KnowsEnd shown id reader now
  pub stuck : shown → taken ≡ Fault → IsStuck (now.input id)
  pub fault : taken ≡ Fault → Rose first.faults now.faults
  -- the calls up to the question, and those of the answer
  pub mid : Moment
  pub asked : Held
  pub so_far : Meanwhile first mid (Comes id (script_limit + 1) false asked.credit asked.ended)
  pub last : Meanwhile mid now (HasRead taken id asked reader)
