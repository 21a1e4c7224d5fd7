-- A window of fixed size on an input.
use Rattle.std.specs.Prelude.{◌≡◌, ◌↔◌, ◌<◌, ℕ, ◌≤◌, List, [], ◌++◌, length, Some}
use Rattle.pm_io.specs.Calls.{Read}
use Rattle.pm_io.specs.Inputs.{Adds, Moment, Took, rest}

pub record IsWindow (start end : ℕ) : Type 0 where
  pub order : start ≤ end
  pub size : end ≤ 4096

-- so many bytes of an input, at most `most`, were put behind those that were there. None come only at the input's end
pub record Filled (shown : Type 0) (id most count : ℕ) (old new : List ℕ) (before after : Moment) : Type 0 where
  pub got : List ℕ
  pub bytes : new ≡ old ++ got
  pub size : length got ≡ count
  pub few : count ≤ most
  pub took : Took shown id got before after
  pub logged : Adds (Read id (Some got)) before after
  pub end : shown → 0 < most → count ≡ 0 ↔ (rest (before.input id) ≡ [])
