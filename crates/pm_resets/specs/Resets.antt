-- The values of the reset lines: a line is asserted or released.
use Rattle.std.specs.Prelude.{◌≡◌, ℕ, ◌≤◌, ◌==◌, ◌&&◌, Bool, false, if◌then◌else◌, nat_lt, List, length, replicate, slice_get, slice_set, unwrap_or}

-- the value by which a line is told (UG1200, PM_RESET_GET_STATUS)
abbrev pub line_value : Bool → ℕ
line_value asserted = if asserted then 1 else 0

-- whether the line at a place is asserted: one that isn't there is released
abbrev pub is_asserted : ℕ → List Bool → Bool
is_asserted l lines = unwrap_or (slice_get lines l) false

-- the value of the line at a place
abbrev pub value_of : ℕ → List Bool → ℕ
value_of l lines = line_value (is_asserted l lines)

-- the line at a place is asserted or released; where it isn't there nothing changes
abbrev pub with_line : ℕ → Bool → List Bool → List Bool
with_line l asserted lines = slice_set lines l asserted

-- the lines at load
abbrev pub all_released : ℕ → List Bool
all_released count = replicate count false

-- ---- the laws

-- what holds of all reset lines
pub record LineLaws : Type 0 where
  -- a line has the value that was put last, and no other line notices
  pub puts : (l k : ℕ) (asserted : Bool) (lines : List Bool)
      → value_of k (with_line l asserted lines)
      ≡ (if (k == l) && nat_lt l (length lines) then line_value asserted else value_of k lines)
  -- at load each is released
  pub loads : (count l : ℕ) → value_of l (all_released count) ≡ 0
  -- the lines stay as many as they are, and none has another value than 0 and 1
  pub stays : (l : ℕ) (asserted : Bool) (lines : List Bool) → length (with_line l asserted lines) ≡ length lines
  pub bound : (l : ℕ) (lines : List Bool) → value_of l lines ≤ 1
