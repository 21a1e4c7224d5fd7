-- Inputs in memory.
use Rattle.std.specs.Prelude.{◌≡◌, ℕ, ◌-◌, ◌==◌, nat_lt, min, if◌then◌else◌, Bool, List, length, Option, Some, None, find, fold, slice_get}
use Rattle.std.specs.Option.{option_map}
use Rattle.std.specs.Str.{bytes_eq}
use Rattle.pm_io.specs.declared.mem_inputs.Reading.{Reading}
use Rattle.pm_io.specs.Calls.{Call}
use Rattle.pm_io.specs.Inputs.{File, Input, nothing, Moment}

-- a file and its name
pub record NamedFile : Type 0 where
  pub name : List ℕ
  pub file : File

-- what inputs in memory hold: the reads that fail, each by the place of a file and that of a byte, the files, the
-- begun inputs in the order of their numbers, how many calls have failed, and the calls
pub record StoredInputs : Type 0 where
  pub failing : List (ℕ × ℕ)
  pub files : List NamedFile
  pub begun : List Reading
  pub faults : ℕ
  pub calls : List Call

-- how many inputs can be begun
abbrev pub most_begun : ℕ
most_begun = 16

abbrev pub is_named : List ℕ → NamedFile → Bool
is_named name held = bytes_eq held.name name

-- the file of a name, where it is there
abbrev pub file_of : List ℕ → List NamedFile → Option File
file_of name files = option_map (λ held. held.file) (find (is_named name) files)

-- a file of this name stands at this place, and is the one that is shown of the name
pub record FoundFile (name : List ℕ) (files : List NamedFile) (place : ℕ) : Type 0 where
  pub held : NamedFile
  pub at : slice_get files place ≡ Some held
  pub named : held.name ≡ name
  pub shown : file_of name files ≡ Some held.file

-- the lesser of a byte that was found and that of one more entry, if the entry is of this file
abbrev pub least_with : ℕ → Option ℕ → ℕ × ℕ → Option ℕ
least_with file None entry = if entry.0 == file then Some entry.1 else None
least_with file (Some at) entry = if entry.0 == file then Some (min at entry.1) else Some at

-- the least byte at which a read of the file at this place fails
abbrev pub least_failing : ℕ → List (ℕ × ℕ) → Option ℕ
least_failing file failing = fold (least_with file) None failing

-- the place before which a read stops that begins at `place`: the file's end, or its failing byte if that comes first
abbrev pub stop_of : Option ℕ → ℕ → ℕ → ℕ
stop_of None end place = end
stop_of (Some at) end place = if nat_lt place at then min end at else end

-- how many bytes a read that begins at `place` can take
abbrev pub reach_of : File → ℕ → ℕ
reach_of file place = stop_of file.fails_at (length file.bytes) place - place

-- the input that stands at a place of a file
abbrev pub input_in : Option NamedFile → ℕ → Input
input_in None place = nothing
input_in (Some held) place = record { name = Some held.name; file = held.file; place = place }

-- the input that stands under a number
abbrev pub input_of : List NamedFile → Option Reading → Input
input_of files None = nothing
input_of files (Some reading) = input_in (slice_get files reading.file) reading.place

-- what inputs in memory show
abbrev pub moment_of : StoredInputs → Moment
moment_of stored = record {
  file = λ name. file_of name stored.files;
  room = most_begun - length stored.begun;
  input = λ id. input_of stored.files (slice_get stored.begun id);
  faults = stored.faults;
  calls = stored.calls;
}
