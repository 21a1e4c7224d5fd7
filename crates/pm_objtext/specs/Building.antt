-- The object that a text means, or its first bad line. What a text means is said in Meaning without either of them, and the
-- law `one_meaning` says that `building text ≡ Ok object` exactly where the text means that object.
use Rattle.std.specs.Prelude.{ℕ, List, Option, Some, None, Result, Ok, Err}
use Rattle.pm_io.specs.Lines.{lines_of}
use Rattle.pm_object.specs.declared.object.Object.{Object}
use Rattle.pm_objtext.specs.declared.fault.TextFault.{TextFault}
use Rattle.pm_objtext.specs.SoFar.{SoFar, start}
use Rattle.pm_objtext.specs.FirstBad.{first_bad, first_bad_from, said_by}

-- what is said, unless a line is bad
abbrev pub unless_bad : Option TextFault → SoFar → Result Object TextFault
unless_bad None d = Ok d.object
unless_bad (Some fault) d = Err fault

-- what all lines of a text say, or its first bad one
unfoldable pub building : List ℕ → Result Object TextFault
building text = unless_bad (first_bad text) (said_by start (lines_of text))

-- the object of the lines that are left, whose numbers go on from `line`, after what the earlier ones say
abbrev pub judged : ℕ → SoFar → List (List ℕ) → Result Object TextFault
judged line d lines = unless_bad (first_bad_from line d lines) (said_by d lines)
