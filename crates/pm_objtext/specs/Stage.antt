-- What is open before a line of an object's text.
use Rattle.std.specs.Prelude.{Bool, true, false, not, ◌&&◌, ◌||◌}
use Rattle.pm_object.specs.declared.object.Section.{Section}
use Rattle.pm_object.specs.declared.object.Section.TheVariants as sections
use Rattle.pm_object.specs.Grammar.{is_same}
use Rattle.pm_objtext.specs.declared.stage.Stage.{Stage}
use Rattle.pm_objtext.specs.declared.stage.Stage.TheVariants as stages

-- a section of exactly one record
abbrev pub is_single : Section → Bool
is_single section = is_same section sections.Config || is_same section sections.Gpo

-- whether a section is open that has not yet the one record that it must have
abbrev pub awaits_record : Stage → Bool
awaits_record stages.Start = false
awaits_record (stages.Header full) = false
awaits_record (stages.In section filled) = is_single section && not filled

-- a header line is the first, or follows one with 16 extra words
abbrev pub takes_header : Stage → Bool
takes_header stages.Start = true
takes_header (stages.Header full) = full
takes_header (stages.In section filled) = false

-- a section follows the header, or a section that has what it must have
abbrev pub takes_section : Stage → Bool
takes_section stages.Start = false
takes_section (stages.Header full) = true
takes_section (stages.In section filled) = not (is_single section && not filled)

-- whether this section is open
abbrev pub is_in : Section → Stage → Bool
is_in section stages.Start = false
is_in section (stages.Header full) = false
is_in section (stages.In open_section filled) = is_same open_section section
