-- What the builder of an object answers to a line.
use Rattle.std.specs.Prelude.{ℕ, List, Option, Some, None, Result, Ok, Err}
use Rattle.pm_object.specs.declared.object.Object.{Object}
use Rattle.pm_objtext.specs.declared.fault.TextCause.{TextCause}
use Rattle.pm_objtext.specs.declared.fault.TextFault.{TextFault}
use Rattle.pm_objtext.specs.declared.item.Item.{Item}
use Rattle.pm_objtext.specs.declared.draft.Draft.{Draft}
use Rattle.pm_objtext.specs.Reading.{item_of}
use Rattle.pm_objtext.specs.SoFar.{SoFar, say}
use Rattle.pm_objtext.specs.Causes.{cause_of, end_cause}
use Rattle.pm_objtext.specs.FirstBad.{line_cause, after_line}

-- what the lines say that a draft was made of
abbrev pub so_far : Draft → SoFar
so_far draft = record { stage = draft.stage; size = draft.size; object = record { extra = draft.extra; order = draft.order; masters = draft.masters; slaves = draft.slaves; groups = draft.groups; power = draft.power; reset = draft.reset; shutdown = draft.shutdown; base_mask = draft.base_mask; overlay_mask = draft.overlay_mask; gpo = draft.gpo } }

-- the value, unless there is a cause against the line
abbrev pub unless : {A : Type 0} → ℕ → Option TextCause → A → Result A TextFault
unless line None x = Ok x
unless line (Some cause) x = Err (record { line = line; cause = cause })

-- a line of right form
unfoldable pub accepting : ℕ → Item → SoFar → Result SoFar TextFault
accepting line item d = unless line (cause_of item d) (say item d)

-- a line
unfoldable pub reading : ℕ → List ℕ → SoFar → Result SoFar TextFault
reading line text d = unless line (line_cause (item_of text) d) (after_line (item_of text) d)

-- the end of the text
unfoldable pub finished : ℕ → SoFar → Result Object TextFault
finished line d = unless line (end_cause d) d.object
