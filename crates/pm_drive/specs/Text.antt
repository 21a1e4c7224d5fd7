-- The text of a run: what is written of its lines, and the closing table.
use Rattle.std.specs.Prelude.{ℕ, ◌+◌, Bool, List, [], ◌∷◌, ◌++◌, flat_map, Option, Some, None}
use Rattle.std.specs.List.{concat}
use Rattle.pm_base.specs.declared.events.Event.{Event}
use Rattle.pm_ipi.specs.declared.responses.Response.{Response}
use Rattle.pm_state.specs.Load.{load_of}
use Rattle.pm_core.specs.declared.replies.Answer.{Answer}
use Rattle.pm_core.specs.declared.replies.Answer.TheVariants.{Reply}
use Rattle.pm_split.specs.Split.{Note, called_note}
use Rattle.pm_board.specs.Board.{Standing}
use Rattle.pm_run.specs.Run.{Setup}
use Rattle.pm_record.specs.Record.{at_zero}
use Rattle.pm_trace.specs.Notes.{notes_text}
use Rattle.pm_trace.specs.Step.{core_text}
use Rattle.pm_drive.specs.Drive.{Driven, Given, driven, last_book, last_kept}
use Rattle.pm_drive.specs.Clocks.{first_tree, last_tree, table_text}
use Rattle.pm_drive.specs.Completed.{completed_in}

-- what is written of core steps, numbered by their line
abbrev pub given_text : ℕ → List Given → List ℕ
given_text n given = flat_map (λ (g : Given). core_text n g.core.outputs g.part) given

-- the last reply of a line, as it is told, where there was this one before or none
abbrev pub later_reply : Option Response → Answer → Option Response
later_reply reply (Reply master response) = Some response
later_reply reply answer = reply

abbrev pub reply_after : Option Response → List Given → Option Response
reply_after reply [] = reply
reply_after reply (g ∷ given) = reply_after (later_reply reply g.part.answer) given

-- the notes of a driven line: its own, and then the answer to its power call, by the reply that was told
abbrev pub notes_of : Driven → List Note
notes_of x = x.line.notes ++ called_note x.line.after.book.fixed.topology x.line.event (reply_after None x.cores)

-- what is written of a script line: of each of its core steps, and then its notes
abbrev pub driven_text : ℕ → Driven → List ℕ
driven_text n x = given_text n x.cores ++ notes_text n (notes_of x)

-- the texts of lines, the first of which has this number
abbrev pub texts : ℕ → List Driven → List (List ℕ)
texts n [] = []
texts n (x ∷ xs) = driven_text n x ∷ texts (n + 1) xs

-- the closing table after some lines of a run
abbrev pub closing_after : Setup → List Driven → List ℕ
closing_after c xs =
    table_text (last_book (load_of c.object c.attached c.topology) xs) (last_kept (at_zero c.topology) xs) (last_tree (first_tree c) xs)

-- the whole text of a run that begins with a board: that of line 0 and of each line, and the closing table
abbrev pub run_text : Setup → Standing → List (List Bool) → List Event → List ℕ
run_text c board answers events = concat (texts 0 (completed_in c board (driven c answers events)) ++ closing_after c (driven c answers events) ∷ [])
