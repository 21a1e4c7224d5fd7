use Rattle.std.proofs.Common.{◌≡◌, Some, ◌∙◌, subst, sym}
use Rattle.std.proofs.lemmas.List.{append-nil}
use Rattle.pm_split.specs.declared.cores.OwnNote.{OwnNote}
use Rattle.pm_split.specs.Split.{noted}
use Rattle.pm_split.specs.Split.Note.{Busy, Late}
use Rattle.pm_trace.specs.Notes.{note_line, notes_text}
use Rattle.pm_engine.proofs.writing.own_line.Goals as goal

pub returns-in-Busy : goal.returns-in-Busy
returns-in-Busy c =
    let P : OwnNote → Type 0 = λ note. c.busy_line.new.line.items ≡ notes_text c.args.number (noted (Some note)) in
    subst P (sym c.in-Busy.is) (c.busy_line.ensures ∙ sym (append-nil (note_line c.args.number (Busy c.in-Busy.master))))

pub returns-in-Late : goal.returns-in-Late
returns-in-Late c =
    let P : OwnNote → Type 0 = λ note. c.late_line.new.line.items ≡ notes_text c.args.number (noted (Some note)) in
    subst P (sym c.in-Late.is) (c.late_line.ensures ∙ sym (append-nil (note_line c.args.number (Late c.in-Late.address))))
