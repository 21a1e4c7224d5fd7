use Rattle.std.proofs.Common.{List, ℕ, ℤ, ◌∙◌, ap, sym, subst}
use Rattle.std.proofs.lemmas.Int.{to_z-of_z}
use Rattle.std.proofs.lemmas.List.{append-nil}
use mir.Syntax.{w32}
use Rattle.pm_split.specs.Split.Note.{Called}
use Rattle.pm_trace.specs.Notes.{note_line}
use Rattle.pm_engine.specs.Writes.{Writes}
use Rattle.pm_engine.proofs.WritesLemmas.{wrote_by}
use Rattle.pm_engine.proofs.writing.write_call.Goals as goal

pub returns : goal.returns
returns g c =
    let P : List ℕ → Type 0 = λ text. Writes g.O.Sink text c.args.out.now c.write_all.new.sink c.write_all.result in
    let line : ℤ → List ℕ = λ code. note_line c.args.number (Called c.args.proc code) in
    subst P (c.as_slice.ensures.value ∙ (c.call_line.ensures ∙ (ap line (to_z-of_z w32 c.args.code c.ranges.code) ∙ sym (append-nil (line c.args.code)))))
    (wrote_by g.O.Sink c.as_slice.result.now c.args.out.now c.write_all.new.sink c.write_all.result c.write_all.ensures.written c.write_all.ensures.short)
