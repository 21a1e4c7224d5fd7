use Rattle.std.proofs.Common.{◌≡◌, ◌∷◌, ◌∙◌, ℕ, List, subst}
use Rattle.pm_trace.specs.Line.{line_text}
use Rattle.pm_isolate.specs.Within.{Writes}
use Rattle.pm_isolate.proofs.ReportLemmas.{writes_by}
use Rattle.pm_isolate.proofs.writing.write_words.Goals as goal

pub returns : goal.returns
returns g c =
    let is : c.as_slice.result.now ≡ line_text (c.args.first ∷ c.args.rest.now) = c.as_slice.ensures.value ∙ c.write_line.ensures in
    let P : List ℕ → Type 0 = λ piece. Writes g.O.Sink piece c.args.out.now c.write_all.new.sink c.write_all.result in
    subst P is (writes_by g.O.Sink c.as_slice.result.now c.args.out.now c.write_all.new.sink c.write_all.result c.write_all.ensures.written c.write_all.ensures.short)
