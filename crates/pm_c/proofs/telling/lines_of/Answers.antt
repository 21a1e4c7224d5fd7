use Rattle.std.proofs.Common.{Some, List, ℕ, ◌∙◌, ap, sym}
use Rattle.pm_c.proofs.LinesLemmas.{line_more}
use Rattle.pm_c.proofs.telling.lines_of.Goals as goal

pub loop-k-preserved : goal.loop-k-preserved
loop-k-preserved c =
    line_more _ c.loop-k.k c.as_slice.result.now c.loop-k.lines.items c.extend_from_slice.new.self.items
    (c.line.ensures ∙ ap (λ (line : List ℕ). Some line) (sym c.as_slice.ensures.value)) c.loop-k.invariant c.in_ok-extend_from_slice.ensures.items
