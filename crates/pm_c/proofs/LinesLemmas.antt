-- Lines that are put behind one another.
use Rattle.std.proofs.Common.{◌≡◌, ℕ, ◌+◌, List, [], ◌∷◌, ◌++◌, take, slice_get, Some, sym, ap, ◌∙◌}
use Rattle.std.specs.List.{concat}
use Rattle.std.proofs.lemmas.List.{append-nil}
use Rattle.pm_base.proofs.ListLemmas.{take_next}
use Rattle.std.proofs.lemmas.List.Folds.{concat-append}

-- a line more
pub line_more : (lines : List (List ℕ)) (k : ℕ) (line text more : List ℕ) → slice_get lines k ≡ Some line → text ≡ concat (take k lines) → more ≡ text ++ line → more ≡ concat (take (k + 1) lines)
line_more lines k line text more found before is =
    is ∙ (ap (λ (b : List ℕ). b ++ line) before
    ∙ sym (ap concat (take_next lines k line found) ∙ concat-append (take k lines) (line ∷ []) ∙ ap (λ (b : List ℕ). concat (take k lines) ++ b) (append-nil line)))
