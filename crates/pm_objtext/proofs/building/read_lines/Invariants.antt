use Rattle.std.proofs.Common.{◌≡◌, ◌≤◌, length, ◌+◌}
use Rattle.pm_objtext.specs.Building.{judged}
use Rattle.pm_objtext.specs.Draft.{so_far}
use Rattle.pm_objtext.specs.SoFar.{start}
use Rattle.pm_io.specs.Lines.{lines_of}
use Rattle.pm_objtext.proofs.building.read_lines.Given as goal

abbrev pub invariant-lines : goal.invariant-lines
invariant-lines l = record {
  size : l.draft.size ≤ 4096;
  line : l.draft.line + length l.left ≤ length l.text + 1;
  read : judged l.draft.line (so_far l.draft) (lines_of l.left) ≡ judged 1 start (lines_of l.text);
}

abbrev pub decreases-lines : goal.decreases-lines
decreases-lines l = length l.left
