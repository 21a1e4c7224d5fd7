use Rattle.std.proofs.Common.{◌≡◌, ◌≤◌, length, ◌+◌}
use Rattle.pm_io.specs.Lines.{lines_of}
use Rattle.pm_topofile.specs.Draft.{so_far}
use Rattle.pm_topofile.specs.Meaning.{lines_taken}
use Rattle.pm_topofile.specs.Taking.{nothing}
use Rattle.pm_topofile.proofs.meaning.read_lines.Given as goal

abbrev pub invariant-lines : goal.invariant-lines
invariant-lines l = record {
  line : l.draft.line + length l.left ≤ length l.text + 1;
  read : lines_taken l.draft.line (so_far l.draft) (lines_of l.left) ≡ lines_taken 1 nothing (lines_of l.text);
}

abbrev pub decreases-lines : goal.decreases-lines
decreases-lines l = length l.left
