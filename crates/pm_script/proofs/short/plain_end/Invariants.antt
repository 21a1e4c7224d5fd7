-- No line feed was passed, and all bytes that were are plain.
use Rattle.std.proofs.Common.{◌≡◌, ◌≤◌, drop, length}
use Rattle.std.specs.List.{list_all}
use Rattle.pm_io.specs.Lines.{is_plain}
use Rattle.pm_script.specs.Short.{first_line}
use Rattle.pm_script.proofs.short.plain_end.Given as goal

abbrev pub invariant-bytes : goal.invariant-bytes
invariant-bytes l = record {
  within : l.at ≤ length (first_line l.text);
  plain : list_all is_plain (drop l.at (first_line l.text)) ≡ list_all is_plain (first_line l.text);
}
