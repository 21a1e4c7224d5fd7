-- No line feed stands before the cursor.
use Rattle.std.proofs.Common.{◌≡◌, ◌+◌, length, position}
use Rattle.std.specs.Option.{option_map}
use Rattle.pm_reader.specs.Reader.{is_feed}
use Rattle.pm_reader.proofs.reader.first_feed.Given as goal

abbrev pub invariant-eights : goal.invariant-eights
invariant-eights l = record {
  whole : l.at + length l.left ≡ length l.fn.text;
  first : position is_feed l.fn.text ≡ option_map (λ k. l.at + k) (position is_feed l.left);
}

abbrev pub decreases-eights : goal.decreases-eights
decreases-eights l = length l.left
