-- The small book of the tests: one master is off, nobody may use one slave, and one slave isn't on.
use Rattle.std.specs.Prelude.{ℕ, ◌==◌, not}
use Rattle.pm_clock_tree.specs.Tree.{Seen}

abbrev pub sight : ℕ → ℕ → ℕ → Seen
sight off barred down = record {
  is_off = λ master. master.0 == off;
  may_use = λ master slave. not (slave.0 == barred);
  is_on = λ slave. not (slave.0 == down);
}
