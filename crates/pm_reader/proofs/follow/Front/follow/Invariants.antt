-- Whatever was read ahead, what is read and not followed yet stands behind it.
use Rattle.std.proofs.Common.{◌+◌, ◌*◌, length}
use Rattle.pm_reader.specs.Front.{Ahead, Attaches}
use Rattle.pm_reader.proofs.MeantLemmas.{Waits, meant_turns}
use Rattle.pm_reader.proofs.follow.Front.follow.Given as goal

abbrev pub invariant-lines : goal.invariant-lines
invariant-lines g l =
    (ahead : Ahead) → Attaches g.I.Inputs.observable l.id ahead (g.I.Inputs.state l.fn.inputs) l.fn.self
    → Waits g.F.Follower.Follows g.I.Inputs.observable l.id ahead l.fn.self.lines l.fn.follower (g.I.Inputs.state l.inputs) l.count l.follower l.meant l.event l.self.reader

abbrev pub decreases-lines : goal.decreases-lines
decreases-lines g l = 2 * (l.self.reader.credit + length l.self.reader.bytes) + meant_turns l.meant
