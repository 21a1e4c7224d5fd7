use Rattle.pm_state.specs.Values.{value}
use Rattle.pm_apply.proofs.TakingLemmas.{IsPartly}
use Rattle.pm_apply.proofs.TurnsLemmas.{lowers}
use Rattle.pm_apply.proofs.taking.lower.Given as goal

-- the turns so far were taken
abbrev pub invariant-loop-k : goal.invariant-loop-k
invariant-loop-k g l = IsPartly g.D.Device.Does l.book.fixed.topology (λ u. value u l.book) (lowers l.book.fixed.topology) l.fn.kept l.fn.out l.fn.dev l.k l.kept l.out l.dev
