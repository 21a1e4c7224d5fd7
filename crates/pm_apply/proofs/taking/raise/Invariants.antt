use Rattle.pm_state.specs.Values.{value}
use Rattle.pm_apply.proofs.TakingLemmas.{IsPartly}
use Rattle.pm_apply.proofs.TurnsLemmas.{raises}
use Rattle.pm_apply.proofs.taking.raise.Given as goal

-- the turns so far were taken
abbrev pub invariant-loop-place : goal.invariant-loop-place
invariant-loop-place g l = IsPartly g.D.Device.Does l.book.fixed.topology (λ u. value u l.book) (raises l.book.fixed.topology) l.fn.kept l.fn.out l.fn.dev l.place l.kept l.out l.dev
