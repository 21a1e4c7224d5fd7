use Rattle.std.proofs.Common.{◌≡◌, ℕ, zero, suc, ◌<◌, ◌%◌, List, [], ◌∷◌, codes, decimal, get_or, refl, arith}
use Rattle.std.specs.Fmt.{digits}
use Rattle.pm_gen.specs.Script.{devices}
use Rattle.pm_gen.proofs.script.device.Goals as goal

abbrev texts : List (List ℕ)
texts = codes "11" ∷ codes "28" ∷ codes "33" ∷ codes "39" ∷ codes "46" ∷ []

spelled_at : (k : ℕ) → k < 5 → get_or texts k [] ≡ decimal (get_or devices k 0)
unfolding digits
spelled_at zero within = refl
spelled_at (suc zero) within = refl
spelled_at (suc (suc zero)) within = refl
spelled_at (suc (suc (suc zero))) within = refl
spelled_at (suc (suc (suc (suc zero)))) within = refl
spelled_at (suc (suc (suc (suc (suc k))))) within = absurd (omega arith)

pub returns : goal.returns
returns c = spelled_at (c.args.rest % 5) (omega arith)
