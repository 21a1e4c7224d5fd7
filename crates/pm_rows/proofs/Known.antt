-- The modes that the rows know, and rows that are as they were at load.
use Rattle.std.proofs.Common.{◌≡◌, ℕ, ◌<◌, ◌≤◌, Bool, true, false, ◌==◌, if◌then◌else◌, List, Option, length, set, replicate, refl, ◌∙◌, ap, inl, inr}
use Rattle.std.specs.Prelude.{unwrap_or}
use Rattle.std.proofs.lemmas.Bool.{eqb-true, cases_lt}
use Rattle.std.proofs.lemmas.List.{length-set, length-replicate, get_or-replicate}
use Rattle.std.proofs.lemmas.Option.{unwrap_or-slice_get, slice_get_past}
use Rattle.pm_base.specs.declared.names.Mode.{Mode}
use Rattle.pm_base.specs.declared.names.Mode.TheVariants.{Off, Active}
use Rattle.pm_base.proofs.Booleans.{differs}
use Rattle.pm_rows.specs.Modes.{mode_in, loaded_modes}
use Rattle.pm_rows.proofs.Shifted.{mode_set_same, mode_set_other}

pub count_at_load : (masters boot : ℕ) → length (loaded_modes masters boot) ≡ masters
count_at_load masters boot = length-set (replicate masters Off) boot Active ∙ length-replicate masters Off

-- the mode of a master after another mode was set, by whether it is that master
pub mode_set_at : (modes : List Mode) (m k : ℕ) (to : Mode) → m < length modes → (b : Bool) → (k == m) ≡ b
    → mode_in k (set modes m to) ≡ (if b then to else mode_in k modes)
mode_set_at modes m k to within true is =
    let at : k ≡ m = eqb-true _ _ is in
    ap (λ n. mode_in n (set modes m to)) at ∙ mode_set_same modes m to within
mode_set_at modes m k to within false is = mode_set_other modes m k to (differs k m is)

off_before : (masters m : ℕ) → mode_in m (replicate masters Off) ≡ Off
off_before masters m = elim (cases_lt m masters) [
  | inl within ↦ unwrap_or-slice_get (replicate masters Off) m Off ∙ get_or-replicate masters m Off Off within
  | inr past ↦
      let past_all : length (replicate masters Off) ≤ m = rw (length-replicate masters Off) past in
      ap (λ (mode : Option Mode). unwrap_or mode Off) (slice_get_past (replicate masters Off) m past_all)
]

pub mode_at_load : (masters boot m : ℕ) → boot < masters
    → mode_in m (loaded_modes masters boot) ≡ (if m == boot then Active else Off)
mode_at_load masters boot m within =
    let here : boot < length (replicate masters Off) = rw (length-replicate masters Off) within in
    mode_set_at (replicate masters Off) boot m Active here (m == boot) refl
    ∙ ap (λ (mode : Mode). if m == boot then Active else mode) (off_before masters m)
