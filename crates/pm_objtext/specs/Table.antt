-- Records under their keys.
use Rattle.std.specs.Prelude.{◌≡◌, ℕ, List, [], ◌∷◌, ⊤}

-- each record stands under its own key
abbrev pub AreKeyed : {T : Type 0} → (T → ℕ) → List (ℕ × T) → Type 0
AreKeyed key [] = ⊤
AreKeyed key (e ∷ entries) = (key e.1 ≡ e.0) × AreKeyed key entries
