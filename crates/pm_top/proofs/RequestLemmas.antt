-- What words ask for, by how many they are and the first.
use Rattle.std.proofs.Common.{◌≡◌, ℕ, ◌<◌, ◌≤◌, List, [], ◌∷◌, length, map, get_or, Option, ◌∙◌, ap, arith}
use Rattle.pm_top.specs.declared.works.Request.{Request}
use Rattle.pm_top.specs.Form.{request_of, request_of_four, request_of_three, request_of_two}

module _ {S : Type 0} (bytes : S → List ℕ) where
  pub of_two : (ws : List S) (first : S) (text : List ℕ) (r : Option Request) → 2 ≤ length ws → length ws < 3 → first ≡ get_or ws 0 first → text ≡ bytes first → r ≡ request_of_two text → r ≡ request_of (map bytes ws)
  of_two [] first text r many few item named is = absurd (omega arith)
  of_two (a ∷ []) first text r many few item named is = absurd (omega arith)
  of_two (a ∷ b ∷ []) first text r many few item named is = is ∙ ap request_of_two (named ∙ ap bytes item)
  of_two (a ∷ b ∷ c ∷ ws) first text r many few item named is = absurd (omega arith)

  pub of_three : (ws : List S) (first : S) (text : List ℕ) (r : Option Request) → 3 ≤ length ws → length ws < 4 → first ≡ get_or ws 0 first → text ≡ bytes first → r ≡ request_of_three text → r ≡ request_of (map bytes ws)
  of_three [] first text r many few item named is = absurd (omega arith)
  of_three (a ∷ []) first text r many few item named is = absurd (omega arith)
  of_three (a ∷ b ∷ []) first text r many few item named is = absurd (omega arith)
  of_three (a ∷ b ∷ c ∷ []) first text r many few item named is = is ∙ ap request_of_three (named ∙ ap bytes item)
  of_three (a ∷ b ∷ c ∷ d ∷ ws) first text r many few item named is = absurd (omega arith)

  pub of_four : (ws : List S) (first : S) (text : List ℕ) (r : Option Request) → 4 ≤ length ws → length ws < 5 → first ≡ get_or ws 0 first → text ≡ bytes first → r ≡ request_of_four text → r ≡ request_of (map bytes ws)
  of_four [] first text r many few item named is = absurd (omega arith)
  of_four (a ∷ []) first text r many few item named is = absurd (omega arith)
  of_four (a ∷ b ∷ []) first text r many few item named is = absurd (omega arith)
  of_four (a ∷ b ∷ c ∷ []) first text r many few item named is = absurd (omega arith)
  of_four (a ∷ b ∷ c ∷ d ∷ []) first text r many few item named is = is ∙ ap request_of_four (named ∙ ap bytes item)
  of_four (a ∷ b ∷ c ∷ d ∷ e ∷ ws) first text r many few item named is = absurd (omega arith)
