-- A list with room that is reserved.
use Rattle.std.specs.Prelude.{ℕ, List, refl}
use Rattle.std.specs.Coded.{Coded, code_by, coded×, coded_ℕ, coded_list}

-- the items, and how many there is room for
pub record Bounded (X : Type 0) : Type 0 where
  pub items : List X
  pub room : ℕ

-- it is stored as the pair of its fields
abbrev pub bounded_code : {X : Type 0} → Coded X → Coded (Bounded X)
bounded_code {X} code =
    code_by (List X × ℕ) (coded× (coded_list code) coded_ℕ) (λ s. (s.items, s.room)) (λ p. record { items = p.0; room = p.1 }) (λ _. refl)
