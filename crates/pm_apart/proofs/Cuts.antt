-- A property of the elements of a list, or of two lists one by one, holds of the first ones, up to a cut.
use Rattle.std.proofs.Common.{ℕ, ◌+◌, zero, suc, List, [], ◌∷◌, take, Option, Some, None}
use Rattle.std.specs.List.{AllByRecursion as Each}
use Rattle.pm_laws.specs.Both.{Both}
use Rattle.pm_drive.specs.Drive.{until}

pub take_each : {X : Type 0} (P : X → Type 0) (n : ℕ) (xs : List X) → Each P xs → Each P (take n xs)
take_each P zero xs all = tt
take_each P (suc n) [] all = tt
take_each P (suc n) (x ∷ xs) all = (all.0, take_each P n xs all.1)

pub until_each : {X : Type 0} (P : X → Type 0) (cut : Option ℕ) (xs : List X) → Each P xs → Each P (until cut xs)
until_each P None xs all = all
until_each P (Some k) xs all = take_each P (k + 1) xs all

pub take_both : {X : Type 0} (R : X → X → Type 0) (n : ℕ) (xs ys : List X) → Both R xs ys → Both R (take n xs) (take n ys)
take_both R zero xs ys both = tt
take_both R (suc n) [] [] both = tt
take_both R (suc n) [] (y ∷ ys) both = absurd both
take_both R (suc n) (x ∷ xs) [] both = absurd both
take_both R (suc n) (x ∷ xs) (y ∷ ys) both = (both.0, take_both R n xs ys both.1)

pub until_both : {X : Type 0} (R : X → X → Type 0) (cut : Option ℕ) (xs ys : List X) → Both R xs ys → Both R (until cut xs) (until cut ys)
until_both R None xs ys both = both
until_both R (Some k) xs ys both = take_both R (k + 1) xs ys both

pub both_map : {X : Type 0} (R S : X → X → Type 0) → ((x y : X) → R x y → S x y) → (xs ys : List X) → Both R xs ys → Both S xs ys
both_map R S to [] [] both = tt
both_map R S to [] (y ∷ ys) both = absurd both
both_map R S to (x ∷ xs) [] both = absurd both
both_map R S to (x ∷ xs) (y ∷ ys) both = (to x y both.0, both_map R S to xs ys both.1)
