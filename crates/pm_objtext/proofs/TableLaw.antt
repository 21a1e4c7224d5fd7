-- Records under their keys: what a look-up finds, and a record that is put last.
use Rattle.std.proofs.Common.{◌≡◌, ℕ, ◌==◌, ◌||◌, Bool, true, false, cond, nat_eq, List, [], ◌∷◌, ◌++◌, Option, Some, is_some, Result, Ok, Err, refl, ap, sym, subst, ◌∙◌, arith}
use Rattle.std.specs.Prelude.{OnOk, OnErr}
use Rattle.std.specs.List.{list_any}
use Rattle.std.specs.Map.{lookup, values_of}
use Rattle.std.proofs.lemmas.Bool.Decides.{nat_tests}
use Rattle.std.proofs.lemmas.List.{map-append}
use Rattle.indexmap.specs.IndexMap.{insert_entry}
use Rattle.pm_base.proofs.Booleans.{neither}
use Rattle.pm_objtext.specs.Table.{AreKeyed}

swapped : (a b k : ℕ) → a ≡ b → (k == b) ≡ (a == k)
swapped a b k same = grind (arith, nat_tests)

first_or : {X : Type 0} (b : Bool) (x : X) (later : Option X) → is_some (cond b (Some x) later) ≡ (b || is_some later)
first_or true x later = refl
first_or false x later = refl

module _ {T : Type 0} (key : T → ℕ) where
  -- a look-up finds a record where one has the key
  pub found : (k : ℕ) (entries : List (ℕ × T)) → AreKeyed key entries → is_some (lookup (nat_eq k) entries) ≡ list_any (λ r. key r == k) (values_of entries)
  found k [] keyed = refl
  found k (e ∷ entries) keyed =
      first_or (nat_eq k e.0) e.1 (lookup (nat_eq k) entries) ∙ ap (λ b. b || is_some (lookup (nat_eq k) entries)) (swapped (key e.1) e.0 k keyed.0)
      ∙ ap (λ b. (key e.1 == k) || b) (found k entries keyed.1)

  -- a record with a new key is put last
  pub put_last : (k : ℕ) (x : T) (entries : List (ℕ × T)) → AreKeyed key entries → list_any (λ r. key r == k) (values_of entries) ≡ false → insert_entry nat_eq entries k x ≡ entries ++ (k, x) ∷ []
  put_last k x [] keyed new = refl
  put_last k x (e ∷ entries) keyed new =
      let parts = neither (key e.1 == k) (list_any (λ r. key r == k) (values_of entries)) new in
      ap (λ b. cond b ((e.0, x) ∷ entries) (e ∷ insert_entry nat_eq entries k x)) (swapped (key e.1) e.0 k keyed.0 ∙ parts.0)
      ∙ ap (λ es. e ∷ es) (put_last k x entries keyed.1 parts.1)

  pub keyed_last : (x : T) (entries : List (ℕ × T)) → AreKeyed key entries → AreKeyed key (entries ++ (key x, x) ∷ [])
  keyed_last x [] keyed = (refl, tt)
  keyed_last x (e ∷ entries) keyed = (keyed.0, keyed_last x entries keyed.1)

  pub values_last : (k : ℕ) (x : T) (entries : List (ℕ × T)) → values_of (entries ++ (k, x) ∷ []) ≡ values_of entries ++ x ∷ []
  values_last k x entries = map-append (λ e. e.1) entries ((k, x) ∷ [])

  -- what a write at the end leaves
  module _ {A E : Type 0} (result : Result A E) (x : T) (k : ℕ) (old new : List (ℕ × T)) (put : OnOk result (new ≡ insert_entry nat_eq old k x)) (kept : OnErr result (new ≡ old)) (own : k ≡ key x)
      (keyed : AreKeyed key old) (unused : list_any (λ r. key r == key x) (values_of old) ≡ false) where
    is_put : new ≡ insert_entry nat_eq old k x → new ≡ old ++ (key x, x) ∷ []
    is_put is = is ∙ ap (λ n. insert_entry nat_eq old n x) own ∙ put_last (key x) x old keyed unused

    pub pushed_keyed : AreKeyed key new
    pushed_keyed = at result put kept
      where
        at : (r : Result A E) → OnOk r (new ≡ insert_entry nat_eq old k x) → OnErr r (new ≡ old) → AreKeyed key new
        at (Ok y) is same = subst (AreKeyed key) (sym (is_put is)) (keyed_last x old keyed)
        at (Err e) is same = subst (AreKeyed key) (sym same) keyed

    pub pushed_values : OnOk result (values_of new ≡ values_of old ++ x ∷ [])
    pushed_values = at result put
      where
        at : (r : Result A E) → OnOk r (new ≡ insert_entry nat_eq old k x) → OnOk r (values_of new ≡ values_of old ++ x ∷ [])
        at (Ok y) is = ap values_of (is_put is) ∙ values_last (key x) x old
        at (Err e) is = tt
