-- The mode of several processors, one processor after another.
use Rattle.std.proofs.Common.{◌≡◌, ℕ, Bool, true, false, ◌||◌, ◌==◌, ⊎_elim, List, [], ◌∷◌, map, refl, ap, sym, ◌∙◌}
use Rattle.std.specs.List.{list_any}
use Rattle.std.proofs.lemmas.Bool.{eqb-true}
use Rattle.pm_base.specs.declared.names.Mode.{Mode}
use Rattle.pm_base.specs.declared.names.Mode.TheVariants.{Off, Active, Asleep, Suspending}
use Rattle.pm_base.proofs.Booleans.{either, equal, first_passes, later_passes, none_of}
use Rattle.pm_procs.specs.Modes.{has_mode, mode_among, same_mode}

-- one of these processors has the mode
any_mode : (mode : Mode) (f : ℕ → Mode) (ps : List ℕ) → list_any (λ p. same_mode mode (f p)) ps ≡ has_mode mode (map f ps)
any_mode mode f [] = refl
any_mode mode f (p ∷ ps) = ap (λ b. same_mode mode (f p) || b) (any_mode mode f ps)

pub has_by : (mode : Mode) (f : ℕ → Mode) (ps : List ℕ) (b : Bool) → list_any (λ p. same_mode mode (f p)) ps ≡ b → has_mode mode (map f ps) ≡ b
has_by mode f ps b is = sym (any_mode mode f ps) ∙ is

-- the modes of processors that are alike
pub modes_alike : (f g : ℕ → Mode) (ps : List ℕ) → ((p : ℕ) → list_any (λ q. q == p) ps ≡ true → f p ≡ g p) → map f ps ≡ map g ps
modes_alike f g [] alike = refl
modes_alike f g (p ∷ ps) alike =
    let here : f p ≡ g p = alike p (first_passes (p == p) (list_any (λ q. q == p) ps) (equal p p refl)) in
    let later : map f ps ≡ map g ps = modes_alike f g ps (λ q is. alike q (later_passes (p == q) (list_any (λ r. r == q) ps) is)) in
    rw (here, later) refl

first_or_later : (mode : Mode) (f : ℕ → Mode) (q p : ℕ) (here there : Bool) → ((q == p) || here) ≡ true → same_mode mode (f p) ≡ true → (here ≡ true → there ≡ true) → (same_mode mode (f q) || there) ≡ true
first_or_later mode f q p here there is has later = ⊎_elim
    (λ at. first_passes (same_mode mode (f q)) there (rw (eqb-true q p at) has))
    (λ is_there. later_passes (same_mode mode (f q)) there (later is_there))
    (either (q == p) here is)

-- a processor among these has the mode
pub one_has_mode : (mode : Mode) (f : ℕ → Mode) (ps : List ℕ) (p : ℕ) → list_any (λ q. q == p) ps ≡ true → same_mode mode (f p) ≡ true → has_mode mode (map f ps) ≡ true
one_has_mode mode f [] p is has = cc
one_has_mode mode f (q ∷ ps) p is has = first_or_later mode f q p (list_any (λ q. q == p) ps) (has_mode mode (map f ps)) is has (λ later. one_has_mode mode f ps p later has)

-- no processor among these has the mode
pub none_has_mode : (mode : Mode) (f : ℕ → Mode) (ps : List ℕ) → ((p : ℕ) → list_any (λ q. q == p) ps ≡ true → same_mode mode (f p) ≡ false) → has_mode mode (map f ps) ≡ false
none_has_mode mode f [] other = refl
none_has_mode mode f (p ∷ ps) other =
    let here = other p (first_passes (p == p) (list_any (λ q. q == p) ps) (equal p p refl)) in
    let later = none_has_mode mode f ps (λ q is. other q (later_passes (p == q) (list_any (λ r. r == q) ps) is)) in
    none_of (same_mode mode (f p)) (has_mode mode (map f ps)) here later

-- processors of which one is active are active together, and those that are all off are off together
pub active_among : (f : ℕ → Mode) (ps : List ℕ) (p : ℕ) → list_any (λ q. q == p) ps ≡ true → f p ≡ Active → mode_among (map f ps) ≡ Active
active_among f ps p is active = rw (one_has_mode Active f ps p is (rw active refl)) refl

pub off_among : (f : ℕ → Mode) (ps : List ℕ) → ((p : ℕ) → list_any (λ q. q == p) ps ≡ true → f p ≡ Off) → mode_among (map f ps) ≡ Off
off_among f ps off =
    let not_active = none_has_mode Active f ps (λ p is. rw (off p is) refl) in
    let not_suspending = none_has_mode Suspending f ps (λ p is. rw (off p is) refl) in
    let not_asleep = none_has_mode Asleep f ps (λ p is. rw (off p is) refl) in
    rw (not_active, not_suspending, not_asleep) refl
