-- Where a list's numbers are distinct and each is one of another list's, it isn't longer: a master has at most as many
-- processors as the table.
use Rattle.std.proofs.Common.{◌≡◌, ◌≢◌, ℕ, ◌≤◌, List, [], ◌∷◌, length, slice_get, Some, refl, zero, suc, subst, sym, ap, ◌∙◌, arith}
use Rattle.pm_base.specs.declared.names.NodeId.{NodeId}
use Rattle.pm_topology.specs.declared.topology.ProcDef.{ProcDef}
use Rattle.pm_topology.specs.declared.topology.Topology.{Topology}
use Rattle.pm_topology.specs.WellFormed.{EachEntry, HasNumber, AreDistinct, IsProc}

-- the list without the entry at a place
abbrev without : {X : Type 0} → ℕ → List X → List X
without k [] = []
without zero (y ∷ ys) = ys
without (suc k) (y ∷ ys) = y ∷ without k ys

length-without : {X : Type 0} (k : ℕ) (ys : List X) (y : X) → slice_get ys k ≡ Some y → length ys ≡ suc (length (without k ys))
length-without k [] y here = cc
length-without zero (z ∷ ys) y here = refl
length-without (suc k) (z ∷ ys) y here = ap (λ (n : ℕ). suc n) (length-without k ys y here)

-- an entry at another place is still there
other_place : {X : Type 0} (k j : ℕ) (ys : List X) (w : X) → j ≢ k → slice_get ys j ≡ Some w
    → (i : ℕ) × (slice_get (without k ys) i ≡ Some w)
other_place k j [] w other there = cc
other_place zero zero (y ∷ ys) w other there = absurd (other refl)
other_place zero (suc j) (y ∷ ys) w other there = (j, there)
other_place (suc k) zero (y ∷ ys) w other there = (zero, there)
other_place (suc k) (suc j) (y ∷ ys) w other there =
    let more = other_place k j ys w (λ same. other (ap (λ (n : ℕ). suc n) same)) there in
    (suc more.0, more.1)

pub at_most_as_many : {X Y : Type 0} (f : X → ℕ) (g : Y → ℕ) (xs : List X) (ys : List Y)
    → AreDistinct f xs
    → EachEntry xs (λ _ x. HasNumber g ys (f x))
    → length xs ≤ length ys
at_most_as_many f g [] ys distinct each = omega arith
at_most_as_many {X} {Y} f g (x ∷ xs) ys distinct each =
    let first = each zero x refl in
    let left : List Y = without first.0 ys in
    let later : EachEntry xs (λ _ z. HasNumber g left (f z)) = λ k z here.
    let found = each (suc k) z here in
    let other : found.0 ≢ first.0 = λ same.
    let P : ℕ → Type 0 = λ n. slice_get ys n ≡ Some found.1 in
    let moved = subst P same found.2 in
    let one = first.2 in
    let equal : first.1 ≡ found.1 = cc in
    let clash = distinct zero (suc k) x z refl here (sym first.3 ∙ ap g equal ∙ found.3) in
    absurd (omega arith) in
    let at = other_place first.0 found.0 ys found.1 other found.2 in
    (at.0, found.1, at.1, found.3) in
    let apart : AreDistinct f xs = λ j k y z here there same.
    let at = distinct (suc j) (suc k) y z here there same in omega arith in
    omega (arith, at_most_as_many f g xs left apart later, length-without first.0 ys first.1 first.2)

-- the processors of a master, where each is one of the table and none is named twice
pub few_members : (t : Topology) (procs : List NodeId) → AreDistinct (λ p. p.0) procs → EachEntry procs (λ _ n. IsProc t n)
    → length procs ≤ length t.procs
few_members t procs once members = at_most_as_many (λ (p : NodeId). p.0) (λ (p : ProcDef). p.node.0) procs t.procs once members
