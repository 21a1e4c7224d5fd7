-- A full last state meets all requirements on the capabilities of its slave.
use Rattle.std.proofs.Common.{◌≡◌, ℕ, ◌-◌, true, Option, Some, None, IsSome, IfSome, IsSomeAnd, List, [], ◌∷◌, length, slice_get, position, fold, refl, suc, arith, sym, ◌∙◌, subst, bit_and, bit_or}
use Rattle.std.proofs.lemmas.Bool.Decides.{nat_tests}
use Rattle.pm_topology.specs.declared.topology.SlaveState.{SlaveState}
use Rattle.pm_topology.specs.WellFormed.{EachEntry, HasFullLast}
use Rattle.pm_slaves.specs.Choice.{within, meets, capabilities, IsFirstToMeet, LastHas}
use Rattle.pm_base.proofs.Bits.{has_none, has_both, has_through}
use Rattle.pm_base.proofs.Booleans.{equal, pair_of}
use Rattle.pm_base.proofs.Searches.{position-first, position-none}

-- what a search answers is the first to meet
pub first_at : (states : List SlaveState) (caps : ℕ) (limit : Option ℕ) (k : ℕ)
    → position (meets caps limit) states ≡ Some k
    → IsFirstToMeet states caps limit k
first_at states caps limit k e =
    let first = position-first (meets caps limit) states k e in
    record { state = first.element; here = first.here; enough = first.passes; least = first.least }

pub first_found : (states : List SlaveState) (caps : ℕ) (limit : Option ℕ) (found : Option ℕ)
    → found ≡ position (meets caps limit) states
    → IfSome found (IsFirstToMeet states caps limit)
first_found states caps limit None e = tt
first_found states caps limit (Some k) e = first_at states caps limit k (sym e)

-- latency 0 keeps every limit
at_once : (latency : ℕ) (limit : Option ℕ) → latency ≡ 0 → within latency limit ≡ true
at_once latency None e = refl
at_once latency (Some limit) e = grind (arith, nat_tests)

last_meets : (caps : ℕ) (limit : Option ℕ) (last : SlaveState)
    → bit_and last.caps.0 caps ≡ caps → last.latency ≡ 0 → meets caps limit last ≡ true
last_meets caps limit last has ready = pair_of _ _ (equal (bit_and last.caps.0 caps) caps has) (at_once last.latency limit ready)

-- so the search finds a state where the last has what is required
never_none : (states : List SlaveState) (caps : ℕ) (limit : Option ℕ) (last : Option SlaveState)
    → slice_get states (length states - 1) ≡ last
    → IsSomeAnd last (λ last. (bit_and last.caps.0 caps ≡ caps) × (last.latency ≡ 0))
    → position (meets caps limit) states ≡ None → ⊥
never_none states caps limit None is has e = absurd has
never_none states caps limit (Some last) is has e =
    let fails = position-none (meets caps limit) states e (length states - 1) last is in
    let holds = last_meets caps limit last has.0 has.1 in
    cc

pub some_meets : (states : List SlaveState) (caps : ℕ) (limit : Option ℕ)
    → LastHas states caps → None ≡ position (meets caps limit) states → ⊥
some_meets states caps limit has e = never_none states caps limit _ refl has (sym e)

-- a full last state has all capabilities of the slave
gathers : (last : SlaveState) (states : List SlaveState) (all : ℕ)
    → bit_and last.caps.0 all ≡ all
    → EachEntry states (λ _ s. bit_and last.caps.0 s.caps.0 ≡ s.caps.0)
    → bit_and last.caps.0 (fold (λ all s. bit_or all s.caps.0) all states) ≡ fold (λ all s. bit_or all s.caps.0) all states
gathers last [] all has each = has
gathers last (s ∷ states) all has each =
    gathers last states (bit_or all s.caps.0) (has_both last.caps.0 all s.caps.0 has (each 0 s refl)) (λ k x here. each (suc k) x here)

last_has : (states : List SlaveState) (caps : ℕ) → HasFullLast states → bit_and (capabilities states) caps ≡ caps → LastHas states caps
last_has states caps full known =
    let all = gathers full.last states 0 (has_none full.last.caps.0) full.full in
    let has = has_through full.last.caps.0 (capabilities states) caps all known in
    let P : Option SlaveState → Type 0 = λ o. IsSomeAnd o (λ last. (bit_and last.caps.0 caps ≡ caps) × (last.latency ≡ 0)) in
    subst P (sym full.is_last) (has, full.at_once)

some_of : (found : Option ℕ) → (None ≡ found → ⊥) → IsSome found
some_of None never = absurd (never refl)
some_of (Some k) never = refl

pub always_one : (states : List SlaveState) (caps : ℕ) (limit : Option ℕ) (found : Option ℕ)
    → found ≡ position (meets caps limit) states
    → HasFullLast states → bit_and (capabilities states) caps ≡ caps → IsSome found
always_one states caps limit found e full known =
    some_of found (λ none. some_meets states caps limit (last_has states caps full known) (none ∙ e))

-- the two facts of a search in any list of states
pub always_found : (states : List SlaveState) (caps : ℕ) (limit : Option ℕ)
    → HasFullLast states → bit_and (capabilities states) caps ≡ caps → IsSome (position (meets caps limit) states)
always_found states caps limit = always_one states caps limit (position (meets caps limit) states) refl
