-- What is pending on one master where a request is made or ends, and where time passes.
use Rattle.std.proofs.Common.{◌≡◌, ◌≢◌, ℕ, ◌+◌, ◌-◌, ◌<◌, nat_le, List, [], ◌∷◌, length, Option, Some, None, refl, sym, ap, ◌∙◌, arith, ⊎_elim, slice_get, unwrap_or}
use Rattle.std.specs.Prelude.{option_map}
use Rattle.std.proofs.lemmas.List.{get_or-replicate, length-replicate, set_past}
use Rattle.std.proofs.lemmas.Bool.{cases_lt}
use Rattle.std.proofs.lemmas.Bool.Decides.{nat_tests}
use Rattle.std.proofs.lemmas.Simd.{splat_is_map}
use Rattle.std.proofs.lemmas.Option.{slice_get-map, unwrap_or-slice_get}
use Rattle.pm_procs.specs.declared.pending.Pending.{Pending}
use Rattle.pm_procs.specs.Pending.{all_ended, all_lowered, asked, ended, is_due, is_within, lowered, none_pending, pending_at}
use Rattle.pm_procs.proofs.Places.{past_end, set_here, set_there}

-- ---- a request is made or ends

pub asks : (m : ℕ) (request : Pending) (pending : List (Option Pending)) → m < length pending → pending_at m (asked m request pending) ≡ Some request
asks m request pending within = set_here m (Some request) None pending within

pub asks_one : (m n : ℕ) (request : Pending) (pending : List (Option Pending)) → n ≢ m → pending_at n (asked m request pending) ≡ pending_at n pending
asks_one m n request pending other = set_there m n (Some request) None pending other

pub ends : (m : ℕ) (pending : List (Option Pending)) → pending_at m (ended m pending) ≡ None
ends m pending = ⊎_elim
    (λ within. set_here m None None pending within)
    (λ past. ap (pending_at m) (set_past pending m None past) ∙ past_end m None pending past)
    (cases_lt m (length pending))

pub ends_one : (m n : ℕ) (pending : List (Option Pending)) → n ≢ m → pending_at n (ended m pending) ≡ pending_at n pending
ends_one m n pending other = set_there m n None None pending other

pub load : (m masters : ℕ) → pending_at m (none_pending masters) ≡ None
load m masters =
    let nothing : Option Pending = None in
    ⊎_elim
    (λ within. unwrap_or-slice_get (none_pending masters) m nothing ∙ get_or-replicate masters m nothing nothing within)
    (λ past. past_end m nothing (none_pending masters) (rw (length-replicate masters nothing) past))
    (cases_lt m masters)

-- once all requests ended nothing is pending, as at load
pub renew : (pending : List (Option Pending)) → all_ended pending ≡ none_pending (length pending)
renew pending = sym (splat_is_map pending (length pending) None refl)

-- ---- time passes

inside : {X Y : Type 0} (f : X → Y) (x : Option (Option X)) → unwrap_or (option_map (option_map f) x) None ≡ option_map f (unwrap_or x None)
inside f None = refl
inside f (Some x) = refl

pub passes : (m count : ℕ) (pending : List (Option Pending)) → pending_at m (all_lowered count pending) ≡ option_map (lowered count) (pending_at m pending)
passes m count pending =
    ap (λ request. unwrap_or request None) (slice_get-map (option_map (lowered count)) pending m) ∙ inside (lowered count) (slice_get pending m)

left_twice : (first second : ℕ) (left : Option ℕ) → option_map (λ n. n - second) (option_map (λ n. n - first) left) ≡ option_map (λ n. n - (first + second)) left
left_twice first second None = refl
left_twice first second (Some left) = let same : left - first - second ≡ left - (first + second) = omega arith in ap Some same

lowered_twice : (first second : ℕ) (request : Option Pending) → option_map (lowered second) (option_map (lowered first) request) ≡ option_map (lowered (first + second)) request
lowered_twice first second None = refl
lowered_twice first second (Some request) = ap (λ left. Some (record request { left = left })) (left_twice first second request.left)

pub adds : (first second : ℕ) (pending : List (Option Pending)) → all_lowered second (all_lowered first pending) ≡ all_lowered (first + second) pending
adds first second [] = refl
adds first second (request ∷ pending) = rw (lowered_twice first second request, adds first second pending) refl

same_test : (left first second : ℕ) → nat_le (left - first) second ≡ nat_le left (first + second)
same_test left first second = grind (arith, nat_tests)

within_twice : (first second : ℕ) (left : Option ℕ) → is_within second (option_map (λ n. n - first) left) ≡ is_within (first + second) left
within_twice first second None = refl
within_twice first second (Some left) = same_test left first second

pub due : (first second : ℕ) (request : Pending) → is_due second (lowered first request) ≡ is_due (first + second) request
due first second request = within_twice first second request.left
