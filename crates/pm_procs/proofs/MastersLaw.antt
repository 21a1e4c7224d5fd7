-- What a change of one processor changes: that processor, and the mode of the masters that have it.
use Rattle.std.proofs.Common.{◌≡◌, ◌≢◌, ℕ, ◌+◌, ◌<◌, ◌≤◌, Bool, true, false, ◌==◌, List, [], Some, length, map, slice_get, unwrap_or, true≢false, refl, ap, sym, ◌∙◌, arith, ⊎_elim}
use Rattle.std.specs.Prelude.{slice_set}
use Rattle.std.specs.List.{list_any}
use Rattle.std.proofs.lemmas.List.{get_or-replicate, get_or_past, length-replicate, set_past}
use Rattle.std.proofs.lemmas.Bool.{cases_lt}
use Rattle.std.proofs.lemmas.Bool.Decides.{nat_tests}
use Rattle.std.proofs.lemmas.Option.{unwrap_or-slice_get}
use Rattle.std.proofs.lemmas.Simd.{splat_is_map}
use Rattle.pm_base.specs.declared.names.Mode.{Mode}
use Rattle.pm_base.specs.declared.names.Mode.TheVariants.{Off, Active, Asleep, Suspending}
use Rattle.pm_base.proofs.Booleans.{differs}
use Rattle.pm_procs.specs.declared.procs.Proc.{Proc}
use Rattle.pm_procs.specs.Modes.{mode_among}
use Rattle.pm_procs.specs.Procs.{all_off, all_turned_off, gone, has_member, master_mode_in, members_at, mode_at, off, proc_at, with_address, with_mode}
use Rattle.pm_procs.proofs.ModeLemmas.{active_among, modes_alike, off_among}
use Rattle.pm_procs.proofs.Places as place

-- ---- one processor is written

set_here : (p : ℕ) (proc : Proc) (procs : List Proc) → p < length procs → proc_at p (slice_set procs p proc) ≡ proc
set_here p proc procs within = place.set_here p proc off procs within

set_there : (p q : ℕ) (proc : Proc) (procs : List Proc) → q ≢ p → proc_at q (slice_set procs p proc) ≡ proc_at q procs
set_there p q proc procs other = place.set_there p q proc off procs other

gone_to : (to : Mode) (proc : Proc) → (gone to proc).mode ≡ to
gone_to Off proc = refl
gone_to Active proc = refl
gone_to Asleep proc = refl
gone_to Suspending proc = refl

pub goes : (p : ℕ) (to : Mode) (procs : List Proc) → p < length procs → mode_at p (with_mode p to procs) ≡ to
goes p to procs within = ap (λ (proc : Proc). proc.mode) (set_here p (gone to (proc_at p procs)) procs within) ∙ gone_to to (proc_at p procs)

pub others : (p q : ℕ) (to : Mode) (procs : List Proc) → q ≢ p → proc_at q (with_mode p to procs) ≡ proc_at q procs
others p q to procs other = set_there p q (gone to (proc_at p procs)) procs other

-- ---- the masters

not_it : (p q : ℕ) (ps : List ℕ) → list_any (λ r. r == p) ps ≡ false → list_any (λ r. r == q) ps ≡ true → q ≢ p
not_it p q ps none is at = true≢false (sym is ∙ ap (λ r. list_any (λ s. s == r) ps) at ∙ none)

pub apart : (m p : ℕ) (to : Mode) (members : List (List ℕ)) (procs : List Proc) → has_member m p members ≡ false → master_mode_in m members (with_mode p to procs) ≡ master_mode_in m members procs
apart m p to members procs none =
    ap mode_among (modes_alike (λ q. mode_at q (with_mode p to procs)) (λ q. mode_at q procs) (members_at m members)
    (λ q is. ap (λ (proc : Proc). proc.mode) (others p q to procs (not_it p q (members_at m members) none is))))

same_mode_here : (p a : ℕ) (procs : List Proc) → mode_at p (with_address p a procs) ≡ mode_at p procs
same_mode_here p a procs =
    let proc : Proc = record (proc_at p procs) { address = a } in
    ⊎_elim (λ within. ap (λ (proc : Proc). proc.mode) (set_here p proc procs within)) (λ past. ap (mode_at p) (set_past procs p proc past)) (cases_lt p (length procs))

same_mode_of : (p a q : ℕ) (procs : List Proc) (b : Bool) → (q == p) ≡ b → mode_at q (with_address p a procs) ≡ mode_at q procs
same_mode_of p a q procs true is = let at : q ≡ p = grind (arith, nat_tests) in rw at (same_mode_here p a procs)
same_mode_of p a q procs false is = ap (λ (proc : Proc). proc.mode) (set_there p q (record (proc_at p procs) { address = a }) procs (differs q p is))

pub address : (m p a : ℕ) (members : List (List ℕ)) (procs : List Proc) → master_mode_in m members (with_address p a procs) ≡ master_mode_in m members procs
address m p a members procs =
    ap mode_among (modes_alike (λ q. mode_at q (with_address p a procs)) (λ q. mode_at q procs) (members_at m members) (λ q is. same_mode_of p a q procs (q == p) refl))

pub active : (m p : ℕ) (members : List (List ℕ)) (procs : List Proc) → has_member m p members ≡ true → mode_at p procs ≡ Active → master_mode_in m members procs ≡ Active
active m p members procs is has = active_among (λ q. mode_at q procs) (members_at m members) p is has

pub all_members_off : (m : ℕ) (members : List (List ℕ)) (procs : List Proc) → ((p : ℕ) → has_member m p members ≡ true → mode_at p procs ≡ Off) → master_mode_in m members procs ≡ Off
all_members_off m members procs each = off_among (λ q. mode_at q procs) (members_at m members) each

off_at_load : (p count : ℕ) → proc_at p (all_off count) ≡ off
off_at_load p count =
    unwrap_or-slice_get (all_off count) p off ∙ ⊎_elim (λ within. get_or-replicate count p off off within) (λ past. get_or_past (all_off count) p off (rw (length-replicate count off) past)) (cases_lt p count)

pub load : (m count : ℕ) (members : List (List ℕ)) → master_mode_in m members (all_off count) ≡ Off
load m count members = all_members_off m members (all_off count) (λ p is. ap (λ (proc : Proc). proc.mode) (off_at_load p count))

-- after all of them went off the processors are as at load
pub restart : (procs : List Proc) → all_turned_off procs ≡ all_off (length procs)
restart procs = sym (splat_is_map procs (length procs) off refl)

-- ---- the modes that are kept

-- a master that isn't there is off, and one that is there has the mode of its processors
pub no_master : (m : ℕ) (members : List (List ℕ)) (procs : List Proc) → length members ≤ m → master_mode_in m members procs ≡ Off
no_master m members procs past = ap (λ ps. mode_among (map (λ p. mode_at p procs) ps)) (place.past_end m [] members past)

pub mode_by : (m : ℕ) (members : List (List ℕ)) (procs : List Proc) (places : List ℕ) → slice_get members m ≡ Some places → mode_among (map (λ p. mode_at p procs) places) ≡ master_mode_in m members procs
mode_by m members procs places at = ap (λ ps. mode_among (map (λ p. mode_at p procs) (unwrap_or ps []))) (sym at)

-- the modes of the masters before one are written, and then its own
pub writes : (members : List (List ℕ)) (procs : List Proc) (modes : List Mode) (m : ℕ) (mode : Mode) → m < length modes → mode ≡ master_mode_in m members procs
    → ((n : ℕ) → n < m → unwrap_or (slice_get modes n) Off ≡ master_mode_in n members procs)
    → (n : ℕ) → n < m + 1 → unwrap_or (slice_get (slice_set modes m mode) n) Off ≡ master_mode_in n members procs
writes members procs modes m mode within is earlier n before = written_at (n == m) refl
  where
    written_at : (b : Bool) → (n == m) ≡ b → unwrap_or (slice_get (slice_set modes m mode) n) Off ≡ master_mode_in n members procs
    written_at true here = let at : n ≡ m = grind (arith, nat_tests) in rw at (place.set_here m mode Off modes within ∙ is)
    written_at false other =
        let sooner : n < m = grind (arith, nat_tests) in
        place.set_there m n mode Off modes (differs n m other) ∙ earlier n sooner
