-- Where nothing becomes of any mode, no request ends but by what a message says or by the time that passes, and nobody
-- forgets.
use Rattle.std.proofs.Common.{◌≡◌, false, ℕ, zero, suc, ◌+◌, List, [], ◌∷◌, ◌++◌, length, Option, Some, None, refl, ap, ◌∙◌}
use Rattle.std.specs.Prelude.{is_some, replicate}
use Rattle.pm_object.specs.declared.object.MasterRec.{MasterRec}
use Rattle.pm_procs.specs.declared.pending.Pending.{Pending}
use Rattle.pm_state.specs.State.{State}
use Rattle.pm_tell.specs.declared.telling.Telling.{Telling}
use Rattle.pm_tell.specs.Ended.{ended_at, ended_from}
use Rattle.pm_tell.specs.Opening.{forget_at, forgets_from}
use Rattle.pm_tell.specs.Telling.{IsFresh, turns_in}
use Rattle.pm_values.specs.declared.turns.Turns.{Turns}
use Rattle.pm_values.specs.Along.{Trail, no_turns, turns_logged}

-- ---- tests

pub none_is : {X : Type 0} (o : Option X) → is_some o ≡ false → o ≡ None
none_is None is = refl
none_is (Some x) is = cc

-- ---- what becomes of no mode

-- nobody aborts and no time passes
no_end : (m : ℕ) (request : Option Pending) → ended_at no_turns None None m request ≡ []
no_end m None = refl
no_end m (Some request) = refl

pub none_end : (turns : ℕ → Turns) → ((m : ℕ) → turns m ≡ no_turns) → (m : ℕ) (pending : List (Option Pending)) → ended_from turns None None m pending ≡ []
none_end turns still m [] = refl
none_end turns still m (request ∷ pending) =
    ap (λ es. es ++ ended_from turns None None (m + 1) pending)
    (ap (λ t. ended_at t None None m request) (still m) ∙ no_end m request)
    ∙ none_end turns still (m + 1) pending

-- nobody forgets
pub none_forgets : (turns : ℕ → Turns) → ((m : ℕ) → turns m ≡ no_turns) → (m : ℕ) (masters : List MasterRec) → forgets_from turns m masters ≡ []
none_forgets turns still m [] = refl
none_forgets turns still m (master ∷ masters) =
    ap (λ t. forget_at t m ++ forgets_from turns (m + 1) masters) (still m) ∙ none_forgets turns still (m + 1) masters

-- nothing is logged of any mode yet
none_logged : (count m : ℕ) → turns_logged m (replicate count no_turns) ≡ no_turns
none_logged zero m = refl
none_logged (suc count) zero = refl
none_logged (suc count) (suc m) = none_logged count m

none_turned : (book : State) (telling : Telling) → IsFresh book telling → (m : ℕ) → turns_in telling m ≡ no_turns
none_turned book telling fresh m =
    ap (λ (a : Trail). turns_logged m a.turns) fresh.along ∙ none_logged (length book.fixed.object.masters) m

pub none_ends : (book : State) (telling : Telling) → IsFresh book telling → ended_from (turns_in telling) None None 0 book.now.talk.pending ≡ []
none_ends book telling fresh = none_end (turns_in telling) (none_turned book telling fresh) 0 book.now.talk.pending

pub none_forget : (book : State) (telling : Telling) → IsFresh book telling → forgets_from (turns_in telling) 0 book.fixed.object.masters ≡ []
none_forget book telling fresh = none_forgets (turns_in telling) (none_turned book telling fresh) 0 book.fixed.object.masters
