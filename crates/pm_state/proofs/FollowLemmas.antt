-- The shifts of a stage are those of one master after another.
use Rattle.std.proofs.Common.{◌≡◌, ◌≢◌, ℕ, ◌+◌, ◌<◌, Bool, true, false, if◌then◌else◌, List, [], ◌∷◌, ◌++◌, length, drop, get_or, refl, sym, ◌∙◌, ap, arith}
use Rattle.std.specs.Prelude.{slice_set}
use Rattle.std.proofs.lemmas.List.{drop_more, get_or-set_other}
use Rattle.std.proofs.lemmas.Option.{unwrap_or-slice_get}
use Rattle.pm_base.specs.declared.names.Mode.{Mode}
use Rattle.pm_base.specs.declared.names.Mode.TheVariants.{Off}
use Rattle.pm_object.specs.declared.object.MasterRec.{MasterRec}
use Rattle.pm_procs.specs.Modes.{same_mode}
use Rattle.pm_rows.specs.Modes.{mode_in}
use Rattle.pm_rows.specs.Rows.{mode_of}
use Rattle.pm_state.specs.Members.{mode_of_master}
use Rattle.pm_state.specs.Prims.{Prim, Shift, apply, applies, changed}
use Rattle.pm_state.specs.Stages.{follow_at, follow_from}
use Rattle.pm_state.specs.State.{Fixed, CoreHalf, Now, State}

-- changes after changes
pub applies_append : (fixed : Fixed) (first later : List Prim) (now : Now) → applies fixed (first ++ later) now ≡ applies fixed later (applies fixed first now)
applies_append fixed [] later now = refl
applies_append fixed (prim ∷ first) later now = applies_append fixed first later (apply fixed prim now)

pub changed_step : (prims rest : List Prim) (book next : State) → next ≡ changed prims book → changed rest next ≡ changed (prims ++ rest) book
changed_step prims rest book next is =
    ap (changed rest) is ∙ ap (λ (now : Now). record book { now = now }) (sym (applies_append book.fixed prims rest book.now))

-- another master's mode stays where one is set
pub other_mode : (modes : List Mode) (m k : ℕ) (to : Mode) → k ≢ m → mode_in k (slice_set modes m to) ≡ mode_in k modes
other_mode modes m k to other =
    unwrap_or-slice_get (slice_set modes m to) k Off ∙ (get_or-set_other modes m k to Off other ∙ sym (unwrap_or-slice_get modes k Off))

-- a shift of the master at place m changes neither the processors nor what the rows know of later masters
pub record Leaves (m : ℕ) (before after : CoreHalf) : Type 0 where
  pub procs : after.procs ≡ before.procs
  pub modes : (k : ℕ) → m < k → mode_of k after.rows ≡ mode_of k before.rows

leaves_by : (fixed : Fixed) (now : Now) (m : ℕ) (to : Mode) (same : Bool) → Leaves m now.core (applies fixed (if same then [] else Shift m to ∷ []) now).core
leaves_by fixed now m to true = record { procs = refl; modes = λ k later. refl }
leaves_by fixed now m to false =
    record { procs = refl; modes = λ k later. other_mode now.core.rows.known m k to (λ is. omega (arith, is)) }

pub follow_leaves : (fixed : Fixed) (now : Now) (m : ℕ) → Leaves m now.core (applies fixed (follow_at fixed now.core m) now).core
follow_leaves fixed now m =
    leaves_by fixed now m (mode_of_master fixed now.core m) (same_mode (mode_of m now.core.rows) (mode_of_master fixed now.core m))

-- so the shifts of later masters are the same before and after it
pub same_later : (fixed : Fixed) (m n : ℕ) (before after : CoreHalf) (masters : List MasterRec) → Leaves m before after → m < n → follow_from fixed after n masters ≡ follow_from fixed before n masters
same_later fixed m n before after [] leaves later = refl
same_later fixed m n before after (x ∷ xs) leaves later =
    let known : mode_of n after.rows ≡ mode_of n before.rows = leaves.modes n later in
    let procs : after.procs ≡ before.procs = leaves.procs in
    let here : follow_at fixed after n ≡ follow_at fixed before n = cc in
    let rest : follow_from fixed after (n + 1) xs ≡ follow_from fixed before (n + 1) xs = same_later fixed m (n + 1) before after xs leaves (omega arith) in
    cc

-- one master follows, and the later ones are left
pub follow_step : (book next : State) (m : ℕ) (d : MasterRec) (masters : List MasterRec) → next ≡ changed (follow_at book.fixed book.now.core m) book → m < length masters → changed (follow_from next.fixed next.now.core (m + 1) (drop (m + 1) masters)) next ≡ changed (follow_from book.fixed book.now.core m (drop m masters)) book
follow_step book next m d masters is within =
    let first = follow_at book.fixed book.now.core m in
    let after : Now = applies book.fixed first book.now in
    let rest = drop (m + 1) masters in
    let left : drop m masters ≡ get_or masters m d ∷ rest = drop_more masters m d within in
    let same : follow_from book.fixed after.core (m + 1) rest ≡ follow_from book.fixed book.now.core (m + 1) rest =
    same_later book.fixed m (m + 1) book.now.core after.core rest (follow_leaves book.fixed book.now m) (omega arith)
    in
    let parts : applies book.fixed (first ++ follow_from book.fixed book.now.core (m + 1) rest) book.now ≡ applies book.fixed (follow_from book.fixed book.now.core (m + 1) rest) after =
    applies_append book.fixed first (follow_from book.fixed book.now.core (m + 1) rest) book.now
    in
    let whole : follow_from book.fixed book.now.core m (drop m masters) ≡ first ++ follow_from book.fixed book.now.core (m + 1) rest = ap (follow_from book.fixed book.now.core m) left in
    ap (λ (b : State). changed (follow_from b.fixed b.now.core (m + 1) rest) b) is
    ∙ (ap (λ (prims : List Prim). record book { now = applies book.fixed prims after }) same
    ∙ (ap (λ (now : Now). record book { now = now }) (sym parts)
    ∙ ap (λ (prims : List Prim). changed prims book) (sym whole)))
