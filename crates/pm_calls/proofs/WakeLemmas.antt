-- Rows that wake their processors one after another do the same as all of them by the book before the first.
use Rattle.std.proofs.Common.{◌≡◌, ◌≢◌, ℕ, suc, zero, ◌+◌, ◌<◌, ◌==◌, Bool, true, false, if◌then◌else◌, List, [], ◌∷◌, length, drop, get_or, Option, Some, None, refl, sym, ◌∙◌, ap, subst, inl, inr}
use Rattle.std.specs.Prelude.{slice_get, slice_set, flat_map, unwrap_or, ◌⊎◌}
use Rattle.std.proofs.lemmas.Bool.{cases_eq}
use Rattle.std.proofs.lemmas.List.{drop_more, get_or-set_other}
use Rattle.std.proofs.lemmas.Option.{unwrap_or-slice_get}
use Rattle.pm_base.specs.declared.names.Mode.{Mode}
use Rattle.pm_base.specs.declared.names.Mode.TheVariants.{Off, Active, Asleep, Suspending}
use Rattle.pm_base.specs.declared.names.NodeId.{NodeId}
use Rattle.pm_procs.specs.declared.procs.Proc.{Proc as Processor}
use Rattle.pm_procs.specs.Procs.{off, proc_at}
use Rattle.pm_rows.specs.declared.row.Entry.{Entry}
use Rattle.pm_topology.specs.declared.places.Kind.{Kind}
use Rattle.pm_topology.specs.declared.places.Kind.TheVariants.{Proc, Slave, Power, Unknown}
use Rattle.pm_topology.specs.Places.{kind_of}
use Rattle.pm_calls.specs.Events.{woken, woken_in, woken_at, woken_by, woken_from}
use Rattle.pm_state.specs.Members.{owns}
use Rattle.pm_state.specs.Prims.{Prim, applies, changed, proc_put}
use Rattle.pm_state.specs.State.{Fixed, Now, State}
use Rattle.pm_state.proofs.FollowLemmas.{applies_append}

abbrev pub book_of : Fixed → Now → State
book_of fixed now = record { fixed = fixed; now = now }

-- each of these rows wakes its processor, by the book as it is when its turn comes
abbrev pub wake_each : Fixed → ℕ → List Entry → Now → Now
wake_each fixed s [] now = now
wake_each fixed s (e ∷ es) now = wake_each fixed s es (applies fixed (woken_from s (book_of fixed now) e) now)

-- ---- processors as they were, or woken

-- an interrupt wakes a processor in this mode
abbrev pub rests : Mode → Bool
rests Off = false
rests Active = false
rests Asleep = true
rests Suspending = true

abbrev pub IsWoken : Processor → Processor → Type 0
IsWoken a b = (b ≡ a) ⊎ ((rests a.mode ≡ true) × (b ≡ record { mode = Active; address = a.address }))

abbrev pub Woke : Now → Now → Type 0
Woke a x = (q : ℕ) → IsWoken (proc_at q a.core.procs) (proc_at q x.core.procs)

set_same : (procs : List Processor) (p : ℕ) (proc : Processor) → proc_at p procs ≡ proc → slice_set procs p proc ≡ procs
set_same [] p proc is = refl
set_same (x ∷ procs) zero proc is = ap (λ y. y ∷ procs) (sym is)
set_same (x ∷ procs) (suc p) proc is = ap (λ ys. x ∷ ys) (set_same procs p proc is)

set_here : (procs : List Processor) (p : ℕ) (proc : Processor) → rests (proc_at p procs).mode ≡ true → proc_at p (slice_set procs p proc) ≡ proc
set_here [] p proc rest = cc
set_here (x ∷ procs) zero proc rest = refl
set_here (x ∷ procs) (suc p) proc rest = set_here procs p proc rest

pub set_other : (procs : List Processor) (p q : ℕ) (proc : Processor) → q ≢ p → proc_at q (slice_set procs p proc) ≡ proc_at q procs
set_other procs p q proc other =
    unwrap_or-slice_get (slice_set procs p proc) q off ∙ (get_or-set_other procs p q proc off other ∙ sym (unwrap_or-slice_get procs q off))

-- ---- one processor

-- a processor that was woken already isn't changed by a second interrupt
put_again : (x : Now) (p address : ℕ) (own : Bool) → proc_at p x.core.procs ≡ record { mode = Active; address = address } → record x { core = if own then record x.core { procs = proc_put p Active address x.core.procs } else x.core } ≡ x
put_again x p address true at = ap (λ procs. record x { core = record x.core { procs = procs } }) (set_same x.core.procs p (record { mode = Active; address = address }) at)
put_again x p address false at = refl

again_in : (fixed : Fixed) (m p address : ℕ) (mode : Mode) (x : Now) → rests mode ≡ true → proc_at p x.core.procs ≡ record { mode = Active; address = address } → applies fixed (woken_in m p address mode) x ≡ x
again_in fixed m p address Off x rest at = cc
again_in fixed m p address Active x rest at = cc
again_in fixed m p address Asleep x rest at = put_again x p address (owns fixed.object fixed.topology m p) at
again_in fixed m p address Suspending x rest at = put_again x p address (owns fixed.object fixed.topology m p) at

one_by : (fixed : Fixed) (m p : ℕ) (before now : Processor) (x : Now) → proc_at p x.core.procs ≡ now → IsWoken before now → applies fixed (woken m p before) x ≡ applies fixed (woken m p now) x
one_by fixed m p before now x at is = elim is [
  | inl same ↦ ap (λ proc. applies fixed (woken m p proc) x) (sym same)
  | inr both ↦ again_in fixed m p before.address before.mode x both.0 (at ∙ both.1) ∙ ap (λ proc. applies fixed (woken m p proc) x) (sym both.1)
]

woken_here : (before now next : Processor) (mode : Mode) (address : ℕ) → rests mode ≡ true → now ≡ record { mode = mode; address = address } → next ≡ record { mode = Active; address = address } → IsWoken before now → IsWoken before next
woken_here before now next mode address rest at is woke = elim woke [
  | inl same ↦
      let e : before ≡ record { mode = mode; address = address } = sym same ∙ at in
      inr (ap (λ (q : Processor). rests q.mode) e ∙ rest, is ∙ ap (λ (q : Processor). record { mode = Active; address = q.address }) (sym e))
  | inr both ↦
      let e : false ≡ true = ap (λ (q : Processor). rests q.mode) (sym both.1 ∙ at) ∙ rest in cc
]

put_woke : (a x : Now) (p address : ℕ) (mode : Mode) (own : Bool) → rests mode ≡ true → proc_at p x.core.procs ≡ record { mode = mode; address = address } → Woke a x → Woke a (record x { core = if own then record x.core { procs = proc_put p Active address x.core.procs } else x.core })
put_woke a x p address mode false rest at woke = woke
put_woke a x p address mode true rest at woke = λ q. elim (cases_eq q p) [
  | inl own ↦
      let new : Processor = record { mode = Active; address = address } in
      let P : ℕ → Type 0 = λ k. IsWoken (proc_at k a.core.procs) (proc_at k (slice_set x.core.procs p new)) in
      subst P (sym own)
      (woken_here (proc_at p a.core.procs) (proc_at p x.core.procs) (proc_at p (slice_set x.core.procs p new)) mode address rest at
      (set_here x.core.procs p new (ap (λ (r : Processor). rests r.mode) at ∙ rest)) (woke p))
  | inr other ↦
      let P : Processor → Type 0 = λ r. IsWoken (proc_at q a.core.procs) r in
      subst P (sym (set_other x.core.procs p q (record { mode = Active; address = address }) other)) (woke q)
]

kept_in : (fixed : Fixed) (m p address : ℕ) (mode : Mode) (a x : Now) → proc_at p x.core.procs ≡ record { mode = mode; address = address } → Woke a x → Woke a (applies fixed (woken_in m p address mode) x)
kept_in fixed m p address Off a x at woke = woke
kept_in fixed m p address Active a x at woke = woke
kept_in fixed m p address Asleep a x at woke = put_woke a x p address Asleep (owns fixed.object fixed.topology m p) refl at woke
kept_in fixed m p address Suspending a x at woke = put_woke a x p address Suspending (owns fixed.object fixed.topology m p) refl at woke

-- ---- one row

pub record Acts (fixed : Fixed) (a x : Now) (first second : List Prim) : Type 0 where
  pub same : applies fixed first x ≡ applies fixed second x
  pub woke : Woke a (applies fixed second x)

at_kind : (fixed : Fixed) (m : ℕ) (kind : Kind) (a x : Now) → Woke a x → Acts fixed a x (woken_at m kind (book_of fixed a)) (woken_at m kind (book_of fixed x))
at_kind fixed m (Proc p) a x woke = record {
  same = one_by fixed m p (proc_at p a.core.procs) (proc_at p x.core.procs) x refl (woke p);
  woke = kept_in fixed m p (proc_at p x.core.procs).address (proc_at p x.core.procs).mode a x refl woke;
}
at_kind fixed m (Slave s) a x woke = record { same = refl; woke = woke }
at_kind fixed m (Power w) a x woke = record { same = refl; woke = woke }
at_kind fixed m Unknown a x woke = record { same = refl; woke = woke }

by_armed : (fixed : Fixed) (m : ℕ) (armed : Option NodeId) (a x : Now) → Woke a x → Acts fixed a x (woken_by m armed (book_of fixed a)) (woken_by m armed (book_of fixed x))
by_armed fixed m None a x woke = record { same = refl; woke = woke }
by_armed fixed m (Some node) a x woke = at_kind fixed m (kind_of fixed.topology node) a x woke

pub by_row : (fixed : Fixed) (there : Bool) (m : ℕ) (armed : Option NodeId) (a x : Now) → Woke a x → Acts fixed a x (if there then woken_by m armed (book_of fixed a) else []) (if there then woken_by m armed (book_of fixed x) else [])
by_row fixed true m armed a x woke = by_armed fixed m armed a x woke
by_row fixed false m armed a x woke = record { same = refl; woke = woke }

-- ---- all rows

whole : (fixed : Fixed) (s : ℕ) (es : List Entry) (a x : Now) → Woke a x → applies fixed (flat_map (woken_from s (book_of fixed a)) es) x ≡ wake_each fixed s es x
whole fixed s [] a x woke = refl
whole fixed s (e ∷ es) a x woke =
    let later : List Prim = flat_map (woken_from s (book_of fixed a)) es in
    let acts : Acts fixed a x (woken_from s (book_of fixed a) e) (woken_from s (book_of fixed x) e) = by_row fixed (e.seed.slave == s) e.seed.master e.row.armed a x woke in
    applies_append fixed (woken_from s (book_of fixed a) e) later x
    ∙ (ap (applies fixed later) acts.same ∙ whole fixed s es a (applies fixed (woken_from s (book_of fixed x) e) x) acts.woke)

pub each_is : (fixed : Fixed) (s : ℕ) (es : List Entry) (now : Now) → applies fixed (flat_map (woken_from s (book_of fixed now)) es) now ≡ wake_each fixed s es now
each_is fixed s es now = whole fixed s es now now (λ q. inl refl)

-- ---- the rows stay

put_leaves : (x : Now) (p address : ℕ) (own : Bool) → (record x { core = if own then record x.core { procs = proc_put p Active address x.core.procs } else x.core }).core.rows ≡ x.core.rows
put_leaves x p address true = refl
put_leaves x p address false = refl

in_leaves : (fixed : Fixed) (m p address : ℕ) (mode : Mode) (x : Now) → (applies fixed (woken_in m p address mode) x).core.rows ≡ x.core.rows
in_leaves fixed m p address Off x = refl
in_leaves fixed m p address Active x = refl
in_leaves fixed m p address Asleep x = put_leaves x p address (owns fixed.object fixed.topology m p)
in_leaves fixed m p address Suspending x = put_leaves x p address (owns fixed.object fixed.topology m p)

kind_leaves : (fixed : Fixed) (m : ℕ) (kind : Kind) (x : Now) → (applies fixed (woken_at m kind (book_of fixed x)) x).core.rows ≡ x.core.rows
kind_leaves fixed m (Proc p) x = in_leaves fixed m p (proc_at p x.core.procs).address (proc_at p x.core.procs).mode x
kind_leaves fixed m (Slave s) x = refl
kind_leaves fixed m (Power w) x = refl
kind_leaves fixed m Unknown x = refl

armed_leaves : (fixed : Fixed) (m : ℕ) (armed : Option NodeId) (x : Now) → (applies fixed (woken_by m armed (book_of fixed x)) x).core.rows ≡ x.core.rows
armed_leaves fixed m None x = refl
armed_leaves fixed m (Some node) x = kind_leaves fixed m (kind_of fixed.topology node) x

row_leaves : (fixed : Fixed) (there : Bool) (m : ℕ) (armed : Option NodeId) (x : Now) → (applies fixed (if there then woken_by m armed (book_of fixed x) else []) x).core.rows ≡ x.core.rows
row_leaves fixed true m armed x = armed_leaves fixed m armed x
row_leaves fixed false m armed x = refl

pub rows_stay : (s : ℕ) (e : Entry) (book : State) → (changed (woken_from s book e) book).now.core.rows ≡ book.now.core.rows
rows_stay s e book = row_leaves book.fixed (e.seed.slave == s) e.seed.master e.row.armed book.now

-- ---- a turn of the loop

pub wake_step : (book next : State) (s k : ℕ) (e : Entry) (entries : List Entry) → next ≡ changed (woken_from s book e) book → slice_get entries k ≡ Some e → k < length entries → wake_each next.fixed s (drop (k + 1) entries) next.now ≡ wake_each book.fixed s (drop k entries) book.now
wake_step book next s k e entries is found there =
    let here : get_or entries k e ≡ e = sym (unwrap_or-slice_get entries k e) ∙ ap (λ o. unwrap_or o e) found in
    let left : drop k entries ≡ e ∷ drop (k + 1) entries = drop_more entries k e there ∙ ap (λ x. x ∷ drop (k + 1) entries) here in
    ap (λ (b : State). wake_each b.fixed s (drop (k + 1) entries) b.now) is
    ∙ sym (ap (λ es. wake_each book.fixed s es book.now) left)
