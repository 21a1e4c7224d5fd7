-- Rows that wake their processors one after another write down what they do by the book before the first of them: a processor
-- that two rows wake is written down once.
use Rattle.std.proofs.Common.{◌≡◌, ℕ, ◌+◌, ◌<◌, ◌==◌, Bool, true, false, true≢false, if◌then◌else◌, List, [], ◌∷◌, ◌++◌, length, drop, get_or, Option, Some, None, refl, sym, ◌∙◌, ap, inl, inr}
use Rattle.std.specs.Prelude.{slice_get, flat_map, unwrap_or, ◌⊎◌}
use Rattle.std.proofs.lemmas.Bool.{cases_eq}
use Rattle.std.proofs.lemmas.List.{drop_more}
use Rattle.std.proofs.lemmas.Option.{unwrap_or-slice_get}
use Rattle.pm_base.specs.declared.names.Mode.{Mode}
use Rattle.pm_base.specs.declared.names.Mode.TheVariants.{Off, Active, Asleep, Suspending}
use Rattle.pm_base.specs.declared.names.NodeId.{NodeId}
use Rattle.pm_procs.specs.declared.procs.Proc.{Proc as Processor}
use Rattle.pm_procs.specs.Procs.{proc_at}
use Rattle.pm_rows.specs.declared.row.Entry.{Entry}
use Rattle.pm_topology.specs.declared.places.Kind.{Kind}
use Rattle.pm_topology.specs.declared.places.Kind.TheVariants.{Proc, Slave, Power, Unknown}
use Rattle.pm_topology.specs.Places.{kind_of}
use Rattle.pm_calls.specs.Events.{woken, woken_in, woken_at, woken_by, woken_from}
use Rattle.pm_calls.proofs.WakeLemmas.{Acts, Woke, book_of, by_row, set_other}
use Rattle.pm_state.specs.Changes.{Listed, Written, is_listed, listed, with_proc, writes, written_by}
use Rattle.pm_state.specs.Members.{owns}
use Rattle.pm_state.specs.Prims.{Prim, applies, changed, proc_put}
use Rattle.pm_state.specs.State.{Fixed, Now, State}
use Rattle.pm_state.proofs.ChangesLaw.{listed_left}
use Rattle.pm_state.proofs.WrittenLemmas.{writes_append}

-- what each of these rows writes down, by the book as it is then
abbrev pub write_each : Fixed → ℕ → List Entry → Now → Written → Written
write_each fixed s [] now w = w
write_each fixed s (e ∷ es) now w =
    write_each fixed s es (applies fixed (woken_from s (book_of fixed now) e) now) (writes fixed (woken_from s (book_of fixed now) e) now w)

-- ---- places that are written down

is_there : (k : ℕ) (places : Listed) → is_listed k (listed k places) ≡ true
is_there k places = by (is_listed k (listed k places)) refl
  where
    by : (b : Bool) → is_listed k (listed k places) ≡ b → is_listed k (listed k places) ≡ true
    by true is = is
    by false is = absurd ((listed_left k k places is).1 refl)

stays_there : (k j : ℕ) (places : Listed) → is_listed j places ≡ true → is_listed j (listed k places) ≡ true
stays_there k j places there = by (is_listed j (listed k places)) refl
  where
    by : (b : Bool) → is_listed j (listed k places) ≡ b → is_listed j (listed k places) ≡ true
    by true is = is
    by false is = absurd (true≢false (sym there ∙ (listed_left k j places is).0))

-- a processor that is written down isn't so again
not_again : (p : ℕ) (w : Written) → is_listed p w.procs ≡ true → with_proc p w ≡ w
not_again p w there =
    ap (λ (b : Bool). record w { procs = if b then w.procs else record w.procs { list = w.procs.list ++ p ∷ [] } }) there

-- ---- one processor

-- each processor is as it was, or is written down
abbrev AreWritten : Now → Now → Written → Type 0
AreWritten a x w = (q : ℕ) → (proc_at q x.core.procs ≡ proc_at q a.core.procs) ⊎ (is_listed q w.procs ≡ true)

put_again : (p : ℕ) (w : Written) (own : Bool) → is_listed p w.procs ≡ true → (if own then with_proc p w else w) ≡ w
put_again p w true there = not_again p w there
put_again p w false there = refl

there_in : (fixed : Fixed) (m p address : ℕ) (mode : Mode) (x : Now) (w : Written) → is_listed p w.procs ≡ true → writes fixed (woken_in m p address mode) x w ≡ w
there_in fixed m p address Off x w there = refl
there_in fixed m p address Active x w there = refl
there_in fixed m p address Asleep x w there = put_again p w (owns fixed.object fixed.topology m p) there
there_in fixed m p address Suspending x w there = put_again p w (owns fixed.object fixed.topology m p) there

one_by : (fixed : Fixed) (m p : ℕ) (before now : Processor) (x : Now) (w : Written) → (now ≡ before) ⊎ (is_listed p w.procs ≡ true)
    → writes fixed (woken m p before) x w ≡ writes fixed (woken m p now) x w
one_by fixed m p before now x w is = elim is [
  | inl same ↦ ap (λ proc. writes fixed (woken m p proc) x w) (sym same)
  | inr there ↦ there_in fixed m p before.address before.mode x w there ∙ sym (there_in fixed m p now.address now.mode x w there)
]

put_written : (a x : Now) (w : Written) (p address : ℕ) (own : Bool) → AreWritten a x w
    → AreWritten a (record x { core = if own then record x.core { procs = proc_put p Active address x.core.procs } else x.core }) (if own then with_proc p w else w)
put_written a x w p address false are = are
put_written a x w p address true are = λ q. elim (cases_eq q p) [
  | inl own ↦ inr (ap (λ k. is_listed k (listed p w.procs)) own ∙ is_there p w.procs)
  | inr other ↦ elim (are q) [
    | inl same ↦ inl (set_other x.core.procs p q (record { mode = Active; address = address }) other ∙ same)
    | inr there ↦ inr (stays_there p q w.procs there)
  ]
]

written_in : (fixed : Fixed) (m p address : ℕ) (mode : Mode) (a x : Now) (w : Written) → AreWritten a x w
    → AreWritten a (applies fixed (woken_in m p address mode) x) (writes fixed (woken_in m p address mode) x w)
written_in fixed m p address Off a x w are = are
written_in fixed m p address Active a x w are = are
written_in fixed m p address Asleep a x w are = put_written a x w p address (owns fixed.object fixed.topology m p) are
written_in fixed m p address Suspending a x w are = put_written a x w p address (owns fixed.object fixed.topology m p) are

-- ---- one row

record Alike (fixed : Fixed) (a x : Now) (w : Written) (first second : List Prim) : Type 0 where
  same : writes fixed first x w ≡ writes fixed second x w
  are : AreWritten a (applies fixed second x) (writes fixed second x w)

at_kind : (fixed : Fixed) (m : ℕ) (kind : Kind) (a x : Now) (w : Written) → AreWritten a x w → Alike fixed a x w (woken_at m kind (book_of fixed a)) (woken_at m kind (book_of fixed x))
at_kind fixed m (Proc p) a x w are = record {
  same = one_by fixed m p (proc_at p a.core.procs) (proc_at p x.core.procs) x w (are p);
  are = written_in fixed m p (proc_at p x.core.procs).address (proc_at p x.core.procs).mode a x w are;
}
at_kind fixed m (Slave s) a x w are = record { same = refl; are = are }
at_kind fixed m (Power p) a x w are = record { same = refl; are = are }
at_kind fixed m Unknown a x w are = record { same = refl; are = are }

by_armed : (fixed : Fixed) (m : ℕ) (armed : Option NodeId) (a x : Now) (w : Written) → AreWritten a x w → Alike fixed a x w (woken_by m armed (book_of fixed a)) (woken_by m armed (book_of fixed x))
by_armed fixed m None a x w are = record { same = refl; are = are }
by_armed fixed m (Some node) a x w are = at_kind fixed m (kind_of fixed.topology node) a x w are

row_writes : (fixed : Fixed) (there : Bool) (m : ℕ) (armed : Option NodeId) (a x : Now) (w : Written) → AreWritten a x w
    → Alike fixed a x w (if there then woken_by m armed (book_of fixed a) else []) (if there then woken_by m armed (book_of fixed x) else [])
row_writes fixed true m armed a x w are = by_armed fixed m armed a x w are
row_writes fixed false m armed a x w are = record { same = refl; are = are }

-- ---- all rows

whole_writes : (fixed : Fixed) (s : ℕ) (es : List Entry) (a x : Now) (w : Written) → Woke a x → AreWritten a x w
    → writes fixed (flat_map (woken_from s (book_of fixed a)) es) x w ≡ write_each fixed s es x w
whole_writes fixed s [] a x w woke are = refl
whole_writes fixed s (e ∷ es) a x w woke are =
    let first : List Prim = woken_from s (book_of fixed a) e in
    let second : List Prim = woken_from s (book_of fixed x) e in
    let later : List Prim = flat_map (woken_from s (book_of fixed a)) es in
    let acts : Acts fixed a x first second = by_row fixed (e.seed.slave == s) e.seed.master e.row.armed a x woke in
    let wrote : Alike fixed a x w first second = row_writes fixed (e.seed.slave == s) e.seed.master e.row.armed a x w are in
    writes_append fixed first later x w
    ∙ (ap (λ (n : Now). writes fixed later n (writes fixed first x w)) acts.same
    ∙ (ap (writes fixed later (applies fixed second x)) wrote.same
    ∙ whole_writes fixed s es a (applies fixed second x) (writes fixed second x w) acts.woke wrote.are))

pub each_writes : (fixed : Fixed) (s : ℕ) (es : List Entry) (now : Now) (w : Written)
    → writes fixed (flat_map (woken_from s (book_of fixed now)) es) now w ≡ write_each fixed s es now w
each_writes fixed s es now w = whole_writes fixed s es now now w (λ q. inl refl) (λ q. inl refl)

-- ---- a turn of the loop

pub write_step : (book next : State) (s k : ℕ) (e : Entry) (entries : List Entry) (w new : Written) → next ≡ changed (woken_from s book e) book
    → new ≡ written_by (woken_from s book e) book w → slice_get entries k ≡ Some e → k < length entries
    → write_each next.fixed s (drop (k + 1) entries) next.now new ≡ write_each book.fixed s (drop k entries) book.now w
write_step book next s k e entries w new is wrote found there =
    let here : get_or entries k e ≡ e = sym (unwrap_or-slice_get entries k e) ∙ ap (λ o. unwrap_or o e) found in
    let left : drop k entries ≡ e ∷ drop (k + 1) entries = drop_more entries k e there ∙ ap (λ x. x ∷ drop (k + 1) entries) here in
    ap (λ (b : State). write_each b.fixed s (drop (k + 1) entries) b.now new) is
    ∙ (ap (write_each book.fixed s (drop (k + 1) entries) (applies book.fixed (woken_from s book e) book.now)) wrote
    ∙ sym (ap (λ es. write_each book.fixed s es book.now w) left))
