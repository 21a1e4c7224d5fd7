-- What changes write down, one after another.
use Rattle.std.proofs.Common.{◌≡◌, ℕ, ◌+◌, ◌≤◌, ◌<◌, ◌==◌, Bool, true, false, if◌then◌else◌, List, [], ◌∷◌, ◌++◌, length, drop, get_or, slice_get, Option, Some, None, is_some, refl, sym, ◌∙◌, ap, arith}
use Rattle.std.proofs.lemmas.List.{drop_all, drop_more}
use Rattle.std.specs.List.{flat_map}
use Rattle.pm_base.proofs.Booleans.{equal}
use Rattle.pm_base.proofs.ListLemmas.{drop_found}
use Rattle.pm_base.specs.declared.names.Mode.TheVariants.{Off}
use Rattle.pm_object.specs.declared.object.MasterRec.{MasterRec}
use Rattle.pm_topology.specs.declared.topology.ProcDef.{ProcDef}
use Rattle.pm_state.specs.declared.scope.Scope.{Scope}
use Rattle.pm_state.specs.Changes.{Written, with_proc, writes, written, written_by}
use Rattle.pm_base.specs.Places.{is_place}
use Rattle.pm_state.specs.Members.{owner_at, owns}
use Rattle.pm_state.specs.Prims.{Prim, Put_proc, apply, applies, changed}
use Rattle.pm_state.specs.Scope.{off, off_at, off_by, off_of, offs_from}
use Rattle.pm_state.specs.Stages.{follow_at, follow_from}
use Rattle.pm_state.specs.State.{Fixed, Now, State}
use Rattle.pm_state.proofs.FollowLemmas.{follow_leaves, same_later}

-- changes after changes
pub writes_append : (fixed : Fixed) (first later : List Prim) (now : Now) (w : Written)
    → writes fixed (first ++ later) now w ≡ writes fixed later (applies fixed first now) (writes fixed first now w)
writes_append fixed [] later now w = refl
writes_append fixed (prim ∷ first) later now w =
    writes_append fixed first later (apply fixed prim now) (written fixed now.force prim now.core w)

pub written_next : (prims rest : List Prim) (book next : State) (w new : Written) → next ≡ changed prims book → new ≡ written_by prims book w
    → written_by rest next new ≡ written_by (prims ++ rest) book w
written_next prims rest book next w new is wrote =
    ap (λ (b : State). written_by rest b new) is
    ∙ (ap (writes book.fixed rest (applies book.fixed prims book.now)) wrote ∙ sym (writes_append book.fixed prims rest book.now w))

-- one master follows, and the later ones are left
pub follow_written : (book next : State) (m : ℕ) (d : MasterRec) (masters : List MasterRec) (w new : Written)
    → next ≡ changed (follow_at book.fixed book.now.core m) book → new ≡ written_by (follow_at book.fixed book.now.core m) book w → m < length masters
    → written_by (follow_from next.fixed next.now.core (m + 1) (drop (m + 1) masters)) next new ≡ written_by (follow_from book.fixed book.now.core m (drop m masters)) book w
follow_written book next m d masters w new is wrote within =
    let first = follow_at book.fixed book.now.core m in
    let after : Now = applies book.fixed first book.now in
    let rest = drop (m + 1) masters in
    let left : drop m masters ≡ get_or masters m d ∷ rest = drop_more masters m d within in
    let same : follow_from book.fixed after.core (m + 1) rest ≡ follow_from book.fixed book.now.core (m + 1) rest =
    same_later book.fixed m (m + 1) book.now.core after.core rest (follow_leaves book.fixed book.now m) (omega arith)
    in
    let whole : follow_from book.fixed book.now.core m (drop m masters) ≡ first ++ follow_from book.fixed book.now.core (m + 1) rest =
    ap (follow_from book.fixed book.now.core m) left
    in
    ap (λ (b : State). written_by (follow_from b.fixed b.now.core (m + 1) rest) b new) is
    ∙ (ap (λ (prims : List Prim). written_by prims (changed first book) new) same
    ∙ (written_next first (follow_from book.fixed book.now.core (m + 1) rest) book (changed first book) w new refl wrote
    ∙ ap (λ (prims : List Prim). written_by prims book w) (sym whole)))

-- one processor goes off
pub offs_written : (book next : State) (scope : Scope) (p : ℕ) (proc : ProcDef) (procs : List ProcDef) (w new : Written) → slice_get procs p ≡ Some proc
    → next ≡ changed (off_at book.fixed scope p proc.node) book → new ≡ written_by (off_at book.fixed scope p proc.node) book w
    → written_by (offs_from next.fixed scope (p + 1) (drop (p + 1) procs)) next new ≡ written_by (offs_from book.fixed scope p (drop p procs)) book w
offs_written book next scope p proc procs w new found is wrote =
    let rest : List ProcDef = drop (p + 1) procs in
    ap (λ (f : Fixed). written_by (offs_from f scope (p + 1) rest) next new) (ap (λ (b : State). b.fixed) is)
    ∙ (written_next (off_at book.fixed scope p proc.node) (offs_from book.fixed scope (p + 1) rest) book next w new is wrote
    ∙ ap (λ l. written_by (offs_from book.fixed scope p l) book w) (sym (drop_found procs p proc found)))

-- the next of these places is visited
pub visit_written : (f : ℕ → List Prim) (places : List ℕ) (k place : ℕ) (book next : State) (w new : Written) → slice_get places k ≡ Some place
    → next ≡ changed (f place) book → new ≡ written_by (f place) book w
    → written_by (flat_map f (drop (k + 1) places)) next new ≡ written_by (flat_map f (drop k places)) book w
visit_written f places k place book next w new found is wrote =
    written_next (f place) (flat_map f (drop (k + 1) places)) book next w new is wrote
    ∙ ap (λ (l : List ℕ). written_by (flat_map f l) book w) (sym (drop_found places k place found))

-- none of them is left
pub visits_written : (f : ℕ → List Prim) (places : List ℕ) (k : ℕ) (book : State) (w whole : Written) → length places ≤ k
    → written_by (flat_map f (drop k places)) book w ≡ whole → w ≡ whole
visits_written f places k book w whole end before =
    sym (ap (λ (l : List ℕ). written_by (flat_map f l) book w) (drop_all k places end)) ∙ before

-- what is written down of a processor that goes off, once it is known whether it does
module _ (book : State) (p : ℕ) (w : Written) where
  abbrev owner : Option ℕ
  owner = owner_at book.fixed.object book.fixed.topology p

  own_put : (m : ℕ) → Some m ≡ owner → written_by (Put_proc m p Off 0 ∷ []) book w ≡ with_proc p w
  own_put m is =
      let own : owns book.fixed.object book.fixed.topology m p ≡ true = ap (is_place m) (sym is) ∙ equal m m refl in
      ap (λ (b : Bool). if b then with_proc p w else w) own

  by_owner : (o : Option ℕ) → o ≡ owner → written_by (off_by o p) book w ≡ (if is_some o then with_proc p w else w)
  by_owner None is = refl
  by_owner (Some m) is = own_put m is

  -- of any, once it is known whether a master has it
  pub off_written : written_by (off book.fixed p) book w ≡ (if is_some owner then with_proc p w else w)
  off_written = by_owner owner refl

  one_own : (k : ℕ) (own : Bool) → Some k ≡ owner → written_by (if own then off_by (Some k) p else []) book w ≡ (if own then with_proc p w else w)
  one_own k true is = own_put k is
  one_own k false is = refl

  by_own : (o : Option ℕ) (m : ℕ) → o ≡ owner
      → written_by (if is_place m o then off_by o p else []) book w ≡ (if is_place m o then with_proc p w else w)
  by_own None m is = refl
  by_own (Some k) m is = one_own k (k == m) is

  -- of one of a master's, once it is known whether that master has it
  pub off_of_written : (m : ℕ) → written_by (off_of book.fixed (Some m) p) book w ≡ (if owns book.fixed.object book.fixed.topology m p then with_proc p w else w)
  off_of_written m = by_own owner m refl
