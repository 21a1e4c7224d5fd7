-- What wakes processors: unseen of a master within, and alike of a master beyond, whose rows are armed alike with its own processors.
use Rattle.std.proofs.Common.{◌≡◌, ℕ, ◌==◌, Bool, true, false, not, if◌then◌else◌, List, [], ◌∷◌, ◌++◌, Option, Some, None, refl, sym, ◌∙◌, ap}
use Rattle.std.specs.Prelude.{flat_map}
use Rattle.std.specs.List.{list_all}
use Rattle.std.proofs.lemmas.List.Elements.{filter-append}
use Rattle.pm_laws.proofs.Common.{Active, AreAlike, AreHidden, ArmsOwn, Border, Both, Entry, Fixed, IsBeyond, IsUnseen, Kind, Mode, NodeId, Now, Off, Put_proc, Pair, Same, SameRow, Slave, State, arms_own, is_armed_own, is_own, kind_of, proc_at, seen, seen_part}
use Rattle.pm_base.proofs.Booleans.{both}
use Rattle.pm_procs.specs.declared.procs.Proc.{Proc as Processor}
use Rattle.pm_topology.specs.declared.places.Kind.TheVariants.{Proc}
use Rattle.pm_calls.specs.Events.{raised_at, woken, woken_at, woken_by, woken_from, woken_in}
use Rattle.pm_laws.proofs.CallsAlike.{book_of, rows_both}
use Rattle.pm_laws.proofs.CallsHidden.{turned}
use Rattle.pm_laws.proofs.HiddenLemmas.{one_hidden, within_by}
use Rattle.pm_laws.proofs.FollowLaw.{proc_alike}

-- ---- unseen

pub woken_unseen : (border : Border) (m p address : ℕ) (mode : Mode) → border.master m ≡ false → IsUnseen border (woken_in m p address mode)
woken_unseen border m p address Off within = refl
woken_unseen border m p address Active within = refl
woken_unseen border m p address _ within = one_hidden border (Put_proc m p Active address) within

kind_unseen : (border : Border) (m : ℕ) (kind : Kind) (book : State) → border.master m ≡ false → IsUnseen border (woken_at m kind book)
kind_unseen border m (Proc p) book within = woken_unseen border m p (proc_at p book.now.core.procs).address (proc_at p book.now.core.procs).mode within
kind_unseen border m _ book within = refl

armed_unseen : (border : Border) (m : ℕ) (armed : Option NodeId) (book : State) → border.master m ≡ false → IsUnseen border (woken_by m armed book)
armed_unseen border m None book within = refl
armed_unseen border m (Some node) book within = kind_unseen border m (kind_of book.fixed.topology node) book within

there_unseen : (border : Border) (m : ℕ) (there : Bool) (armed : Option NodeId) (book : State) → border.master m ≡ false → IsUnseen border (if there then woken_by m armed book else [])
there_unseen border m true armed book within = armed_unseen border m armed book within
there_unseen border m false armed book within = refl

row_unseen : (border : Border) (s : ℕ) (e : Entry) (book : State) → border.master e.seed.master ≡ false → IsUnseen border (woken_from s book e)
row_unseen border s e book within = there_unseen border e.seed.master (e.seed.slave == s) e.row.armed book within

rows_unseen : (border : Border) (s : ℕ) (es : List Entry) (book : State) → ((m : ℕ) → border.master m ≡ false) → IsUnseen border (flat_map (woken_from s book) es)
rows_unseen border s [] book within = refl
rows_unseen border s (e ∷ es) book within =
    filter-append (seen border) (woken_from s book e) (flat_map (woken_from s book) es)
    ∙ (ap (λ prims. prims ++ seen_part border (flat_map (woken_from s book) es)) (row_unseen border s e book (within e.seed.master))
    ∙ rows_unseen border s es book within)

-- the interrupt of a slave, without a master beyond
pub raised_hidden : (border : Border) (kind : Kind) (book : State) → ((m : ℕ) → IsBeyond border m → border.some ≡ true) → not border.some ≡ true → AreHidden border (raised_at kind book)
raised_hidden border (Slave s) book some is =
    (rows_unseen border s book.now.core.rows.entries book (λ m. within_by (border.master m) border.some (some m) (turned border.some is)), tt)
raised_hidden border _ book some is = tt

-- ---- alike

kind_alike : (fixed : Fixed) (border : Border) (m : ℕ) (kind : Kind) (a b : Now) → is_own fixed m kind ≡ true → IsBeyond border m → Same fixed border a b → woken_at m kind (book_of fixed a) ≡ woken_at m kind (book_of fixed b)
kind_alike fixed border m (Proc p) a b own beyond same = ap (λ (proc : Processor). woken m p proc) (proc_alike fixed border m p a b beyond own same)
kind_alike fixed border m _ a b own beyond same = refl

armed_alike : (fixed : Fixed) (border : Border) (m : ℕ) (armed : Option NodeId) (a b : Now) → arms_own fixed m armed ≡ true → IsBeyond border m → Same fixed border a b → woken_by m armed (book_of fixed a) ≡ woken_by m armed (book_of fixed b)
armed_alike fixed border m None a b own beyond same = refl
armed_alike fixed border m (Some node) a b own beyond same = kind_alike fixed border m (kind_of fixed.topology node) a b own beyond same

row_alike : (fixed : Fixed) (border : Border) (s : ℕ) (x y : Entry) (a b : Now) (is : Bool) → border.master x.seed.master ≡ is → SameRow border x y → is_armed_own fixed x ≡ true → Same fixed border a b → seen_part border (woken_from s (book_of fixed a) x) ≡ seen_part border (woken_from s (book_of fixed b) y)
row_alike fixed border s x y a b true beyond row own same =
    let one : woken_by x.seed.master x.row.armed (book_of fixed a) ≡ woken_by x.seed.master x.row.armed (book_of fixed b) = armed_alike fixed border x.seed.master x.row.armed a b own beyond same in
    ap (λ prims. seen_part border (if x.seed.slave == s then prims else [])) one
    ∙ (ap (λ armed. seen_part border (if x.seed.slave == s then woken_by x.seed.master armed (book_of fixed b) else [])) (row.armed beyond)
    ∙ ap (λ (seed : Pair). seen_part border (if seed.slave == s then woken_by seed.master y.row.armed (book_of fixed b) else [])) row.seed)
row_alike fixed border s x y a b false within row own same =
    row_unseen border s x (book_of fixed a) within
    ∙ sym (row_unseen border s y (book_of fixed b) (ap (λ (seed : Pair). border.master seed.master) (sym row.seed) ∙ within))

rows_alike : (fixed : Fixed) (border : Border) (s : ℕ) (xs ys : List Entry) (a b : Now) → Both (SameRow border) xs ys → list_all (is_armed_own fixed) xs ≡ true → Same fixed border a b → seen_part border (flat_map (woken_from s (book_of fixed a)) xs) ≡ seen_part border (flat_map (woken_from s (book_of fixed b)) ys)
rows_alike fixed border s [] [] a b rows own same = refl
rows_alike fixed border s [] (y ∷ ys) a b rows own same = absurd rows
rows_alike fixed border s (x ∷ xs) [] a b rows own same = absurd rows
rows_alike fixed border s (x ∷ xs) (y ∷ ys) a b rows own same =
    let parts = both (is_armed_own fixed x) (list_all (is_armed_own fixed) xs) own in
    let first = woken_from s (book_of fixed a) in
    let second = woken_from s (book_of fixed b) in
    filter-append (seen border) (first x) (flat_map first xs)
    ∙ (ap (λ prims. prims ++ seen_part border (flat_map first xs)) (row_alike fixed border s x y a b (border.master x.seed.master) refl rows.0 parts.0 same)
    ∙ (ap (λ prims. seen_part border (second y) ++ prims) (rows_alike fixed border s xs ys a b rows.1 parts.1 same)
    ∙ sym (filter-append (seen border) (second y) (flat_map second ys))))

-- the interrupt of a slave, with a master beyond
pub raised_alike : (fixed : Fixed) (border : Border) (kind : Kind) (a b : Now) → ArmsOwn (book_of fixed a) → border.some ≡ true → Same fixed border a b → AreAlike border (raised_at kind (book_of fixed a)) (raised_at kind (book_of fixed b))
raised_alike fixed border (Slave s) a b armed some same =
    (rows_alike fixed border s a.core.rows.entries b.core.rows.entries a b (rows_both border a.core.rows.entries b.core.rows.entries some same.rows) armed same, tt)
raised_alike fixed border _ a b armed some same = tt
