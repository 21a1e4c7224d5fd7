-- A report behind a first piece, and pieces that broke off.
use Rattle.std.proofs.Common.{◌≡◌, ℕ, ◌+◌, Bool, true, List, [], ◌∷◌, ◌++◌, length, Option, Some, None, Result, Ok, Err, if◌then◌else◌, suc, refl, sym, ◌∙◌, ap, arith}
use Rattle.std.specs.Prelude.{OnErr, OnOk, nat_lt, slice_get, map, ⊤, zero}
use Rattle.std.specs.List.{concat}
use Rattle.std.proofs.lemmas.Bool.Decides.{nat_tests}
use Rattle.std.proofs.lemmas.List.{append-nil}
use Rattle.pm_base.specs.declared.errors.Exit.{Exit}
use Rattle.pm_base.specs.declared.errors.Exit.TheVariants.{WriteFault}
use Rattle.pm_base.specs.declared.errors.Failed.{Failed}
use Rattle.pm_io.specs.declared.sink.Sink as Sink
use Rattle.pm_io.specs.Sink.{Wrote}
use Rattle.pm_io.specs.Writing.{BreaksIn, Leaves}
use Rattle.pm_io.proofs.SinkLemmas.{BreaksIn-after, BreaksIn-before, BreaksIn-joined, Wrote-is, Wrote-trans}
use Rattle.pm_trace.specs.Faults.{exit_after}
use Rattle.pm_trace.specs.Report.{Report, Reports, exit_of, pieces}
use Rattle.pm_isolate.specs.Within.{Writes, report_behind}

-- a cut that is counted behind one more piece
abbrev behind : Option ℕ → Option ℕ
behind None = None
behind (Some k) = Some (1 + k)

exit-behind : (piece : List ℕ) (r : Report) (cut : Option ℕ) → exit_of (report_behind piece r) (behind cut) ≡ exit_of r cut
exit-behind piece r None = refl
exit-behind piece r (Some k) =
    ap (λ (b : Bool). if b then WriteFault else exit_after r.fault) (same k (length r.body))
  where
    same : (k n : ℕ) → nat_lt (1 + k) (suc n) ≡ nat_lt k n
    same k n = grind (arith, nat_tests)

-- the element at a place after each is changed
pub slice_get-map : {X Y : Type 0} (f : X → Y) (xs : List X) (k : ℕ) (x : X) → slice_get xs k ≡ Some x → slice_get (map f xs) k ≡ Some (f x)
slice_get-map f [] k x is = cc
slice_get-map f (y ∷ ys) zero x is = let same : y ≡ x = cc in ap (λ z. Some (f z)) same
slice_get-map f (y ∷ ys) (suc k) x is = slice_get-map f ys k x is

module _ {O : Type 0} (o : Sink.Ghosts O) where
  left-behind : (piece : List ℕ) (pieces : List (List ℕ)) (cut : Option ℕ) (first mid last : O) → Wrote o.observable piece (o.state first) (o.state mid) → Leaves o pieces cut mid last → Leaves o (piece ∷ pieces) (behind cut) first last
  left-behind piece pieces None first mid last before after =
      Wrote-trans o.observable piece (concat pieces) (o.state first) (o.state mid) (o.state last) before after
  left-behind piece pieces (Some k) first mid last before after =
      BreaksIn-after o (piece ∷ []) pieces k first mid last (Wrote-is o.observable piece (piece ++ []) (o.state first) (o.state mid) (sym (append-nil piece)) before) after

  -- the first piece was written, and then the others
  pub Reports-first : (piece : List ℕ) (r : Report) (old mid new : O) (exit : Exit) → Wrote o.observable piece (o.state old) (o.state mid) → Reports o r mid new exit → Reports o (report_behind piece r) old new exit
  Reports-first piece r old mid new exit wrote reports = record {
    cut = behind reports.cut;
    left = left-behind piece (pieces r) reports.cut old mid new wrote reports.left;
    ends = reports.ends ∙ sym (exit-behind piece r reports.cut);
  }

  -- the sink broke off within the first piece
  pub Reports-broken : (piece : List ℕ) (r : Report) (old new : O) → BreaksIn o 0 (piece ∷ []) old new → Reports o (report_behind piece r) old new WriteFault
  Reports-broken piece r old new breaks = record {
    cut = Some 0;
    left = BreaksIn-before o (piece ∷ []) (pieces r) 0 old new breaks;
    ends = ap (λ (b : Bool). if b then WriteFault else exit_after r.fault) (sym (some (length r.body)));
  }
    where
      some : (n : ℕ) → nat_lt 0 (suc n) ≡ true
      some n = grind (arith, nat_tests)

  -- the only piece broke off
  pub Reports-cut : (text : List ℕ) (old new : O) → BreaksIn o 0 (text ∷ []) old new → Reports o (record { body = text ∷ []; fault = None }) old new WriteFault
  Reports-cut text old new breaks = record { cut = Some 0; left = breaks; ends = refl }

  -- two texts are one piece: the sink broke off within the first of them, or within the second
  pub Breaks-first : (a b : List ℕ) (old new : O) → BreaksIn o 0 (a ∷ []) old new → BreaksIn o 0 ((a ++ b) ∷ []) old new
  Breaks-first a b old new breaks =
      let P : List ℕ → Type 0 = λ text. BreaksIn o 0 (text ∷ []) old new in
      let joined : BreaksIn o 0 ((a ++ (b ++ [])) ∷ []) old new = BreaksIn-joined o (a ∷ b ∷ []) 0 old new (BreaksIn-before o (a ∷ []) (b ∷ []) 0 old new breaks) in
      rw (append-nil b) at joined

  pub Breaks-second : (a b : List ℕ) (old mid new : O) → Wrote o.observable a (o.state old) (o.state mid) → BreaksIn o 0 (b ∷ []) mid new → BreaksIn o 0 ((a ++ b) ∷ []) old new
  Breaks-second a b old mid new wrote breaks =
      let joined : BreaksIn o 0 ((a ++ (b ++ [])) ∷ []) old new = BreaksIn-joined o (a ∷ b ∷ []) 1 old new (left-behind a (b ∷ []) (Some 0) old mid new wrote breaks) in
      rw (append-nil b) at joined

  -- a piece was written, by what the result says
  pub writes_by : (piece : List ℕ) (old new : O) (result : Result ⊤ Failed) → OnOk result (Wrote o.observable piece (o.state old) (o.state new)) → OnErr result (BreaksIn o 0 (piece ∷ []) old new) → Writes o piece old new result
  writes_by piece old new (Ok nothing) wrote breaks = wrote
  writes_by piece old new (Err error) wrote breaks = breaks

  -- one text was written, and then another one was, by the result
  pub Writes-behind : (a b : List ℕ) (old mid new : O) (result : Result ⊤ Failed) → Wrote o.observable a (o.state old) (o.state mid) → Writes o b mid new result → Writes o (a ++ b) old new result
  Writes-behind a b old mid new (Ok nothing) wrote writes = Wrote-trans o.observable a b (o.state old) (o.state mid) (o.state new) wrote writes
  Writes-behind a b old mid new (Err error) wrote writes = Breaks-second a b old mid new wrote writes
