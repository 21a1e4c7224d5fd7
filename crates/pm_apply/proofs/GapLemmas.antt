-- The turns between two that are looked at: those of units that don't lag, of which none has a command.
use Rattle.std.proofs.Common.{◌≡◌, ℕ, ◌+◌, ◌-◌, ◌<◌, ◌≤◌, Option, List, [], ◌∷◌, ◌++◌, drop, subst, sym, ap, ◌∙◌, append_assoc, zero, suc, arith}
use Rattle.std.specs.Prelude.{flat_map}
use Rattle.pm_base.specs.declared.names.LineId.{LineId}
use Rattle.pm_base.specs.declared.names.Unit.{Unit}
use Rattle.pm_topology.specs.declared.topology.Topology.{Topology}
use Rattle.pm_apply.specs.declared.turns.Turn.{Turn}
use Rattle.pm_record.proofs.Below.{ChipLaws}
use Rattle.pm_apply.specs.Left.{HaveNone}
use Rattle.pm_apply.specs.Plan.{unit_turns, with_pulse}
use Rattle.pm_record.specs.Record.{Kept}
use Rattle.pm_apply.specs.Visits.{IsIdleAt, IsReady}
use Rattle.pm_apply.proofs.IdleLemmas.{idle_none}
use Rattle.pm_record.proofs.ListedLemmas.{drop_here}

pub HaveNone-append : (t : Topology) (values : Unit → ℕ) (kept : Kept) (turns others : List Turn) → HaveNone t values kept turns → HaveNone t values kept others → HaveNone t values kept (turns ++ others)
HaveNone-append t values kept [] others none more = more
HaveNone-append t values kept (turn ∷ turns) others none more = (none.0, HaveNone-append t values kept turns others none.1 more)

-- turns without a command come before those that are made of the unit turns from a place on
pub record Gap (t : Topology) (values : Unit → ℕ) (pulse : Option LineId) (kept : Kept) (i j : ℕ) : Type 0 where
  pub passed : List Turn
  pub left : flat_map (with_pulse pulse) (drop i (unit_turns t)) ≡ passed ++ flat_map (with_pulse pulse) (drop j (unit_turns t))
  pub none : HaveNone t values kept passed

module _ (laws : ChipLaws) (t : Topology) (values : Unit → ℕ) (pulse : Option LineId) (kept : Kept) (ready : IsReady values pulse kept) where
  gap : (n i : ℕ) → ((k : ℕ) → i ≤ k → k < i + n → IsIdleAt t kept k) → Gap t values pulse kept i (i + n)
  gap zero i idle =
      let same : i ≡ i + 0 = omega arith in
      record {
        passed = [];
        left = ap (λ j. flat_map (with_pulse pulse) (drop j (unit_turns t))) same;
        none = tt;
      }
  gap (suc n) i idle =
      let rests = idle i (omega arith) (omega arith) in
      let next = gap n (i + 1) (λ k after before. idle k (omega (arith, after)) (omega (arith, before))) in
      let first = with_pulse pulse rests.turn in
      let same : i + 1 + n ≡ i + suc n = omega arith in
      record {
        passed = first ++ next.passed;
        left =
            ap (flat_map (with_pulse pulse)) (drop_here (unit_turns t) i rests.turn rests.here)
            ∙ ap (λ later. first ++ later) (next.left ∙ ap (λ j. next.passed ++ flat_map (with_pulse pulse) (drop j (unit_turns t))) same)
            ∙ sym (append_assoc first next.passed (flat_map (with_pulse pulse) (drop (i + suc n) (unit_turns t))));
        none = HaveNone-append t values kept first next.passed (idle_none t values kept laws pulse ready rests.turn rests.idle) next.none;
      }

  pub idle_gap : (i j : ℕ) → i ≤ j → ((k : ℕ) → i ≤ k → k < j → IsIdleAt t kept k) → Gap t values pulse kept i j
  idle_gap i j up idle =
      let same : i + (j - i) ≡ j = omega (arith, up) in
      subst (Gap t values pulse kept i) same (gap (j - i) i (λ k after before. idle k after (omega (arith, up, before))))
