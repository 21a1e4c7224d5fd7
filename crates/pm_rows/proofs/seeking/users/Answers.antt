use Rattle.std.proofs.Common.{◌∙◌, ap, sym, refl, arith, is_some}
use Rattle.std.specs.Prelude.{◌||◌}
use Rattle.pm_rows.specs.Seeking.{is_sought}
use Rattle.pm_rows.specs.declared.seeking.Sought.TheVariants.{OtherUse, Use}
use Rattle.pm_rows.proofs.Ranges.{any_found, any_next, or_none, sought_front, sought_rest}
use Rattle.pm_rows.proofs.seeking.users.Goals as goal

pub loop-k-init : goal.loop-k-init
loop-k-init c = (
  ap is_some (sought_front (Use c.args.master c.args.slave) c.args.slave _ _ c.args.table.now.entries refl c.span-first.ensures),
  ap is_some (sought_front (OtherUse c.args.master c.args.slave) c.args.slave _ _ c.args.table.now.entries refl c.span-first.ensures),
)

pub loop-k-preserved : goal.loop-k-preserved
loop-k-preserved c = (
  any_next (is_sought (Use c.args.master c.args.slave)) c.args.table.now.entries c.loop-k.k c.peek-entry.result c.loop-k.own c.either-own.result
      c.peek-entry.ensures (c.either-own.ensures ∙ ap (λ b. c.loop-k.own || b) c.is.ensures)
      ∙ c.loop-k.invariant.0,
  any_next (is_sought (OtherUse c.args.master c.args.slave)) c.args.table.now.entries c.loop-k.k c.peek-entry.result c.loop-k.other c.either-other.result
      c.peek-entry.ensures (c.either-other.ensures ∙ ap (λ b. c.loop-k.other || b) c.is-in-loop-k.ensures)
      ∙ c.loop-k.invariant.1,
)

pub returns-clause-own : goal.returns-clause-own
returns-clause-own c =
    sym (or_none c.loop-k.own _
    (sought_rest (Use c.args.master c.args.slave) c.args.slave _ _ c.loop-k.k c.args.table.now.entries refl c.span-first.ensures (omega (arith, c.loop-k-test.false))))
    ∙ (c.loop-k.invariant.0 ∙ any_found (is_sought (Use c.args.master c.args.slave)) c.args.table.now.entries)

pub returns-clause-other : goal.returns-clause-other
returns-clause-other c =
    sym (or_none c.loop-k.other _
    (sought_rest (OtherUse c.args.master c.args.slave) c.args.slave _ _ c.loop-k.k c.args.table.now.entries refl c.span-first.ensures (omega (arith, c.loop-k-test.false))))
    ∙ (c.loop-k.invariant.1 ∙ any_found (is_sought (OtherUse c.args.master c.args.slave)) c.args.table.now.entries)
