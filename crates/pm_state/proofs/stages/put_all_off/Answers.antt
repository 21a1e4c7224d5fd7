use Rattle.std.proofs.Common.{◌≡◌, ◌<◌, ◌∙◌, ap, arith, length, refl}
use Rattle.pm_base.specs.declared.names.Mode.TheVariants.{Off}
use Rattle.pm_rows.specs.Rows.{Rows}
use Rattle.pm_state.proofs.OffLemmas.{set_all, set_next}
use Rattle.pm_state.proofs.stages.put_all_off.Goals as goal

pub loop-m-init : goal.loop-m-init
loop-m-init c = record { known = refl; slaves = refl; room = refl }

pub loop-m-preserved : goal.loop-m-preserved
loop-m-preserved c =
    let within : c.loop-m.m < length c.args.rows.now.known = omega (arith, c.masters-m-end.ensures, c.loop-m-test.true) in
    record {
      known = set_next Off c.loop-m.m c.args.rows.now.known c.loop-m.rows.known c.shift.new.rows.known within c.loop-m.invariant.known (ap (λ (r : Rows). r.known) c.shift.ensures);
      slaves = ap (λ (r : Rows). r.slaves) c.shift.ensures ∙ c.loop-m.invariant.slaves;
      room = ap (λ (r : Rows). r.room) c.shift.ensures ∙ c.loop-m.invariant.room;
    }

pub returns-clause-known : goal.returns-clause-known
returns-clause-known c =
    let all : c.loop-m.m ≡ length c.args.rows.now.known = omega (arith, c.masters-m-end.ensures, c.loop-m-test.false, c.loop-m.auto.m-end) in
    set_all Off c.loop-m.m c.args.rows.now.known c.loop-m.rows.known all c.loop-m.invariant.known
