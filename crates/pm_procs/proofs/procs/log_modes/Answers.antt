use Rattle.std.proofs.Common.{◌<◌, ◌≡◌, Some, length, ap, sym, ◌∙◌, arith, ⊎_elim}
use Rattle.std.proofs.lemmas.List.{length-set}
use Rattle.std.proofs.lemmas.Bool.{cases_lt}
use Rattle.pm_base.specs.declared.names.Mode.TheVariants.{Off}
use Rattle.pm_procs.specs.Procs.{master_mode_in}
use Rattle.pm_procs.proofs.MastersLaw.{mode_by, no_master, writes}
use Rattle.pm_procs.proofs.Places.{past_end}
use Rattle.pm_procs.proofs.procs.log_modes.Goals as goal

pub loop-m-preserved : goal.loop-m-preserved
loop-m-preserved c =
    let members = c.args.members.now in
    let procs = c.args.procs.now in
    let m = c.loop-m.m in
    let within : m < length c.loop-m.modes = omega (arith, c.len-m-end.ensures, c.loop-m-test.true, c.loop-m.invariant.places) in
    let is : c.mode_of.result ≡ master_mode_in m members procs = c.mode_of.ensures ∙ mode_by m members procs c.as_slice.result.now (c.get.ensures ∙ ap Some (sym c.as_slice.ensures)) in
    record {
      places = length-set c.loop-m.modes m c.mode_of.result ∙ c.loop-m.invariant.places;
      each = writes members procs c.loop-m.modes m c.mode_of.result within is c.loop-m.invariant.each;
    }

pub returns : goal.returns
returns c =
    let members = c.args.members.now in
    let modes = c.loop-m.modes in
    record {
      places = c.loop-m.invariant.places;
      each = λ m. ⊎_elim
          (λ within. c.loop-m.invariant.each m (omega (arith, within, c.len-m-end.ensures, c.loop-m-test.false)))
          (λ past. past_end m Off modes (omega (arith, past, c.loop-m.invariant.places)) ∙ sym (no_master m members c.args.procs.now past))
          (cases_lt m (length members));
    }
