-- Each kind takes as many numbers as its sentence says.
use Rattle.std.proofs.Common.{arith, sym, ◌∙◌}
use Rattle.pm_script.proofs.NumbersMeanLemmas.{boot_meant, interrupt_meant, message_meant, tick_meant, wait_meant, wake_meant}
use Rattle.pm_script.proofs.short.leave.Goals as goal

pub returns-in-Ipi-2-to-7 : goal.returns-in-Ipi-2-to-7
returns-in-Ipi-2-to-7 c _ =
    rw (c.in-Ipi-2-to-7.is-0, c.leave_message.ensures)
    (message_meant c.args.numbers.now (omega (arith, c.len.ensures)) (omega (arith, c.len.ensures)))

pub returns-in-Wfi-eq1 : goal.returns-in-Wfi-eq1
returns-in-Wfi-eq1 c _ = rw (c.in-Wfi-eq1.is-0, c.at.ensures) (wait_meant c.args.numbers.now (sym c.len.ensures ∙ c.in-Wfi-eq1.is-1))

pub returns-in-Irq-eq1 : goal.returns-in-Irq-eq1
returns-in-Irq-eq1 c _ = rw (c.in-Irq-eq1.is-0, c.at-in-Irq-eq1.ensures) (interrupt_meant c.args.numbers.now (sym c.len.ensures ∙ c.in-Irq-eq1.is-1))

pub returns-in-Gic-eq1 : goal.returns-in-Gic-eq1
returns-in-Gic-eq1 c _ = rw (c.in-Gic-eq1.is-0, c.at-in-Gic-eq1.ensures) (wake_meant c.args.numbers.now (sym c.len.ensures ∙ c.in-Gic-eq1.is-1))

pub returns-in-Tick-eq1 : goal.returns-in-Tick-eq1
returns-in-Tick-eq1 c _ = rw (c.in-Tick-eq1.is-0, c.at-in-Tick-eq1.ensures) (tick_meant c.args.numbers.now (sym c.len.ensures ∙ c.in-Tick-eq1.is-1))

pub returns-in-Boot-eq2 : goal.returns-in-Boot-eq2
returns-in-Boot-eq2 c _ =
    rw (c.in-Boot-eq2.is-0, c.at-in-Boot-eq2.ensures, c.from.ensures, c.at-in-Boot-eq2-2.ensures)
    (boot_meant c.args.numbers.now (sym c.len.ensures ∙ c.in-Boot-eq2.is-1))
