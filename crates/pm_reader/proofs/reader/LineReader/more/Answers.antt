use Rattle.std.proofs.Common.{◌≡◌, ◌-◌, ◌==◌, ℕ, Bool, false, ap, refl, subst, sym, arith, ◌∙◌}
use Rattle.pm_io.specs.Calls.{Comes}
use Rattle.pm_io.specs.Readings.{Meanwhile}
use Rattle.pm_reader.specs.Reader.{Grew, Held}
use Rattle.pm_reader.proofs.GivenLemmas.{grew_by}
use Rattle.pm_reader.proofs.ReadsLemmas.{more_reads}
use Rattle.pm_reader.proofs.reader.LineReader.more.Goals as goal

pub returns-clause-grew : goal.returns-clause-grew
returns-clause-grew g c =
    let old = g.I.Inputs.state c.args.inputs.now in
    let new = g.I.Inputs.state c.fill.new.inputs in
    let count = c.in_ok-count.count in
    let filled = c.in_ok-count.ensures.read in
    let was : Held = record { bytes = c.self.inside.window; credit = c.self.inside.credit; ended = c.self.inside.ended } in
    let is : Held = record { bytes = c.fill.new.self; credit = c.self.inside.credit - count; ended = count == 0 } in
    let open_ : was.ended ≡ false = ap (λ (h : Held). h.ended) c.self.view_is ∙ c.requires.open in
    subst (λ (h : Held). Grew g.I.Inputs.observable c.args.id h is old new) c.self.view_is
    (grew_by g.I.Inputs.observable c.args.id c.self.inside.credit count was is old new filled (omega (arith, filled.few)) open_ refl)

pub returns-clause-reads : goal.returns-clause-reads
returns-clause-reads g c =
    let old = g.I.Inputs.state c.args.inputs.now in
    let new = g.I.Inputs.state c.fill.new.inputs in
    let held = c.args.self.now in
    let count = c.in_ok-count.count in
    let filled = c.in_ok-count.ensures.read in
    let credit : c.self.inside.credit ≡ held.credit = ap (λ (h : Held). h.credit) c.self.view_is in
    let read = more_reads c.args.id held.credit count old new filled.got filled.logged filled.size (omega (arith, filled.few, credit)) c.requires.credit in
    subst (λ (e : Bool). Meanwhile old new (Comes c.args.id held.credit e (c.self.inside.credit - count) (count == 0))) (sym c.requires.open)
    (subst (λ (n : ℕ). Meanwhile old new (Comes c.args.id held.credit false (n - count) (count == 0))) (sym credit) read)
