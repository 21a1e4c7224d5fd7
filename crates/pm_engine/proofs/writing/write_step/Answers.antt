use Rattle.std.proofs.Common.{◌≡◌, ◌∙◌, ℕ, List, [], ◌∷◌, length, map, refl, sym, subst, arith}
use Rattle.std.specs.List.{concat}
use Rattle.pm_io.specs.Sink.{Wrote}
use Rattle.pm_io.proofs.SinkLemmas.{Wrote-refl}
use Rattle.pm_trace.specs.declared.line.Word.{Word}
use Rattle.pm_trace.specs.Step.{notices_in, numbered_line, output_words}
use Rattle.pm_engine.proofs.writing.write_step.Goals as goal

-- a step without lines has no text
no_text : (n : ℕ) (lines : List (List Word)) → length lines ≡ 0 → concat (map (numbered_line n) lines) ≡ []
no_text n [] none = refl
no_text n (words ∷ lines) none = absurd (omega (arith, none))

pub returns-in-0 : goal.returns-in-0
returns-in-0 g c =
    let now = g.O.Sink.state c.args.out.now in
    let lines = output_words c.args.outbox.now.done.items (notices_in c.args.outbox.now) c.args.answer.now in
    let P : List ℕ → Type 0 = λ text. Wrote g.O.Sink.observable text now now in
    subst P (sym (no_text c.args.number lines (sym c.entries.ensures ∙ c.in-0.is))) (Wrote-refl g.O.Sink.observable now)
