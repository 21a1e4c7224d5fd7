use Rattle.std.proofs.Common.{◌≡◌, ℕ, [], ◌<◌, List, length, ◌∙◌, ap, arith, inr}
use Rattle.std.proofs.lemmas.Grind.{common_steps}
use Rattle.pm_reader.specs.Reader.{Held}
use Rattle.pm_reader.proofs.HeldLemmas.{gave_last, last_fits}
use Rattle.pm_reader.proofs.reader.LineReader.give_last.Goals as goal

pub put-requires-clause-room : goal.put-requires-clause-room
put-requires-clause-room c =
    let fits = last_fits c.args.self.now c.requires.unended c.requires.credit in
    let is : length c.bytes-bytes.result.now ≡ length c.args.self.now.bytes = ap (λ (xs : List ℕ). length xs) (c.bytes-bytes.ensures ∙ ap (λ (h : Held). h.bytes) c.self.view_is) in
    omega (arith, fits, is)

pub returns-clause-gives : goal.returns-clause-gives
returns-clause-gives c =
    let some : 0 < length c.bytes-bytes.result.now = grind (arith, common_steps) in
    let size : length c.put.new.line.items ≡ length c.bytes-bytes.result.now = ap (λ (xs : List ℕ). length xs) c.put.ensures in
    inr (gave_last c.args.self.now _ c.put.new.line.items c.requires.unended c.requires.credit c.requires.ended
    (c.put.ensures ∙ (c.bytes-bytes.ensures ∙ ap (λ (h : Held). h.bytes) c.self.view_is))
    (omega (arith, some, size))
    (ap (λ (w : List ℕ). record { bytes = w; credit = c.self.inside.credit; ended = c.self.inside.ended }) c.clear.ensures ∙ ap (λ (h : Held). record h { bytes = [] }) c.self.view_is))
