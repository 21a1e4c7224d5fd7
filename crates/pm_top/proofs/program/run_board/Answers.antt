use Rattle.std.proofs.Common.{ap, map, string_bytes, subst}
use Rattle.pm_io.specs.Readings.{Meanwhile}
use Rattle.pm_io.specs.World.{world}
use Rattle.pm_board.specs.Board.{Standing}
use Rattle.pm_board.specs.Standing.{standing}
use Rattle.pm_top.specs.Done.{DoneBy, IsDone}
use Rattle.pm_top.specs.Form.{form, request_of}
use Rattle.pm_top.specs.Given.{GaveEach}
use Rattle.pm_top.specs.Ran.{Ran, RanGiven}
use Rattle.pm_top.proofs.program.run_board.Goals as goal

pub returns-clause-done : goal.returns-clause-done
returns-clause-done g c = λ seen written is.
    let w = world c.args.inputs.now c.args.out.now c.args.dev.now in
    let w' = world c.run_words-exit.new.inputs c.run_words-exit.new.out c.run_words-exit.new.dev in
    let found = ap (standing g.H.Responder g.T.Handler c.args.modules.now) c.replace.ensures.value in
    let left = standing g.H.Responder g.T.Handler c.args.modules.now c.run_words-exit.new.board.tasks in
    subst (λ (b : Standing). IsDone g.I.Inputs g.O.Sink g.D.Device (map string_bytes c.args.words.now) b left w w') found
    (c.run_words-exit.ensures.done seen written is)

pub returns-clause-ran : goal.returns-clause-ran
returns-clause-ran g c =
    let w = world c.args.inputs.now c.args.out.now c.args.dev.now in
    let w' = world c.run_words-exit.new.inputs c.run_words-exit.new.out c.run_words-exit.new.dev in
    let found = ap (standing g.H.Responder g.T.Handler c.args.modules.now) c.replace.ensures.value in
    let left = standing g.H.Responder g.T.Handler c.args.modules.now c.run_words-exit.new.board.tasks in
    subst (λ (b : Standing). Ran g.I.Inputs g.O.Sink g.D.Device (map string_bytes c.args.words.now) b left w w' c.run_words-exit.result) found
    c.run_words-exit.ensures.ran

pub returns-clause-gave : goal.returns-clause-gave
returns-clause-gave g c = λ written is.
    let found = ap (standing g.H.Responder g.T.Handler c.args.modules.now) c.replace.ensures.value in
    let left = standing g.H.Responder g.T.Handler c.args.modules.now c.run_words-exit.new.board.tasks in
    let ws = map string_bytes c.args.words.now in
    subst (λ (b : Standing). Meanwhile (g.I.Inputs.state c.args.inputs.now) (g.I.Inputs.state c.run_words-exit.new.inputs) (λ calls.
    DoneBy g.O.Sink g.D.Device (GaveEach calls) (request_of ws) ws b left c.args.out.now c.run_words-exit.new.out c.args.dev.now c.run_words-exit.new.dev)) found
    (c.run_words-exit.ensures.gave written is)

pub returns-clause-given : goal.returns-clause-given
returns-clause-given g c =
    let found = ap (standing g.H.Responder g.T.Handler c.args.modules.now) c.replace.ensures.value in
    let left = standing g.H.Responder g.T.Handler c.args.modules.now c.run_words-exit.new.board.tasks in
    let ws = map string_bytes c.args.words.now in
    subst (λ (b : Standing). Meanwhile (g.I.Inputs.state c.args.inputs.now) (g.I.Inputs.state c.run_words-exit.new.inputs) (λ calls.
    RanGiven g.O.Sink g.D.Device (form ws) ws b left calls c.args.out.now c.run_words-exit.new.out c.args.dev.now c.run_words-exit.new.dev c.run_words-exit.result)) found
    c.run_words-exit.ensures.given
