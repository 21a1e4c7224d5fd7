use Rattle.std.proofs.Common.{List, [], Option, None, Err, map, refl, string_bytes, subst}
use Rattle.pm_trace.specs.declared.faults.Fault.TheVariants.{Usage}
use Rattle.pm_io.specs.World.{world}
use Rattle.pm_board.specs.Standing.{standing}
use Rattle.pm_top.specs.declared.works.Request.{Request}
use Rattle.pm_io.specs.Calls.{Call}
use Rattle.pm_top.specs.Done.{DoneBy, DoneIf}
use Rattle.pm_top.specs.Fit.{IsSafeRun}
use Rattle.pm_top.specs.Form.{form_if, topology_if}
use Rattle.pm_top.specs.Given.{GaveEach}
use Rattle.pm_top.specs.Ran.{RanForm, RanGiven}
use Rattle.pm_io.specs.Readings.{Meanwhile}
use Rattle.pm_io.proofs.ReadingsLemmas.{meanwhile_none}
use Rattle.pm_top.specs.Reads.{FormReads}
use Rattle.pm_top.proofs.DoneLaw.{never_refused}
use Rattle.pm_top.proofs.FitLemmas.{still_safe}
use Rattle.pm_top.proofs.program.run_words.Goals as goal

pub returns-in-Some-clause-done : goal.returns-in-Some-clause-done
returns-in-Some-clause-done g c = λ seen written is.
    let P : Option Request → Type 0 = λ request. DoneIf g.I.Inputs g.O.Sink g.D.Device request (map string_bytes c.args.words.now) (standing g.H.Responder g.T.Handler c.args.board.now.modules.now c.args.board.now.tasks) (standing g.H.Responder g.T.Handler c.args.board.now.modules.now c.run_request.new.board.tasks) (world c.args.inputs.now c.args.out.now c.args.dev.now) (world c.run_request.new.inputs c.run_request.new.out c.run_request.new.dev) in
    subst P c.in-Some.ensures (c.run_request.ensures.done seen written is)

pub returns-in-Some-clause-ran : goal.returns-in-Some-clause-ran
returns-in-Some-clause-ran g c =
    let P : Option Request → Type 0 = λ request. RanForm g.I.Inputs g.O.Sink g.D.Device (form_if request) (map string_bytes c.args.words.now) (standing g.H.Responder g.T.Handler c.args.board.now.modules.now c.args.board.now.tasks) (standing g.H.Responder g.T.Handler c.args.board.now.modules.now c.run_request.new.board.tasks) (world c.args.inputs.now c.args.out.now c.args.dev.now) (world c.run_request.new.inputs c.run_request.new.out c.run_request.new.dev) c.run_request.result in
    subst P c.in-Some.ensures c.run_request.ensures.ran

pub returns-in-None-clause-ran : goal.returns-in-None-clause-ran
returns-in-None-clause-ran g c =
    let P : Option Request → Type 0 = λ request. RanForm g.I.Inputs g.O.Sink g.D.Device (form_if request) (map string_bytes c.args.words.now) (standing g.H.Responder g.T.Handler c.args.board.now.modules.now c.args.board.now.tasks) (standing g.H.Responder g.T.Handler c.args.board.now.modules.now c.args.board.now.tasks) (world c.args.inputs.now c.args.out.now c.args.dev.now) (world c.args.inputs.now c.refuse.new.out c.args.dev.now) c.refuse.result in
    subst P c.in-None.ensures (record { job = Err Usage; answers = []; cut = c.refuse.ensures.cut; asked = refl; left = c.refuse.ensures.left; ends = c.refuse.ensures.ends; touched = (refl, refl) })

pub returns-in-Some-clause-begun : goal.returns-in-Some-clause-begun
returns-in-Some-clause-begun g c =
    let P : Option Request → Type 0 = λ request. Meanwhile (g.I.Inputs.state c.args.inputs.now) (g.I.Inputs.state c.run_request.new.inputs) (FormReads (form_if request) (map string_bytes c.args.words.now) c.run_request.result) in
    subst P c.in-Some.ensures c.run_request.ensures.begun

pub returns-in-None-clause-begun : goal.returns-in-None-clause-begun
returns-in-None-clause-begun g c =
    let m = g.I.Inputs.state c.args.inputs.now in
    let P : Option Request → Type 0 = λ request. Meanwhile m m (FormReads (form_if request) (map string_bytes c.args.words.now) c.refuse.result) in
    subst P c.in-None.ensures (meanwhile_none m (FormReads None (map string_bytes c.args.words.now) c.refuse.result) refl)

pub returns-in-Some-clause-safe : goal.returns-in-Some-clause-safe
returns-in-Some-clause-safe g c =
    let P : Option Request → Type 0 = λ request. IsSafeRun g.D.Device (topology_if request) c.args.dev.now c.run_request.new.dev in
    subst P c.in-Some.ensures c.run_request.ensures.safe

pub returns-in-None-clause-safe : goal.returns-in-None-clause-safe
returns-in-None-clause-safe g c = still_safe g.D.Device _ c.args.dev.now c.args.dev.now refl

pub returns-in-Some-clause-gave : goal.returns-in-Some-clause-gave
returns-in-Some-clause-gave g c = λ written is.
    let found = standing g.H.Responder g.T.Handler c.args.board.now.modules.now c.args.board.now.tasks in
    let left = standing g.H.Responder g.T.Handler c.args.board.now.modules.now c.run_request.new.board.tasks in
    let P : Option Request → Type 0 = λ request. Meanwhile (g.I.Inputs.state c.args.inputs.now) (g.I.Inputs.state c.run_request.new.inputs) (λ calls.
    DoneBy g.O.Sink g.D.Device (GaveEach calls) request (map string_bytes c.args.words.now) found left c.args.out.now c.run_request.new.out c.args.dev.now c.run_request.new.dev)
    in
    subst P c.in-Some.ensures (c.run_request.ensures.gave written is)

pub returns-in-None-clause-gave : goal.returns-in-None-clause-gave
returns-in-None-clause-gave g c = λ written is. absurd (never_refused g.O.Sink Usage c.args.out.now c.refuse.new.out c.refuse.result is c.refuse.ensures)

pub returns-in-Some-clause-given : goal.returns-in-Some-clause-given
returns-in-Some-clause-given g c =
    let found = standing g.H.Responder g.T.Handler c.args.board.now.modules.now c.args.board.now.tasks in
    let left = standing g.H.Responder g.T.Handler c.args.board.now.modules.now c.run_request.new.board.tasks in
    let P : Option Request → Type 0 = λ request. Meanwhile (g.I.Inputs.state c.args.inputs.now) (g.I.Inputs.state c.run_request.new.inputs) (λ calls.
    RanGiven g.O.Sink g.D.Device (form_if request) (map string_bytes c.args.words.now) found left calls c.args.out.now c.run_request.new.out c.args.dev.now c.run_request.new.dev c.run_request.result)
    in
    subst P c.in-Some.ensures c.run_request.ensures.given

pub returns-in-None-clause-given : goal.returns-in-None-clause-given
returns-in-None-clause-given g c =
    let m = g.I.Inputs.state c.args.inputs.now in
    let board = standing g.H.Responder g.T.Handler c.args.board.now.modules.now c.args.board.now.tasks in
    let Refuses : List Call → Type 0 = λ calls. RanGiven g.O.Sink g.D.Device None (map string_bytes c.args.words.now) board board calls c.args.out.now c.refuse.new.out c.args.dev.now c.args.dev.now c.refuse.result in
    let P : Option Request → Type 0 = λ request. Meanwhile m m (λ calls.
    RanGiven g.O.Sink g.D.Device (form_if request) (map string_bytes c.args.words.now) board board calls c.args.out.now c.refuse.new.out c.args.dev.now c.args.dev.now c.refuse.result)
    in
    subst P c.in-None.ensures (meanwhile_none m Refuses (record { job = Err Usage; answers = []; cut = c.refuse.ensures.cut; asked = refl; left = c.refuse.ensures.left; ends = c.refuse.ensures.ends; touched = (refl, refl) }))
