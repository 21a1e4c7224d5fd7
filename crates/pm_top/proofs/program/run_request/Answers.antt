use Rattle.std.proofs.Common.{◌≡◌, ◌⊎◌, ◌++◌, ℕ, List, None, Result, Ok, Err, map, refl, string_bytes, subst, sym}
use Rattle.std.specs.Prelude.{◌≢◌}
use Rattle.pm_top.specs.declared.works.Source.TheVariants as source
use Rattle.pm_io.specs.Calls.{ReadsEach}
use Rattle.pm_io.specs.Readings.{Meanwhile}
use Rattle.pm_io.specs.World.{world}
use Rattle.pm_trace.specs.declared.faults.Fault.{Fault}
use Rattle.pm_trace.specs.declared.faults.Fault.TheVariants.{Memory}
use Rattle.pm_board.specs.Standing.{standing}
use Rattle.pm_top.specs.declared.works.Form.{Form}
use Rattle.pm_top.specs.declared.reading.Subject.{Subject}
use Rattle.pm_top.specs.Asked.{script_word}
use Rattle.pm_top.specs.Done.{Worked}
use Rattle.pm_top.specs.Form.{form_of}
use Rattle.pm_top.specs.Within.{ReadsSubject}
use Rattle.pm_top.proofs.FitLemmas.{still_safe}
use Rattle.pm_top.proofs.DoneHeld.{worked_done}
use Rattle.pm_top.proofs.DoneLaw.{never_refused}
use Rattle.pm_top.proofs.GivenLaw.{worked_gave}
use Rattle.pm_top.proofs.SubjectLemmas.{is_chip, known_read, plain, was_read}
use Rattle.pm_top.proofs.WorkGiven.{refused_given, worked_given}
use Rattle.pm_top.proofs.WorkLemmas.{subject_refused, worked_ran}
use Rattle.pm_top.specs.Words.{word}
use Rattle.pm_top.specs.Reads.{RefusedSubject, WorkReads, source_named, topology_named}
use Rattle.pm_top.proofs.ReadsLemmas.{work_read, work_refused}
use Rattle.pm_top.proofs.program.run_request.Goals as goal

pub read_subject-requires : goal.read_subject-requires
read_subject-requires g c =
    let P : Form → Type 0 = λ f. f.source ≢ source.Object → f.topology ≡ None in
    record { plain = subst P (sym c.form_of-form.ensures) (plain c.args.request.work c.args.request.topology) }

pub do_work-requires : goal.do_work-requires
do_work-requires g c =
    let R : Form → Type 0 = λ f. (◌≡◌ {A = Result Subject Fault} (Ok c.in-Ok.subject) (Err Memory)) ⊎ ReadsSubject g.I.Inputs.observable f (map string_bytes c.args.words.now) (g.I.Inputs.state c.args.inputs.now) (g.I.Inputs.state c.read_subject.new.inputs) (Ok c.in-Ok.subject) in
    let reads = known_read c.in-Ok.subject (subst R c.form_of-form.ensures c.in-Ok.ensures.read) in
    record {
      sound = c.in-Ok.ensures.sound;
      complete = (was_read (form_of c.args.request.work c.args.request.topology) (map string_bytes c.args.words.now) reads.prefix reads.topology c.in-Ok.subject reads.is).named;
      built_in = is_chip (form_of c.args.request.work c.args.request.topology) g.I.Inputs.observable (map string_bytes c.args.words.now) (g.I.Inputs.state c.args.inputs.now) (g.I.Inputs.state c.read_subject.new.inputs) c.in-Ok.subject reads;
      idle = c.requires.idle;
    }

pub returns-in-Ok-clause-done : goal.returns-in-Ok-clause-done
returns-in-Ok-clause-done g c = λ seen written is.
    let R : Form → Type 0 = λ f. (◌≡◌ {A = Result Subject Fault} (Ok c.in-Ok.subject) (Err Memory)) ⊎ ReadsSubject g.I.Inputs.observable f (map string_bytes c.args.words.now) (g.I.Inputs.state c.args.inputs.now) (g.I.Inputs.state c.read_subject.new.inputs) (Ok c.in-Ok.subject) in
    let reads = known_read c.in-Ok.subject (subst R c.form_of-form.ensures c.in-Ok.ensures.read) in
    let N : Form → Type 0 = λ f. c.script_word.result.now ≡ script_word f.script (map string_bytes c.args.words.now) in
    let W : List ℕ → Type 0 = λ name. Worked g.I.Inputs g.O.Sink g.D.Device c.args.request.work c.args.request.topology c.in-Ok.subject (standing g.H.Responder g.T.Handler c.args.board.now.modules.now c.args.board.now.tasks) (standing g.H.Responder g.T.Handler c.args.board.now.modules.now c.do_work.new.board.tasks) name (world c.read_subject.new.inputs c.args.out.now c.args.dev.now) (world c.do_work.new.inputs c.do_work.new.out c.do_work.new.dev) c.do_work.result in
    worked_done g.I.Inputs g.O.Sink g.D.Device (map string_bytes c.args.words.now) (standing g.H.Responder g.T.Handler c.args.board.now.modules.now c.args.board.now.tasks) (standing g.H.Responder g.T.Handler c.args.board.now.modules.now c.do_work.new.board.tasks) c.args.inputs.now c.read_subject.new.inputs c.do_work.new.inputs c.args.out.now c.do_work.new.out c.args.dev.now c.do_work.new.dev c.do_work.result seen written is c.in-Ok.subject c.args.request.work c.args.request.topology reads (subst W (subst N c.form_of-form.ensures c.script_word.ensures) c.do_work.ensures.worked)

pub returns-in-Ok-clause-ran : goal.returns-in-Ok-clause-ran
returns-in-Ok-clause-ran g c =
    let R : Form → Type 0 = λ f. (◌≡◌ {A = Result Subject Fault} (Ok c.in-Ok.subject) (Err Memory)) ⊎ ReadsSubject g.I.Inputs.observable f (map string_bytes c.args.words.now) (g.I.Inputs.state c.args.inputs.now) (g.I.Inputs.state c.read_subject.new.inputs) (Ok c.in-Ok.subject) in
    let reads = known_read c.in-Ok.subject (subst R c.form_of-form.ensures c.in-Ok.ensures.read) in
    let N : Form → Type 0 = λ f. c.script_word.result.now ≡ script_word f.script (map string_bytes c.args.words.now) in
    let W : List ℕ → Type 0 = λ name. Worked g.I.Inputs g.O.Sink g.D.Device c.args.request.work c.args.request.topology c.in-Ok.subject (standing g.H.Responder g.T.Handler c.args.board.now.modules.now c.args.board.now.tasks) (standing g.H.Responder g.T.Handler c.args.board.now.modules.now c.do_work.new.board.tasks) name (world c.read_subject.new.inputs c.args.out.now c.args.dev.now) (world c.do_work.new.inputs c.do_work.new.out c.do_work.new.dev) c.do_work.result in
    worked_ran g.I.Inputs g.O.Sink g.D.Device (map string_bytes c.args.words.now) (standing g.H.Responder g.T.Handler c.args.board.now.modules.now c.args.board.now.tasks) (standing g.H.Responder g.T.Handler c.args.board.now.modules.now c.do_work.new.board.tasks) c.args.inputs.now c.read_subject.new.inputs c.do_work.new.inputs c.args.out.now c.do_work.new.out c.args.dev.now c.do_work.new.dev c.do_work.result c.args.request.work c.args.request.topology c.in-Ok.subject reads (subst W (subst N c.form_of-form.ensures c.script_word.ensures) c.do_work.ensures.worked)

pub returns-in-Err-clause-ran : goal.returns-in-Err-clause-ran
returns-in-Err-clause-ran g c =
    let R : Form → Type 0 = λ f. (◌≡◌ {A = Result Subject Fault} (Err c.in-Err.fault) (Err Memory)) ⊎ ReadsSubject g.I.Inputs.observable f (map string_bytes c.args.words.now) (g.I.Inputs.state c.args.inputs.now) (g.I.Inputs.state c.read_subject.new.inputs) (Err c.in-Err.fault) in
    subject_refused g.I.Inputs g.O.Sink g.D.Device (map string_bytes c.args.words.now) (standing g.H.Responder g.T.Handler c.args.board.now.modules.now c.args.board.now.tasks) (standing g.H.Responder g.T.Handler c.args.board.now.modules.now c.args.board.now.tasks) c.args.inputs.now c.read_subject.new.inputs c.args.out.now c.refuse.new.out c.args.dev.now c.args.dev.now c.refuse.result (form_of c.args.request.work c.args.request.topology) c.in-Err.fault (subst R c.form_of-form.ensures c.in-Err.ensures.read) refl refl c.refuse.ensures

pub returns-in-Ok-clause-begun : goal.returns-in-Ok-clause-begun
returns-in-Ok-clause-begun g c =
    let ws = map string_bytes c.args.words.now in
    let old = g.I.Inputs.state c.args.inputs.now in
    let mid = g.I.Inputs.state c.read_subject.new.inputs in
    let new = g.I.Inputs.state c.do_work.new.inputs in
    let R : Form → Type 0 = λ f. Meanwhile old mid (ReadsEach (source_named f.source (word 1 ws) ++ topology_named f.topology ws)) in
    let N : Form → Type 0 = λ f. c.script_word.result.now ≡ script_word f.script ws in
    let W : List ℕ → Type 0 = λ name. Meanwhile mid new (WorkReads (form_of c.args.request.work c.args.request.topology).script name c.do_work.result) in
    work_read (form_of c.args.request.work c.args.request.topology) ws c.do_work.result old mid new (subst R c.form_of-form.ensures c.in-Ok.ensures.begun) (subst W (subst N c.form_of-form.ensures c.script_word.ensures) c.do_work.ensures.begun)

pub returns-in-Err-clause-begun : goal.returns-in-Err-clause-begun
returns-in-Err-clause-begun g c =
    let ws = map string_bytes c.args.words.now in
    let old = g.I.Inputs.state c.args.inputs.now in
    let mid = g.I.Inputs.state c.read_subject.new.inputs in
    let R : Form → Type 0 = λ f. Meanwhile old mid (RefusedSubject c.in-Err.fault (source_named f.source (word 1 ws)) (topology_named f.topology ws)) in
    work_refused g.O.Sink (form_of c.args.request.work c.args.request.topology) ws c.in-Err.fault c.args.out.now c.refuse.new.out c.refuse.result old mid c.refuse.ensures (subst R c.form_of-form.ensures c.in-Err.ensures.begun)

pub returns-in-Err-clause-safe : goal.returns-in-Err-clause-safe
returns-in-Err-clause-safe g c = still_safe g.D.Device _ c.args.dev.now c.args.dev.now refl

pub returns-in-Ok-clause-given : goal.returns-in-Ok-clause-given
returns-in-Ok-clause-given g c =
    let ws = map string_bytes c.args.words.now in
    let found = standing g.H.Responder g.T.Handler c.args.board.now.modules.now c.args.board.now.tasks in
    let left = standing g.H.Responder g.T.Handler c.args.board.now.modules.now c.do_work.new.board.tasks in
    let R : Form → Type 0 = λ f. (◌≡◌ {A = Result Subject Fault} (Ok c.in-Ok.subject) (Err Memory)) ⊎ ReadsSubject g.I.Inputs.observable f ws (g.I.Inputs.state c.args.inputs.now) (g.I.Inputs.state c.read_subject.new.inputs) (Ok c.in-Ok.subject) in
    let reads = known_read c.in-Ok.subject (subst R c.form_of-form.ensures c.in-Ok.ensures.read) in
    let N : Form → Type 0 = λ f. c.script_word.result.now ≡ script_word f.script ws in
    let W : List ℕ → Type 0 = λ name. Worked g.I.Inputs g.O.Sink g.D.Device c.args.request.work c.args.request.topology c.in-Ok.subject found left name (world c.read_subject.new.inputs c.args.out.now c.args.dev.now) (world c.do_work.new.inputs c.do_work.new.out c.do_work.new.dev) c.do_work.result in
    worked_given g.I.Inputs g.O.Sink g.D.Device ws found left c.args.inputs.now c.read_subject.new.inputs c.do_work.new.inputs c.args.out.now c.do_work.new.out c.args.dev.now c.do_work.new.dev c.do_work.result c.args.request.work c.args.request.topology c.in-Ok.subject reads (subst W (subst N c.form_of-form.ensures c.script_word.ensures) c.do_work.ensures.worked)

pub returns-in-Ok-clause-gave : goal.returns-in-Ok-clause-gave
returns-in-Ok-clause-gave g c = λ written is.
    let ws = map string_bytes c.args.words.now in
    let found = standing g.H.Responder g.T.Handler c.args.board.now.modules.now c.args.board.now.tasks in
    let left = standing g.H.Responder g.T.Handler c.args.board.now.modules.now c.do_work.new.board.tasks in
    let R : Form → Type 0 = λ f. (◌≡◌ {A = Result Subject Fault} (Ok c.in-Ok.subject) (Err Memory)) ⊎ ReadsSubject g.I.Inputs.observable f ws (g.I.Inputs.state c.args.inputs.now) (g.I.Inputs.state c.read_subject.new.inputs) (Ok c.in-Ok.subject) in
    let reads = known_read c.in-Ok.subject (subst R c.form_of-form.ensures c.in-Ok.ensures.read) in
    let N : Form → Type 0 = λ f. c.script_word.result.now ≡ script_word f.script ws in
    let W : List ℕ → Type 0 = λ name. Worked g.I.Inputs g.O.Sink g.D.Device c.args.request.work c.args.request.topology c.in-Ok.subject found left name (world c.read_subject.new.inputs c.args.out.now c.args.dev.now) (world c.do_work.new.inputs c.do_work.new.out c.do_work.new.dev) c.do_work.result in
    worked_gave g.I.Inputs g.O.Sink g.D.Device ws found left c.args.inputs.now c.read_subject.new.inputs c.do_work.new.inputs c.args.out.now c.do_work.new.out c.args.dev.now c.do_work.new.dev c.do_work.result written is c.in-Ok.subject c.args.request.work c.args.request.topology reads (subst W (subst N c.form_of-form.ensures c.script_word.ensures) c.do_work.ensures.worked)

pub returns-in-Err-clause-given : goal.returns-in-Err-clause-given
returns-in-Err-clause-given g c =
    let ws = map string_bytes c.args.words.now in
    let old = g.I.Inputs.state c.args.inputs.now in
    let mid = g.I.Inputs.state c.read_subject.new.inputs in
    let board = standing g.H.Responder g.T.Handler c.args.board.now.modules.now c.args.board.now.tasks in
    let R : Form → Type 0 = λ f. (◌≡◌ {A = Result Subject Fault} (Err c.in-Err.fault) (Err Memory)) ⊎ ReadsSubject g.I.Inputs.observable f ws old mid (Err c.in-Err.fault) in
    refused_given g.O.Sink g.D.Device ws board board c.args.out.now c.refuse.new.out c.args.dev.now c.args.dev.now c.refuse.result g.I.Inputs.observable (form_of c.args.request.work c.args.request.topology) old mid c.in-Err.fault _ c.in-Err.ensures.begun
    (subst R c.form_of-form.ensures c.in-Err.ensures.read) refl refl c.refuse.ensures

pub returns-in-Err-clause-gave : goal.returns-in-Err-clause-gave
returns-in-Err-clause-gave g c = λ written is. absurd (never_refused g.O.Sink c.in-Err.fault c.args.out.now c.refuse.new.out c.refuse.result is c.refuse.ensures)
