use Rattle.std.proofs.Common.{List, None, ◌++◌, ap, refl}
use Rattle.std.proofs.lemmas.List.{append-nil}
use Rattle.pm_psci.specs.Answers.{answered}
use Rattle.pm_split.specs.Split.{Note, call, noted_answer}
use Rattle.pm_run.specs.Run.{book_after}
use Rattle.pm_trace.specs.Notes.{notes_text}
use Rattle.pm_drive.specs.Clocks.{clock_notes, clocked_cores}
use Rattle.pm_drive.specs.Drive.{Given}
use Rattle.pm_drive.specs.Completed.{completed_cores}
use Rattle.pm_drive.specs.PowerCalls.{events_of_call, given_of_call}
use Rattle.pm_drive.specs.Text.{given_text, reply_after}
use Rattle.pm_drive.proofs.UnsaidLaw.{call_unasked, call_unsaid}
use Rattle.pm_drive.proofs.laws.power_calls_are_their_events.Goals as goal

pub returns : goal.returns
returns c = λ setup proc function args stand kept answers.
    let given : List Given = given_of_call setup proc function args stand kept answers in
    record {
      cores = refl;
      book = refl;
      boxes = refl;
      commands = refl;
      text = λ n. refl;
      completed = λ board tree n.
          let told : List Given = completed_cores board.modules (clocked_cores tree given) in
          let last : List Note = noted_answer proc (answered (book_after (events_of_call setup proc function args stand kept answers) stand.book).fixed.topology
          (call proc function args) (reply_after None told)) in
          ap (λ (notes : List Note). given_text n told ++ notes_text n (notes ++ last)) (append-nil (clock_notes tree given));
      unasked = λ tree. call_unasked setup.topology (call proc function args) kept answers stand.book tree;
      unsaid = λ modules from. call_unsaid modules from setup.topology (call proc function args) kept answers stand.book;
    }
