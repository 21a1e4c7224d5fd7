-- The lines of a core step: its commands, then its starts, its late replies and its callbacks, and then its answer.
use Rattle.std.specs.Prelude.{ℕ, Bool, if◌then◌else◌, List, [], ◌∷◌, ◌++◌, map, codes, Option, Some, None, option_to_list}
use Rattle.std.specs.List.{concat}
use Rattle.pm_base.specs.declared.names.Unit.{Unit}
use Rattle.pm_base.specs.declared.names.Unit.TheVariants.{Node, Line}
use Rattle.pm_ipi.specs.Callbacks.{callback_words}
use Rattle.pm_ipi.specs.Responses.{response_words}
use Rattle.pm_tell.specs.declared.callbacks.Callback.{Callback}
use Rattle.pm_tell.specs.Callbacks.{acknowledgement}
use Rattle.pm_core.specs.declared.outbox.Done.{Done}
use Rattle.pm_tell.specs.declared.late.Late.{Late}
use Rattle.pm_core.specs.declared.outbox.Outbox.{Outbox}
use Rattle.pm_values.specs.declared.starts.Start.{Start}
use Rattle.pm_core.specs.declared.replies.Answer.{Answer}
use Rattle.pm_core.specs.declared.replies.Answer.TheVariants as answers
use Rattle.pm_core.specs.Outbox.{Outputs}
use Rattle.pm_apply.specs.Part.{Part}
use Rattle.pm_trace.specs.declared.line.Word.{Word}
use Rattle.pm_trace.specs.declared.line.Word.TheVariants as word
use Rattle.pm_trace.specs.declared.step.StepLine.{StepLine}
use Rattle.pm_trace.specs.declared.step.StepLine.TheVariants as told
use Rattle.pm_trace.specs.Line.{numbers, line_text}

-- the name of a command, by its unit's sort and whether it succeeded, and the unit's number
abbrev pub command_name : Unit → Bool → List Word
command_name (Node node) ok = word.Name (if ok then codes "set" else codes "fail") ∷ word.Number node.0 ∷ []
command_name (Line reset) ok = word.Name (if ok then codes "line" else codes "linefail") ∷ word.Number reset.0 ∷ []

-- the words of a line, behind the number of its script line. A command has its unit, the value before, and the
-- commanded value; a start the processor and its address; a reply the master, the status and the words; a drop the
-- master; a callback the master, its number and its arguments
abbrev pub step_words : StepLine → List Word
step_words (told.Command d) = command_name d.command.unit d.ok ++ numbers (d.from ∷ d.command.value ∷ [])
step_words (told.Start start) = word.Name (codes "run") ∷ word.Number start.proc.0 ∷ word.Address start.address ∷ []
step_words (told.Reply master response) = word.Name (codes "reply") ∷ numbers (master.0 ∷ response_words response)
step_words (told.Drop master) = word.Name (codes "drop") ∷ word.Number master.0 ∷ []
step_words (told.Call callback) = word.Name (codes "call") ∷ numbers (callback.master.0 ∷ callback_words callback.id callback.args)

-- a late reply has a status alone
abbrev pub late_line : Late → StepLine
late_line late = told.Reply late.master (record { status = late.status; words = 0 ∷ 0 ∷ 0 ∷ [] })

-- the line of an answer, if it has one
abbrev pub answer_line : Answer → Option StepLine
answer_line answers.Silent = None
answer_line (answers.Drop master) = Some (told.Drop master)
answer_line (answers.Reply master response) = Some (told.Reply master response)
answer_line (answers.Ack master node status point shown) = if shown then Some (told.Call (acknowledgement master node status point)) else None

-- the outputs of a core step besides its answer: the starts, the late replies, and the callbacks
pub record Notices : Type 0 where
  pub starts : List Start
  pub late : List Late
  pub callbacks : List Callback

-- the lines of a core step in order: its commands, its starts, its late replies, its callbacks, and its answer
abbrev pub told_lines : List Done → Notices → Answer → List StepLine
told_lines commands notices answer =
    map told.Command commands
    ++ (map told.Start notices.starts ++ (map late_line notices.late ++ (map told.Call notices.callbacks ++ option_to_list (answer_line answer))))

-- the words of these lines
abbrev pub output_words : List Done → Notices → Answer → List (List Word)
output_words commands notices answer = map step_words (told_lines commands notices answer)

-- a line of script line n
abbrev pub numbered_line : ℕ → List Word → List ℕ
numbered_line n words = line_text (word.Number n ∷ words)

-- the lines of a core step of script line n, in order
abbrev pub core_lines : ℕ → List Done → Notices → Answer → List (List ℕ)
core_lines n commands notices answer = map (numbered_line n) (output_words commands notices answer)

-- the text of a core step of script line n
abbrev pub step_text : ℕ → List Done → Notices → Answer → List ℕ
step_text n commands notices answer = concat (core_lines n commands notices answer)

-- the notices of a step's outputs, and those that an outbox holds
abbrev pub notices_of : Outputs → Notices
notices_of outputs = record { starts = outputs.starts; late = outputs.late; callbacks = outputs.callbacks }

abbrev pub notices_in : Outbox → Notices
notices_in out = record { starts = out.starts.items; late = out.late.items; callbacks = out.callbacks.items }

-- the text of a core step of script line n: of its outputs, and of its part with the device
abbrev pub core_text : ℕ → Outputs → Part → List ℕ
core_text n outputs part = step_text n part.commands (notices_of outputs) part.answer
