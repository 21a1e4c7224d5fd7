-- The lines of commands are the first ones of their step, and the line of an answer is the last one, written behind the others.
use Rattle.std.proofs.Common.{◌≡◌, ◌∙◌, ℕ, ◌+◌, ◌<◌, List, [], ◌∷◌, ◌++◌, length, get_or, map, take, true, Option, Some, None, Result, Ok, Err, refl, sym, ap, subst, arith, append_assoc, take_all, length-append}
use Rattle.std.proofs.lemmas.List.{length-map}
use Rattle.std.proofs.lemmas.Option.{slice_get-get_or}
use Rattle.std.specs.List.{concat}
use Rattle.std.specs.Prelude.{⊤, IfSome, is_some, option_to_list, slice_get}
use Rattle.pm_base.specs.declared.errors.Failed.{Failed}
use Rattle.pm_base.proofs.ListLemmas.{slice_get-append_right}
use Rattle.pm_io.specs.declared.sink.Sink as Sink
use Rattle.pm_io.specs.Sink.{Wrote}
use Rattle.pm_io.proofs.SinkLemmas.{BreaksIn-joined, BreaksIn-piece, Wrote-is, Wrote-piece}
use Rattle.pm_core.specs.declared.outbox.Done.{Done}
use Rattle.pm_core.specs.declared.replies.Answer.{Answer}
use Rattle.pm_trace.specs.declared.step.StepLine.{StepLine}
use Rattle.pm_trace.specs.declared.step.StepLine.TheVariants as told
use Rattle.pm_trace.specs.Step.{Notices, answer_line, core_lines, late_line, numbered_line, step_words, told_lines}
use Rattle.pm_trace.proofs.StepLemmas.{in_items, line_told}
use Rattle.pm_engine.specs.Writes.{Writes}

-- the line of a command stands at its place
pub command_at : (other : Done) (n : ℕ) (commands held : List Done) (notices : Notices) (answer : Answer) (k : ℕ) (text : List ℕ) → held ≡ commands
    → k < length held → text ≡ numbered_line n (step_words (told.Command (get_or held k other))) → slice_get (core_lines n commands notices answer) k ≡ Some text
command_at other n commands held notices answer k text is within says =
    let starts : List StepLine = map told.Start notices.starts in
    let late : List StepLine = map late_line notices.late in
    let calls : List StepLine = map told.Call notices.callbacks in
    let later : List StepLine = starts ++ (late ++ (calls ++ option_to_list (answer_line answer))) in
    let done : Done = get_or held k other in
    line_told n (told_lines commands notices answer) k (told.Command done) text
    (in_items told.Command commands held later k done is (slice_get-get_or held k other within)) says

front_of : {X : Type 0} (a b c d e : List X) → (a ++ (b ++ (c ++ d))) ++ e ≡ a ++ (b ++ (c ++ (d ++ e)))
front_of a b c d e = rw (append_assoc a (b ++ (c ++ d)) e, append_assoc b (c ++ d) e, append_assoc c d e) refl

-- a line that may stand behind others
last_line : (n : ℕ) (front : List StepLine) (last : Option StepLine) (k : ℕ) (text : List ℕ) → is_some last ≡ true
    → IfSome last (λ told. text ≡ numbered_line n (step_words told)) → k + 1 ≡ length (front ++ option_to_list last)
    → slice_get (map (numbered_line n) (map step_words (front ++ option_to_list last))) k ≡ Some text
last_line n front None k text there says at = cc
last_line n front (Some told) k text there says at =
    let long : length (front ++ told ∷ []) ≡ length front + 1 = length-append front (told ∷ []) in
    let place : length front + 0 ≡ k = omega (arith, at, long) in
    line_told n (front ++ told ∷ []) k told text
    (sym (ap (slice_get (front ++ told ∷ [])) (sym place) ∙ slice_get-append_right front (told ∷ []) 0)) says

pub answer_last : (n : ℕ) (commands : List Done) (notices : Notices) (answer : Answer) (k : ℕ) (text : List ℕ) → is_some (answer_line answer) ≡ true
    → IfSome (answer_line answer) (λ told. text ≡ numbered_line n (step_words told)) → k + 1 ≡ length (told_lines commands notices answer)
    → slice_get (core_lines n commands notices answer) k ≡ Some text
answer_last n commands notices answer k text there says at =
    let starts : List StepLine = map told.Start notices.starts in
    let late : List StepLine = map late_line notices.late in
    let calls : List StepLine = map told.Call notices.callbacks in
    let last : List StepLine = option_to_list (answer_line answer) in
    let front : List StepLine = map told.Command commands ++ (starts ++ (late ++ calls)) in
    let whole : front ++ last ≡ told_lines commands notices answer = front_of (map told.Command commands) starts late calls last in
    let P : List StepLine → Type 0 = λ lines. slice_get (map (numbered_line n) (map step_words lines)) k ≡ Some text in
    subst P whole (last_line n front (answer_line answer) k text there says (at ∙ ap (λ (lines : List StepLine). length lines) (sym whole)))

some_last : (front : List StepLine) (last : Option StepLine) → is_some last ≡ true → length front < length (front ++ option_to_list last)
some_last front None there = cc
some_last front (Some told) there = let long = length-append front (told ∷ []) in omega (arith, long)

pub some_told : (commands : List Done) (notices : Notices) (answer : Answer) → is_some (answer_line answer) ≡ true
    → length commands < length (told_lines commands notices answer)
some_told commands notices answer there =
    let first : List StepLine = map told.Command commands in
    let starts : List StepLine = map told.Start notices.starts in
    let late : List StepLine = map late_line notices.late in
    let calls : List StepLine = map told.Call notices.callbacks in
    let front : List StepLine = first ++ (starts ++ (late ++ calls)) in
    let P : List StepLine → Type 0 = λ lines. length commands < length lines in
    let many : length first ≡ length commands = length-map commands told.Command in
    let more = length-append first (starts ++ (late ++ calls)) in
    let last = some_last front (answer_line answer) there in
    subst P (front_of first starts late calls (option_to_list (answer_line answer))) (omega (arith, many, more, last))

-- the last of some pieces was written behind the others, by the result
module _ {O : Type 0} (o : Sink.Ghosts O) where
  pub last_written : (pieces : List (List ℕ)) (k : ℕ) (piece : List ℕ) (first mid last : O) (result : Result ⊤ Failed) → slice_get pieces k ≡ Some piece
      → k + 1 ≡ length pieces → Wrote o.observable (concat (take k pieces)) (o.state first) (o.state mid) → Writes o piece mid last result
      → Writes o (concat pieces) first last result
  last_written pieces k piece first mid last (Ok nothing) found all wrote writes =
      Wrote-is o.observable (concat (take (k + 1) pieces)) (concat pieces) (o.state first) (o.state last) (ap concat (take_all (k + 1) pieces (omega (arith, all))))
      (Wrote-piece o.observable pieces k piece (o.state first) (o.state mid) (o.state last) found wrote writes)
  last_written pieces k piece first mid last (Err error) found all wrote writes =
      BreaksIn-joined o pieces k first last (BreaksIn-piece o pieces k piece first mid last found wrote writes)
