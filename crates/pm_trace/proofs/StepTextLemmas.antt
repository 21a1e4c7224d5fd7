-- The text of lines of a core step, made from its end to its front.
use Rattle.std.proofs.Common.{◌≡◌, ◌∙◌, ℕ, ◌+◌, ◌-◌, ◌*◌, ◌/◌, ◌%◌, ◌^◌, ◌<◌, ◌≤◌, List, [], ◌∷◌, ◌++◌, length, map, arith, refl, sym, ap, append-nil, append_assoc, Option, Some, None, true, false}
use Rattle.std.specs.Prelude.{IfSome, decimal, drop, is_some, option_to_list}
use Rattle.std.proofs.lemmas.Fmt.{decimal_step}
use Rattle.std.proofs.lemmas.List.{drop-append-le, drop-drop, drop_all}
use Rattle.pm_values.specs.declared.starts.Start.{Start}
use Rattle.pm_tell.specs.declared.callbacks.Callback.{Callback}
use Rattle.pm_tell.specs.declared.late.Late.{Late}
use Rattle.pm_core.specs.declared.outbox.Done.{Done}
use Rattle.pm_core.specs.declared.replies.Answer.{Answer}
use Rattle.pm_trace.specs.declared.line.Word.{Word}
use Rattle.pm_trace.specs.declared.line.Word.TheVariants as word
use Rattle.pm_trace.specs.declared.step.StepLine.{StepLine}
use Rattle.pm_trace.specs.declared.step.StepLine.TheVariants as told
use Rattle.pm_trace.specs.Line.{spaced}
use Rattle.pm_trace.specs.Step.{Notices, answer_line, late_line, numbered_line, step_text, step_words}
use Rattle.pm_trace.specs.StepText.{lines_of_step}
use Rattle.pm_trace.proofs.LineLemmas.{at_end, line_is}

-- the ten numbers that begin with the digits of front
pub tens_text : (front start : ℕ) (before digits : List ℕ) → 1 ≤ front → front < 2 ^ 32 → length before ≤ 8
    → drop start digits ≡ decimal front ++ drop 8 before
    → (digit : ℕ) → digit < 10 → decimal (front * 10 + digit) ≡ drop start digits ++ (48 + digit) ∷ []
tens_text front start before digits some few short is digit small =
    let held : drop start digits ≡ decimal front = is ∙ ap (λ (later : List ℕ). decimal front ++ later) (drop_all 8 before short) ∙ append-nil (decimal front) in
    let over : (front * 10 + digit) / 10 ≡ front = omega (arith, small) in
    let rest : (front * 10 + digit) % 10 ≡ digit = omega (arith, small) in
    decimal_step (front * 10 + digit) (omega (arith, some)) (omega (arith, few, small))
    ∙ ap (λ (d : ℕ). decimal d ++ (48 + (front * 10 + digit) % 10) ∷ []) over
    ∙ ap (λ (d : ℕ). decimal front ++ (48 + d) ∷ []) rest
    ∙ ap (λ (ds : List ℕ). ds ++ (48 + digit) ∷ []) (sym held)

-- the digits of a number before the last one, and the last one
pub front_and_last : (start at last : ℕ) (number digits text later : List ℕ) → start ≤ length digits → number ≡ drop start digits ++ last ∷ []
    → drop at text ≡ digits ++ last ∷ later → drop (at + start) text ≡ number ++ later
front_and_last start at last number digits text later within parts is =
    sym (drop-drop start at text)
    ∙ ap (λ (bytes : List ℕ). drop start bytes) is
    ∙ drop-append-le start digits (last ∷ later) within
    ∙ sym (append_assoc (drop start digits) (last ∷ []) later)
    ∙ ap (λ (bytes : List ℕ). bytes ++ later) (sym parts)

-- an answer without a line
pub no_line : (n : ℕ) (last : Option StepLine) (text : List ℕ) → is_some last ≡ false → length text ≤ 1024
    → drop 1024 text ≡ lines_of_step n (option_to_list last)
no_line n None text none short = drop_all 1024 text short
no_line n (Some line) text none short = cc

-- a line at the end of a text: the number of its step, its words and a line feed
pub line_at_end : (n : ℕ) (words : List Word) (text bytes : List ℕ) → length text ≤ 1024 → bytes ≡ decimal n ++ spaced words (10 ∷ drop 1024 text)
    → bytes ≡ numbered_line n words
line_at_end n words text bytes short is =
    is
    ∙ ap (λ (later : List ℕ). decimal n ++ spaced words (10 ∷ later)) (drop_all 1024 text short)
    ∙ sym (line_is (word.Number n) words)

-- the line of an answer, at the end of a text
pub last_line : (n : ℕ) (last : Option StepLine) (bytes text : List ℕ) → is_some last ≡ true → length text ≤ 1024
    → IfSome last (λ line. bytes ≡ numbered_line n (step_words line) ++ drop 1024 text) → bytes ≡ lines_of_step n (option_to_list last)
last_line n None bytes text some short says = cc
last_line n (Some line) bytes text some short says =
    at_end 1024 text (numbered_line n (step_words line)) bytes short says ∙ sym (append-nil (numbered_line n (step_words line)))

-- the text of lines of which some come before others
pub lines_before : (n : ℕ) (lines more : List StepLine) → lines_of_step n (lines ++ more) ≡ lines_of_step n lines ++ lines_of_step n more
lines_before n [] more = refl
lines_before n (line ∷ lines) more =
    ap (λ (bytes : List ℕ). numbered_line n (step_words line) ++ bytes) (lines_before n lines more)
    ∙ sym (append_assoc (numbered_line n (step_words line)) (lines_of_step n lines) (lines_of_step n more))

-- the text of a step that tells its commands, its starts and its answer alone
pub few_lines : (n : ℕ) (commands held : List Done) (starts : List Start) (notices : Notices) (answer : Answer) (bytes : List ℕ)
    → held ≡ commands → starts ≡ notices.starts → notices.late ≡ [] → notices.callbacks ≡ []
    → bytes ≡ lines_of_step n (map told.Command held) ++ (lines_of_step n (map told.Start starts) ++ lines_of_step n (option_to_list (answer_line answer)))
    → bytes ≡ step_text n commands notices answer
few_lines n commands held starts notices answer bytes same begun none calm is =
    let last : List StepLine = option_to_list (answer_line answer) in
    is
    ∙ ap (λ (later : List ℕ). lines_of_step n (map told.Command held) ++ later) (sym (lines_before n (map told.Start starts) last))
    ∙ sym (lines_before n (map told.Command held) (map told.Start starts ++ last))
    ∙ ap (λ (ds : List Done). lines_of_step n (map told.Command ds ++ (map told.Start starts ++ last))) same
    ∙ ap (λ (ss : List Start). lines_of_step n (map told.Command commands ++ (map told.Start ss ++ last))) begun
    ∙ ap (λ (ls : List Late). lines_of_step n (map told.Command commands ++ (map told.Start notices.starts ++ (map late_line ls ++ last)))) (sym none)
    ∙ ap (λ (cs : List Callback). lines_of_step n (map told.Command commands ++ (map told.Start notices.starts ++ (map late_line notices.late ++ (map told.Call cs ++ last))))) (sym calm)
