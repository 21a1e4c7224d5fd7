-- No word begins at the end of the text, at a comment, or in a plain text at a byte that is no blank and none of a word.
use Rattle.std.proofs.Common.{◌≡◌, ◌∙◌, ◌<◌, None, arith, length, refl, sym}
use Rattle.std.proofs.lemmas.Grind.{common_steps}
use Rattle.pm_io.proofs.WordsLemmas.{words_from-none}
use Rattle.pm_script.proofs.WordsLemmas.{comment_begins, unsolid_begins}
use Rattle.pm_script.proofs.words.next_word.Goals.{then-start-text-via-then-start-text, then-start-text-via-else-start-text+then-text-start-eq35, then-start-text-via-else-start-text+else-text-start-eq35+then-not-is_solid}
use Rattle.pm_script.proofs.words.next_word.Goals as goal

pub returns-then-start-text-clause-word : goal.returns-then-start-text-clause-word
returns-then-start-text-clause-word c plain =
    let text = c.args.text.now in
    let start = c.blanks_end-start.result in
    let skipped = c.blanks_end-start.ensures in
    sym skipped.words ∙ elim c.then-start-text.branch [
      | then-start-text-via-then-start-text w ↦ words_from-none text start None (grind (arith, common_steps)) refl
      | then-start-text-via-else-start-text+then-text-start-eq35 w ↦ comment_begins text start (grind (arith, common_steps)) (grind (arith, common_steps))
      | then-start-text-via-else-start-text+else-text-start-eq35+then-not-is_solid w ↦
          let within : start < length text = grind (arith, common_steps) in
          unsolid_begins text start within (skipped.stops within) (sym w.is_solid.ensures ∙ w.if-not-is_solid.true) (skipped.plain ∙ plain)
    ]
