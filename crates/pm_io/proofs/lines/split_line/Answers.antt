use Rattle.std.proofs.Common.{◌≡◌, [], ◌∙◌, sym, refl, arith, None, position, Some}
use Rattle.std.proofs.lemmas.List.{take_rest}
use Rattle.pm_io.specs.declared.lines.Ending.{Ending}
use Rattle.pm_io.specs.declared.lines.Ending.TheVariants.{Whole, Cut}
use Rattle.pm_io.specs.Lines.{lines, least_length}
use Rattle.pm_io.proofs.LinesLemmas.{is_feed, line_by_feed, last_line, no_line}
use Rattle.pm_io.proofs.lines.split_line.Goals as goal

pub returns-in-Some-clause-lines : goal.returns-in-Some-clause-lines
returns-in-Some-clause-lines c =
    let found : position is_feed c.args.text.now ≡ Some c.in-Some.at = sym c.first_feed.ensures ∙ c.in-Some.is in
    rw take_rest (line_by_feed (least_length c.args.ending) c.args.text.now c.in-Some.at found)

pub returns-in-None-clause-lines : goal.returns-in-None-clause-lines
returns-in-None-clause-lines c =
    let none : position is_feed c.args.text.now ≡ None = sym c.first_feed.ensures ∙ c.in-None.is in
    no_line (least_length c.args.ending) c.args.text.now none (omega arith)

-- an empty text has no line
nothing_left : (ending : Ending) → lines ending [] ≡ []
nothing_left Whole = refl
nothing_left Cut = refl

pub returns-in-None-2-clause-lines : goal.returns-in-None-2-clause-lines
returns-in-None-2-clause-lines c =
    let none : position is_feed c.args.text.now ≡ None = sym c.first_feed.ensures ∙ c.in-None.is in
    rw (nothing_left c.args.ending) (last_line (least_length c.args.ending) c.args.text.now none (omega arith))
