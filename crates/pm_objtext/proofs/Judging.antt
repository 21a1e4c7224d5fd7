-- Lines that are judged one after another.
use Rattle.std.proofs.Common.{◌≡◌, ℕ, ◌+◌, List, [], ◌∷◌, Option, Some, None, Result, Ok, Err, refl, ap, sym, ◌∙◌, subst}
use Rattle.pm_object.specs.declared.object.Object.{Object}
use Rattle.pm_object.specs.Answers.{FailsAs}
use Rattle.pm_objtext.specs.declared.fault.TextCause.{TextCause}
use Rattle.pm_objtext.specs.declared.fault.TextFault.{TextFault}
use Rattle.pm_objtext.specs.declared.fault.BuildError.{BuildError}
use Rattle.pm_objtext.specs.declared.fault.BuildError.TheVariants.{Bad, Memory}
use Rattle.pm_objtext.specs.Answers.{Gives, fault_in}
use Rattle.pm_objtext.specs.Reading.{item_of}
use Rattle.pm_objtext.specs.SoFar.{SoFar}
use Rattle.pm_objtext.specs.Causes.{end_cause}
use Rattle.pm_objtext.specs.FirstBad.{line_cause, after_line, bad_or, first_bad_from, said_by}
use Rattle.pm_objtext.specs.Building.{unless_bad, judged}
use Rattle.pm_objtext.specs.Draft.{unless, reading, finished}

bad_line : (cause : Option TextCause) (n : ℕ) (d : SoFar) (later : Option TextFault) (last : SoFar) (f : TextFault) → unless n cause d ≡ Err f → unless_bad (bad_or cause n later) last ≡ Err f
bad_line None n d later last f is = cc
bad_line (Some cause) n d later last f is = cc

good_line : (cause : Option TextCause) (n : ℕ) (d e : SoFar) (later : Option TextFault) → unless n cause d ≡ Ok e → (d ≡ e) × (bad_or cause n later ≡ later)
good_line None n d e later is = (cc, refl)
good_line (Some cause) n d e later is = cc

last_line : (cause : Option TextCause) (n : ℕ) (d : SoFar) → unless_bad (bad_or cause n None) d ≡ unless n cause d.object
last_line None n d = refl
last_line (Some cause) n d = refl

-- a line that is refused is the first bad one
pub line_fails : (e : BuildError) (n : ℕ) (d : SoFar) (text : List ℕ) (lines : List (List ℕ)) (total : Result Object TextFault) → judged n d (text ∷ lines) ≡ total → FailsAs fault_in e (reading n text d) → FailsAs fault_in e total
unfolding reading
line_fails (Memory e) n d text lines total all fails = tt
line_fails (Bad f) n d text lines total all fails = sym all ∙ bad_line (line_cause (item_of text) d) n (after_line (item_of text) d) _ _ f fails

-- a line that is taken leads to the later ones
pub line_passes : (n : ℕ) (d e : SoFar) (text : List ℕ) (lines : List (List ℕ)) (total : Result Object TextFault) → judged n d (text ∷ lines) ≡ total → reading n text d ≡ Ok e → judged (n + 1) e lines ≡ total
unfolding reading
line_passes n d e text lines total all is =
    let parts = good_line (line_cause (item_of text) d) n (after_line (item_of text) d) e (first_bad_from (n + 1) (after_line (item_of text) d) lines) is in
    ap (λ (after : SoFar). judged (n + 1) after lines) (sym parts.0) ∙ ap (λ bad. unless_bad bad (said_by (after_line (item_of text) d) lines)) (sym parts.1) ∙ all

-- the end of the text
pub text_ends : (result : Result Object BuildError) (n : ℕ) (d : SoFar) (total : Result Object TextFault) → judged n d [] ≡ total → Gives result (finished n d) → Gives result total
unfolding finished
text_ends result n d total all gives = subst (λ (read : Result Object TextFault). Gives result read) (sym (last_line (end_cause d) n d) ∙ all) gives
