-- A name that holds bytes within a limit, and can't fail, is read whole, and so is a script each of whose lines has a meaning.
use Rattle.std.proofs.Common.{◌≡◌, ℕ, ◌≤◌, ◌<◌, ◌==◌, min, Bool, true, false, if◌then◌else◌, List, [], ◌∷◌, length, refl, sym, ◌∙◌, ap, subst, arith, Option, Some, None, Result, Ok, Err, inl, inr}
use Rattle.std.specs.Prelude.{IsSomeAnd, map}
use Rattle.std.proofs.lemmas.Bool.{cases_lt}
use Rattle.std.proofs.lemmas.Bool.Decides.{Decides-eqb, nat_tests}
use Rattle.pm_base.specs.declared.events.Event.{Event}
use Rattle.pm_io.specs.declared.prefix.StopReason.TheVariants.{End}
use Rattle.pm_io.specs.Inputs.{FailsWithin, File, Holds, MayFail, Moment}
use Rattle.pm_io.specs.Lines.{lines_of}
use Rattle.pm_io.specs.Prefix.{Prefix, prefix_before, prefix_of, unbegun}
use Rattle.pm_object.specs.declared.object.Object.{Object}
use Rattle.pm_object.specs.Reading.{reading}
use Rattle.pm_script.specs.declared.meaning.LineFault.{LineFault}
use Rattle.pm_script.specs.Meaning.{meaning}
use Rattle.pm_script.specs.Named.{IsScript}
use Rattle.pm_script.specs.Script.{before, script_from, script_of}
use Rattle.pm_script.specs.Script.Stop.{End as AtEnd}
use Rattle.pm_top.specs.Asked.{object_limit}

-- what is read of bytes to their end
abbrev pub all_of : List ℕ → Prefix
all_of bytes = record { bytes = bytes; stop = End }

-- ---- a name

whole_before : (limit : ℕ) (fails_at : Option ℕ) (bytes : List ℕ) → length bytes ≤ limit → (IsSomeAnd fails_at (λ at. at ≤ min (length bytes) limit) → ⊥) → prefix_before limit fails_at bytes ≡ all_of bytes
whole_before limit None bytes fits sure = grind (arith, nat_tests)
whole_before limit (Some at) bytes fits sure =
    let above : min limit (length bytes) < at = elim (cases_lt (min limit (length bytes)) at) [
      | inl less ↦ less
      | inr not ↦ let reach : at ≤ min (length bytes) limit = omega arith in absurd (sure reach)
    ] in
    grind (arith, nat_tests)

whole_of : (limit : ℕ) (shown : Option File) (room : ℕ) (bytes : List ℕ) → IsSomeAnd shown (λ file. file.bytes ≡ bytes) → length bytes ≤ limit → (room ≡ 0 → ⊥) → (IsSomeAnd shown (FailsWithin limit) → ⊥) → prefix_of limit shown room ≡ all_of bytes
whole_of limit None room bytes held fits can sure = absurd held
whole_of limit (Some file) room bytes held fits can sure = by (room == 0) refl
  where
    by : (full : Bool) → (room == 0) ≡ full → (if full then unbegun else prefix_before limit file.fails_at file.bytes) ≡ all_of bytes
    by true same = absurd (can ((Decides-eqb room 0).0 same))
    by false same = whole_before limit file.fails_at file.bytes (subst (λ (b : List ℕ). length b ≤ limit) (sym held) fits) sure ∙ ap all_of held

-- a name that holds bytes within the limit, and can't fail, is read to its end
pub whole : (limit : ℕ) (m : Moment) (name : List ℕ) (room : ℕ) (bytes : List ℕ) → Holds m name bytes → length bytes ≤ limit → (room ≡ 0 → ⊥) → (MayFail name limit m → ⊥) → prefix_of limit (m.file name) room ≡ all_of bytes
whole limit m name room bytes held fits can sure = whole_of limit (m.file name) room bytes held fits can (λ fails. sure (inr fails))

-- ---- an object

ok_is_err : {X Y : Type 0} {x : X} {y : Y} → ◌≡◌ {A = Result X Y} (Err y) (Ok x) → ⊥
ok_is_err e = cc

-- bytes that are read as an object are no more than an object may have
pub object_fits : (bytes : List ℕ) (o : Object) → reading bytes ≡ Ok o → length bytes ≤ object_limit
unfolding reading
object_fits bytes o is = elim (cases_lt object_limit (length bytes)) [
  | inl long ↦ grind (arith, nat_tests)
  | inr fits ↦ omega arith
]

-- ---- a script

lines_whole : (lines : List (List ℕ)) (events : List Event) → map meaning lines ≡ map (λ event. Ok event) events → script_from lines AtEnd ≡ record { events = events; stop = AtEnd }
unfolding script_from
lines_whole [] [] is = refl
lines_whole [] (event ∷ events) is = cc
lines_whole (line ∷ lines) [] is = cc
lines_whole (line ∷ lines) (event ∷ events) is =
    let first : meaning line ≡ Ok event = cc in
    let rest : map meaning lines ≡ map (λ event. Ok event) events = cc in
    ap (λ (means : Result Event LineFault). before means (script_from lines AtEnd)) first ∙ ap (before (Ok event)) (lines_whole lines events rest)

-- a script whose lines can all be read comes to its end
pub script_whole : (bytes : List ℕ) (events : List Event) → IsScript bytes events → script_of (all_of bytes) ≡ Some (record { events = events; stop = AtEnd })
script_whole bytes events means = ap (λ s. Some s) (lines_whole (lines_of bytes) events means)
