-- Inputs in memory: what a name stands for, and what a read of one file leaves.
use Rattle.std.proofs.Common.{◌≡◌, ◌≢◌, ℕ, ◌+◌, ◌-◌, ◌≤◌, List, [], ◌++◌, length, take, drop, get_or, Option, Some, None, refl, sym, ap, ◌∙◌, arith}
use Rattle.std.specs.Prelude.{slice_get, position, IfSome, MatchOption}
use Rattle.std.proofs.lemmas.Grind.{common_steps}
use Rattle.std.proofs.lemmas.Bool.Decides.{nat_tests}
use Rattle.std.proofs.lemmas.List.{take-append-drop, drop-drop}
use Rattle.std.proofs.lemmas.List.Quantifiers.{position-Some}
use Rattle.std.proofs.lemmas.Option.{slice_get-get_or}
use Rattle.std.proofs.lemmas.Slice.Eq.{bytes_eq-Decides}
use Rattle.std.specs.Option.{option_map}
use Rattle.pm_io.specs.Inputs.{File, nothing, Advances}
use Rattle.pm_io.specs.MemInputs.{NamedFile, is_named, FoundFile, file_of, stop_of, reach_of, input_in}
use Rattle.pm_base.proofs.ListLemmas.{find-Some, find-None}

-- a read takes no more than there is
pub reach_of-le : (file : File) (place : ℕ) → reach_of file place ≤ length file.bytes - place
reach_of-le file place = within file.fails_at
  where
    within : (fails_at : Option ℕ) → stop_of fails_at (length file.bytes) place - place ≤ length file.bytes - place
    within None = omega arith
    within (Some at) = grind (arith, nat_tests)

-- a read doesn't go past the failing byte
reach_of-not_past : (file : File) (place count : ℕ) → file.fails_at ≢ Some place → count ≤ reach_of file place → IfSome file.fails_at (λ at. place ≤ at → place + count ≤ at)
reach_of-not_past file place count free few = bound file.fails_at free few
  where
    bound : (fails_at : Option ℕ) → fails_at ≢ Some place → count ≤ stop_of fails_at (length file.bytes) place - place → IfSome fails_at (λ at. place ≤ at → place + count ≤ at)
    bound None free few = tt
    bound (Some at) free few = λ ahead.
        let apart : at ≢ place = λ same. free (ap Some same) in
        grind (arith, nat_tests)

-- a read of a file takes its next bytes
pub Advances-read : (held : NamedFile) (place count : ℕ) (got : List ℕ) → held.file.fails_at ≢ Some place → count ≤ reach_of held.file place → got ≡ take count (drop place held.file.bytes) → Advances (input_in (Some held) place) (input_in (Some held) (place + count)) got
Advances-read held place count got free few is = record {
  name = refl;
  file = refl;
  place = let within = reach_of-le held.file place in grind (arith, common_steps);
  taken = rw is (sym (take-append-drop count (drop place held.file.bytes)) ∙ ap (λ bytes. take count (drop place held.file.bytes) ++ bytes) (drop-drop count place held.file.bytes));
  not_past = reach_of-not_past held.file place count free few;
}

-- what is found by its name, and what isn't
found : (name : List ℕ) (files : List NamedFile) (place : ℕ) → position (is_named name) files ≡ Some place → FoundFile name files place
found name files place here =
    let none : NamedFile = record { name = []; file = nothing.file } in
    let facts = position-Some (is_named name) files place none here in
    let at : slice_get files place ≡ Some (get_or files place none) = slice_get-get_or files place none facts.0 in
    record {
      held = get_or files place none;
      at = at;
      named = (bytes_eq-Decides (get_or files place none).name name).0 facts.1;
      shown = ap (option_map (λ (held : NamedFile). held.file)) (find-Some (is_named name) files place here ∙ at);
    }

pub found_or_not : (name : List ℕ) (files : List NamedFile) (place : Option ℕ) → position (is_named name) files ≡ place → MatchOption place (file_of name files ≡ None) (FoundFile name files)
found_or_not name files None here = ap (option_map (λ (held : NamedFile). held.file)) (find-None (is_named name) files here)
found_or_not name files (Some place) here = found name files place here
