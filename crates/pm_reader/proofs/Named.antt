-- The script of a begun input is the one that is read under the name.
use Rattle.std.proofs.Common.{◌≡◌, ℕ, List, Option, Some, None, refl, sym, ◌∙◌, ap, arith, inl, inr}
use Rattle.std.specs.Prelude.{◌⊎◌}
use Rattle.std.proofs.lemmas.Bool.Decides.{nat_tests}
use Rattle.pm_io.specs.Inputs.{Began, CannotBegin, File, Moment}
use Rattle.pm_io.specs.Prefix.{Prefix, prefix_before, prefix_of, unbegun}
use Rattle.pm_script.specs.Named.{script_in}
use Rattle.pm_script.specs.Script.{Script, script_from, script_limit, script_lines, script_of, stop_of}
use Rattle.pm_script.proofs.NamedLemmas.{script_some}
use Rattle.pm_reader.specs.Follow.{OfScript}
use Rattle.pm_reader.proofs.Future.{is_begun}

of_file : (limit room : ℕ) (seen : Option File) (file : File) → seen ≡ Some file → (room ≡ 0 → ⊥) → prefix_of limit seen room ≡ prefix_before limit file.fails_at file.bytes
of_file limit room seen file is some = rw is (grind (arith, nat_tests))

module _ (shown : Type 0) (name : List ℕ) (id : ℕ) (first begun : Moment) where
  -- what is read under a name that was begun
  pub script_begun : (Holds : Script → Type 0) (of : OfScript shown id begun Holds) → (shown → Began name id first begun) → (shown → CannotBegin name first → ⊥) → shown → script_in first name ≡ Some (script_from (script_lines of.prefix) (stop_of of.prefix.stop))
  script_begun Holds of starts can seen =
      let start = starts seen in
      let file : File = (begun.input id).file in
      let read : prefix_of script_limit (first.file name) first.room ≡ prefix_before script_limit file.fails_at file.bytes =
      of_file script_limit first.room (first.file name) file start.front.file (λ none. can seen (inr none))
      in
      ap script_of (read ∙ sym (of.is seen start.front.place)) ∙ script_some of.prefix of.begun

-- something that holds of every script holds of that of a begun input
pub of_any : (shown : Type 0) (id : ℕ) (before : Moment) (Holds : Script → Type 0) → ((s : Script) → Holds s) → OfScript shown id before Holds
of_any shown id before Holds holds =
    let p : Prefix = prefix_before script_limit (before.input id).file.fails_at (before.input id).file.bytes in
    record {
      prefix = p;
      begun = is_begun script_limit (before.input id).file.fails_at (before.input id).file.bytes;
      is = λ seen front. refl;
      holds = holds (script_from (script_lines p) (stop_of p.stop));
    }

-- something else that follows holds too
pub of_more : (shown : Type 0) (id : ℕ) (before : Moment) (Holds Then : Script → Type 0) → ((s : Script) → Holds s → Then s) → OfScript shown id before Holds → OfScript shown id before Then
of_more shown id before Holds Then step of = record { prefix = of.prefix; begun = of.begun; is = of.is; holds = step (script_from (script_lines of.prefix) (stop_of of.prefix.stop)) of.holds }

-- nothing is read under a name that can't be begun
none_of : (limit room : ℕ) (seen : Option File) → (seen ≡ None) ⊎ (room ≡ 0) → prefix_of limit seen room ≡ unbegun
none_of limit room None cannot = refl
none_of limit room (Some file) (inl none) = cc
none_of limit room (Some file) (inr full) = grind (arith, nat_tests)

pub script_unbegun : (name : List ℕ) (m : Moment) → CannotBegin name m → script_in m name ≡ None
script_unbegun name m cannot = ap script_of (none_of script_limit m.room (m.file name) cannot)
