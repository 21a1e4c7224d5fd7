-- Bytes of an input that were read one after another.
use Rattle.std.proofs.Common.{◌≡◌, ℕ, ◌≤◌, List, [], ◌++◌, refl, sym, ◌∙◌, ap, arith, Option, Some, None, append_assoc}
use Rattle.std.specs.Prelude.{IfSome}
use Rattle.std.proofs.lemmas.List.{length-append}
use Rattle.pm_io.specs.Inputs.{Advances, File, Input, Moment, Took, rest}

same_place : (fails_at : Option ℕ) (place : ℕ) → IfSome fails_at (λ at. place ≤ at → place ≤ at)
same_place None place = tt
same_place (Some at) place = λ before. before

pub Took-refl : (shown : Type 0) (id : ℕ) (m : Moment) → Took shown id [] m m
Took-refl shown id m = record {
  later = omega arith;
  read = λ seen. record { name = refl; file = refl; place = omega arith; taken = refl; not_past = same_place (m.input id).file.fails_at (m.input id).place };
  others = λ seen other differs. refl;
  files = λ seen name. refl;
  room = λ seen. omega arith;
}

passes : (first second : Option ℕ) (a b c : ℕ) → second ≡ first → IfSome first (λ at. a ≤ at → b ≤ at) → IfSome second (λ at. b ≤ at → c ≤ at) → IfSome first (λ at. a ≤ at → c ≤ at)
passes None second a b c same one two = tt
passes (Some at) None a b c same one two = cc
passes (Some at) (Some other) a b c same one two = λ before. let is : other ≡ at = cc in let mid : b ≤ at = one before in let last : c ≤ other = two (omega arith) in omega arith

Advances-trans : (old mid new : Input) (first second : List ℕ) → Advances old mid first → Advances mid new second → Advances old new (first ++ second)
Advances-trans old mid new first second one two = record {
  name = two.name ∙ one.name;
  file = two.file ∙ one.file;
  place = omega (arith, one.place, two.place, length-append first second);
  taken = one.taken ∙ (ap (λ (xs : List ℕ). first ++ xs) two.taken ∙ sym (append_assoc first second (rest new)));
  not_past = passes old.file.fails_at mid.file.fails_at old.place mid.place new.place (ap (λ (f : File). f.fails_at) one.file) one.not_past two.not_past;
}

pub Took-trans : (shown : Type 0) (id : ℕ) (first second : List ℕ) (old mid new : Moment) → Took shown id first old mid → Took shown id second mid new → Took shown id (first ++ second) old new
Took-trans shown id first second old mid new one two = record {
  later = omega (arith, one.later, two.later);
  read = λ seen. Advances-trans (old.input id) (mid.input id) (new.input id) first second (one.read seen) (two.read seen);
  others = λ seen other differs. two.others seen other differs ∙ one.others seen other differs;
  files = λ seen name. two.files seen name ∙ one.files seen name;
  room = λ seen. let a = one.room seen in let b = two.room seen in omega (arith, a, b);
}
