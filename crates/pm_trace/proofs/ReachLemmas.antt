-- The line of a member of a reach is made of its words one after another.
use Rattle.std.proofs.Common.{◌≡◌, ◌∙◌, ℕ, List, [], ◌∷◌, ◌++◌, Result, Ok, Err, ap, append_assoc, refl}
use Rattle.std.specs.Prelude.{⊤, OnOk}
use Rattle.std.specs.List.{flat_map}
use Rattle.pm_base.specs.declared.errors.NoMemory.{NoMemory}
use Rattle.pm_base.specs.declared.names.NodeId.{NodeId}
use Rattle.pm_reach.specs.declared.members.Member.{Member}
use Rattle.pm_trace.specs.declared.line.Word.{Word}
use Rattle.pm_trace.specs.declared.line.Word.TheVariants.{Number}
use Rattle.pm_trace.specs.Line.{after_space, line_text, word_text}
use Rattle.pm_trace.specs.Reach.{kind_word, member_text, path_words, why_word}
use Rattle.pm_trace.proofs.LineLemmas.{line_of}

six : (t w n y p f : List ℕ) → ((((t ++ w) ++ n) ++ y) ++ p) ++ f ≡ t ++ ((w ++ (n ++ (y ++ p))) ++ f)
six t w n y p f =
    rw (
      append_assoc (((t ++ w) ++ n) ++ y) p f,
      append_assoc ((t ++ w) ++ n) y (p ++ f),
      append_assoc (t ++ w) n (y ++ (p ++ f)),
      append_assoc t w (n ++ (y ++ (p ++ f))),
      append_assoc w (n ++ (y ++ p)) f,
      append_assoc n (y ++ p) f,
      append_assoc y p f,
    ) refl

-- what a member is called, its number, its reason, its path and the line feed make its line
pub member_is_made : (first number why : Word) (path : List Word) (t a b c d e : List ℕ) → a ≡ t ++ word_text first → b ≡ a ++ after_space number → c ≡ b ++ after_space why → d ≡ c ++ flat_map after_space path → e ≡ d ++ 10 ∷ [] → e ≡ t ++ line_text (first ∷ (number ∷ (why ∷ path)))
member_is_made first number why path t a b c d e called counted reasoned led fed =
    rw (fed, led, reasoned, counted, called, line_of first (number ∷ (why ∷ path)))
    (six t (word_text first) (after_space number) (after_space why) (flat_map after_space path) (10 ∷ []))

pub member_written : (member : Member) (first why : Word) (path : List NodeId) (t a b c d e : List ℕ) (result : Result ⊤ NoMemory) → first ≡ kind_word member.kind → why ≡ why_word member.why → path ≡ member.path → a ≡ t ++ word_text first → b ≡ a ++ after_space (Number member.number) → c ≡ b ++ after_space why → d ≡ c ++ flat_map after_space (path_words path) → OnOk result (e ≡ d ++ 10 ∷ []) → OnOk result (e ≡ t ++ member_text member)
member_written member first why path t a b c d e (Ok nothing) kinds whys paths called counted reasoned led fed =
    member_is_made first (Number member.number) why (path_words path) t a b c d e called counted reasoned led fed
    ∙ ap (λ (w : Word). t ++ line_text (w ∷ (Number member.number ∷ (why ∷ path_words path)))) kinds
    ∙ ap (λ (w : Word). t ++ line_text (kind_word member.kind ∷ (Number member.number ∷ (w ∷ path_words path)))) whys
    ∙ ap (λ (p : List NodeId). t ++ line_text (kind_word member.kind ∷ (Number member.number ∷ (why_word member.why ∷ path_words p)))) paths
member_written member first why path t a b c d e (Err error) kinds whys paths called counted reasoned led fed = tt
