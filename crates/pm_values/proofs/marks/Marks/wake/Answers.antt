use Rattle.std.proofs.Common.{◌≡◌, ℕ, Bool, true, ◌++◌, List, length, take, drop, sym, ◌∙◌, ap, subst}
use Rattle.std.proofs.lemmas.List.{length-set}
use Rattle.pm_values.specs.Kinds.{AreInWords, with_bit, woken_at}
use Rattle.pm_values.proofs.CachesLaw.{written_back}
use Rattle.pm_values.proofs.WordsLaw.{in_words_woken}
use Rattle.pm_values.proofs.marks.Marks.wake.Goals as goal

pub invariant_of-self : goal.invariant_of-self
invariant_of-self c =
    let k = c.args.k in
    let units = c.self.inside.units in
    let words = c.self.inside.words in
    let units_len : length c.mark.new.marks ≡ units.len =
    ap length c.mark.ensures ∙ (length-set c.deref_mut.result.now k true ∙ c.deref_mut.ensures.len)
    in
    let words_len : length c.set_bit.new.words ≡ words.len =
    ap length c.set_bit.ensures ∙ (length-set c.deref_mut-2.result.now _ _ ∙ c.deref_mut-2.ensures.len)
    in
    let units_are : take units.len (c.mark.new.marks ++ drop (length c.mark.new.marks) units.items) ≡ woken_at k units.items =
    written_back c.mark.new.marks units.items units.len units_len ∙ (c.mark.ensures ∙ ap (woken_at k) c.deref_mut.ensures.value)
    in
    let words_are : take words.len (c.set_bit.new.words ++ drop (length c.set_bit.new.words) words.items) ≡ with_bit k words.items =
    written_back c.set_bit.new.words words.items words.len words_len ∙ (c.set_bit.ensures ∙ ap (with_bit k) c.deref_mut-2.ensures.value)
    in
    let Units : List Bool → Type 0 = λ us. AreInWords us (with_bit k words.items) in
    let Words : List ℕ → Type 0 = λ ws. AreInWords (take units.len (c.mark.new.marks ++ drop (length c.mark.new.marks) units.items)) ws in
    subst Words (sym words_are) (subst Units (sym units_are) (in_words_woken k units.items words.items c.self.invariant))
