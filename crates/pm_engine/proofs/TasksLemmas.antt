-- The calls of tasks that are left are made one after another, and each is written.
use Rattle.std.proofs.Common.{◌≡◌, ℕ, List, [], ◌∷◌, ◌++◌, map, Result, sym, subst}
use Rattle.std.specs.Prelude.{⊤}
use Rattle.pm_base.specs.declared.errors.Failed.{Failed}
use Rattle.pm_io.specs.declared.sink.Sink as Sink
use Rattle.pm_split.specs.Split.{Note}
use Rattle.pm_tasks.specs.declared.tasks.Fired.{Fired}
use Rattle.pm_trace.specs.Notes.{notes_text}
use Rattle.pm_drive.specs.Tasks.{fired_note}
use Rattle.pm_engine.specs.Writes.{WritesOn}
use Rattle.pm_engine.proofs.WritesLemmas.{notes_after, on-both, on-none}

module _ {O : Type 0} (o : Sink.Ghosts O) (n : ℕ) where
  -- notes after notes
  pub notes_on : (a b : List Note) (s f r : Result ⊤ Failed) (old via new : O) → WritesOn o (notes_text n a) s f old via → WritesOn o (notes_text n b) f r via new → WritesOn o (notes_text n (a ++ b)) s r old new
  notes_on a b s f r old via new first second =
      subst (λ (text : List ℕ). WritesOn o text s r old new) (sym (notes_after n a b))
      (on-both o (notes_text n a) (notes_text n b) s f r old via new first second)

  -- part of the way: however the calls that are left are written, all of them are written so, from where the sink was when
  -- they began
  abbrev pub AreCalled : List Fired → List Fired → Result ⊤ Failed → Result ⊤ Failed → O → O → Type 0
  AreCalled all left written so_far first old =
      (result : Result ⊤ Failed) (new : O) → WritesOn o (notes_text n (map fired_note left)) so_far result old new → WritesOn o (notes_text n (map fired_note all)) written result first new

  -- one more is made and written
  pub one_call : (all before left : List Fired) (fired : Fired) (written so_far far : Result ⊤ Failed) (first old via : O)
      → before ≡ fired ∷ left
      → AreCalled all before written so_far first old
      → WritesOn o (notes_text n (fired_note fired ∷ [])) so_far far old via
      → AreCalled all left written far first via
  one_call all before left fired written so_far far first old via is way one = λ result new rest.
      let P : List Fired → Type 0 = λ fired. WritesOn o (notes_text n (map fired_note fired)) so_far result old new in
      way result new (subst P (sym is) (notes_on (fired_note fired ∷ []) (map fired_note left) so_far far result old via new one rest))

  -- none is left
  pub all_called : (all before : List Fired) (written so_far : Result ⊤ Failed) (first old : O)
      → before ≡ []
      → AreCalled all before written so_far first old
      → WritesOn o (notes_text n (map fired_note all)) written so_far first old
  all_called all before written so_far first old is way =
      let P : List Fired → Type 0 = λ fired. WritesOn o (notes_text n (map fired_note fired)) so_far so_far old old in
      way so_far old (subst P (sym is) (on-none o so_far old))
