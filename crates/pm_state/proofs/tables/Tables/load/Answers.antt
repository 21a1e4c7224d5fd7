use Rattle.std.proofs.Common.{◌≡◌, Ok, Err, refl, sym, subst}
use Rattle.std.specs.Prelude.{IfOk, Result}
use Rattle.pm_state.specs.Load.{load_of}
use Rattle.pm_state.specs.Sound.{IsSound}
use Rattle.pm_state.specs.State.{State}
use Rattle.pm_state.proofs.tables.Tables.load.Goals as goal

-- a book that is another one is sound where that is
sound_if : {E : Type 0} (result : Result State E) (book : State) → IfOk result (λ loaded. loaded ≡ book) → IsSound book → IfOk result IsSound
sound_if (Ok loaded) book is sound = let P : State → Type 0 = λ b. IsSound b in subst P (sym is) sound
sound_if (Err error) book is sound = tt

pub returns-clause-sound : goal.returns-clause-sound
returns-clause-sound c =
    sound_if c.load_tables.result (load_of c.args.object c.args.attached c.args.topology) c.load_tables.ensures
    (c.loads_are_sound.ensures.load (load_of c.args.object c.args.attached c.args.topology).fixed c.args.object 0 refl)
