use Rattle.std.proofs.Common.{◌≡◌, ℕ, ◌++◌, Bool, List, length, take, drop, sym, ◌∙◌, ap}
use Rattle.std.specs.Prelude.{replicate}
use Rattle.std.proofs.lemmas.List.{length-replicate}
use Rattle.pm_base.specs.declared.names.Mode.{Mode}
use Rattle.pm_values.specs.declared.turns.Turns.{Turns}
use Rattle.pm_values.specs.Along.{Trail, down_in, mode_beside, modes_of, no_turns}
use Rattle.pm_state.specs.Values.{placed}
use Rattle.pm_values.proofs.AlongLaw.{all_forgotten}
use Rattle.pm_values.proofs.CachesLaw.{written_back}
use Rattle.pm_state.proofs.PlacedLemmas.{length-placed}
use Rattle.pm_values.proofs.along.Along.start.Goals as goal

pub returns : goal.returns
returns c =
    let book = c.args.tables.now in
    let masters : ℕ = length book.fixed.object.masters in
    let procs : ℕ = length book.fixed.topology.procs in
    let was = c.self.inside in
    let modes = c.log_modes.new.modes in
    let turns = c.forget.new.turns in
    let downs = c.log_downs.new.downs in
    let trail : List Mode → List Turns → List Bool → Trail = λ ms ts ds. record { modes = ms; turns = ts; downs = ds } in
    let put_turns = take was.turns.len (turns ++ drop (length turns) was.turns.items) in
    let put_downs = take was.downs.len (downs ++ drop (length downs) was.downs.items) in
    let none : List Turns = replicate masters no_turns in
    let each_mode : length c.deref_mut.result.now ≡ masters =
    ap length c.deref_mut.ensures.value ∙ (ap (λ (t : Trail). length t.modes) c.self.view_is ∙ c.requires.modes)
    in
    let each_turn : length c.deref_mut-2.result.now ≡ masters =
    ap length c.deref_mut-2.ensures.value ∙ (ap (λ (t : Trail). length t.turns) c.self.view_is ∙ c.requires.turns)
    in
    let each_down : length c.deref_mut-3.result.now ≡ procs =
    ap length c.deref_mut-3.ensures.value ∙ (ap (λ (t : Trail). length t.downs) c.self.view_is ∙ c.requires.downs)
    in
    let modes_are : take was.modes.len (modes ++ drop (length modes) was.modes.items) ≡ modes_of book =
    written_back modes was.modes.items was.modes.len
    (ap length c.log_modes.ensures ∙ (length-placed (mode_beside book) 0 book.fixed.object.masters ∙ (sym each_mode ∙ c.deref_mut.ensures.len)))
    ∙ c.log_modes.ensures
    in
    let gone : turns ≡ none = c.forget.ensures ∙ all_forgotten masters c.deref_mut-2.result.now each_turn in
    let turns_are : put_turns ≡ none =
    written_back turns was.turns.items was.turns.len (ap length gone ∙ (length-replicate masters no_turns ∙ (sym each_turn ∙ c.deref_mut-2.ensures.len)))
    ∙ gone
    in
    let downs_are : put_downs ≡ placed (down_in book) 0 book.fixed.topology.procs =
    written_back downs was.downs.items was.downs.len
    (ap length c.log_downs.ensures ∙ (length-placed (down_in book) 0 book.fixed.topology.procs ∙ (sym each_down ∙ c.deref_mut-3.ensures.len)))
    ∙ c.log_downs.ensures
    in
    ap (λ ms. trail ms put_turns put_downs) modes_are
    ∙ (ap (λ ts. trail (modes_of book) ts put_downs) turns_are ∙ ap (trail (modes_of book) none) downs_are)
