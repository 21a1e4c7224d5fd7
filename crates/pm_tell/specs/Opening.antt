-- What is done before any master is told of a step.
use Rattle.std.specs.Prelude.{ℕ, ◌+◌, List, [], ◌∷◌, ◌++◌, map, Option, Some, None, if◌then◌else◌}
use Rattle.pm_object.specs.declared.object.MasterRec.{MasterRec}
use Rattle.pm_procs.specs.Pending.{asked, ended}
use Rattle.pm_tell.specs.declared.ended.Ended.{Ended}
use Rattle.pm_values.specs.declared.turns.Turns.{Turns}
use Rattle.pm_calls.specs.declared.verdict.Say.{Say}
use Rattle.pm_calls.specs.declared.verdict.Say.TheVariants.{Ask as SaysAsk, Register as SaysRegister, Renew as SaysRenew, Unwatch as SaysUnwatch}
use Rattle.pm_state.specs.Talk.{Talk, Ask, End, Forget, Lower, Notify, Renew, Unwatch}

-- the master at place m forgets, if it became off
abbrev pub forget_at : Turns → ℕ → List Talk
forget_at turns m = if turns.off then Forget m ∷ [] else []

-- each of these masters that became off forgets, in object order; the first of them has place m
abbrev pub forgets_from : (ℕ → Turns) → ℕ → List MasterRec → List Talk
forgets_from turns m [] = []
forgets_from turns m (master ∷ masters) = forget_at (turns m) m ++ forgets_from turns (m + 1) masters

-- this time passes, if any does
abbrev pub lower_by : Option ℕ → List Talk
lower_by None = []
lower_by (Some count) = Lower count ∷ []

-- these requests end
abbrev pub ends : List Ended → List Talk
ends ended = map (λ (e : Ended). End e.target) ended

-- what the masters are told is as at load, if all is restarted; and none is told of anything any more, if another
-- object is in force
abbrev pub sweep_by : Option Say → List Talk
sweep_by (Some SaysRenew) = Renew ∷ []
sweep_by (Some SaysUnwatch) = Unwatch ∷ []
sweep_by _ = []

-- a master is asked, or a notifier is put
abbrev pub say_by : Option Say → List Talk
say_by (Some (SaysAsk asked)) = Ask asked.target asked.request ∷ []
say_by (Some (SaysRegister put)) = Notify put.master put.node put.event put.on ∷ []
say_by _ = []

-- what a step does before any master is told of it: all is as at load, if all is restarted, or no notifier is left, if
-- another object is in force; masters that became off forget, a notifier is put or a master is asked, time passes, and
-- requests end
abbrev pub talk_of : Option Say → List Talk → Option ℕ → List Ended → List Talk
talk_of says forgets count ended = sweep_by says ++ (forgets ++ (say_by says ++ (lower_by count ++ ends ended)))
