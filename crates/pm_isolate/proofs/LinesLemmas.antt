-- Lines of a script that are run one after another in both books.
use Rattle.std.proofs.Common.{◌≡◌, ℕ, ◌+◌, List, [], ◌∷◌, Result, Ok, Err, refl, sym, ◌∙◌, ap, arith, inl, inr}
use Rattle.pm_base.specs.declared.events.Event.{Event}
use Rattle.pm_base.specs.declared.names.NodeId.{NodeId}
use Rattle.pm_reader.specs.declared.follow.LineStop.{LineStop}
use Rattle.pm_reader.specs.declared.follow.LineStop.TheVariants as stops
use Rattle.pm_reader.specs.Follow.{FailsWithin, Followed, GoesThrough}
use Rattle.pm_reader.specs.declared.follow.LinesEnd as reader
use Rattle.pm_script.specs.Script.{Script}
use Rattle.pm_isolate.specs.declared.lines.Watcher.{Watcher}
use Rattle.pm_isolate.specs.Sides.{Sides}
use Rattle.pm_isolate.specs.Within.{RanLines, Watches, after, stepped}

err_is_ok : {X Y : Type 0} {x : X} {y : Y} → Err y ≡ Ok x → ⊥
err_is_ok e = cc

-- both books after lines, and what is watched is the same
pub record Watched (m : NodeId) (events : List Event) (old new : Watcher) : Type 0 where
  pub worlds : new.worlds.now ≡ after m events old.worlds.now
  pub same : new.worlds.ghost_name ≡ old.worlds.ghost_name

through : (m : NodeId) (n : ℕ) (events : List Event) (old new : Watcher) → old.m ≡ m → GoesThrough Watches n events old new → Watched m events old new
through m n [] old new is same = record { worlds = ap (λ (w : Watcher). w.worlds.now) (sym same); same = ap (λ (w : Watcher). w.worlds.ghost_name) (sym same) }
through m n (event ∷ events) old new is (mid, one, rest) =
    let later = through m (n + 1) events mid new (one.m ∙ is) rest in
    record {
      worlds = later.worlds ∙ ap (λ (w : Sides). after m events w) (one.worlds ∙ ap (λ (m : NodeId). stepped m event old.worlds.now) is);
      same = later.same ∙ one.same;
    }

never : (n : ℕ) (events : List Event) (old new : Watcher) → FailsWithin Watches n events old new → ⊥
never n [] old new none = none
never n (event ∷ events) old new (inl (failed, one)) = err_is_ok one.ok
never n (event ∷ events) old new (inr (mid, one, rest)) = never (n + 1) events mid new rest

pub lines_end : (s : Script) (old new : Watcher) (result : Result reader.LinesEnd LineStop) → Followed Watches 1 s old new result → RanLines old.m s old.worlds.now new.worlds.now result
lines_end s old new (Ok end) did = (did.1, (through old.m 1 s.events old new refl did.0).worlds, omega (arith, did.2))
lines_end s old new (Err (stops.Bad n cause)) did = (did.1, did.2)
lines_end s old new (Err stops.Broken) did = never 1 s.events old new did

pub watches_same : (s : Script) (old new : Watcher) (result : Result reader.LinesEnd LineStop) → Followed Watches 1 s old new result → new.worlds.ghost_name ≡ old.worlds.ghost_name
watches_same s old new (Ok end) did = (through old.m 1 s.events old new refl did.0).same
watches_same s old new (Err (stops.Bad n cause)) did = (through old.m 1 s.events old new refl did.0).same
watches_same s old new (Err stops.Broken) did = absurd (never 1 s.events old new did)
