-- The effects of a player for a line of a script.
use Rattle.std.specs.Prelude.{◌≡◌, ℕ, Result, ⊤}
use Rattle.pm_base.specs.declared.errors.Failed.{Failed}
use Rattle.pm_base.specs.declared.events.Event.{Event}
use Rattle.pm_io.specs.declared.sink.Sink as Sink
use Rattle.pm_modules.specs.declared.responders.Responder as Responder
use Rattle.pm_tasks.specs.declared.handler.Handler as Handler
use Rattle.pm_board.specs.Standing.{standing}
use Rattle.pm_device.specs.declared.device.Device as Device
use Rattle.pm_run.specs.Run.{Setup, setup_of}
use Rattle.pm_replay.specs.declared.lines.Player.{Player}
use Rattle.pm_replay.specs.Within.{AreTold, RanLine}

module _ {O D H T : Type 0} (o : Sink.Ghosts O) (d : Device.Ghosts D) (responder : Responder.Ghosts H) (handler : Handler.Ghosts T) where
  -- it carries out the line, and goes on with the same parts
  pub record Plays (n : ℕ) (event : Event) (old new : Player O D H T) (result : Result ⊤ Failed) : Type 0 where
    pub ran : (c : Setup) → setup_of old.engine.now.book ≡ c → AreTold old.engine.now.clocks → RanLine o d c n event old.engine.now new.engine.now old.out.now new.out.now old.dev.now new.dev.now (standing responder handler old.modules.now old.tasks.now) (standing responder handler new.modules.now new.tasks.now) result
    pub engine : new.engine.ghost_name ≡ old.engine.ghost_name
    pub out : new.out.ghost_name ≡ old.out.ghost_name
    pub dev : new.dev.ghost_name ≡ old.dev.ghost_name
    pub modules : new.modules.now ≡ old.modules.now
    pub tasks : new.tasks.ghost_name ≡ old.tasks.ghost_name
