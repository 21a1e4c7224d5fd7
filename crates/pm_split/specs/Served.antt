-- Which messages are served when all boxes are, and in which order.
use Rattle.std.specs.Prelude.{◌≡◌, ℕ, ◌<◌, ◌↔◌, IsTrue, List, Option, Some, None, is_some, slice_get}
use Rattle.std.specs.List.{AllPairs, AllZip, Contains}
use Rattle.pm_base.specs.declared.events.Event.{Event}
use Rattle.pm_base.specs.declared.events.Event.TheVariants.{Ipi}
use Rattle.pm_base.specs.declared.events.Message.{Message}
use Rattle.pm_ipi.specs.Mail.{box_at}
use Rattle.pm_object.specs.declared.object.MasterRec.{MasterRec}
use Rattle.pm_object.specs.declared.object.Object.{Object}
use Rattle.pm_split.specs.Boxes.{Boxes}

-- the mask of the master at a place
abbrev pub mask_of : Option MasterRec → ℕ
mask_of None = 0
mask_of (Some master) = master.mask

abbrev pub mask_at : Object → ℕ → ℕ
mask_at object m = mask_of (slice_get object.masters m)

-- this sends the message in the box of the master at a place
pub record Sends (object : Object) (boxes : Boxes) (m : ℕ) (event : Event) : Type 0 where
  pub master : MasterRec
  pub message : Message
  pub configured : slice_get object.masters m ≡ Some master
  pub held : box_at m boxes ≡ Some message
  pub sent : event ≡ Ipi (record { 0 = master.node }) message

-- the messages in all boxes, each once, by rising mask of their masters, and nothing else
pub record ServesAll (object : Object) (boxes : Boxes) (events : List Event) : Type 0 where
  -- the places of the boxes that are full, by rising mask
  pub places : List ℕ
  pub full : (m : ℕ) → Contains places m ↔ IsTrue (is_some (box_at m boxes))
  pub rising : AllPairs (λ j k. mask_at object j < mask_at object k) places
  -- one event for each of them
  pub sent : AllZip (Sends object boxes) places events
