use Rattle.std.proofs.Common.{◌≡◌, drop, flat_map, map}
use Rattle.pm_notify.specs.Notify.{notes_for}
use Rattle.pm_tell.specs.Callbacks.{noticed_by}
use Rattle.pm_state.specs.Talk.{talked, wait_of}
use Rattle.pm_tell.proofs.OtherNotesLaw.{AskAlike}
use Rattle.pm_tell.proofs.keeping.keep_notices.Given as goal

-- the notifications that are left wait after those that do, and the master asks for what it asked for
abbrev pub invariant-loop-notice : goal.invariant-loop-notice
invariant-loop-notice l = record {
  alike : AskAlike (notes_for l.k l.tables.now.talk.notes) (notes_for l.k l.fn.tables.now.talk.notes);
  whole : talked (flat_map (λ notice. map (wait_of l.k) (noticed_by (notes_for l.k l.fn.tables.now.talk.notes) notice)) (drop l.notice-index l.notices)) l.tables
      ≡ talked (flat_map (λ notice. map (wait_of l.k) (noticed_by (notes_for l.k l.fn.tables.now.talk.notes) notice)) l.notices) l.fn.tables;
}
