use Rattle.pm_values.proofs.CachesLaw.{chosen_room}
use Rattle.pm_values.proofs.caches.Caches.update.Goals as goal

pub log_all-requires-clause-room : goal.log_all-requires-clause-room
log_all-requires-clause-room c =
    chosen_room c.args.tables.now c.args.self.now c.choose.new.self c.args.moved.now c.args.starts.now c.args.notices.now c.requires c.choose.ensures
