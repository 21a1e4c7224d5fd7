use Rattle.pm_notify.specs.Laws.{OrderLaws}
use Rattle.pm_state.proofs.LoadLaw.{ModeLaws, load_sound}
use Rattle.pm_state.proofs.PendingLaw.{RequestLaws}
use Rattle.pm_state.proofs.Permitted.{row_permitted}
use Rattle.pm_state.proofs.RowLaws.{RowLaws}
use Rattle.pm_state.proofs.laws.loads_are_sound.Goals as goal

pub returns : goal.returns
returns c =
    let rows : RowLaws = record {
      load = c.rows_stay_sound.ensures.load;
      remade = c.rows_stay_sound.ensures.remade;
      change = c.rows_stay_sound.ensures.change;
      shift = c.rows_stay_sound.ensures.shift;
      settle = c.rows_stay_sound.ensures.settle;
      drop_slave = c.rows_stay_sound.ensures.drop_slave;
      clear = c.rows_stay_sound.ensures.clear;
      there = c.rows_stay_sound.ensures.there;
      armed = c.shifts_leave_others.ensures.kept;
    } in
    let modes : ModeLaws = record {
      active = c.modes_of_masters.ensures.active;
      off = c.modes_of_masters.ensures.off;
      load = c.modes_of_masters.ensures.load;
      restart = c.modes_of_masters.ensures.restart;
    } in
    let requests : RequestLaws = record {
      asks = c.requests_of_masters.ensures.asks;
      asks_one = c.requests_of_masters.ensures.asks_one;
      ends = c.requests_of_masters.ensures.ends;
      ends_one = c.requests_of_masters.ensures.ends_one;
      passes = c.requests_of_masters.ensures.passes;
      load = c.requests_of_masters.ensures.load;
      renew = c.requests_of_masters.ensures.renew;
      length_asked = c.requests_of_masters.ensures.length_asked;
      length_ended = c.requests_of_masters.ensures.length_ended;
      length_lowered = c.requests_of_masters.ensures.length_lowered;
      length_load = c.requests_of_masters.ensures.length_load;
    } in
    let orders : OrderLaws = c.notes_stand_in_order.ensures in
    record {
      load = load_sound rows modes requests orders;
      permitted = row_permitted rows;
    }
