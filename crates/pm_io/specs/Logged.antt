-- The calls that a log is given.
use Rattle.std.specs.Prelude.{Some, None}
use Rattle.pm_io.specs.Calls.{Call, Begin, Read}
use Rattle.pm_io.specs.declared.calls.Entry.{Entry}
use Rattle.pm_io.specs.declared.calls.Entry.TheVariants as entries

abbrev pub call_of : Entry → Call
call_of (entries.Begun name id) = Begin name.now (Some id)
call_of (entries.Unbegun name) = Begin name.now None
call_of (entries.Took id bytes) = Read id (Some bytes.now)
call_of (entries.Stuck id) = Read id None
