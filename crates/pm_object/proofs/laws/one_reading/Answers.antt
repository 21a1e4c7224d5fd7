use Rattle.pm_object.proofs.Fatal.{first_is_fatal}
use Rattle.pm_object.proofs.ReadObject.{reads_what_is_written, reads_exactly, reads_or_faults, reads_again, one_object}
use Rattle.pm_object.proofs.laws.one_reading.Goals as goal

pub returns : goal.returns
returns c = record { read = reads_exactly; written = reads_what_is_written; fault = reads_or_faults; fatal = first_is_fatal; again = reads_again; one = one_object }
