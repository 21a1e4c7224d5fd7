use Rattle.std.proofs.Common.{arith}
use Rattle.pm_object.proofs.Fatal.{is_unreadable, is_fatal_fault}
use Rattle.pm_object.proofs.FaultWhole.{is_first_fault}
use Rattle.pm_object.proofs.ReadObject.{is_found, is_only}
use Rattle.pm_object.proofs.decoding.decode.Goals as goal

pub returns-clause-found : goal.returns-clause-found
returns-clause-found c = is_found c.args.bytes.now c.read_bytes.result (λ i. omega (arith, c.type_inv.bytes i)) c.read_bytes.ensures

pub returns-clause-only : goal.returns-clause-only
returns-clause-only c = λ o reads. is_only c.args.bytes.now c.read_bytes.result o c.read_bytes.ensures reads

pub returns-clause-unreadable : goal.returns-clause-unreadable
returns-clause-unreadable c = λ f is. is_unreadable c.args.bytes.now c.read_bytes.result f c.read_bytes.ensures is

pub returns-clause-fatal : goal.returns-clause-fatal
returns-clause-fatal c = λ f is. is_fatal_fault c.args.bytes.now c.read_bytes.result f c.read_bytes.ensures is

pub returns-clause-first : goal.returns-clause-first
returns-clause-first c = λ f is. is_first_fault c.args.bytes.now c.read_bytes.result f (λ i. omega (arith, c.type_inv.bytes i)) c.read_bytes.ensures is
