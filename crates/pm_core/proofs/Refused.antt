-- An event of which nothing comes changes nothing, as the step has it.
pub use Rattle.pm_step.proofs.Refused.{pass_stays}
