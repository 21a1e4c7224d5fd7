pub mod HeldReads
pub mod WholeRun
