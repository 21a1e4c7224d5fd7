pub mod Board
pub mod Standing
