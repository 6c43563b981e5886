pub mod Stacks
pub mod Forcing
pub mod Walking
pub mod Coming
pub mod Answers
