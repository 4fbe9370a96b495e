mod Begun
mod Caused
pub mod StepIds
pub mod Nodes
pub mod Merging
mod Audits
pub mod Links
mod Parts
mod Judging
mod Overruling
mod Cutting
mod Passing
mod Glue
mod Rows
