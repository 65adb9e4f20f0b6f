mod Cuts
mod Examples
pub mod Lines
mod Numbers
mod Words
