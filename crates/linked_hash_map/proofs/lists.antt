pub mod Distinct
pub mod Elements
pub mod FromFirst
pub mod Options
pub mod Results
pub mod Stretches
