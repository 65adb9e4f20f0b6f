mod Distinct
mod First
mod Passes
mod Remembered
mod Said
mod Told
