pub mod cache
