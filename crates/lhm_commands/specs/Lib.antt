pub mod Commands
pub mod Grammar
pub mod Stop
pub mod Text
