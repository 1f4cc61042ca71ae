pub mod Row
pub mod Looking
pub mod View
