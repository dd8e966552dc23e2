pub mod Protocol
pub mod Bodies
