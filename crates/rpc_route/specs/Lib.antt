pub mod Immediate
pub mod Routing
pub mod Sealing
