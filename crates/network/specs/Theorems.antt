pub mod Network
pub mod Distance
pub mod Order
pub mod Row
pub mod Forwarding
pub mod Calls
pub mod Routing
pub mod Paths
