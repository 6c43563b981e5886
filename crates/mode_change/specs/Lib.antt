pub mod Phases
pub mod HostSeen
pub mod HostStands
