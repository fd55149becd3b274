pub mod Seen
pub mod Ports
pub mod Udp
pub mod Icmp
pub mod Step
pub mod Reports
