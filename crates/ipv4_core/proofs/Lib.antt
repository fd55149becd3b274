pub mod RouteLaws
pub mod IpLaws
pub mod FitLaws
