pub mod Legal
pub mod Reports
