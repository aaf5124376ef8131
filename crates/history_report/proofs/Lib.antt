pub mod Places
pub mod Written
pub mod Plain
pub mod TextLines
pub mod CandidateLines
