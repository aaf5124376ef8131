pub mod Same
pub mod Keys
pub mod Sheets
pub mod Stocks
pub mod Around
pub mod Near
