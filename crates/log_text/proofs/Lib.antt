pub mod LineWords
pub mod LogTexts
pub mod Wrong
pub mod Keys
pub mod LinesWritten
pub mod ReadLines
pub mod Pieces
