pub mod ClosedLines
