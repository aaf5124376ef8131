mod StreamsTold
mod LogsTold
mod ReportsTold
mod ListingsTold
mod ThreadsTold
mod CommandsTold
