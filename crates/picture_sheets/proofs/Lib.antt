mod Keeping
mod Keyed
mod Named
mod Nearing
mod Sameness
mod Stocked
