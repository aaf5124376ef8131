mod Begun
mod Over
mod TenLists
