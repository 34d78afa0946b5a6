mod Least
mod Mappings
mod Orders
mod Parts
