mod Least
mod Listed
mod Steps
