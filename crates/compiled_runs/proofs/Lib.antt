mod Parts
mod Covering
mod Programs
