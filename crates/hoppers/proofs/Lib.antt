pub mod Zips
mod Numbering
mod Laws
mod Effects
