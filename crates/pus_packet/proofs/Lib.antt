mod Polynomials
mod Registers
mod Table
pub mod Lengths
mod Parts
mod Checksums
mod Fronts
mod JoiningLemmas
mod SplittingLemmas
