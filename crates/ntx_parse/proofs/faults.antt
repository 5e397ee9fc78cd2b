-- Proofs that a script has one fault, where it is refused.
pub mod Cannot
pub mod OneFault
pub mod Refused
pub mod Told
