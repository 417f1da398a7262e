pub mod UpperCertificates
pub mod LowerCertificates
pub mod Potentials
pub mod UpperBounds
pub mod LowerBounds
pub mod Quotients
pub mod Examples
