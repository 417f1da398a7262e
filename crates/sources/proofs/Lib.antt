pub mod LawfulBands
