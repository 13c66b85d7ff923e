pub mod Chunks
pub mod Assembled
pub mod Assembly
pub mod Form
pub mod FormLaws
pub mod Laws
