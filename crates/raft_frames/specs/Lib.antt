pub mod Crc
pub mod Format
pub mod Reading
pub mod Laws
