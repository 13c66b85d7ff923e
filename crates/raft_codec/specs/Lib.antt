pub mod Codec
pub mod NumberLaws
pub mod CodecLaws
pub mod VariantLaws
