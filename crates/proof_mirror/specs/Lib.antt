pub mod MirrorLaws
pub mod Ready
