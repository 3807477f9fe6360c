pub mod MaskLaws
pub mod MaskMembers
