pub mod NumberedLaws
pub mod DocumentLaws
pub mod AcceptedLaws
pub mod EmbeddingLaws
