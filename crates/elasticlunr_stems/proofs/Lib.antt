pub mod BoolLemmas
pub mod EndLemmas
pub mod RunLemmas
pub mod TextLemmas
pub mod ReadLemmas
pub mod ListLemmas
