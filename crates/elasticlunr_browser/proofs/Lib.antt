pub mod MarkLemmas
pub mod PairLemmas
pub mod StageLemmas
pub mod NameLemmas
pub mod KindLemmas
pub mod FloatLemmas
mod LanguageLemmas
