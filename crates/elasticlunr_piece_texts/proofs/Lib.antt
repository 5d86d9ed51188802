pub mod Found
pub mod HeadFits
pub mod PlainHead
pub mod PlainPieces
pub mod ReadTexts
pub mod Told
pub mod Unrefused
