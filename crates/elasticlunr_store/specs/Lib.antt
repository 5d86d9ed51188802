pub use Rattle.elasticlunr_store_maps.specs.Contents
pub use Rattle.elasticlunr_store_maps.specs.Equal
pub use Rattle.elasticlunr_store_maps.specs.SmallLengths
pub mod Options
pub mod EqualOptions
pub mod OptionalMembers
