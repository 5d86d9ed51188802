pub use Rattle.elasticlunr_ranking.specs.Order
pub use Rattle.elasticlunr_store.specs.Options
pub mod Depth
pub mod Ranked
