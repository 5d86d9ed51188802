pub mod Site
