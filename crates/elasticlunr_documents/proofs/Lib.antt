pub mod Several
pub mod FilledLines
pub mod ReadLines
pub mod LineStops
pub mod SeenLines
