pub mod Device
