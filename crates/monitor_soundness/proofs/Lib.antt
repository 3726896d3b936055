pub mod Filters
pub mod ListLaws
pub mod Stays
pub mod MonitorPuts
pub mod EndPuts
pub mod Times
pub mod TickLaws
pub mod OpenWaits
