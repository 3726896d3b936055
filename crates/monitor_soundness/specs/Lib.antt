pub mod ListLaws
pub mod MonitorPuts
pub mod TickLaws
