pub mod CallLaws
pub mod ListLaws
pub mod MonitorLaws
pub mod OnceLaws
pub mod RecordLaws
pub mod RoomLaws
