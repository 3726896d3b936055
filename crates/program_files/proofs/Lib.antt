pub mod LoadLaws
pub mod LinkLaws
pub mod StartLaws
