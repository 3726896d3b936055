pub mod TakenLaws
pub mod ShownLaws
