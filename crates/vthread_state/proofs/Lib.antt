pub mod TableLaws
pub mod JoinLaws
pub mod RisingLaws
pub mod GoingLaws
