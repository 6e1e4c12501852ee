-- What to read
pub mod ReadBack
pub mod TextBack
pub mod Says
pub mod Shown
pub mod After
pub mod Bounds
-- Laws
pub mod SaysLaws
pub mod StageLaws
pub mod ShownLaws
pub mod FitsLaws
pub mod AfterLaws
