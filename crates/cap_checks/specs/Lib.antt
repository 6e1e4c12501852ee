-- What to read
pub mod Access
pub mod Question
pub mod FirstFault
-- Laws
pub mod QuestionLaws
pub mod FaultLaws
pub mod StoreLaws
