pub mod ProcedureLaws
pub mod CountLaws
pub mod HandleLaws
pub mod AttributeLaws
pub mod CallLaws
pub mod ReplyLaws
