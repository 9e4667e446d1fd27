pub mod CursorHalves
pub mod ReportLaws
