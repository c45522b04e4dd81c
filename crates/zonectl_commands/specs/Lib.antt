pub mod Commands
pub mod Lines
pub mod InHand
pub mod AnsweredLines
pub mod Kept
pub mod Transcripts
pub mod TranscriptLaws
pub mod Serving
