pub mod CommandFacts
pub mod LineFacts
pub mod ServedLines
pub mod TranscriptFacts
mod CommandExamples
