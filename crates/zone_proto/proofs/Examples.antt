-- Worked examples
mod NameVectors
mod SetExamples
mod TypeExamples
mod Base32Examples
