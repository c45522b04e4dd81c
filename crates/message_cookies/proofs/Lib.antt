mod Padding
mod Law
mod CodeExamples
