mod Lines
mod Steps
mod Texts
mod Types
mod WordNames
mod WordRuns
