mod Entries
mod Places
mod WordNames
mod WordRuns
