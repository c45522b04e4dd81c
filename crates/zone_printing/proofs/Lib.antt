pub mod ZoneTexts
