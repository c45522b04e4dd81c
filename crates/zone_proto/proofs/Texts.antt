-- Texts of names and of types
pub mod TextForms
pub mod TextFaults
pub mod UnescapedTexts
pub mod RoundTrip
pub mod NamedTypes
pub mod TypeTextLaws
