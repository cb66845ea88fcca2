pub mod KnownTexts
