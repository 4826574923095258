-- The bytes of a rule's text. Assumes nothing.
pub use Rattle.short_text.specs.Texts.{text_of}
