-- For dependent crates: the laws of single fields, about definitions only. All other files here are
-- private to this crate.

-- decoding inverts encoding, and the converse
pub use Rattle.sf_field.proofs.FieldLaws.{IsBytes, IsBytes-of, IsBytes-rest, IsBytes-take, IsBytes-drop, Takes, Takes-then, Takes-none, Reads, reads_u32, reads_u64, reads_string, number_none, number_short}
pub use Rattle.sf_field.proofs.AttributeLaws.{attrs_take, attrs_again}
-- attributes that are sent are a valid encoding
pub use Rattle.sf_field.proofs.SentAttributes.{sent_is_spelled}
-- successful options
pub use Rattle.sf_field.proofs.FieldLaws.{bind_some, some_is}
-- the bits of open flags, attributes as they are sent, and the conjunction of two tests
pub use Rattle.sf_field.proofs.FlagBits.{bits_say, both}
pub use Rattle.sf_field.proofs.SentReading.{reads_sent_attrs}
-- what a type guarantees of its values
pub use Rattle.sf_field.proofs.Held.{held_attrs, held_bytes}
