-- What a reader of `little_endian` must believe.
pub mod LittleEndian
