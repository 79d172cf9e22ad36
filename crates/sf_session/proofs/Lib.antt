pub mod Asked
pub mod Causes
pub mod ShortPackets
pub mod Laws
