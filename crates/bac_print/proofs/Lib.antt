mod Pieces
pub mod Octets
pub mod PlainMoments
pub mod TextsLemmas
pub mod Parts
