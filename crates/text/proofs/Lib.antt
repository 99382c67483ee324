pub mod Split
pub mod Same
pub mod Numbers
pub mod Splices
pub mod HexLaws
pub mod NumberLaws
pub mod Roundtrip
pub mod SlipLaws
