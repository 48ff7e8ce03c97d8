pub mod Hashing
pub mod KeyWords
pub mod Store
pub mod Table
pub mod Packets
pub mod Members
