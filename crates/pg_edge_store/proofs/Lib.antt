pub mod Places
pub mod Replicas
pub mod Standing
pub mod Words
