pub mod WorkerSet
pub mod Cut
pub mod Mix
pub mod Keys
pub mod Directory
pub mod ByWorker
