pub mod Results
pub mod Keys
pub mod Places
pub mod Schedulers
pub mod Declarations
pub mod Leads
pub mod Topologies
