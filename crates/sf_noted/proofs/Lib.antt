pub mod Lists
pub mod Records
pub mod Lanes
pub mod Keeping
pub mod Agreeing
pub mod RealTime
pub mod Laws
pub mod Closing
