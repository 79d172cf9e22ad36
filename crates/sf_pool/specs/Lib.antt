pub mod SessionLanes
pub mod Scenes
pub mod LaneHosts
pub mod LaneConnections
pub mod TranscriptLanes
pub mod OnCores
