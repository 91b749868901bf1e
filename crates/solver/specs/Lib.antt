pub use Rattle.best_line.specs.Laws
pub use Rattle.best_line.specs.Values as BestLineValues
pub use Rattle.game_file.specs.Calls
pub use Rattle.game_file.specs.Growth as GameFileGrowing
pub use Rattle.game_file.specs.Kept
pub use Rattle.game_file.specs.State as GameFileState
pub use Rattle.game_file.specs.Stops as GameFileStops
pub use Rattle.rbg_game.specs.Games
pub use Rattle.rbg_game.specs.Meaning
pub use Rattle.rbg_read.specs.Reads
pub use Rattle.retrograde.specs.Changes
pub use Rattle.retrograde.specs.Graph
pub use Rattle.retrograde.specs.Stored
pub use Rattle.retrograde.specs.Values as RetrogradeValues
pub use Rattle.retrograde.specs.View
pub use Rattle.sector_disk.specs.Disk
pub mod Audits
pub mod Faults
pub mod Units
pub mod Held
pub mod State
pub mod Stops
pub mod Opened
pub mod Listings
pub mod Growth
pub mod Machine
pub mod Steps
pub mod Queries
pub mod Moves
pub mod Runs
pub mod Histories
pub mod Headline
pub mod lemmas
pub mod Solvers
pub mod Frames
