pub use Rattle.frontier.specs.Causes
pub use Rattle.frontier.specs.Entries as FrontierEntries
pub use Rattle.frontier.specs.Frames
pub use Rattle.frontier.specs.Units as FrontierUnits
pub use Rattle.legal_moves.specs.Compiled
pub use Rattle.legal_moves.specs.Moves
pub use Rattle.legal_moves.specs.Sources
pub use Rattle.rbg_game.specs.Games
pub use Rattle.rbg_game.specs.Meaning
pub use Rattle.rbg_game.specs.Names
pub use Rattle.rbg_game.specs.Positions
pub use Rattle.rbg_read.specs.Reads
pub use Rattle.rbg_text.specs.Token
pub use Rattle.retrograde.specs.Sound
pub use Rattle.retrograde.specs.Stored
pub use Rattle.retrograde.specs.View
pub use Rattle.table.specs.Faults
pub use Rattle.table.specs.Fit
pub mod Units
pub mod Work
pub mod Stops
pub mod Entries
pub mod Tables
pub mod Texts
pub mod lemmas
