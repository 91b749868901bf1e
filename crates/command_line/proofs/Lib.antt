mod CommandLine
mod CommandWords
mod GoalLine
mod WrittenLines
mod Units
mod ReservedLine
