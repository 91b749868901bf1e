pub mod Appends
pub mod PartLemmas
mod KnownLemmas
mod LineLemmas
mod WritingLemmas
mod AnswerLemmas
mod Asked
mod Printed
mod CountLemmas
mod ActionLists
mod OneReply
mod AskLemmas
mod Told
mod ReplyLines
mod Plain
