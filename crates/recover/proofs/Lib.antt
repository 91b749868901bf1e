mod SyncedReads
mod Refusals
mod Migrations
mod FirstLayout
mod SecondLayout
