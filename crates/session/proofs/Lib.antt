mod Audits
mod Brought
mod CutLines
mod Requests
mod ToldTexts
mod UnderWay
mod InputLemmas
mod MovesOnInput
