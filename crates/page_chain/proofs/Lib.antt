mod Links
mod Exits
mod WrittenPages
mod ReadPages
mod TakenPages
