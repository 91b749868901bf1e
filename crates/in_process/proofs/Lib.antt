mod Answered
mod InRooms
mod Loosened
mod Rooms
