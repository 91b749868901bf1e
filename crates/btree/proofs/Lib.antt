mod pages
mod finds
mod puts
mod walks
