mod Walks
mod Courses
mod OnFiles
