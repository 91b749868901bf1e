pub mod GivenNumbers
