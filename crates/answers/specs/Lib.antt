-- How a call's answer is made of reading's and of its own tests.
pub mod Answers
