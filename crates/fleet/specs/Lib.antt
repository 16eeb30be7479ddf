-- The round over records, and over plain numbers.
pub mod Round
pub mod Numbers
