-- From a seat's turn to the lent list; records as plain numbers.
pub mod Lent
pub mod Triples
