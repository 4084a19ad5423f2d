-- How a case is read, and how many cases went wrong.
pub mod Cuts
pub mod Numbers
pub mod Totals
