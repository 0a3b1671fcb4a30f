-- The line for an answer (Printing) and what the public functions answer (Lines); bytes laid into a slice (Laying)
-- and what is printed of a cell (Cells), as the code goes. Laws and worked examples stand in proofs/.
pub mod Printing
pub mod Lines
pub mod Laying
pub mod Cells
