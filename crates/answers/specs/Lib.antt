pub mod Numbers
pub mod Rehearsals
