mod Table
mod Stored
mod Answer
