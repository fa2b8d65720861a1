pub mod Decimal
pub mod Sink
pub mod Sinks
