-- Laws of events whose time is a reading.
pub mod CounterLaws
