-- The passing of time over any state with a clock, and sequences of events over any machine.
-- A name such as "01 Passing 3" is a sentence of the product's rules: the third of its section "Passing of time".
pub mod Time
pub mod Sequence
pub mod Readings
pub mod Reports
