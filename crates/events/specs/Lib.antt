-- What a reader of `events` must believe.
pub mod Events
pub mod Answers
pub mod Opening
pub mod Demand
pub mod Table
pub mod Reports
