-- A property of an account and its steps, over the rules, the moments and the events; then the budget.
pub mod SeenLaws
pub mod PassedLaws
pub mod EventLaws
pub mod BudgetLaws
pub mod BoundLaws
pub mod AmountLaws
