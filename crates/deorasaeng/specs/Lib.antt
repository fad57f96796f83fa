pub mod Interface
pub mod PlanCalls
