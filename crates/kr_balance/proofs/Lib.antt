mod ActiveIds
mod Counted
mod PlanExamples
mod RightTallies
