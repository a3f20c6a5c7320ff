mod Groups
mod RoundSteps
