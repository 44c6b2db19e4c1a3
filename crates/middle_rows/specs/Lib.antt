pub mod OperatorSteps
