pub mod OperatorStepsLaws
