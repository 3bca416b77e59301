pub mod SubpatternCases
pub mod SubpatternLaws
pub mod StepLaws
