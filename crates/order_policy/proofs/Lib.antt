pub mod LabelLaws
pub mod EarlyLaws
pub mod MeasuredLaws
pub mod FirstLaws
pub mod JudgedLaws
pub mod TextLaws
pub mod PolicyLaws
pub mod OnceLaws
mod WorkedClaims
