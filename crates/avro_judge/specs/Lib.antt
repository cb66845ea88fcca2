pub mod Answered
pub mod Headline
pub mod JudgeRanges
pub mod inside
