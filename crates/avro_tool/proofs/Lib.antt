pub mod DataFailures
pub mod EachLines
mod Failing
mod FoundLemmas
mod GrammarLemmas
pub mod Headers
mod PlainAsked
pub mod Kept
mod KnownTexts
mod PlainLaws
mod PlainWalk
mod Refusing
pub mod Verdicts
