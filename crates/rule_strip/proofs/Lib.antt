pub mod RuleChecks
pub mod RuleLaws
pub mod RulePlaces
pub mod RuleWriting
pub mod RuleBytes
pub mod Words
pub mod InNumbers
