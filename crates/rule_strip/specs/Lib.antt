pub mod RuleAnswers
pub mod RuleStrip
pub mod RulePlaces
pub mod RuleWriting
pub mod Numbers
