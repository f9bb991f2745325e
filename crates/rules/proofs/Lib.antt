pub mod Rooms
pub mod Checks
pub mod Ends
pub mod Decodes
pub mod Rules
pub mod TreeRefusals
pub mod RuleAnswers
