pub mod TreeStrip
pub mod TreeAnswers
pub mod TreePlaces
pub mod Ranks
pub mod Numbers
