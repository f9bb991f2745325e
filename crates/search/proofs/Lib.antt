pub mod ScanLaws
pub mod RoundLaws
