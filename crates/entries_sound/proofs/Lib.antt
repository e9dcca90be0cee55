-- Laws of the test of an account's entries.
pub mod ScanLaws
