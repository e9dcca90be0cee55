-- Laws of accounts.
pub mod EntryLaws
pub mod ReturnLaws
pub mod RoomLaws
