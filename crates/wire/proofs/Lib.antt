pub mod HexTables
pub mod HexTurns
pub mod NumberLaws
pub mod NumberTurns
pub mod TextLaws
