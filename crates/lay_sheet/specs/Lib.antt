pub mod Lists
pub mod PlainText
pub mod Pieces
pub mod SelectorTexts
pub mod Declarations
pub mod Sheets
pub mod Printing
pub mod Laws
