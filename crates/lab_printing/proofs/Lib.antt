pub mod Common
pub mod Joined
pub mod Appended
pub mod PutTexts
pub mod ShortNumbers
