pub mod Laws
pub mod Digits
pub mod Items
pub mod Values
pub mod Marks
pub mod Answers
pub mod Lines
